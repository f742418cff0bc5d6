use Rattle.std.proofs.Common.{◌≤◌, ◌++◌, length, map, sym, ap, ◌∙◌, arith, append-nil}
use Rattle.std.proofs.lemmas.List.{drop_all}
use Rattle.std.specs.Prelude.{filter}
use Rattle.cache_model.specs.Plain.{is_visible, visible_keys}
use Rattle.cache_model.proofs.PlainEntries.{Entries, visible_keys-plain_of}
use Rattle.cache_model.proofs.plain.PlainCache.visible_keys.Goals as goal

pub returns-clause-keys : goal.returns-clause-keys
returns-clause-keys c =
    let es : Entries = c.self.inside.entries.items in
    let all = visible_keys-plain_of es c.self.inside.moment c.self.invariant.0 in
    let here = ap visible_keys c.self.view_is in
    let past : length es ≤ c.loop-key.key-index = omega (arith, ap length c.deref-key-items.ensures.value) in
    let none = ap (λ (l : Entries). map (λ e. e.0) (filter (λ e. is_visible e.1.until c.self.inside.moment) l)) (drop_all c.loop-key.key-index es past) in
    sym (sym here ∙ all ∙ c.loop-key.invariant ∙ ap (λ l. c.loop-key.keys ++ l) none ∙ append-nil _)
