use Rattle.std.proofs.Common.{◌≡◌, not, sym, ap, subst, ◌∙◌, rules}
use Rattle.std.specs.Prelude.{filter}
use Rattle.std.specs.List.{list_any}
use Rattle.std.specs.Str.{bytes_eq}
use Rattle.std.proofs.lemmas.Fn.{filter_same}
use Rattle.cache_model.specs.Plain.{removes}
use Rattle.cache_model.specs.PlainCache.{plain_with}
use Rattle.cache_model.proofs.PlainEntries.{IsInOrder, IsInOrder-where, plain_of, plain_of-where}
use Rattle.cache_model.proofs.plain.PlainCache.remove_keys.Goals as goal

-- the entries that stay
left : (c : goal.After-retain) → c.retain.new.self.items ≡ filter (λ e. not (list_any (bytes_eq e.0) c.args.keys.now)) c.self.inside.entries.items
left c = filter_same _ (λ e. not (list_any (bytes_eq e.0) c.args.keys.now)) _ (λ x b f' k. search rules) _ _ c.retain.ensures.filtered

pub invariant_of-self : goal.invariant_of-self
invariant_of-self c = (subst IsInOrder (sym (left c)) (IsInOrder-where (λ key. not (list_any (bytes_eq key) c.args.keys.now)) _ c.self.invariant.0), c.self.invariant.1)

pub returns : goal.returns
returns c =
    ap (λ es. plain_of es c.self.inside.moment) (left c) ∙ plain_of-where c.self.inside.entries.items c.self.inside.moment c.args.keys.now c.self.invariant.0
    ∙ ap (λ p. plain_with p (removes c.args.keys.now)) c.self.view_is
