use Rattle.std.proofs.Common.{◌≡◌, ◌++◌, map, drop}
use Rattle.std.specs.Prelude.{filter}
use Rattle.cache_model.specs.Plain.{is_visible}
use Rattle.cache_model.proofs.plain.PlainCache.visible_keys.Given as goal

-- the keys so far, and those of the rest, are all the visible ones
abbrev pub invariant-loop-key : goal.invariant-loop-key
invariant-loop-key l =
    map (λ e. e.0) (filter (λ e. is_visible e.1.until l.self-inside.moment) l.self-inside.entries.items)
    ≡ l.keys ++ map (λ e. e.0) (filter (λ e. is_visible e.1.until l.self-inside.moment) (drop l.key-index l.self-inside.entries.items))
