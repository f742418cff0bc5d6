use Rattle.std.specs.Prelude.{◌≡◌, option_map}
use Rattle.std.specs.BTreeMap.Range.{entries_between}
use Rattle.std.specs.declared.ops.Bound.TheVariants.{Unbounded}
use Rattle.store_trait.specs.Places.{place_cmp, first_shown, start_after}
use Rattle.store_trait.proofs.entries.first_shown.Given as goal

-- the first place shown of all in the range is that of those that are left
abbrev pub invariant-loop-place : goal.invariant-loop-place
invariant-loop-place l = first_shown l.moment (entries_between place_cmp (start_after (option_map (λ place. place.now) l.after)) Unbounded l.rooms.entries) ≡ first_shown l.moment l.place-iterator
