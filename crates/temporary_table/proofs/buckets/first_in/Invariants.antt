use Rattle.std.specs.Prelude.{◌≡◌, option_map}
use Rattle.temporary_table.specs.Walking.{first_by}
use Rattle.temporary_table.specs.Searching.{placed_key, first_in}
use Rattle.temporary_table.proofs.buckets.first_in.Given as goal

-- the first key placed of all in the range is that of those that are left
abbrev pub invariant-loop-key : goal.invariant-loop-key
invariant-loop-key l = first_in (option_map (λ key. key.now) l.after) l.bucket ≡ first_by placed_key l.key-iterator
