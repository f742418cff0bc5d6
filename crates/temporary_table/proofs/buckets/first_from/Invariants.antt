use Rattle.std.specs.Prelude.{◌≡◌, ℕ, None}
use Rattle.temporary_table.specs.Buckets.{Bucket}
use Rattle.temporary_table.specs.Walking.{first_by}
use Rattle.temporary_table.specs.Searching.{first_in, first_from}
use Rattle.temporary_table.proofs.buckets.first_from.Given as goal

-- the first key placed of all buckets in the range is that of those that are left
abbrev pub invariant-loop-hash : goal.invariant-loop-hash
invariant-loop-hash l = first_from l.fn.start l.fn.buckets ≡ first_by (λ (e : ℕ × Bucket). first_in None e.1) l._hash-iterator
