-- The keys that have a place, by the buckets.
use Rattle.std.specs.Prelude.{ℕ, cond, List, Option, Some, None, is_some}
use Rattle.std.specs.BTreeMap.{get}
use Rattle.std.specs.BTreeMap.Range.{entries_between}
use Rattle.std.specs.declared.ops.Bound.{Bound}
use Rattle.std.specs.declared.ops.Bound.TheVariants.{Excluded, Unbounded}
use Rattle.std.specs.Ordering.{nat_cmp}
use Rattle.cache_model.specs.Hash.{hash}
use Rattle.temporary_table.specs.Places.{Seat}
use Rattle.temporary_table.specs.Walking.{earlier, first_by}
use Rattle.temporary_table.specs.Buckets.{Bucket, Buckets, key_cmp}

-- where the keys behind one begin
abbrev pub start_after : Option (List ℕ) → Bound (List ℕ)
start_after None = Unbounded
start_after (Some key) = Excluded key

-- the key of a seat that has a place
abbrev pub placed_key : List ℕ × Seat → Option (List ℕ)
placed_key e = cond (is_some e.1) (Some e.0) None

-- the first key of a bucket that has a place, behind one of them
abbrev pub first_in : Option (List ℕ) → Bucket → Option (List ℕ)
first_in after bucket = first_by placed_key (entries_between key_cmp (start_after after) Unbounded bucket.entries)

-- the same of the bucket of a key's hash
abbrev pub first_of : Option Bucket → List ℕ → Option (List ℕ)
first_of None after = None
first_of (Some bucket) after = first_in (Some after) bucket

abbrev pub first_beside : ℕ → List ℕ → Buckets → Option (List ℕ)
first_beside hash after buckets = first_of (get nat_cmp buckets hash) after

-- the first key that has a place in the buckets from one on
abbrev pub first_from : Bound ℕ → Buckets → Option (List ℕ)
first_from start buckets = first_by (λ (e : ℕ × Bucket). first_in None e.1) (entries_between nat_cmp start Unbounded buckets.entries)

-- the first key that has a place behind another, or of all
abbrev pub next_in : ℕ → Option (List ℕ) → Buckets → Option (List ℕ)
next_in bits None buckets = first_from Unbounded buckets
next_in bits (Some after) buckets = earlier (first_beside (hash bits after) after buckets) (first_from (Excluded (hash bits after)) buckets)
