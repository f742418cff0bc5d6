-- Keys with their hashes, their order, and what stands under them.
use Rattle.std.specs.Prelude.{ℕ, Bool, cond, List, [], ◌∷◌, Option, Some, None, is_some}
use Rattle.std.specs.declared.cmp.Ordering.{Ordering}
use Rattle.std.specs.declared.ops.Bound.{Bound}
use Rattle.std.specs.declared.ops.Bound.TheVariants.{Excluded, Unbounded}
use Rattle.std.specs.Ordering.{nat_cmp, ordering_then}
use Rattle.std.specs.Cmp.Lexicographic.{slice_cmp}
use Rattle.cache_model.specs.Hash.{hash}
use Rattle.store_trait.specs.declared.entries.HashedKey.{HashedKey}
use Rattle.store_trait.specs.declared.entries.Room.{Room}
use Rattle.store_trait.specs.declared.entries.Room.TheVariants.{Empty, Holding}
use Rattle.store_trait.specs.Meaning.{Reading, seen}

-- a key with its hash
abbrev pub hashed : ℕ → List ℕ → HashedKey
hashed bits key = record { hash = hash bits key; key = key }

-- places are compared by the hash, and then by the bytes
abbrev pub place_cmp : HashedKey → HashedKey → Ordering
place_cmp one other = ordering_then (nat_cmp one.hash other.hash) (slice_cmp nat_cmp one.key other.key)

-- what a room reads
abbrev pub reading_of : Option Room → Reading
reading_of None = None
reading_of (Some Empty) = None
reading_of (Some (Holding held)) = Some held

-- whether something visible is held in a room
abbrev pub is_shown : ℕ → Room → Bool
is_shown moment room = is_some (seen moment (reading_of (Some room)))

-- the first place with something visible
abbrev pub first_shown : ℕ → List (HashedKey × Room) → Option HashedKey
first_shown moment [] = None
first_shown moment (e ∷ rooms) = cond (is_shown moment e.1) (Some e.0) (first_shown moment rooms)

-- where the places behind one begin
abbrev pub start_after : Option HashedKey → Bound HashedKey
start_after None = Unbounded
start_after (Some place) = Excluded place
