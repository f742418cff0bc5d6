-- How the seats are kept: under each hash a bucket with the seats of its keys.
use Rattle.std.specs.Prelude.{◌≡◌, ◌≤◌, ℕ, cond, ◌&&◌, ◌==◌, List, [], ◌∷◌, ◌++◌, Option, Some, None, IsSome}
use Rattle.std.specs.BTreeMap.{BTreeMap, IsOrdered, get}
use Rattle.std.specs.declared.cmp.Ordering.{Ordering}
use Rattle.std.specs.Ordering.{nat_cmp}
use Rattle.std.specs.Cmp.Lexicographic.{slice_cmp}
use Rattle.std.specs.Str.{bytes_eq}
use Rattle.cache_model.specs.Hash.{hash}
use Rattle.temporary_table.specs.Places.{Seat, Places}
use Rattle.temporary_table.specs.declared.table.Table.TheInside.{Inside}

-- the seats of the keys of one hash
abbrev pub Bucket : Type 0
Bucket = BTreeMap (List ℕ) Seat

-- the buckets under their hashes
abbrev pub Buckets : Type 0
Buckets = BTreeMap ℕ Bucket

-- keys are compared by their bytes
abbrev pub key_cmp : List ℕ → List ℕ → Ordering
key_cmp = slice_cmp nat_cmp

-- the seat of a key in a bucket, where there is one
abbrev pub seat_in : Option Bucket → List ℕ → Option Seat
seat_in None key = None
seat_in (Some bucket) key = get key_cmp bucket key

-- the seat of a key under a hash
abbrev pub seat_at : Buckets → ℕ → List ℕ → Option Seat
seat_at buckets hash key = seat_in (get nat_cmp buckets hash) key

-- all are in order: the buckets by their hashes, and the seats of each by their keys
pub record AreOrdered (buckets : Buckets) : Type 0 where
  pub hashes : IsOrdered nat_cmp buckets
  pub keys : (hash : ℕ) (bucket : Bucket) → get nat_cmp buckets hash ≡ Some bucket → IsOrdered key_cmp bucket

-- in a bucket, the seat of one key became this
pub record Refills (old : Bucket) (key : List ℕ) (seat : Option Seat) (new : Bucket) : Type 0 where
  pub seats : (other : List ℕ) → get key_cmp new other ≡ cond (bytes_eq key other) seat (get key_cmp old other)
  pub ordered : IsOrdered key_cmp new

-- a bucket has the seat of one key, and no other
pub record Fills (key : List ℕ) (seat : Option Seat) (bucket : Bucket) : Type 0 where
  pub seats : (other : List ℕ) → get key_cmp bucket other ≡ cond (bytes_eq key other) seat None
  pub ordered : IsOrdered key_cmp bucket

-- of all buckets, the seat of one key under a hash became this
pub record Moves (old : Buckets) (hash : ℕ) (key : List ℕ) (seat : Option Seat) (new : Buckets) : Type 0 where
  pub seats : (other_hash : ℕ) (other : List ℕ) → seat_at new other_hash other ≡ cond ((hash == other_hash) && bytes_eq key other) seat (seat_at old other_hash other)
  pub ordered : AreOrdered new

-- the seats, in their order
abbrev pub seats_in : List (ℕ × Bucket) → List (List ℕ × Seat)
seats_in [] = []
seats_in (e ∷ buckets) = e.1.entries ++ seats_in buckets

-- the seats as they are kept: each under the hash of its key
pub record IsKeptWell (inside : Inside) : Type 0 where
  pub few : inside.bits ≤ 32
  pub ordered : AreOrdered inside.buckets
  pub hashed : (h : ℕ) (key : List ℕ) → IsSome (seat_at inside.buckets h key) → h ≡ hash inside.bits key

abbrev pub places_of : Inside → Places
places_of inside = record { bits = inside.bits; seats = seats_in inside.buckets.entries }
