-- The keys that have a place, in walk order.
use Rattle.std.specs.Prelude.{◌≡◌, ◌⊎◌, ℕ, List, [], ◌∷◌, Option, Some, None, IsSome, true}
use Rattle.cache_model.specs.Hash.{precedes, follows}
use Rattle.temporary_table.specs.Places.{Places, place_of}

-- a key that has a place and stands behind another in walk order, or behind none
pub record IsAhead (bits : ℕ) (places : Places) (after : Option (List ℕ)) (key : List ℕ) : Type 0 where
  pub placed : IsSome (place_of places key)
  pub behind : follows bits after key ≡ true

-- the first of these, None where there is none
abbrev pub IsNextPlaced : ℕ → Places → Option (List ℕ) → Option (List ℕ) → Type 0
IsNextPlaced bits places after None = (other : List ℕ) → IsAhead bits places after other → ⊥
IsNextPlaced bits places after (Some key) = IsAhead bits places after key × ((other : List ℕ) → IsAhead bits places after other → (other ≡ key) ⊎ (precedes bits key other ≡ true))

-- the first of two, where it is one
abbrev pub earlier : {X : Type 0} → Option X → Option X → Option X
earlier None other = other
earlier (Some x) other = Some x

-- what the first entry gives that gives something
abbrev pub first_by : {E R : Type 0} → (E → Option R) → List E → Option R
first_by f [] = None
first_by f (e ∷ entries) = earlier (f e) (first_by f entries)
