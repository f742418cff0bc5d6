-- How what is held in memory is kept: a room for each key that has a seat.
use Rattle.std.specs.Prelude.{◌≡◌, ℕ, ◌≤◌, List, [], ◌∷◌, IsSome}
use Rattle.std.specs.Map.{lookup}
use Rattle.std.specs.BTreeMap.{IsOrdered}
use Rattle.std.specs.Ordering.{is_eq}
use Rattle.cache_model.specs.Hash.{hash}
use Rattle.store_trait.specs.declared.entries.HashedKey.{HashedKey}
use Rattle.store_trait.specs.declared.entries.Room.{Room}
use Rattle.store_trait.specs.declared.entries.Room.TheVariants.{Empty, Holding}
use Rattle.store_trait.specs.declared.entries.Entries.TheInside.{Inside}
use Rattle.store_trait.specs.Meaning.{Content}
use Rattle.store_trait.specs.Held.{Held}
use Rattle.store_trait.specs.Places.{place_cmp}

-- what the rooms hold, in their order
abbrev pub held_in : List (HashedKey × Room) → Content
held_in [] = []
held_in ((place, Empty) ∷ rooms) = held_in rooms
held_in ((place, Holding entry) ∷ rooms) = (place.key, entry) ∷ held_in rooms

-- the keys of the rooms, in their order
abbrev pub keys_in : List (HashedKey × Room) → List (List ℕ)
keys_in [] = []
keys_in ((place, room) ∷ rooms) = place.key ∷ keys_in rooms

-- each place has the hash of its key
abbrev pub AreHashed : ℕ → List (HashedKey × Room) → Type 0
AreHashed bits rooms = (place : HashedKey) → IsSome (lookup (λ other. is_eq (place_cmp place other)) rooms) → place.hash ≡ hash bits place.key

-- the rooms as they are kept
pub record IsKeptWell (inside : Inside) : Type 0 where
  pub few : inside.bits ≤ 32
  pub ordered : IsOrdered place_cmp inside.rooms
  pub hashed : AreHashed inside.bits inside.rooms.entries

abbrev pub held_of : Inside → Held
held_of inside = record { bits = inside.bits; content = held_in inside.rooms.entries; seats = keys_in inside.rooms.entries }
