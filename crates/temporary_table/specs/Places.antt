-- The newest places of keys.
use Rattle.std.specs.Prelude.{◌≡◌, ℕ, Bool, cond, List, Option, Some, None}
use Rattle.std.specs.Map.{lookup}
use Rattle.std.specs.Str.{bytes_eq}
use Rattle.cache_model.specs.declared.files.Place.{Place}

-- what a seat has: a place and whether the key is gone there, or nothing yet
abbrev pub Seat : Type 0
Seat = Option (Place × Bool)

-- The keys that have a seat, with what it has, and how many bits of the keys' hash give the order.
pub record Places : Type 0 where
  pub bits : ℕ
  pub seats : List (List ℕ × Seat)

-- the seat of a key
abbrev pub seat_of : Places → List ℕ → Option Seat
seat_of places key = lookup (λ other. bytes_eq other key) places.seats

-- what a seat has, where there is one
abbrev pub placed : Option Seat → Seat
placed None = None
placed (Some seat) = seat

-- the place of a key
abbrev pub place_of : Places → List ℕ → Seat
place_of places key = placed (seat_of places key)

-- The seat of one key became this, None where it has none any more, and all else stayed.
pub record Reseats (old : Places) (key : List ℕ) (seat : Option Seat) (new : Places) : Type 0 where
  pub bits : new.bits ≡ old.bits
  pub seats : (other : List ℕ) → seat_of new other ≡ cond (bytes_eq key other) seat (seat_of old other)

-- all stayed
pub record Stays (old new : Places) : Type 0 where
  pub bits : new.bits ≡ old.bits
  pub seats : (other : List ℕ) → seat_of new other ≡ seat_of old other

-- a key's seat after it was seated: what it was, or a new one with nothing
abbrev pub seated : Option Seat → Option Seat
seated None = Some None
seated (Some seat) = Some seat

-- a key's seat after it was unseated: a place keeps it
abbrev pub unseated : Option Seat → Option Seat
unseated None = None
unseated (Some None) = None
unseated (Some (Some place)) = Some (Some place)
