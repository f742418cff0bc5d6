-- What is held in memory under keys.
use Rattle.std.specs.Prelude.{◌≡◌, ℕ, Bool, List, IsTrue}
use Rattle.std.specs.List.{list_any}
use Rattle.std.specs.Str.{bytes_eq}
use Rattle.cache_model.specs.Hash.{hash}
use Rattle.store_trait.specs.declared.entries.Seat.{Seat}
use Rattle.store_trait.specs.Meaning.{Content}

-- What is held in memory: how many bits of the keys' hash give the order, what is held under keys, and the keys that have
-- a seat. A key under which something is held has one.
pub record Held : Type 0 where
  pub bits : ℕ
  pub content : Content
  pub seats : List (List ℕ)

-- whether a key has a seat
abbrev pub has_seat : Held → List ℕ → Bool
has_seat held key = list_any (λ other. bytes_eq other key) held.seats

-- a seat of what is held: its key has one
pub record IsSeatOf (held : Held) (seat : Seat) : Type 0 where
  pub hash : seat.place.hash ≡ hash held.bits seat.place.key
  pub has : IsTrue (has_seat held seat.place.key)

-- the key of a seat
abbrev pub key_of_seat : Seat → List ℕ
key_of_seat seat = seat.place.key
