-- The requests that wait for the index.
use Rattle.std.specs.Prelude.{ℕ, Bool, false, List, [], ◌∷◌, ◌++◌}
use Rattle.std.specs.Str.{bytes_eq}
use Rattle.temporary_table.specs.declared.requests.Request.{Request}
use Rattle.temporary_table.specs.declared.requests.Request.TheVariants.{Set, Swap, Drop, Less}

-- The requests that wait, oldest first, and how many may.
pub record Queue : Type 0 where
  pub limit : ℕ
  pub waiting : List Request

-- the key that a request names
abbrev pub key_of : Request → List ℕ
key_of (Set key to gone) = key
key_of (Swap key from to) = key
key_of (Drop key from) = key
key_of (Less key) = key

-- whether a request raises the count of a key
abbrev pub raises : List ℕ → Request → Bool
raises key (Set named to gone) = bytes_eq named key
raises key (Swap named from to) = bytes_eq named key
raises key (Drop named from) = false
raises key (Less named) = false

-- whether a request lowers the count of a key
abbrev pub lowers : List ℕ → Request → Bool
lowers key (Set named to gone) = false
lowers key (Swap named from to) = false
lowers key (Drop named from) = false
lowers key (Less named) = bytes_eq named key

-- a queue with one more request, the newest
abbrev pub pushed : Queue → Request → Queue
pushed queue request = record { limit = queue.limit; waiting = queue.waiting ++ request ∷ [] }
