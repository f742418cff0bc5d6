-- How the table, the queue and the index stand for the newest records.
use Rattle.std.specs.Prelude.{◌≡◌, ℕ, ◌≤◌, Bool, false, true, List, [], ◌∷◌, ◌++◌, All, length, Option, Some, None, option_map, if◌then◌else◌}
use Rattle.std.specs.Str.{bytes_eq}
use Rattle.std.specs.Option.{option_or}
use Rattle.cache_model.specs.declared.files.Place.{Place}
use Rattle.cache_model.specs.declared.index.IndexKey.{IndexKey}
use Rattle.cache_model.specs.declared.index.IndexValue.{IndexValue}
use Rattle.cache_model.specs.Items.{Item, put, removal, end, spelling}
use Rattle.cache_model.specs.Images.{key_of}
use Rattle.cache_model.specs.Hash.{hash}
use Rattle.append_log.specs.Current as append
use Rattle.temporary_table.specs.declared.requests.Request.{Request}
use Rattle.temporary_table.specs.declared.requests.Request.TheVariants.{Set, Swap, Drop, Less}
use Rattle.temporary_table.specs.Places.{Places, place_of}
use Rattle.temporary_table.specs.Queue as queue
use Rattle.tree_index.specs.Index.{Index, value_at, AreOrdered}
use Rattle.compactor.specs.declared.parts.Parts.{Parts}
use Rattle.compactor.specs.Counting.{Counts, IsNewestBy, IsFileNumber}

-- whether a record removes its key
abbrev pub is_removal : Item → Bool
is_removal (put seq until key value) = false
is_removal (removal seq key) = true
is_removal (end moment) = false

-- A record of a key counts at a place, which has its length, and is a removal or isn't.
pub record IsPlaced (counts : Counts) (key : List ℕ) (place : Place) (gone : Bool) : Type 0 where
  pub item : Item
  pub counted : counts place.file place.at item
  pub of_key : key_of item ≡ Some key
  pub long : place.length ≡ length (spelling item)
  pub gone_is : gone ≡ is_removal item

-- One record of a key counts at two places, the other of which has its length.
pub record IsCopied (counts : Counts) (key : List ℕ) (from to : Place) : Type 0 where
  pub item : Item
  pub was : counts from.file from.at item
  pub counted : counts to.file to.at item
  pub of_key : key_of item ≡ Some key
  pub long : to.length ≡ length (spelling item)

-- where a request puts its key, where it does
abbrev pub puts_to : Request → Option Place
puts_to (Set key to gone) = Some to
puts_to (Swap key from to) = Some to
puts_to (Drop key from) = None
puts_to (Less key) = None

-- where a request puts this key, where it does
abbrev pub put_by : List ℕ → Request → Option Place
put_by key request = if bytes_eq (queue.key_of request) key then puts_to request else None

-- the last place that waiting requests put a key to
abbrev pub last_put : List ℕ → List Request → Option Place
last_put key [] = None
last_put key (request ∷ waiting) = option_or (last_put key waiting) (put_by key request)

-- a request puts a key to a record of it that counts, and a copy beside the record that it is of; or it puts none
abbrev pub IsPut : Counts → Request → Type 0
IsPut counts (Set key to gone) = IsPlaced counts key to gone
IsPut counts (Swap key from to) = IsCopied counts key from to
IsPut counts (Drop key from) = ⊥
IsPut counts (Less key) = Unit {0}

-- two requests put keys to different places
abbrev pub ArePutApart : Request → Request → Type 0
ArePutApart one other = (place : Place) → puts_to one ≡ Some place → puts_to other ≡ Some place → ⊥

-- no place is put twice
abbrev pub AreApart : List Request → Type 0
AreApart [] = Unit {0}
AreApart (request ∷ waiting) = All (ArePutApart request) waiting × AreApart waiting

-- An index entry is that of a record of a key that counts.
pub record IsEntryOf (counts : Counts) (bits : ℕ) (key : List ℕ) (at : IndexKey) (value : IndexValue) : Type 0 where
  pub hash_is : at.hash ≡ hash bits key
  pub placed : IsPlaced counts key (record { file = at.file; at = at.at; length = value.length }) value.gone
  pub some : 1 ≤ value.count

-- a key has an entry of the index at the file and offset of a place
pub record HasEntryAt (counts : Counts) (index : Index) (key : List ℕ) (place : Place) : Type 0 where
  pub at : IndexKey
  pub value : IndexValue
  pub there : value_at index.entries at ≡ Some value
  pub entry : IsEntryOf counts index.bits key at value
  pub file_is : at.file ≡ place.file
  pub at_is : at.at ≡ place.at

-- a key stands at the file and offset of a place, by the last place that requests put it to, or else by its entry
abbrev pub StandsAt : Counts → Index → List ℕ → Option Place → Place → Type 0
StandsAt counts index key (Some last) place = (last.file ≡ place.file) × (last.at ≡ place.at)
StandsAt counts index key None place = HasEntryAt counts index key place

-- each Swap that waits finds its key at the place that it names, once those in front of it are applied
abbrev pub AllFind : Counts → Index → List Request → Type 0
AllFind counts index waiting = (key : List ℕ) (from to : Place) (before after : List Request) → waiting ≡ before ++ Swap key from to ∷ after → StandsAt counts index key (last_put key before) from

-- The index has an entry of the newest record of a key.
pub record IsNewestEntry (counts : Counts) (index : Index) (key : List ℕ) (at : IndexKey) (value : IndexValue) : Type 0 where
  pub there : value_at index.entries at ≡ Some value
  pub entry : IsEntryOf counts index.bits key at value
  pub newest : IsNewestBy counts key at.file at.at entry.placed.item

-- The table, the queue and the index stand for the records that count. A key's place is the last one that waits for the
-- index, and its newest record stands there. Every other key's newest record has the key's one entry of the index. A
-- Swap that waits will find its key at the place that it names.
pub record IsIndexed (counts : Counts) (places : Places) (index : Index) (waiting : List Request) : Type 0 where
  pub queued : (key : List ℕ) → option_map (λ seat. seat.0) (place_of places key) ≡ last_put key waiting
  pub requested : All (IsPut counts) waiting
  pub apart : AreApart waiting
  pub swaps : AllFind counts index waiting
  pub placed : (key : List ℕ) (place : Place) (gone : Bool) → place_of places key ≡ Some (place, gone) → (is : IsPlaced counts key place gone) × IsNewestBy counts key place.file place.at is.item
  pub indexed : (at : IndexKey) (value : IndexValue) → value_at index.entries at ≡ Some value → (key : List ℕ) × IsEntryOf counts index.bits key at value
  pub single : (one other : IndexKey) (v w : IndexValue) (key : List ℕ) → value_at index.entries one ≡ Some v → value_at index.entries other ≡ Some w
      → IsEntryOf counts index.bits key one v → IsEntryOf counts index.bits key other w → one ≡ other
  pub newest : (key : List ℕ) → place_of places key ≡ None → (n a : ℕ) (item : Item) → counts n a item → key_of item ≡ Some key
      → (at : IndexKey) × (value : IndexValue) × IsNewestEntry counts index key at value

-- the parts of a store stand for the records that count
abbrev pub AreIndexed : Counts → Parts → Type 0
AreIndexed counts parts = IsIndexed counts parts.table parts.tree parts.requests.waiting

-- a request puts a key to a file with a number that a data file may have, or puts none; no Drop waits
abbrev pub IsPutToFile : Request → Type 0
IsPutToFile (Set key to gone) = IsFileNumber to.file
IsPutToFile (Swap key from to) = IsFileNumber to.file
IsPutToFile (Drop key from) = ⊥
IsPutToFile (Less key) = Unit {0}

-- The parts may be used: each part may, they go by the same bits of the keys' hash, no more waits than may, and each
-- place is in a file with a number that a data file may have.
pub record AreUsable (parts : Parts) : Type 0 where
  pub unspoilt : parts.spoilt ≡ false
  pub log : append.IsUsable (append.files_of parts.log)
  pub main : append.store_of (append.files_of parts.log) ≡ 0
  pub bits : parts.tree.bits ≤ 32
  pub same_bits : parts.table.bits ≡ parts.tree.bits
  pub some : 1 ≤ parts.requests.limit
  pub within : length parts.requests.waiting ≤ parts.requests.limit
  pub ordered : AreOrdered parts.tree.entries
  pub indexed : (at : IndexKey) (value : IndexValue) → value_at parts.tree.entries at ≡ Some value → IsFileNumber at.file
  pub placed : (key : List ℕ) (place : Place) (gone : Bool) → place_of parts.table key ≡ Some (place, gone) → IsFileNumber place.file
  pub requested : All IsPutToFile parts.requests.waiting
