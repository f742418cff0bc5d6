-- One record: what an index holds of its key, and how it is taken in.
use Rattle.std.specs.Prelude.{◌≡◌, ℕ, ◌+◌, ◌-◌, ◌^◌, min, true, List, map, All, Contains, Option, Some, None, MatchBool, nat_le, if◌then◌else◌}
use Rattle.std.specs.Str.{bytes_eq}
use Rattle.cache_model.specs.declared.files.FileCount.{FileCount}
use Rattle.cache_model.specs.declared.index.IndexKey.{IndexKey}
use Rattle.cache_model.specs.declared.index.IndexValue.{IndexValue}
use Rattle.cache_model.specs.Files.{Image}
use Rattle.cache_model.specs.Items.{Item, put, removal, end, whole, front}
use Rattle.cache_model.specs.Hash.{hash}
use Rattle.cache_model.specs.Images.{log_name, key_of, sequence_of}
use Rattle.data_file.specs.Fetching.{bytes_at, is_record}
use Rattle.tree_index.specs.Index.{Entries, Index, value_at, Sets}
use Rattle.rebuild.specs.Rows.{grown, shrunk}
use Rattle.rebuild.specs.declared.newest.Held.{Held}
use Rattle.rebuild.specs.declared.newest.Record.{Record}

-- A record of this length stands at a place of a data file.
pub record StandsAt (files : Image) (place : IndexKey) (size : ℕ) (item : Item) : Type 0 where
  pub found : front (bytes_at files (log_name place.file) (record { file = place.file; at = place.at; length = size })) ≡ whole item size
  pub is_one : is_record item ≡ true

-- each entry of an index stands for a record
abbrev pub AreRecords : Image → Entries → Type 0
AreRecords files entries = (place : IndexKey) (value : IndexValue) → value_at entries place ≡ Some value → (item : Item) × StandsAt files place value.length item

-- the sequence number of an item, where it is a record of this key
abbrev pub sequence_for : List ℕ → Item → Option ℕ
sequence_for key (put seq until other value) = if bytes_eq other key then Some seq else None
sequence_for key (removal seq other) = if bytes_eq other key then Some seq else None
sequence_for key (end moment) = None

-- what is held of a key stands for a record of it, of this sequence number
abbrev pub IsOfKey : Image → List ℕ → Held → Type 0
IsOfKey files key held = (item : Item) → StandsAt files held.place held.value.length item → (key_of item ≡ Some key) × (sequence_of item ≡ held.seq)

-- What these entries hold of a key: nothing, where none of them stands for a record of it.
abbrev pub IsHeldAmong : Image → Entries → List ℕ → Option Held → Type 0
IsHeldAmong files found key None = All (λ row. (item : Item) → StandsAt files row.0 row.1.length item → key_of item ≡ Some key → ⊥) found
IsHeldAmong files found key (Some held) = IsOfKey files key held

-- What an index holds of a key: nothing, where no entry of its hash stands for a record of it.
abbrev pub IsHeldOf : Image → Entries → ℕ → List ℕ → Option Held → Type 0
IsHeldOf files entries hash key None =
    (place : IndexKey) (value : IndexValue) (item : Item) → value_at entries place ≡ Some value → place.hash ≡ hash → StandsAt files place value.length item → key_of item ≡ Some key → ⊥
IsHeldOf files entries hash key (Some held) = IsOfKey files key held

-- what is held is held by one of these entries
abbrev pub IsAmongThese : Entries → Option Held → Type 0
IsAmongThese found None = Unit {0}
IsAmongThese found (Some held) = Contains found (held.place, held.value)

-- what is held is held by an entry of an index
abbrev pub IsEntry : Entries → Option Held → Type 0
IsEntry entries None = Unit {0}
IsEntry entries (Some held) = value_at entries held.place ≡ Some held.value

-- where a record has its entry
abbrev pub place_by : ℕ → Record → IndexKey
place_by hash one = record { hash = hash; file = one.place.file; at = one.place.at }

-- the entry of a record, where so many of its key count
abbrev pub value_by : Record → ℕ → IndexValue
value_by one count = record { length = one.place.length; count = count; gone = one.gone }

-- a count and one more; it stands still at its type's end
abbrev pub one_more : ℕ → ℕ
one_more count = min (count + 1) (2 ^ 64 - 1)

-- the same entry, where one record more counts
abbrev pub raised : IndexValue → IndexValue
raised value = record { length = value.length; count = one_more value.count; gone = value.gone }

-- A record is the first of its key.
pub record Begins (hash : ℕ) (one : Record) (old new : Index) (before after : List FileCount) : Type 0 where
  pub index : Sets (place_by hash one) (Some (value_by one 1)) old new
  pub rows : after ≡ map (grown one.place.file one.place.length) before

-- A record takes the place of an older one of its key.
pub record Replaces (held : Held) (hash : ℕ) (one : Record) (old new : Index) (before after : List FileCount) : Type 0 where
  pub between : Index
  pub puts : Sets (place_by hash one) (Some (value_by one (one_more held.value.count))) old between
  pub takes : Sets held.place None between new
  pub rows : after ≡ map (shrunk held.place.file held.value.length) (map (grown one.place.file one.place.length) before)

-- A record that is older than the one of its key that is held is counted.
pub record Raises (held : Held) (old new : Index) (before after : List FileCount) : Type 0 where
  pub index : Sets held.place (Some (raised held.value)) old new
  pub rows : after ≡ before

-- A record is taken, by what is held of its key: one that isn't older than that takes its place.
abbrev pub Keeps : Option Held → ℕ → Record → Index → Index → List FileCount → List FileCount → Type 0
Keeps None hash one old new before after = Begins hash one old new before after
Keeps (Some held) hash one old new before after = MatchBool (nat_le held.seq one.seq) (Replaces held hash one old new before after) (Raises held old new before after)

-- A record is taken by what the index holds of its key.
pub record Takes (files : Image) (bits : ℕ) (one : Record) (old new : Index) (before after : List FileCount) : Type 0 where
  pub held : Option Held
  pub entry : IsEntry old.entries held
  pub of_key : IsHeldOf files old.entries (hash bits one.key) one.key held
  pub keeps : Keeps held (hash bits one.key) one old new before after
