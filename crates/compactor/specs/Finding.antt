-- What is read of the records that entries of the index stand for.
use Rattle.std.specs.Prelude.{◌≡◌, ℕ, ◌+◌, ◌≤◌, Bool, true, false, List, All, Contains, length, Option, Some, None, Result, Ok, Err, IfOk, IsErrOf, sum_by}
use Rattle.std.specs.Str.{bytes_eq}
use Rattle.cache_model.specs.declared.faults.StoreFault.{StoreFault}
use Rattle.cache_model.specs.declared.faults.StoreFault.TheVariants as fault
use Rattle.cache_model.specs.declared.faults.Damage.{Damage}
use Rattle.cache_model.specs.declared.files.Place.{Place}
use Rattle.cache_model.specs.declared.index.IndexKey.{IndexKey}
use Rattle.cache_model.specs.declared.index.IndexValue.{IndexValue}
use Rattle.cache_model.specs.Files.{Image, bytes_in}
use Rattle.cache_model.specs.Items.{Item, put, removal, end, Front, whole, front}
use Rattle.cache_model.specs.Images.{log_name}
use Rattle.cache_disk.specs.State.{HostState, Rose}
use Rattle.cache_disk.specs.State as disk
use Rattle.data_file.specs.Fetching.{bytes_at, wrong_with}
use Rattle.record_format.specs.Meaning.{own_item}
use Rattle.tree_index.specs.Index.{Entries}
use Rattle.compactor.specs.declared.finding.FoundEntry.{FoundEntry}

-- whether an answer spoils what gave it: each fault but Memory
abbrev pub spoils : {R : Type 0} → Result R StoreFault → Bool
spoils (Ok given) = false
spoils (Err fault.Failed) = true
spoils (Err fault.Memory) = false
spoils (Err (fault.Spent s)) = true
spoils (Err (fault.Damaged d)) = true

-- whether a record is of a key
abbrev pub has_key : List ℕ → Item → Bool
has_key key (put seq until named value) = bytes_eq named key
has_key key (removal seq named) = bytes_eq named key
has_key key (end moment) = false

-- where the record of an entry stands
abbrev pub entry_place : IndexKey → IndexValue → Place
entry_place at value = record { file = at.file; at = at.at; length = value.length }

-- what is read of an entry's record
abbrev pub entry_front : Image → IndexKey → IndexValue → Front
entry_front files at value = front (bytes_at files (log_name at.file) (entry_place at value))

-- an entry's record is read as a whole, and isn't of this key
pub record IsOfOther (files : Image) (key : List ℕ) (e : IndexKey × IndexValue) : Type 0 where
  pub item : Item
  pub read : entry_front files e.0 e.1 ≡ whole item e.1.length
  pub other : has_key key item ≡ false

-- what was found is one of the entries, where there is one
abbrev pub IsAmong : Entries → Option FoundEntry → Type 0
IsAmong entries None = Unit {0}
IsAmong entries (Some found) = Contains entries (found.at, found.value)

-- one of the entries with its record, which is of the key; or None, where the records of all are of other keys
abbrev pub IsEntryFor : Image → List ℕ → Entries → Option FoundEntry → Type 0
IsEntryFor files key entries None = All (IsOfOther files key) entries
IsEntryFor files key entries (Some found) =
    Contains entries (found.at, found.value)
    × (entry_front files found.at found.value ≡ whole (own_item found.item) found.value.length)
    × (has_key key (own_item found.item) ≡ true)

-- one of the entries has no whole record at its place, but this
abbrev pub IsDamagedEntry : Image → Entries → Damage → Type 0
IsDamagedEntry files entries d = (e : IndexKey × IndexValue) × Contains entries e × (wrong_with e.1.length (entry_front files e.0 e.1) ≡ Some d.kind)

-- the records of all entries lie within the files
abbrev pub LieWithin : Image → Entries → Type 0
LieWithin files entries = All (λ e. e.0.at + e.1.length ≤ length (bytes_in files (log_name e.0.file))) entries

-- how many bytes an entry's record has, where one was found
abbrev pub found_bytes : Option FoundEntry → ℕ
found_bytes None = 0
found_bytes (Some found) = found.value.length

-- A search for a key among some entries changed nothing. Where no read gave fewer bytes than it could, it asked for no
-- more than their records have, and it asked at least for the record that it found.
pub record Searches (key : List ℕ) (entries : Entries) (a b : HostState) (result : Result (Option FoundEntry) StoreFault) : Type 0 where
  pub stands : disk.Stands a b
  pub found : IfOk result (IsEntryFor a.files key entries)
  pub damaged : (d : Damage) → IsErrOf result (fault.Damaged d) → IsDamagedEntry a.files entries d
  pub most : (Rose a.short_reads b.short_reads → ⊥) → LieWithin a.files entries → b.asked a.turn ≤ a.asked a.turn + sum_by (λ e. e.1.length) entries
  pub fetched : IfOk result (λ found. a.asked a.turn + found_bytes found ≤ b.asked a.turn)
