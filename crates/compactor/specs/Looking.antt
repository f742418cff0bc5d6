-- What is read of the newest records.
use Rattle.std.specs.Prelude.{◌≡◌, ◌⊎◌, ◌↔◌, ℕ, ◌+◌, ◌≤◌, Bool, IsTrue, true, false, List, length, Option, Some, None, Result, IfOk, OnOk, OnErr, IsErrOf, sum_by}
use Rattle.cache_model.specs.declared.faults.StoreFault.{StoreFault}
use Rattle.cache_model.specs.declared.faults.StoreFault.TheVariants as fault
use Rattle.cache_model.specs.declared.faults.Damage.{Damage}
use Rattle.cache_model.specs.declared.files.Place.{Place}
use Rattle.cache_model.specs.Items.{Item, spelling}
use Rattle.cache_model.specs.Images.{key_of}
use Rattle.cache_model.specs.Hash.{hash, precedes, follows}
use Rattle.cache_disk.specs.State.{HostState, Rose}
use Rattle.append_log.specs.Current.{files_of, is_spoilt_log}
use Rattle.append_log.specs.Fetching.{with_spoilt}
use Rattle.record_format.specs.declared.items.OwnItem.{OwnItem}
use Rattle.record_format.specs.Meaning.{own_item}
use Rattle.temporary_table.specs.Places.{Seat, place_of}
use Rattle.tree_index.specs.Index.{Entries, entries_of}
use Rattle.compactor.specs.declared.parts.Parts.{Parts}
use Rattle.compactor.specs.Counting.{Counts, HasNone, IsNewestBy}
use Rattle.compactor.specs.Indexing.{AreUsable}

-- A call changed none of the parts, but that they may be spoilt now. They aren't after Ok, and are after each fault other
-- than Memory.
pub record Looks {R : Type 0} (old new : Parts) (result : Result R StoreFault) : Type 0 where
  pub tree : new.tree ≡ old.tree
  pub table : new.table ≡ old.table
  pub requests : new.requests ≡ old.requests
  pub stats : new.stats ≡ old.stats
  pub log : new.spoilt ≡ false → files_of new.log ≡ files_of old.log
  pub same_log : files_of new.log ≡ with_spoilt (files_of old.log) (is_spoilt_log (files_of new.log))
  pub usable : new.spoilt ≡ false → AreUsable new
  pub unspoilt : OnOk result (new.spoilt ≡ false)
  pub spoilt : OnErr result ((new.spoilt ≡ true) ⊎ IsErrOf result fault.Memory)

-- the newest record of a key, or that it has none
abbrev pub IsNewestOr : Counts → List ℕ → Option OwnItem → Type 0
IsNewestOr counts key None = HasNone counts key
IsNewestOr counts key (Some item) = (n : ℕ) × (a : ℕ) × IsNewestBy counts key n a (own_item item)

-- what is told of the record at a place is whether it is its key's newest
abbrev pub TellsNewest : Counts → List ℕ → Place → Bool → Type 0
TellsNewest counts key place is = (item : Item) → counts place.file place.at item → key_of item ≡ Some key → (IsTrue is ↔ IsNewestBy counts key place.file place.at item)

-- how many bytes are read to find a record: those at the place of its key, or those of all records with the key's hash
abbrev pub bytes_by : Seat → Entries → ℕ
bytes_by None found = sum_by (λ e. e.1.length) found
bytes_by (Some placed) found = placed.0.length

abbrev pub look_bytes : Parts → List ℕ → ℕ
look_bytes parts key = bytes_by (place_of parts.table key) (entries_of (hash parts.tree.bits key) parts.tree.entries)

-- how many bytes the spelling of a record has, where there is one
abbrev pub record_bytes : Option OwnItem → ℕ
record_bytes None = 0
record_bytes (Some item) = length (spelling (own_item item))

-- What is told of a key is its newest record. Nothing is found damaged where all records are there. No more is asked for
-- than the records with the key's hash, and no less than the record that is given.
pub record Finds (counts : Counts) (key : List ℕ) (parts : Parts) (a b : HostState) (result : Result (Option OwnItem) StoreFault) : Type 0 where
  pub newest : IfOk result (IsNewestOr counts key)
  pub undamaged : (d : Damage) → IsErrOf result (fault.Damaged d) → ⊥
  pub most : (Rose a.short_reads b.short_reads → ⊥) → b.asked a.turn ≤ a.asked a.turn + look_bytes parts key
  pub fetched : IfOk result (λ found. a.asked a.turn + record_bytes found ≤ b.asked a.turn)

-- a key that has a record that counts stands behind another in walk order, or behind none
pub record IsKnownBehind (counts : Counts) (bits : ℕ) (after : Option (List ℕ)) (key : List ℕ) : Type 0 where
  pub number : ℕ
  pub at : ℕ
  pub item : Item
  pub counted : counts number at item
  pub of_key : key_of item ≡ Some key
  pub behind : follows bits after key ≡ true

-- the first key behind another that has a record that counts, with its newest record; None where there is none
abbrev pub IsNextRecord : Counts → ℕ → Option (List ℕ) → Option (List ℕ × OwnItem) → Type 0
IsNextRecord counts bits after None = (key : List ℕ) → IsKnownBehind counts bits after key → ⊥
IsNextRecord counts bits after (Some next) =
    (follows bits after next.0 ≡ true)
    × ((n : ℕ) × (a : ℕ) × IsNewestBy counts next.0 n a (own_item next.1))
    × ((other : List ℕ) → IsKnownBehind counts bits after other → (other ≡ next.0) ⊎ (precedes bits next.0 other ≡ true))

-- What is told next is the first key behind another with its newest record. Nothing is found damaged where all records
-- are there.
pub record Walks (counts : Counts) (bits : ℕ) (after : Option (List ℕ)) (result : Result (Option (List ℕ × OwnItem)) StoreFault) : Type 0 where
  pub next : IfOk result (IsNextRecord counts bits after)
  pub undamaged : (d : Damage) → IsErrOf result (fault.Damaged d) → ⊥
