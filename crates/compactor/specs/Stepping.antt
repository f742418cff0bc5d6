-- What the calls that change the parts do.
use Rattle.std.specs.Prelude.{◌≡◌, ◌⊎◌, ℕ, ◌+◌, Bool, true, false, List, [], ◌∷◌, length, Option, Result, IfOk, OnOk, OnErr, IsErrOf}
use Rattle.std.specs.Str.{bytes_eq}
use Rattle.cache_model.specs.declared.files.Place.{Place}
use Rattle.cache_model.specs.declared.faults.StoreFault.{StoreFault}
use Rattle.cache_model.specs.declared.faults.StoreFault.TheVariants as fault
use Rattle.cache_model.specs.declared.faults.Damage.{Damage}
use Rattle.cache_model.specs.declared.index.IndexKey.{IndexKey}
use Rattle.cache_model.specs.declared.replies.Turned.{Turned}
use Rattle.cache_model.specs.declared.replies.Turned.TheVariants.{Done, Idle}
use Rattle.cache_model.specs.Items.{Item, spelling}
use Rattle.append_log.specs.Current.{files_of, is_spoilt_log}
use Rattle.append_log.specs.Fetching.{with_spoilt}
use Rattle.temporary_table.specs.declared.requests.Request.{Request}
use Rattle.temporary_table.specs.declared.requests.Request.TheVariants.{Swap, Less}
use Rattle.temporary_table.specs.Places.{seat_of, place_of}
use Rattle.temporary_table.specs.Queue.{pushed}
use Rattle.tree_index.specs.Index.{value_at}
use Rattle.compactor.specs.declared.finding.FoundEntry.{FoundEntry}
use Rattle.compactor.specs.declared.parts.Parts.{Parts}
use Rattle.compactor.specs.Counting.{Counts, Kept, counts_in, Adds, IsFileNumber, IsNewestBy}
use Rattle.compactor.specs.Entering.{Row, IsHeld, fresh_by, row_by, stale_by, with_dead, with_live, with_put, with_taken}
use Rattle.compactor.specs.Figuring.{sizes_of}
use Rattle.compactor.specs.Indexing.{AreIndexed, AreUsable, is_removal}

-- the oldest request was taken, or none waits
abbrev pub Pops : Turned → List Request → List Request → Type 0
Pops Done old new = (request : Request) × (old ≡ request ∷ new)
Pops Idle old new = (old ≡ []) × (new ≡ [])

-- One entry was put into the index or none, and one was taken out or none, and the figures went along: what was put where
-- nothing stood adds its bytes to the live ones of its file, and what was taken out takes its own from them.
pub record Refigures (put taken : Option Row) (old new : Parts) : Type 0 where
  pub values : (at : IndexKey) → value_at new.tree.entries at ≡ with_taken taken at (with_put put at (value_at old.tree.entries at))
  pub rows : new.stats.rows ≡ with_dead taken (with_live (fresh_by old.tree.entries put) old.stats.rows)
  pub spare : new.stats.spare ≡ old.stats.spare

-- A request was applied by an entry of the index, or by none: the index has what it puts by that, and the entry is gone
-- where what was put stands under another key.
pub record Applies (request : Request) (old new : Parts) : Type 0 where
  pub found : Option FoundEntry
  pub held : IsHeld old.tree.entries found
  pub moved : Refigures (row_by old.tree.bits request found) (stale_by found (row_by old.tree.bits request found)) old new

-- An index step took the oldest request, and is idle exactly where none waits. Where it is refused for memory all waits
-- as before. The log stays, and after a fault other than Memory the parts are spoilt.
pub record StepsIndex (old new : Parts) (result : Result Turned StoreFault) : Type 0 where
  pub limit : new.requests.limit ≡ old.requests.limit
  pub bits : new.tree.bits ≡ old.tree.bits
  pub popped : IfOk result (λ turned. Pops turned old.requests.waiting new.requests.waiting)
  pub waits : OnErr result (new.spoilt ≡ false → new.requests.waiting ≡ old.requests.waiting)
  pub log : new.spoilt ≡ false → files_of new.log ≡ files_of old.log
  pub same_log : files_of new.log ≡ with_spoilt (files_of old.log) (is_spoilt_log (files_of new.log))
  pub usable : new.spoilt ≡ false → AreUsable new
  pub unspoilt : OnOk result (new.spoilt ≡ false)
  pub spoilt : OnErr result ((new.spoilt ≡ true) ⊎ IsErrOf result fault.Memory)
  -- the files keep their sizes, and their live bytes go along with the index
  pub sizes : new.spoilt ≡ false → sizes_of new.stats.rows ≡ sizes_of old.stats.rows
  pub moved : new.spoilt ≡ false → (put : Option Row) × (taken : Option Row) × Refigures put taken old new
  pub applied : OnOk result ((request : Request) (waiting : List Request) → old.requests.waiting ≡ request ∷ waiting → Applies request old new)

-- The parts stand for the same records after a call, and nothing is found damaged where all records are there.
pub record KeepsIndex {R : Type 0} (counts : Counts) (new : Parts) (result : Result R StoreFault) : Type 0 where
  pub indexed : new.spoilt ≡ false → AreIndexed counts new
  pub undamaged : (d : Damage) → IsErrOf result (fault.Damaged d) → ⊥

-- Index steps were taken until none waits: nothing does after Ok. The log stays, the files keep their sizes, and after a
-- fault other than Memory the parts are spoilt.
pub record Empties (old new : Parts) (result : Result (Unit {0}) StoreFault) : Type 0 where
  pub limit : new.requests.limit ≡ old.requests.limit
  pub bits : new.tree.bits ≡ old.tree.bits
  pub emptied : OnOk result (new.requests.waiting ≡ [])
  pub log : new.spoilt ≡ false → files_of new.log ≡ files_of old.log
  pub same_log : files_of new.log ≡ with_spoilt (files_of old.log) (is_spoilt_log (files_of new.log))
  pub usable : new.spoilt ≡ false → AreUsable new
  pub unspoilt : OnOk result (new.spoilt ≡ false)
  pub spoilt : OnErr result ((new.spoilt ≡ true) ⊎ IsErrOf result fault.Memory)
  pub sizes : new.spoilt ≡ false → sizes_of new.stats.rows ≡ sizes_of old.stats.rows

-- All parts stay as they stand for records, and so do the seats of all keys but this one.
pub record Seats (key : List ℕ) (old new : Parts) : Type 0 where
  pub tree : new.tree ≡ old.tree
  pub requests : new.requests ≡ old.requests
  pub stats : new.stats ≡ old.stats
  pub log : new.log ≡ old.log
  pub spoilt : new.spoilt ≡ old.spoilt
  pub bits : new.table.bits ≡ old.table.bits
  pub places : (other : List ℕ) → place_of new.table other ≡ place_of old.table other
  pub others : (other : List ℕ) → bytes_eq key other ≡ false → seat_of new.table other ≡ seat_of old.table other

-- The place of a record that was written, and whether it removes its key.
pub record IsPlaceOf (item : Item) (place : Place) (gone : Bool) : Type 0 where
  pub long : place.length ≡ length (spelling item)
  pub gone_is : gone ≡ is_removal item

-- A key's new place waits for the index.
pub record Notes (key : List ℕ) (place : Place) (gone : Bool) (old new : Parts) : Type 0 where
  pub tree : new.tree ≡ old.tree
  pub stats : new.stats ≡ old.stats
  pub log : new.log ≡ old.log
  pub spoilt : new.spoilt ≡ old.spoilt
  pub limit : new.requests.limit ≡ old.requests.limit
  pub queued : length new.requests.waiting ≡ length old.requests.waiting + 1
  pub usable : AreUsable old → IsFileNumber place.file → AreUsable new
  -- where the record there is the newest that counts, the parts stand for it too
  pub indexed : (kept more : Kept) (item : Item) → AreIndexed (counts_in kept) old → Adds (counts_in kept) (counts_in more) key place.file place.at item → IsPlaceOf item place gone → AreIndexed (counts_in more) new

-- One request more waits, and all parts but the table and the queue stay.
pub record Queues (request : Request) (old new : Parts) : Type 0 where
  pub tree : new.tree ≡ old.tree
  pub stats : new.stats ≡ old.stats
  pub log : new.log ≡ old.log
  pub spoilt : new.spoilt ≡ old.spoilt
  pub queued : new.requests ≡ pushed old.requests request

-- The place of a copy of a key's newest record waits for the index.
pub record NotesCopy (key : List ℕ) (from to : Place) (gone : Bool) (old new : Parts) : Type 0 where
  pub queues : Queues (Swap key from to) old new
  pub usable : AreUsable old → IsFileNumber to.file → AreUsable new
  -- where the record there is the newest that counts, and was so where it stands too, the parts stand for it
  pub indexed : (kept more : Kept) (item : Item) → AreIndexed (counts_in kept) old → IsNewestBy (counts_in kept) key from.file from.at item → Adds (counts_in kept) (counts_in more) key to.file to.at item → IsPlaceOf item to gone
      → AreIndexed (counts_in more) new

-- It waits that one record less of a key is to be counted.
pub record NotesLess (key : List ℕ) (old new : Parts) : Type 0 where
  pub queues : Queues (Less key) old new
  pub table : new.table ≡ old.table
  pub usable : AreUsable old → AreUsable new
  pub indexed : (kept : Kept) → AreIndexed (counts_in kept) old → AreIndexed (counts_in kept) new
