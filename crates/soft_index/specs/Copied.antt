-- How the newest record of a key is copied.
use Rattle.std.specs.Prelude.{◌≡◌, ℕ, ◌+◌, ◌≤◌, Bool, List, Result, OnOk}
use Rattle.cache_model.specs.declared.faults.StoreFault.{StoreFault}
use Rattle.cache_model.specs.declared.files.Place.{Place}
use Rattle.cache_model.specs.Items.{Item, IsRecord, spelling}
use Rattle.cache_model.specs.DataFiles.{Frame}
use Rattle.cache_disk.specs.State.{HostState}
use Rattle.data_file.proofs.Frame.{placed_of}
use Rattle.compactor.specs.Counting.{IsNewestBy}
use Rattle.compactor.specs.Indexing.{is_removal}
use Rattle.store_trait.specs.Keeping.{SameContent}
use Rattle.store_trait.specs.Calls.{Acts}
use Rattle.soft_index.specs.declared.log_store.LogStore.{LogStore}
use Rattle.soft_index.specs.Growing.{HasGrown}
use Rattle.soft_index.specs.Store.{Holds, LogStands, content_of, log_facts, log_means, next_file, next_of, number, writer}

-- Of what a store holds, a record at a place is the newest of its key. It is spelled so, and is a removal or isn't.
pub record IsNewestOf (S : LogStore) (state : HostState) (frames : List Frame) (records : List Item) (key : List ℕ) (from : Place) (gone : Bool) (spelled : List ℕ) (one : Item) : Type 0 where
  pub stands : LogStands S state frames records
  pub newest : IsNewestBy (Holds (number S) (placed_of frames records) state.files) key from.file from.at one
  pub is_record : IsRecord one
  pub spelled_is : spelled ≡ spelling one
  pub gone_is : gone ≡ is_removal one

-- a copy of a record stands in the current file of a store that has grown
abbrev pub HasCopy : LogStore → LogStore → HostState → HostState → List Frame → List Item → Item → Type 0
HasCopy S T a b frames records one = (grown : HasGrown S T a.files b frames records) × (at : ℕ) × Holds (number T) (placed_of grown.fs grown.rs) b.files (number T) at one

-- A record was copied: the content stays, and what the store holds has grown by the copy.
pub record IsCopied {R : Type 0} (S T : LogStore) (a b : HostState) (frames : List Frame) (records : List Item) (moment : ℕ) (one : Item) (result : Result R StoreFault) : Type 0 where
  pub acts : Acts (log_facts S) (log_facts T) (log_means S a) (log_means T b) a b moment (content_of S a.files) result
  pub content : OnOk result (SameContent (content_of S a.files) (content_of T b.files))
  pub copied : OnOk result (HasCopy S T a b frames records one)

-- No sequence number is taken, and one file may be made.
pub record MakesFile {R : Type 0} (S T : LogStore) (result : Result R StoreFault) : Type 0 where
  pub next : next_of T ≡ next_of S
  pub made : next_file (writer T) (number T) ≤ next_file (writer S) (number S) + 1
  pub file : OnOk result (number S ≤ number T)
