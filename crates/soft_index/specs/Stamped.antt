-- How the log of a store is stamped.
use Rattle.std.specs.Prelude.{◌≡◌, ℕ, List, [], Option, Some, Result, OnOk}
use Rattle.cache_model.specs.declared.faults.StoreFault.{StoreFault}
use Rattle.cache_model.specs.Items.{Item, end}
use Rattle.cache_model.specs.DataFiles.{Frame}
use Rattle.cache_disk.specs.State.{HostState}
use Rattle.data_file.proofs.Frame.{placed_of}
use Rattle.store_trait.specs.Meaning.{Row}
use Rattle.store_trait.specs.Keeping.{SameContent}
use Rattle.store_trait.specs.Calls.{Acts}
use Rattle.soft_index.specs.declared.log_store.LogStore.{LogStore}
use Rattle.soft_index.specs.Growing.{HasGrown}
use Rattle.soft_index.specs.Store.{Holds, content_of, log_facts, log_means, number, row_of}

-- how a stamp moves the parts: as many requests wait, and there is a current file
abbrev pub MarksFile : List Row → List Row → Type 0
MarksFile a b = (q : ℕ) × (c : Option ℕ) × (n : ℕ) × (a ≡ row_of q c) × (b ≡ row_of q (Some n))

-- What a store holds has grown, nothing of it waits for a seal, and a frame of the current file ends with the moment.
abbrev pub HasStamp : LogStore → LogStore → HostState → HostState → List Frame → List Item → ℕ → Type 0
HasStamp S T a b frames records moment =
    (grown : HasGrown S T a.files b frames records) × (grown.rs ≡ []) × (at : ℕ) × Holds (number T) (placed_of grown.fs []) b.files (number T) at (end moment)

-- The log was stamped: the content stays, and a counted frame has the moment.
pub record IsStampedIn {R : Type 0} (S T : LogStore) (a b : HostState) (frames : List Frame) (records : List Item) (moment : ℕ) (result : Result R StoreFault) : Type 0 where
  pub acts : Acts (log_facts S) (log_facts T) (log_means S a) (log_means T b) a b moment (content_of S a.files) result
  pub content : OnOk result (SameContent (content_of S a.files) (content_of T b.files))
  pub stamped : OnOk result (HasStamp S T a b frames records moment)
