-- When a closed data file may be taken away, and what that does.
use Rattle.std.specs.Prelude.{◌≡◌, ℕ, ◌≤◌, List, [], Some, None, Result, OnOk, IsSome}
use Rattle.cache_model.specs.declared.faults.StoreFault.{StoreFault}
use Rattle.cache_model.specs.declared.files.FileName.{FileName}
use Rattle.cache_model.specs.Files.{Image, file_in}
use Rattle.cache_model.specs.Items.{Item, end}
use Rattle.cache_model.specs.DataFiles.{Frame}
use Rattle.cache_model.specs.Images.{IsNoNewer, key_of, log_name, sequence_of}
use Rattle.cache_disk.specs.State.{HostState, Moves, SameBut, Silent}
use Rattle.cache_disk.specs.Calls.{AllLeft, Unmakes}
use Rattle.data_file.proofs.Frame.{placed_of}
use Rattle.compactor.specs.Counting.{Counts, IsNewestBy}
use Rattle.store_trait.specs.Keeping.{SameContent}
use Rattle.store_trait.specs.Calls.{Acts}
use Rattle.soft_index.specs.declared.log_store.LogStore.{LogStore}
use Rattle.soft_index.specs.Store.{Holds, LogStands, content_of, log_facts, log_means, number}

-- The call took a file away. A crash leaves it as it was or not at all, and after Ok not at all.
pub record TakesAway {R : Type 0} (name : FileName) (a b : HostState) (result : Result R StoreFault) : Type 0 where
  pub images : Moves a b (Unmakes name)
  pub files : SameBut name a.files b.files
  pub gone : OnOk result (file_in b.files name ≡ None)
  pub settled : OnOk result (AllLeft b (λ image. file_in image name ≡ None))
  pub silent : Silent a b

-- A record of a key is outdone: another file has one of the key that is newer.
pub record IsOutdoneBy (counts : Counts) (key : List ℕ) (file at : ℕ) (item : Item) : Type 0 where
  pub n : ℕ
  pub a : ℕ
  pub other : Item
  pub counted : counts n a other
  pub of_key : key_of other ≡ Some key
  pub elsewhere : n ≡ file → ⊥
  pub newer : IsNoNewer (sequence_of item, file, at) (sequence_of other, n, a)

-- A frame of another file ends no earlier than each frame of this one.
pub record HasNoLaterEnd (counts : Counts) (file : ℕ) : Type 0 where
  pub n : ℕ
  pub a : ℕ
  pub moment : ℕ
  pub counted : counts n a (end moment)
  pub elsewhere : n ≡ file → ⊥
  pub latest : (at m : ℕ) → counts file at (end m) → m ≤ moment

-- A data file may be taken away: it is there and isn't the current one, and none of its records is its key's newest. Of
-- what is sealed, each of its records is outdone, and a frame of another file ends no earlier than those of it.
pub record MayBeTaken (S : LogStore) (files : Image) (frames : List Frame) (records : List Item) (file : ℕ) : Type 0 where
  pub there : IsSome (file_in files (log_name file))
  pub closed : file ≡ number S → ⊥
  pub past : (key : List ℕ) (at : ℕ) (item : Item) → IsNewestBy (Holds (number S) (placed_of frames records) files) key file at item → ⊥
  pub outdone : (key : List ℕ) (at : ℕ) (item : Item) → Holds (number S) (placed_of frames []) files file at item → key_of item ≡ Some key → IsOutdoneBy (Holds (number S) (placed_of frames []) files) key file at item
  pub stamped : HasNoLaterEnd (Holds (number S) (placed_of frames []) files) file

-- A data file was taken away: the content stays, and the store holds what it held without it. Other files stay, and so does
-- the number of the current one.
pub record IsTakenIn {R : Type 0} (S T : LogStore) (a b : HostState) (frames : List Frame) (records : List Item) (file moment : ℕ) (result : Result R StoreFault) : Type 0 where
  pub acts : Acts (log_facts S) (log_facts T) (log_means S a) (log_means T b) a b moment (content_of S a.files) result
  pub content : OnOk result (SameContent (content_of S a.files) (content_of T b.files))
  pub taken : OnOk result (LogStands T b frames records)
  pub gone : OnOk result (file_in b.files (log_name file) ≡ None)
  pub others : SameBut (log_name file) a.files b.files
  pub current : number T ≡ number S
