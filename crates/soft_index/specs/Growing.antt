-- How what a store wrote and sealed goes on.
use Rattle.std.specs.Prelude.{◌≡◌, ℕ, ◌≤◌, ◌<◌, List, [], Some, None, IsSome}
use Rattle.cache_model.specs.Files.{Image, file_in}
use Rattle.cache_model.specs.Items.{Item}
use Rattle.cache_model.specs.DataFiles.{Frame}
use Rattle.cache_model.specs.Images.{log_name, key_of}
use Rattle.cache_disk.specs.State.{HostState}
use Rattle.data_file.proofs.Frame.{placed_of}
use Rattle.soft_index.specs.declared.log_store.LogStore.{LogStore}
use Rattle.soft_index.specs.Store.{Holds, LogStands, number}

-- Each data file but the current one stays as it reads, and isn't written again. Each record that was written is written
-- still, and each item that was sealed is sealed still. No file with the number 0 is made, nor one below the current one,
-- whose number doesn't fall.
pub record GrowsTo (S T : LogStore) (before after : Image) (frames fs : List Frame) (records rs : List Item) : Type 0 where
  pub closed : (n : ℕ) → (n ≡ number S → ⊥) → IsSome (file_in before (log_name n)) → (n ≡ number T → ⊥) × (file_in after (log_name n) ≡ file_in before (log_name n))
  pub written : (n at : ℕ) (item : Item) (key : List ℕ) → Holds (number S) (placed_of frames records) before n at item → key_of item ≡ Some key → Holds (number T) (placed_of fs rs) after n at item
  pub zero : file_in before (log_name 0) ≡ None → file_in after (log_name 0) ≡ None
  pub later : number S ≤ number T
  pub below : (n : ℕ) → n < number S → file_in after (log_name n) ≡ file_in before (log_name n)
  pub sealed : (n at : ℕ) (item : Item) → Holds (number S) (placed_of frames []) before n at item → Holds (number T) (placed_of fs []) after n at item

-- What a store holds has grown from these frames and records.
pub record HasGrown (S T : LogStore) (before : Image) (after : HostState) (frames : List Frame) (records : List Item) : Type 0 where
  pub fs : List Frame
  pub rs : List Item
  pub holds : LogStands T after fs rs
  pub grows : GrowsTo S T before after.files frames fs records rs

-- a store goes on from whatever it held
abbrev pub Grows : LogStore → LogStore → HostState → HostState → Type 0
Grows S T a b = (frames : List Frame) (records : List Item) → LogStands S a frames records → HasGrown S T a.files b frames records
