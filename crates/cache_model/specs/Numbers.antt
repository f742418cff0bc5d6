-- What a session begins with, as an image says it: entries, moment and numbers.
use Rattle.std.specs.Prelude.{◌≡◌, ◌⊎◌, ℕ, ◌+◌, ◌-◌, ◌<◌, List, Some, IsSome, max}
use Rattle.std.specs.FinMap.{get}
use Rattle.cache_model.specs.Files.{Image, file_in}
use Rattle.cache_model.specs.Items.{Item}
use Rattle.cache_model.specs.Plain.{Plain}
use Rattle.cache_model.specs.Images.{log_name, IsCounted, key_of, sequence_of, HasEntry, IsMark}

-- each record that counts in an image has a sequence number below this one
abbrev pub IsAboveRecords : ℕ → Image → Type 0
IsAboveRecords next image = (n a : ℕ) (item : Item) (key : List ℕ) → IsCounted image n a item → key_of item ≡ Some key → sequence_of item < next

-- What a session is opened from: the entries of the files as they read, and the later one of the given moment and of
-- their mark.
pub record Opens (files : Image) (given : ℕ) (plain : Plain) : Type 0 where
  pub entries : (key : List ℕ) → HasEntry files key (get plain.entries key)
  pub mark : ℕ
  pub marked : IsMark files mark
  pub moment : plain.moment ≡ max given mark

-- One above the greatest sequence number of the records that count in an image, or 1 where none counts.
pub record IsNextSequence (image : Image) (next : ℕ) : Type 0 where
  pub above : IsAboveRecords next image
  pub reached : (next ≡ 1) ⊎ ((number : ℕ) × (at : ℕ) × (item : Item) × (key : List ℕ) × IsCounted image number at item × (key_of item ≡ Some key) × (next ≡ sequence_of item + 1))

-- One above the greatest number of a data file of the main store, or 1 where there is none.
pub record IsNextFile (image : Image) (number : ℕ) : Type 0 where
  pub above : (n : ℕ) → IsSome (file_in image (log_name n)) → n < number
  pub reached : (number ≡ 1) ⊎ IsSome (file_in image (log_name (number - 1)))
