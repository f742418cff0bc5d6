-- When a data file may go: no key reads otherwise without it.
use Rattle.std.specs.Prelude.{◌≡◌, ◌⊎◌, ◌↔◌, ℕ, ◌≤◌, List, Option, Some, None}
use Rattle.cache_model.specs.declared.entries.Entry.{Entry}
use Rattle.cache_model.specs.Files.{Image, file_in}
use Rattle.cache_model.specs.Items.{Item, end}
use Rattle.cache_model.specs.Plain.{visible_at}
use Rattle.cache_model.specs.Images.{log_name, IsCounted, key_of, sequence_of, entry_by, IsNoNewer, IsNewest, HasEntry, IsMark}
use Rattle.cache_disk.specs.State.{SameBut}
use Rattle.cache_disk.specs.Calls.{Unmakes}

-- A record of a key counts in an image: it stands in the data file with this number, at this offset.
pub record IsRecordOf (image : Image) (key : List ℕ) (number at : ℕ) (item : Item) : Type 0 where
  pub counted : IsCounted image number at item
  pub of_key : key_of item ≡ Some key

-- The lesser image is the other one without this data file.
pub record IsWithout (number : ℕ) (image lesser : Image) : Type 0 where
  pub gone : file_in lesser (log_name number) ≡ None
  pub others : SameBut (log_name number) image lesser

-- A record is outdone: another data file has a record of its key that is newer.
pub record IsOutdone (image : Image) (key : List ℕ) (number at : ℕ) (item : Item) : Type 0 where
  pub file : ℕ
  pub place : ℕ
  pub other : Item
  pub there : IsRecordOf image key file place other
  pub elsewhere : file ≡ number → ⊥
  pub newer : IsNoNewer (sequence_of item, number, at) (sequence_of other, file, place)

-- A key is hidden: no other data file has a record of it, and its newest one is a removal, or a put expired at the mark.
pub record IsHidden (image : Image) (key : List ℕ) (number mark : ℕ) : Type 0 where
  pub alone : (n a : ℕ) (item : Item) → IsRecordOf image key n a item → n ≡ number
  pub hidden : (n a : ℕ) (item : Item) → IsNewest image key n a item → visible_at mark (entry_by item) ≡ None

-- each record in this data file is outdone
abbrev pub IsAllOutdone : Image → ℕ → Type 0
IsAllOutdone image number = (key : List ℕ) (at : ℕ) (item : Item) → IsRecordOf image key number at item → IsOutdone image key number at item

-- each record in this data file is outdone, or its key is hidden
abbrev pub LosesNothing : Image → ℕ → ℕ → Type 0
LosesNothing image number mark =
    (key : List ℕ) (at : ℕ) (item : Item) → IsRecordOf image key number at item → IsOutdone image key number at item ⊎ IsHidden image key number mark

-- The reading of a key at a moment: its entry, where that is visible.
pub record IsReading (image : Image) (key : List ℕ) (moment : ℕ) (reading : Option Entry) : Type 0 where
  pub entry : Option Entry
  pub has : HasEntry image key entry
  pub shown : visible_at moment entry ≡ reading

-- each key has the same reading in both images, at each moment from the mark on
abbrev pub ReadsAlike : ℕ → Image → Image → Type 0
ReadsAlike mark one other = (key : List ℕ) (moment : ℕ) (reading : Option Entry) → mark ≤ moment → (IsReading one key moment reading ↔ IsReading other key moment reading)

-- without a data file that loses nothing at the mark, where the mark stays, each key reads alike
abbrev pub FilesMayGo : Type 0
FilesMayGo = (image lesser : Image) (number mark : ℕ)
    → IsWithout number image lesser → IsMark image mark → IsMark lesser mark → LosesNothing image number mark → ReadsAlike mark image lesser

-- without a data file whose records are all outdone each key has the same entry
abbrev pub OutdoneFilesMayGo : Type 0
OutdoneFilesMayGo = (image lesser : Image) (number : ℕ) → IsWithout number image lesser → IsAllOutdone image number
    → (key : List ℕ) (entry : Option Entry) → (HasEntry image key entry ↔ HasEntry lesser key entry)

-- A data file may go: there is a stamp, the end of a frame in another data file, at a moment that no end in this one is
-- later than, and nothing is lost at that moment.
pub record MayGo (image : Image) (number : ℕ) : Type 0 where
  pub moment : ℕ
  pub stamped : ℕ
  pub at : ℕ
  pub stamp : IsCounted image stamped at (end moment)
  pub elsewhere : stamped ≡ number → ⊥
  pub latest : (a m : ℕ) → IsCounted image number a (end m) → m ≤ moment
  pub loses : LosesNothing image number moment

-- Two images are alike: they have the same marks, and each key reads alike from the mark on.
pub record AreAlike (one other : Image) : Type 0 where
  pub marks : (mark : ℕ) → (IsMark one mark ↔ IsMark other mark)
  pub readings : (mark : ℕ) → IsMark one mark → ReadsAlike mark one other

-- while the deletion of a data file that may go is pending, the image with the file and that without it are alike
abbrev pub PendingDeletionsKeep : Type 0
PendingDeletionsKeep = (image left : Image) (number : ℕ) → MayGo image number → Unmakes (log_name number) image left → AreAlike image left

-- The newest record of a key is this item, and no other one.
pub record IsNewestItem (image : Image) (key : List ℕ) (item : Item) : Type 0 where
  pub number : ℕ
  pub at : ℕ
  pub newest : IsNewest image key number at item
  pub sole : (n a : ℕ) (other : Item) → IsNewest image key n a other → other ≡ item

-- An image has more records of a key than another one: all that count there, and else copies of the newest of them.
pub record HasCopies (image more : Image) (key : List ℕ) : Type 0 where
  pub kept : (number at : ℕ) (item : Item) → IsRecordOf image key number at item → IsRecordOf more key number at item
  pub only : (number at : ℕ) (item : Item) → IsRecordOf more key number at item → IsRecordOf image key number at item ⊎ IsNewestItem image key item

-- copies of a key's newest record, wherever they stand, don't change its entry
abbrev pub CopiesKeep : Type 0
CopiesKeep = (image more : Image) (key : List ℕ) (entry : Option Entry) → HasCopies image more key → (HasEntry image key entry ↔ HasEntry more key entry)
