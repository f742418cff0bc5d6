-- What a directory's data files say, as they read or as a crash left them.
use Rattle.std.specs.Prelude.{◌≡◌, ◌⊎◌, ◌↔◌, ℕ, ◌<◌, ◌≤◌, List, Option, Some, None, Contains}
use Rattle.std.specs.FinMap.{get}
use Rattle.cache_model.specs.declared.entries.Entry.{Entry}
use Rattle.cache_model.specs.declared.faults.BadKind.{BadKind}
use Rattle.cache_model.specs.declared.files.FileKind.TheVariants.{Log}
use Rattle.cache_model.specs.declared.files.FileName.{FileName}
use Rattle.cache_model.specs.Files.{Image, file_in}
use Rattle.cache_model.specs.Items.{Item, put, removal, end}
use Rattle.cache_model.specs.DataFiles.{counted_items, first_damage, IsUndamaged}
use Rattle.cache_model.specs.Plain.{Plain}

-- the data file of the main store with this number
abbrev pub log_name : ℕ → FileName
log_name number = record { kind = Log; store = 0; id = number }

-- An item counts in an image: it stands in a counted frame of the data file with this number, at this offset.
pub record IsCounted (image : Image) (number at : ℕ) (item : Item) : Type 0 where
  pub bytes : List ℕ
  pub there : file_in image (log_name number) ≡ Some bytes
  pub counted : Contains (counted_items bytes) (at, item)

-- the same records and ends count in both images
abbrev pub SameRecords : Image → Image → Type 0
SameRecords old new = (number at : ℕ) (item : Item) → (IsCounted new number at item ↔ IsCounted old number at item)

-- the key of a record
abbrev pub key_of : Item → Option (List ℕ)
key_of (put seq until key value) = Some key
key_of (removal seq key) = Some key
key_of (end moment) = None

-- the sequence number of a record
abbrev pub sequence_of : Item → ℕ
sequence_of (put seq until key value) = seq
sequence_of (removal seq key) = seq
sequence_of (end moment) = 0

-- the entry that a record puts, none where it removes its key
abbrev pub entry_by : Item → Option Entry
entry_by (put seq until key value) = Some (record { value = value; until = until })
entry_by (removal seq key) = None
entry_by (end moment) = None

-- one of two records of a key isn't newer than the other: by the sequence number, then the file, then the offset
abbrev pub IsNoNewer : ℕ × ℕ × ℕ → ℕ × ℕ × ℕ → Type 0
IsNoNewer one other = (one.0 < other.0) ⊎ ((one.0 ≡ other.0) × ((one.1 < other.1) ⊎ ((one.1 ≡ other.1) × (one.2 ≤ other.2))))

-- A record of a key counts in an image, and no other record of the key that counts there is newer.
pub record IsNewest (image : Image) (key : List ℕ) (number at : ℕ) (item : Item) : Type 0 where
  pub counted : IsCounted image number at item
  pub of_key : key_of item ≡ Some key
  pub newest : (n a : ℕ) (other : Item) → IsCounted image n a other → key_of other ≡ Some key → IsNoNewer (sequence_of other, n, a) (sequence_of item, number, at)

-- no record of a key counts
abbrev pub HasNoRecord : Image → List ℕ → Type 0
HasNoRecord image key = (n a : ℕ) (item : Item) → IsCounted image n a item → key_of item ≡ Some key → ⊥

-- the entry of a key, or none, by its newest record
abbrev pub HasEntry : Image → List ℕ → Option Entry → Type 0
HasEntry image key entry =
    (HasNoRecord image key × (entry ≡ None))
    ⊎ ((number : ℕ) × (at : ℕ) × (item : Item) × IsNewest image key number at item × (entry ≡ entry_by item))

-- no frame that counts has a moment above this one
abbrev pub IsMarkBound : Image → ℕ → Type 0
IsMarkBound image moment = (n a m : ℕ) → IsCounted image n a (end m) → m ≤ moment

-- The mark of an image: the greatest moment of its counted frames, or 0.
pub record IsMark (image : Image) (mark : ℕ) : Type 0 where
  pub bound : IsMarkBound image mark
  pub reached : (mark ≡ 0) ⊎ ((n : ℕ) × (a : ℕ) × IsCounted image n a (end mark))

-- each data file of the main store is undamaged
abbrev pub IsSound : Image → Type 0
IsSound image = (number : ℕ) (bytes : List ℕ) → file_in image (log_name number) ≡ Some bytes → IsUndamaged bytes

-- The first damage of an image: that of the data file with the least number that has one.
pub record IsFirstDamage (image : Image) (number at : ℕ) (kind : BadKind) : Type 0 where
  pub bytes : List ℕ
  pub there : file_in image (log_name number) ≡ Some bytes
  pub damage : first_damage bytes ≡ Some (at, kind)
  pub first : (n : ℕ) (other : List ℕ) → n < number → file_in image (log_name n) ≡ Some other → IsUndamaged other

-- An image is sound, has these entries for all keys, and no frame of it has a moment above the plain map's.
pub record Reads (image : Image) (plain : Plain) : Type 0 where
  pub sound : IsSound image
  pub entries : (key : List ℕ) → HasEntry image key (get plain.entries key)
  pub mark : IsMarkBound image plain.moment
