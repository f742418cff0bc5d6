-- An index and figures that say just what data files hold.
use Rattle.std.specs.Prelude.{◌≡◌, ◌↔◌, ℕ, ◌-◌, ◌^◌, ◌<◌, ◌≤◌, min, Bool, true, false, IsTrue, List, length, filter, sum_by, count_by, All, Contains, Some, IsSome}
use Rattle.std.specs.Str.{bytes_eq}
use Rattle.cache_model.specs.declared.files.FileCount.{FileCount}
use Rattle.cache_model.specs.declared.index.IndexKey.{IndexKey}
use Rattle.cache_model.specs.declared.index.IndexValue.{IndexValue}
use Rattle.cache_model.specs.Files.{Image, file_in, bytes_in}
use Rattle.cache_model.specs.Hash.{hash}
use Rattle.cache_model.specs.Items.{Item, put, removal, end, spelling}
use Rattle.cache_model.specs.DataFiles.{counted_items}
use Rattle.cache_model.specs.Images.{log_name, key_of, IsCounted, IsMark, IsNewest}
use Rattle.cache_model.specs.Numbers.{IsNextSequence, IsNextFile}
use Rattle.cache_disk.specs.State.{HostState, SameFiles, Silent, Moves}
use Rattle.file_stats.specs.declared.file_list.Found.{Found}
use Rattle.tree_index.specs.Index.{AreOrdered, Entries, Index, value_at}
use Rattle.rebuild.specs.Listing.{IsNumber}
use Rattle.rebuild.specs.Rows.{numbers_of}

-- whether an item is a record of a key
abbrev pub is_of : List ℕ → Item → Bool
is_of key (put seq until other value) = bytes_eq other key
is_of key (removal seq other) = bytes_eq other key
is_of key (end moment) = false

-- whether an item removes its key
abbrev pub is_removal : Item → Bool
is_removal (put seq until key value) = false
is_removal (removal seq key) = true
is_removal (end moment) = false

-- how many records of a key count in a data file
abbrev pub count_in : Image → List ℕ → ℕ → ℕ
count_in files key number = count_by (λ one. is_of key one.1) (counted_items (bytes_in files (log_name number)))

-- how many records of a key count in the data files with these numbers
abbrev pub count_of : Image → List ℕ → List ℕ → ℕ
count_of files numbers key = sum_by (count_in files key) numbers

-- An entry of an index stands for the newest record of a key. Its count is that of all records of the key, as far as a
-- count goes.
pub record IsEntryOf (files : Image) (numbers : List ℕ) (bits : ℕ) (key : List ℕ) (place : IndexKey) (value : IndexValue) : Type 0 where
  pub item : Item
  pub newest : IsNewest files key place.file place.at item
  pub hashed : place.hash ≡ hash bits key
  pub long : value.length ≡ length (spelling item)
  pub gone : value.gone ≡ is_removal item
  pub many : value.count ≡ min (count_of files numbers key) (2 ^ 64 - 1)

-- a key has an entry in an index
abbrev pub IsIndexed : Image → List ℕ → ℕ → Entries → List ℕ → Type 0
IsIndexed files numbers bits entries key = (place : IndexKey) × (value : IndexValue) × (value_at entries place ≡ Some value) × IsEntryOf files numbers bits key place value

-- An index has just one entry for each key that has a record that counts, and no others.
pub record IsIndexOf (files : Image) (numbers : List ℕ) (bits : ℕ) (entries : Entries) : Type 0 where
  pub newest : (place : IndexKey) (value : IndexValue) → value_at entries place ≡ Some value → (key : List ℕ) × IsEntryOf files numbers bits key place value
  pub whole : (n a : ℕ) (item : Item) (key : List ℕ) → IsCounted files n a item → key_of item ≡ Some key → IsIndexed files numbers bits entries key
  pub single : (key : List ℕ) (one other : IndexKey) (v w : IndexValue) → value_at entries one ≡ Some v → IsEntryOf files numbers bits key one v → value_at entries other ≡ Some w → IsEntryOf files numbers bits key other w → one ≡ other

-- an item of a data file is the newest record of its key
abbrev pub IsLive : Image → ℕ → ℕ × Item → Type 0
IsLive files number one = (key : List ℕ) × IsNewest files key number one.0 one.1

-- How many bytes of a data file are live: a test tells which of its items are the newest records of their keys, and the
-- lengths of these add up to that.
pub record HasLive (files : Image) (number live : ℕ) : Type 0 where
  pub is_live : ℕ × Item → Bool
  pub just : (one : ℕ × Item) → Contains (counted_items (bytes_in files (log_name number))) one → (IsTrue (is_live one) ↔ IsLive files number one)
  pub adds_up : live ≡ sum_by (λ one. length (spelling one.1)) (filter is_live (counted_items (bytes_in files (log_name number))))

-- A row is a data file's size and its live bytes.
pub record IsRowOf (files : Image) (row : FileCount) : Type 0 where
  pub size : row.size ≡ length (bytes_in files (log_name row.number))
  pub live : HasLive files row.number row.live

-- Each data file has a row, and nothing else has.
pub record AreRowsOf (files : Image) (rows : List FileCount) : Type 0 where
  pub each : (n : ℕ) → (Contains (numbers_of rows) n ↔ IsSome (file_in files (log_name n)))
  pub figures : All (IsRowOf files) rows

-- The index and what was found say just what the data files hold.
pub record IsRebuilt (files : Image) (bits : ℕ) (entries : Entries) (found : Found) : Type 0 where
  pub index : IsIndexOf files (numbers_of found.files) bits entries
  pub rows : AreRowsOf files found.files
  pub next_file : IsNextFile files found.next_file
  pub next_seq : IsNextSequence files found.next_seq
  pub mark : IsMark files found.mark

-- each entry of an index is of a file that there may be
abbrev pub AreNumbered : Entries → Type 0
AreNumbered entries = (place : IndexKey) (value : IndexValue) → value_at entries place ≡ Some value → IsNumber place.file

-- An index goes by these bits, its entries stand in order, and each is of a file that there may be.
pub record IsInOrder (bits : ℕ) (tree : Index) : Type 0 where
  pub bits_are : tree.bits ≡ bits
  pub ordered : AreOrdered tree.entries
  pub numbered : AreNumbered tree.entries

-- The index is in order, and the numbers that were found are in their ranges: so is that of each file.
pub record IsBounded (bits : ℕ) (tree : Index) (found : Found) : Type 0 where
  pub index : IsInOrder bits tree
  pub files : All IsNumber (numbers_of found.files)
  pub next_file : (1 ≤ found.next_file) × (found.next_file ≤ 4294967295)
  pub next_seq : (1 ≤ found.next_seq) × (found.next_seq ≤ 2 ^ 62)
  pub mark : found.mark < 2 ^ 61

-- The files were read, and were told to outlast a crash: each is as it was, and so is each image.
pub record IsRead (old new : HostState) : Type 0 where
  pub files : SameFiles old.files new.files
  pub images : Moves old new SameFiles
  pub silent : Silent old new
