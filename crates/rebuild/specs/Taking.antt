-- What an index and figures stand for, once some items of data files were taken.
use Rattle.std.specs.Prelude.{◌≡◌, ◌⊎◌, ℕ, ◌+◌, ◌-◌, ◌^◌, ◌<◌, ◌≤◌, ◌==◌, ◌&&◌, min, Bool, false, List, [], ◌∷◌, length, map, flat_map, sum_by, count_by, All, Contains, Option, Some, None, is_some, if◌then◌else◌}
use Rattle.cache_model.specs.declared.files.FileCount.{FileCount}
use Rattle.cache_model.specs.declared.index.IndexKey.{IndexKey}
use Rattle.cache_model.specs.declared.index.IndexValue.{IndexValue}
use Rattle.cache_model.specs.Files.{Image, bytes_in}
use Rattle.cache_model.specs.Hash.{hash}
use Rattle.cache_model.specs.Items.{Item, end, spelling}
use Rattle.cache_model.specs.DataFiles.{counted_items}
use Rattle.cache_model.specs.Images.{log_name, key_of, sequence_of, IsNoNewer}
use Rattle.tree_index.specs.Index.{Entries, value_at}
use Rattle.rebuild.specs.Rebuilt.{is_of, is_removal}
use Rattle.record_format.specs.Meaning.{own_item}
use Rattle.data_file.specs.declared.scan.Scanned.{Scanned}
use Rattle.rebuild.specs.declared.figures.Figures.{Figures}
use Rattle.rebuild.specs.declared.newest.Record.{Record}

-- An item that counts, with its file's number and its offset there.
pub record Counted : Type 0 where
  pub number : ℕ
  pub at : ℕ
  pub item : Item

-- the items of one file
abbrev pub counted_in : ℕ → List (ℕ × Item) → List Counted
counted_in number placed = map (λ p. record { number = number; at = p.0; item = p.1 }) placed

-- the items that count in these data files
abbrev pub counted_of : Image → List ℕ → List Counted
counted_of files numbers = flat_map (λ n. counted_in n (counted_items (bytes_in files (log_name n)))) numbers

-- both stand at the same place
abbrev pub IsSamePlace : Counted → Counted → Type 0
IsSamePlace one other = (one.number ≡ other.number) × (one.at ≡ other.at)

-- no two of these items stand at the same place
abbrev pub AreApart : List Counted → Type 0
AreApart [] = Unit {0}
AreApart (one ∷ rest) = ((other : Counted) → Contains rest other → IsSamePlace one other → ⊥) × AreApart rest

-- each of these items counts in its file
abbrev pub AreIn : Image → List Counted → Type 0
AreIn files counted = (one : Counted) → Contains counted one → Contains (counted_items (bytes_in files (log_name one.number))) (one.at, one.item)

-- how many bytes of a file these items have
abbrev pub bytes_of : ℕ → List Counted → ℕ
bytes_of number counted = sum_by (λ one. if one.number == number then length (spelling one.item) else 0) counted

-- An entry stands for the newest record of a key among these items, and counts all of them.
pub record IsEntryAmong (counted : List Counted) (bits : ℕ) (key : List ℕ) (place : IndexKey) (value : IndexValue) : Type 0 where
  pub item : Item
  pub among : Contains counted (record { number = place.file; at = place.at; item = item })
  pub of_key : key_of item ≡ Some key
  pub newest : (other : Counted) → Contains counted other → key_of other.item ≡ Some key → IsNoNewer (sequence_of other.item, other.number, other.at) (sequence_of item, place.file, place.at)
  pub hashed : place.hash ≡ hash bits key
  pub long : value.length ≡ length (spelling item)
  pub gone : value.gone ≡ is_removal item
  pub many : value.count ≡ min (count_by (λ one. is_of key one.item) counted) (2 ^ 64 - 1)

-- a key has an entry that stands for its newest record among these items
abbrev pub IsIndexedAmong : List Counted → ℕ → Entries → List ℕ → Type 0
IsIndexedAmong counted bits entries key = (place : IndexKey) × (value : IndexValue) × (value_at entries place ≡ Some value) × IsEntryAmong counted bits key place value

-- whether an item has an entry, by its key
abbrev pub has_entry : ℕ → Entries → ℕ → ℕ → Option (List ℕ) → Bool
has_entry bits entries number at None = false
has_entry bits entries number at (Some key) = is_some (value_at entries (record { hash = hash bits key; file = number; at = at }))

-- the length of an item, where it is of this file and has an entry
abbrev pub live_part : ℕ → Entries → ℕ → Counted → ℕ
live_part bits entries number one = if one.number == number && has_entry bits entries one.number one.at (key_of one.item) then length (spelling one.item) else 0

-- how many bytes of a file are of items that have an entry
abbrev pub live_of : ℕ → Entries → ℕ → List Counted → ℕ
live_of bits entries number counted = sum_by (live_part bits entries number) counted

-- A row is a file's size, and how many of its bytes are live among these items.
pub record IsRowAmong (files : Image) (bits : ℕ) (entries : Entries) (counted : List Counted) (row : FileCount) : Type 0 where
  pub size : row.size ≡ length (bytes_in files (log_name row.number))
  pub live : row.live ≡ live_of bits entries row.number counted

-- a number is one above the sequence number of a record among these items, or 1
abbrev pub IsReachedBy : List Counted → ℕ → Type 0
IsReachedBy counted next = (next ≡ 1) ⊎ ((other : Counted) × (key : List ℕ) × Contains counted other × (key_of other.item ≡ Some key) × (next ≡ sequence_of other.item + 1))

-- The next sequence number and the mark of these items: one above the greatest number of their records, or 1, and the
-- greatest moment of their ends, or 0.
pub record AreFiguresOf (counted : List Counted) (next mark : ℕ) : Type 0 where
  pub above : (other : Counted) (key : List ℕ) → Contains counted other → key_of other.item ≡ Some key → sequence_of other.item < next
  pub reached_next : IsReachedBy counted next
  pub bound : (n a m : ℕ) → Contains counted (record { number = n; at = a; item = end m }) → m ≤ mark
  pub reached : (mark ≡ 0) ⊎ ((n : ℕ) × (a : ℕ) × Contains counted (record { number = n; at = a; item = end mark }))

-- An index has just one entry for each key that has a record among these items, and no others.
pub record IsIndexAmong (counted : List Counted) (bits : ℕ) (entries : Entries) : Type 0 where
  pub newest : (place : IndexKey) (value : IndexValue) → value_at entries place ≡ Some value → (key : List ℕ) × IsEntryAmong counted bits key place value
  pub whole : (one : Counted) (key : List ℕ) → Contains counted one → key_of one.item ≡ Some key → IsIndexedAmong counted bits entries key
  pub apart : AreApart counted

-- The index and the figures stand for these items.
pub record StandsForItems (files : Image) (bits : ℕ) (entries : Entries) (figures : Figures) (counted : List Counted) : Type 0 where
  pub index : IsIndexAmong counted bits entries
  pub rows : All (IsRowAmong files bits entries counted) figures.rows
  pub others : AreFiguresOf counted figures.next_seq figures.mark

-- one item stands in front of another: in a file with a lower number, or in the same file at a lower offset
abbrev pub IsInFrontOf : Counted → Counted → Type 0
IsInFrontOf one other = (one.number < other.number) ⊎ ((one.number ≡ other.number) × (one.at < other.at))

-- One item more can follow these: they stand in front of it, and its file has room for it beside them.
pub record IsNextItem (files : Image) (counted : List Counted) (one : Counted) : Type 0 where
  pub within : AreIn files counted
  pub behind : (other : Counted) → Contains counted other → IsInFrontOf other one
  pub fits : bytes_of one.number counted + length (spelling one.item) ≤ length (bytes_in files (log_name one.number))

-- a record as it is taken: what stands at its place
abbrev pub counted_by : Record → Item → Counted
counted_by one item = record { number = one.place.file; at = one.place.at; item = item }

-- A record as it is taken is this item.
pub record IsRecordOf (one : Record) (item : Item) : Type 0 where
  pub of_key : key_of item ≡ Some one.key
  pub seq : one.seq ≡ sequence_of item
  pub long : one.place.length ≡ length (spelling item)
  pub gone : one.gone ≡ is_removal item

-- what a scan gave, with its place
abbrev pub counted_one : Scanned → Counted
counted_one one = record { number = one.place.file; at = one.place.at; item = own_item one.item }

-- The items of a file can follow these: they count in files with lower numbers.
pub record IsNextFileOf (files : Image) (counted : List Counted) (number : ℕ) : Type 0 where
  pub within : AreIn files counted
  pub lower : (one : Counted) → Contains counted one → one.number < number
