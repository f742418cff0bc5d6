-- What a recount of the data files gives: how many there are, how large they are, and how many of their bytes are live.
use Rattle.std.specs.Prelude.{◌≡◌, ◌↔◌, ℕ, ◌==◌, Bool, true, false, List, [], length, filter, All, Contains, sum_by, count_by, Option, Some, None, IsSome, IsTrue, if◌then◌else◌}
use Rattle.std.specs.List.Sorted.{IsStrictlyIncreasing}
use Rattle.cache_model.specs.declared.files.FileCount.{FileCount}
use Rattle.cache_model.specs.Files.{Image, file_in, bytes_in}
use Rattle.cache_model.specs.Items.{Item, IsRecord, spelling, put, removal, end}
use Rattle.cache_model.specs.DataFiles.{Frame, AreFrames, counted_items}
use Rattle.cache_model.specs.Images.{log_name}
use Rattle.data_file.specs.Appending.{written}
use Rattle.data_file.proofs.Frame.{placed_of}
use Rattle.file_stats.specs.Figures.{numbers_of, capped, IsLeastCandidate}
use Rattle.compactor.specs.Counting.{Kept, counts_in, IsNewestBy}

-- The current file holds these items: those of its frames and the records behind them.
pub record HoldsItems (files : Image) (number : ℕ) (items : List (ℕ × Item)) : Type 0 where
  pub frames : List Frame
  pub records : List Item
  pub in_grammar : AreFrames frames
  pub are_records : All IsRecord records
  pub reads : file_in files (log_name number) ≡ Some (written frames records)
  pub items_are : items ≡ placed_of frames records

-- the items of the current file, or none where there is none
abbrev pub IsCurrent : Image → Option ℕ → Kept → Type 0
IsCurrent files None kept = (file_in files (log_name kept.number) ≡ None) × (kept.items ≡ [])
IsCurrent files (Some number) kept = (kept.number ≡ number) × HoldsItems files number kept.items

-- What is written to the data files: the items of the current file, sealed or not, and what counts in the other files as
-- they read.
pub record IsWrittenTo (files : Image) (current : Option ℕ) (kept : Kept) : Type 0 where
  pub files_are : kept.files ≡ files
  pub current_is : IsCurrent files current kept

-- the items that are written to a data file
abbrev pub items_of : Kept → ℕ → List (ℕ × Item)
items_of kept number = if number == kept.number then kept.items else counted_items (bytes_in kept.files (log_name number))

-- whether an item is a record
abbrev pub is_record : Item → Bool
is_record (put seq until key value) = true
is_record (removal seq key) = true
is_record (end moment) = false

-- how many records are written to a data file
abbrev pub record_count : Kept → ℕ → ℕ
record_count kept number = count_by (λ one. is_record one.1) (items_of kept number)

-- an item of a data file is the newest record of its key
abbrev pub IsLiveIn : Kept → ℕ → ℕ × Item → Type 0
IsLiveIn kept number one = (key : List ℕ) × IsNewestBy (counts_in kept) key number one.0 one.1

-- How many bytes of a data file are live: a test tells which of its items are the newest records of their keys, and the
-- lengths of these add up to that.
pub record HasLiveIn (kept : Kept) (number live : ℕ) : Type 0 where
  pub is_live : ℕ × Item → Bool
  pub just : (one : ℕ × Item) → Contains (items_of kept number) one → (IsTrue (is_live one) ↔ IsLiveIn kept number one)
  pub adds_up : live ≡ sum_by (λ one. length (spelling one.1)) (filter is_live (items_of kept number))

-- A row is a data file's size as it reads, and its live bytes.
pub record IsRowIn (kept : Kept) (row : FileCount) : Type 0 where
  pub size : row.size ≡ length (bytes_in kept.files (log_name row.number))
  pub live : HasLiveIn kept row.number row.live

-- Each data file has one row, and nothing else has.
pub record AreRowsIn (kept : Kept) (rows : List FileCount) : Type 0 where
  pub ascend : IsStrictlyIncreasing (numbers_of rows)
  pub each : (n : ℕ) → (Contains (numbers_of rows) n ↔ IsSome (file_in kept.files (log_name n)))
  pub figures : All (IsRowIn kept) rows

-- The rows of the data files, with a current file or none.
pub record IsRecounted (files : Image) (current : Option ℕ) (rows : List FileCount) : Type 0 where
  pub kept : Kept
  pub written_are : IsWrittenTo files current kept
  pub rows_are : AreRowsIn kept rows

-- how many files there are, their sizes together and their live bytes together, each capped at the greatest number
abbrev pub totals_of : List FileCount → ℕ × ℕ × ℕ
totals_of rows = (capped (length rows), capped (sum_by (λ row. row.size) rows), capped (sum_by (λ row. row.live) rows))

-- these are the figures of a recount
abbrev pub IsRecount : Image → Option ℕ → ℕ × ℕ × ℕ → Type 0
IsRecount files current figures = (rows : List FileCount) × IsRecounted files current rows × (figures ≡ totals_of rows)

-- the candidate of a recount, or that there is none: the least number of a file, other than the current one, of whose
-- bytes fewer than so many percent are live
abbrev pub IsCandidateOf : Image → Option ℕ → ℕ → Option ℕ → Type 0
IsCandidateOf files current threshold candidate = (rows : List FileCount) × IsRecounted files current rows × IsLeastCandidate threshold current rows candidate

-- a closed file: it is there, and isn't the current one
abbrev pub IsClosedFile : Image → Option ℕ → ℕ → Type 0
IsClosedFile files current number = IsSome (file_in files (log_name number)) × (current ≡ Some number → ⊥)

-- how many records count in a closed file, as it reads
abbrev pub counted_records : Image → ℕ → ℕ
counted_records files number = count_by (λ one. is_record one.1) (counted_items (bytes_in files (log_name number)))
