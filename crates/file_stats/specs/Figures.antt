-- The figures of data files, and how they change.
use Rattle.std.specs.Prelude.{◌≡◌, ℕ, ◌+◌, ◌-◌, ◌*◌, ◌^◌, ◌<◌, ◌≤◌, ◌==◌, max, min, not, nat_lt, if◌then◌else◌, List, Contains, ◌∷◌, ◌++◌, map, filter, sum_by, All, Any, Option, Some, None}
use Rattle.cache_model.specs.declared.files.FileCount.{FileCount}

-- The rows of the files, ascending by number, and how many new files there is room for.
pub record Figures : Type 0 where
  pub rows : List FileCount
  pub spare : ℕ

-- the numbers of the files
abbrev pub numbers_of : List FileCount → List ℕ
numbers_of rows = map (λ row. row.number) rows

-- the row of a file none of whose bytes is live
abbrev pub new_row : ℕ → ℕ → FileCount
new_row number size = record { number = number; size = size; live = 0 }

-- a row, where the file has so many more bytes
abbrev pub lengthened_by : ℕ → FileCount → FileCount
lengthened_by bytes row = record { number = row.number; size = row.size + bytes; live = row.live }

-- a row, where so many more bytes are live: no more than the file has
abbrev pub grown_by : ℕ → FileCount → FileCount
grown_by bytes row = record { number = row.number; size = row.size; live = min (row.live + bytes) row.size }

-- a row, where so many fewer bytes are live: none where it has no more than these
abbrev pub shrunk_by : ℕ → FileCount → FileCount
shrunk_by bytes row = record { number = row.number; size = row.size; live = row.live - bytes }

-- a row, where this file has so many more bytes
abbrev pub lengthened : ℕ → ℕ → FileCount → FileCount
lengthened number bytes row = if row.number == number then lengthened_by bytes row else row

-- a row, where the file has at least so many bytes
abbrev pub raised_by : ℕ → FileCount → FileCount
raised_by size row = record { number = row.number; size = max row.size size; live = row.live }

-- a row, where this file has at least so many bytes
abbrev pub raised : ℕ → ℕ → FileCount → FileCount
raised number size row = if row.number == number then raised_by size row else row

-- a row, where so many more bytes of this file are live
abbrev pub grown : ℕ → ℕ → FileCount → FileCount
grown number bytes row = if row.number == number then grown_by bytes row else row

-- a row, where so many fewer bytes of this file are live
abbrev pub shrunk : ℕ → ℕ → FileCount → FileCount
shrunk number bytes row = if row.number == number then shrunk_by bytes row else row

-- the rows, and that of a new file between those of lower and those of higher numbers
abbrev pub with_new : FileCount → List FileCount → List FileCount
with_new new rows = filter (λ row. nat_lt row.number new.number) rows ++ new ∷ filter (λ row. nat_lt new.number row.number) rows

-- A file has at least so many bytes. One that had no row has one, where there was room.
pub record IsRaised (file size : ℕ) (old new : Figures) : Type 0 where
  pub had : Contains (numbers_of old.rows) file → new ≡ record old { rows = map (raised file size) old.rows }
  pub added : (Contains (numbers_of old.rows) file → ⊥) → 1 ≤ old.spare → new ≡ record { rows = with_new (new_row file size) old.rows; spare = old.spare - 1 }

-- the rows of the other files
abbrev pub without : ℕ → List FileCount → List FileCount
without number rows = filter (λ row. not (row.number == number)) rows

-- the sizes of the files together
abbrev pub bytes_of : List FileCount → ℕ
bytes_of rows = sum_by (λ row. row.size) rows

-- their live bytes together
abbrev pub live_bytes_of : List FileCount → ℕ
live_bytes_of rows = sum_by (λ row. row.live) rows

-- a number, or the greatest one of 64 bits where it is above that
abbrev pub capped : ℕ → ℕ
capped n = min n (2 ^ 64 - 1)

-- A file other than the current one, of whose bytes fewer than so many percent are live.
pub record IsCandidate (threshold : ℕ) (current : Option ℕ) (row : FileCount) : Type 0 where
  pub other : current ≡ Some row.number → ⊥
  pub sparse : row.live * 100 < threshold * row.size

-- the least number among the candidates, none where no file is one
abbrev pub IsLeastCandidate : ℕ → Option ℕ → List FileCount → Option ℕ → Type 0
IsLeastCandidate threshold current rows None = All (λ row. IsCandidate threshold current row → ⊥) rows
IsLeastCandidate threshold current rows (Some number) =
    Any (λ row. (row.number ≡ number) × IsCandidate threshold current row) rows
    × All (λ row. IsCandidate threshold current row → number ≤ row.number) rows
