-- The rows of data files while they are read.
use Rattle.std.specs.Prelude.{◌≡◌, ℕ, ◌+◌, ◌-◌, ◌<◌, ◌==◌, min, List, length, map, All, Option, Some, None, if◌then◌else◌}
use Rattle.std.specs.List.{HoldsAt}
use Rattle.cache_model.specs.declared.files.FileCount.{FileCount}

-- the numbers of the files
abbrev pub numbers_of : List FileCount → List ℕ
numbers_of rows = map (λ row. row.number) rows

-- the row of a file without live bytes
abbrev pub new_row : ℕ → ℕ → FileCount
new_row number size = record { number = number; size = size; live = 0 }

-- a row, where so many more bytes are live: no more than the file has
abbrev pub grown_by : ℕ → FileCount → FileCount
grown_by bytes row = record { number = row.number; size = row.size; live = min (row.live + bytes) row.size }

-- a row, where so many fewer bytes are live
abbrev pub shrunk_by : ℕ → FileCount → FileCount
shrunk_by bytes row = record { number = row.number; size = row.size; live = row.live - bytes }

-- a row, where so many more bytes of this file are live
abbrev pub grown : ℕ → ℕ → FileCount → FileCount
grown number bytes row = if row.number == number then grown_by bytes row else row

-- a row, where so many fewer bytes of this file are live
abbrev pub shrunk : ℕ → ℕ → FileCount → FileCount
shrunk number bytes row = if row.number == number then shrunk_by bytes row else row

-- the place of a file's row, none where it has no row
abbrev pub IsPlaceOf : ℕ → List FileCount → Option ℕ → Type 0
IsPlaceOf number rows None = All (λ row. row.number ≡ number → ⊥) rows
IsPlaceOf number rows (Some place) = (place < length rows) × HoldsAt (λ row. row.number ≡ number) rows place
