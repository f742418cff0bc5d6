-- What is kept beside the rows of data files, and where a row stands among them.
use Rattle.std.specs.Prelude.{◌≡◌, ℕ, ◌-◌, ◌<◌, ◌≤◌, ◌^◌, List, length, All, HoldsAt, Result, Ok, Err}
use Rattle.std.specs.List.{AllWithin}
use Rattle.cache_model.specs.declared.files.FileCount.{FileCount}
use Rattle.file_stats.specs.Counts.{AreCounts}
use Rattle.file_stats.specs.Classes.{AreClassesOf}
use Rattle.file_stats.specs.Figures.{Figures, bytes_of, live_bytes_of}

-- Rows with the classes of them and of free places, and with the sums: there is room for a row at each place.
pub record AreKept (rows : List FileCount) (capacity : ℕ) (classes : List ℕ) (size_sum live_sum : ℕ) : Type 0 where
  pub counts : AreCounts rows
  pub fit : All (λ row. row.size < 2 ^ 64) rows
  pub within : length rows ≤ length classes
  pub room : length classes ≤ capacity
  pub each : AreClassesOf rows classes
  pub bytes : size_sum ≡ bytes_of rows
  pub live : live_sum ≡ live_bytes_of rows

-- the figures that are seen of rows with so many places
abbrev pub figures_of : List FileCount → ℕ → Figures
figures_of rows places = record { rows = rows; spare = places - length rows }

-- the place of a file's row, or the place where a row of it would stand
abbrev pub IsPlaceOf : ℕ → List FileCount → Result ℕ ℕ → Type 0
IsPlaceOf number rows (Ok place) = (place < length rows) × HoldsAt (λ row. row.number ≡ number) rows place
IsPlaceOf number rows (Err place) =
    (place ≤ length rows)
    × AllWithin (λ row. row.number < number) rows 0 place
    × AllWithin (λ row. number < row.number) rows place (length rows)
