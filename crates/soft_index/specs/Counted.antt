-- The statistics of the data files, and how they go along with what is written.
use Rattle.std.specs.Prelude.{◌≡◌, ◌↔◌, ℕ, length, All, Contains, IsSome}
use Rattle.std.specs.List.Sorted.{IsStrictlyIncreasing}
use Rattle.cache_model.specs.Files.{file_in, bytes_in}
use Rattle.cache_model.specs.Images.{log_name}
use Rattle.file_stats.specs.Figures.{numbers_of}
use Rattle.compactor.specs.declared.parts.Parts.{Parts}
use Rattle.compactor.specs.Counting.{Kept}
use Rattle.compactor.specs.Figuring.{AreFigured}
pub use Rattle.compactor.specs.Sizing.{CountsWritten, RaisesTo, Tail, closed_size, closed_tail, sized_tail}

-- The statistics have one row for each data file that is there, of its size as it reads. Its live bytes are those of the
-- records that the index has entries of.
pub record AreCounted (kept : Kept) (parts : Parts) : Type 0 where
  pub ascend : IsStrictlyIncreasing (numbers_of parts.stats.rows)
  pub each : (n : ℕ) → (Contains (numbers_of parts.stats.rows) n ↔ IsSome (file_in kept.files (log_name n)))
  pub sizes : All (λ row. row.size ≡ length (bytes_in kept.files (log_name row.number))) parts.stats.rows
  pub live : AreFigured kept parts
