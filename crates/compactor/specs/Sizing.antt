-- How the sizes of the data files go along with what is written.
use Rattle.std.specs.Prelude.{◌≡◌, ℕ, ◌+◌, ◌==◌, Bool, if◌then◌else◌, Option, Some, None}
use Rattle.file_stats.specs.Figures.{Figures, IsRaised, capped}

-- the current file, its size, and whether something in it waits for a seal
abbrev pub Tail : Type 0
Tail = ℕ × ℕ × Bool

-- the size of a file that was closed: where something waited, the end of its frame was written to it
abbrev pub closed_size : ℕ → Bool → ℕ
closed_size size unsealed = if unsealed then capped (size + 10) else size

-- a file that was closed, with its size, by the current file before and after something was written
abbrev pub closed_tail : Option Tail → Option Tail → Option (ℕ × ℕ)
closed_tail None after = None
closed_tail (Some tail) None = Some (tail.0, closed_size tail.1 tail.2)
closed_tail (Some tail) (Some next) = if tail.0 == next.0 then None else Some (tail.0, closed_size tail.1 tail.2)

-- the current file with its size
abbrev pub sized_tail : Option Tail → Option (ℕ × ℕ)
sized_tail None = None
sized_tail (Some tail) = Some (tail.0, tail.1)

-- a file has at least so many bytes, where one is given
abbrev pub RaisesTo : Option (ℕ × ℕ) → Figures → Figures → Type 0
RaisesTo None old new = new ≡ old
RaisesTo (Some file) old new = IsRaised file.0 file.1 old new

-- The statistics were brought up to what was written, by the current file before and after it: first a file that was
-- closed, and then the current one.
pub record CountsWritten (before after : Option Tail) (old new : Figures) : Type 0 where
  pub between : Figures
  pub closed : RaisesTo (closed_tail before after) old between
  pub current : RaisesTo (sized_tail after) between new
