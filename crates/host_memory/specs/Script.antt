-- What a source in memory is.
use Rattle.std.specs.Prelude.{ℕ, ◌==◌, min, List, length, if◌then◌else◌}

-- The bytes that are left, the numbers of the fills that fail, the greatest number of bytes of a fill (0 for no
-- limit), and the counts of fills and of faults.
pub record Script : Type 0 where
  pub rest : List ℕ
  pub fail : List ℕ
  pub piece : ℕ
  pub fills : ℕ
  pub faults : ℕ

-- how many bytes a fill gives that doesn't fail, where the buffer has so much room
abbrev pub given : Script → ℕ → ℕ
given script room = min room (if script.piece == 0 then length script.rest else min script.piece (length script.rest))
