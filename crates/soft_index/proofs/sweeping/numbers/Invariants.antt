use Rattle.std.proofs.Common.{◌≡◌, take}
use Rattle.file_stats.specs.Figures.{numbers_of}
use Rattle.soft_index.proofs.sweeping.numbers.Given as goal

abbrev pub invariant-loop-row : goal.invariant-loop-row
invariant-loop-row l = l.numbers.items ≡ numbers_of (take l.row-index l.rows)
