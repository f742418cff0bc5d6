use Rattle.std.proofs.Common.{◌≡◌, ℕ, ◌+◌, ◌<◌, get_or}
use Rattle.file_stats.specs.Classes.{class_at}
use Rattle.file_stats.proofs.classes.write_leaves.Given as goal

-- the leaves before the place are written
abbrev pub invariant-loop-place : goal.invariant-loop-place
invariant-loop-place l = (k : ℕ) → k < l.place → get_or l.nodes (l.half + k) 0 ≡ class_at l.rows k
