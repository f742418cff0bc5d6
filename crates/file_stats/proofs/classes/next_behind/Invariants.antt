use Rattle.std.proofs.Common.{◌-◌}
use Rattle.file_stats.proofs.Descents.{IsClimb}
use Rattle.file_stats.proofs.classes.next_behind.Given as goal

abbrev pub invariant-loop-level : goal.invariant-loop-level
invariant-loop-level l = IsClimb l.nodes l.limit l.leaf (l.height - l.level) l.level l.at
