use Rattle.std.proofs.Common.{◌+◌, ◌-◌, ◌*◌, ◌^◌}
use Rattle.file_stats.proofs.Descents.{IsWay}
use Rattle.file_stats.proofs.classes.first_under.Given as goal

abbrev pub invariant-loop-level : goal.invariant-loop-level
invariant-loop-level l = IsWay l.nodes l.limit (l.node * 2 ^ l.levels) ((l.node + 1) * 2 ^ l.levels) (l.levels - l._level) l.at
