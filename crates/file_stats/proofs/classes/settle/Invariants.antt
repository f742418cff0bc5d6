use Rattle.std.proofs.Common.{◌*◌, ◌≤◌, length}
use Rattle.file_stats.specs.Classes.{IsSettledFrom, SameLeaves}
use Rattle.file_stats.proofs.classes.settle.Given as goal

-- the nodes from here on are settled
abbrev pub invariant-loop-at : goal.invariant-loop-at
invariant-loop-at l = record {
  settled : IsSettledFrom l.at l.nodes;
  leaves : SameLeaves l.fn.nodes l.nodes;
  within : 2 * l.at ≤ length l.nodes;
}

abbrev pub decreases-loop-at : goal.decreases-loop-at
decreases-loop-at l = l.at
