use Rattle.std.proofs.Common.{◌≡◌, ℕ, ◌+◌, ◌*◌, ◌/◌, ◌<◌, ◌≤◌, length, set}
use Rattle.file_stats.specs.Classes.{IsLesser, SameLeaves}
use Rattle.file_stats.proofs.classes.put.Given as goal

-- of the nodes with children only the parent of this one may be unsettled
abbrev pub invariant-loop-at : goal.invariant-loop-at
invariant-loop-at l = record {
  settled : (i : ℕ) → 1 ≤ i → 2 * i + 1 < length l.nodes → (i ≡ l.at / 2 → ⊥) → IsLesser l.nodes i;
  leaves : SameLeaves (set l.fn.nodes l.leaf l.class) l.nodes;
  within : l.at < length l.nodes;
}

abbrev pub decreases-loop-at : goal.decreases-loop-at
decreases-loop-at l = l.at
