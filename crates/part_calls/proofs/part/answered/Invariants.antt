use Rattle.std.proofs.Common.{◌≤◌}
use Rattle.part_calls.proofs.part.answered.Given as goal

-- no more than the calls so far
abbrev pub invariant-loop-call : goal.invariant-loop-call
invariant-loop-call g l = l.count ≤ l.call
