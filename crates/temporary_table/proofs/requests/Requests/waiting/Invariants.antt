use Rattle.std.proofs.Common.{length}
use Rattle.temporary_table.specs.Chains.{requests_of}
use Rattle.temporary_table.proofs.Counting.{left_of, IsCounted}
use Rattle.temporary_table.proofs.requests.Requests.waiting.Given as goal

-- those that are left and what was counted are all
abbrev pub invariant-loop-next : goal.invariant-loop-next
invariant-loop-next l = IsCounted (length l.self-inside.newest.items) l.key (requests_of l.self-inside.queue.items) l.next l.raising l.lowering

abbrev pub decreases-loop-next : goal.decreases-loop-next
decreases-loop-next l = left_of l.next
