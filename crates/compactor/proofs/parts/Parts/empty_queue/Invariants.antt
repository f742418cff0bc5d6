use Rattle.std.specs.Prelude.{length}
use Rattle.compactor.proofs.Emptying.{Emptying}
use Rattle.compactor.proofs.parts.Parts.empty_queue.Given as goal

abbrev pub invariant-loop-self : goal.invariant-loop-self
invariant-loop-self g l = Emptying l.fn.self l.self g.H.Host.tells (g.H.Host.state l.fn.host) (g.H.Host.state l.host)

abbrev pub decreases-loop-self : goal.decreases-loop-self
decreases-loop-self g l = length l.self.requests.waiting
