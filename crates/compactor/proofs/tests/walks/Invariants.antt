use Rattle.compactor.specs.Indexing.{AreUsable}
use Rattle.compactor.proofs.tests.walks.Given as goal

abbrev pub invariant-loop-key : goal.invariant-loop-key
invariant-loop-key g l = AreUsable l.parts
