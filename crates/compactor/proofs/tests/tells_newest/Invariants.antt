use Rattle.compactor.specs.Indexing.{AreUsable}
use Rattle.compactor.proofs.tests.tells_newest.Given as goal

abbrev pub invariant-loop-one : goal.invariant-loop-one
invariant-loop-one l = AreUsable l.parts
