use Rattle.compactor.specs.Indexing.{AreUsable}
use Rattle.compactor.proofs.tests.run.Given as goal

abbrev pub invariant-loop-one : goal.invariant-loop-one
invariant-loop-one g l = AreUsable l.parts
