use Rattle.compactor.specs.Indexing.{AreUsable}
use Rattle.compactor.proofs.tests.settles.Given as goal

abbrev pub invariant-loop : goal.invariant-loop
invariant-loop g l = AreUsable l.parts
