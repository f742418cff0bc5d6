use Rattle.store_trait.specs.Calls.{IsReady}
use Rattle.store_trait.specs.Heap.{heap_facts}
use Rattle.store_trait.proofs.tests.rows_hold.Given as goal

-- the store can be called again
abbrev pub invariant-loop-row : goal.invariant-loop-row
invariant-loop-row g l = IsReady (heap_facts l.store) 1000
