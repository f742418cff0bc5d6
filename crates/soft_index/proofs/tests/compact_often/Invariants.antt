use Rattle.store_trait.specs.Calls.{IsReady}
use Rattle.host_memory.specs.History.{memory_state}
use Rattle.soft_index.specs.Index.{index_facts, index_means}
use Rattle.soft_index.proofs.tests.compact_often.Given as goal

-- the store can be called again
abbrev pub invariant-loop : goal.invariant-loop
invariant-loop g l = record {
  ready : IsReady (index_facts g.F.Fn l.store) l.moment;
  stands : (index_means l.store (memory_state l.host)).stands;
}
