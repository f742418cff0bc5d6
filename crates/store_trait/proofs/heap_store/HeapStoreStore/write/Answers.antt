use Rattle.std.proofs.Common.{arith}
use Rattle.store_trait.proofs.HeapWrites.{heap_writes}
use Rattle.store_trait.proofs.heap_store.HeapStoreStore.write.Goals as goal

pub returns-clause-told : goal.returns-clause-told
returns-clause-told g c = λ told.
    heap_writes c.args.change.now c.args.self.now (record { entries = c.change_held.new.entries; latest = c.args.moment }) (g.H.Host.state c.args._host.now) c.args.moment c.change_held.result c.memory_only.result
    c.requires.ready.late (omega arith) c.change_held.ensures.changed c.change_held.ensures.same c.memory_only.ensures.ok c.memory_only.ensures.memory
