use Rattle.host_memory.proofs.Building.{named_front}
use Rattle.host_memory.proofs.host.MemoryHost.image_at.Goals as goal

pub crashed-requires-clause-named : goal.crashed-requires-clause-named
crashed-requires-clause-named c = rw c.deref.ensures.value (named_front c.self.inside.turns.items c.args.turn c.self.invariant.named)
