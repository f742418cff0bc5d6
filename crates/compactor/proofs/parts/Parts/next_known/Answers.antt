use Rattle.std.specs.Prelude.{option_map}
use Rattle.compactor.proofs.NextKnown.{seeks_known}
use Rattle.compactor.proofs.parts.Parts.next_known.Goals as goal

pub returns-in-Ok-clause-knows : goal.returns-in-Ok-clause-knows
returns-in-Ok-clause-knows g c told hashed =
    seeks_known (g.H.Host.state c.args.host.now).files c.args.self.now.tree.bits c.args.self.now.table c.args.self.now.tree.entries (option_map (λ key. key.now) c.args.after)
    c.hash_bits-bits.result (option_map (λ key. key.now) c.next_placed.result) c.in-Ok.indexed c.known_by.result c.hash_bits-bits.ensures c.next_placed.ensures.next (c.in-Ok.ensures.seeks told hashed).given c.known_by.ensures.known c.known_by.ensures.memory
