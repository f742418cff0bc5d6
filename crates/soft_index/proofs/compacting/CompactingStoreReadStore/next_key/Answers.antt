use Rattle.std.specs.Prelude.{option_map}
use Rattle.soft_index.proofs.Carrying.{plain_on, walked_on}
use Rattle.soft_index.proofs.compacting.CompactingStoreReadStore.next_key.Goals as goal

pub returns-clause-plain : goal.returns-clause-plain
returns-clause-plain g c = plain_on c.args.self.now c.next_key.new.self c.args.moment c.next_key.result c.requires.ready.usable.1 c.next_key.ensures.plain

pub returns-clause-told : goal.returns-clause-told
returns-clause-told g c told =
    walked_on c.args.self.now c.next_key.new.self (g.H.Host.state c.args.host.now) (g.H.Host.state c.next_key.new.host) c.args.moment (c.requires.stands told) (c.next_key.ensures.grows told) (option_map (λ key. key.now) c.args.after) c.next_key.result (c.next_key.ensures.told told)
