use Rattle.soft_index.proofs.Carrying.{loaded_on, plain_on}
use Rattle.soft_index.proofs.compacting.CompactingStoreReadStore.load.Goals as goal

pub returns-clause-plain : goal.returns-clause-plain
returns-clause-plain g c = plain_on c.args.self.now c.load.new.self c.args.moment c.load.result c.requires.ready.usable.1 c.load.ensures.plain

pub returns-clause-told : goal.returns-clause-told
returns-clause-told g c told =
    loaded_on c.args.self.now c.load.new.self (g.H.Host.state c.args.host.now) (g.H.Host.state c.load.new.host) c.args.moment (c.requires.stands told) (c.load.ensures.grows told) c.args.key.now c.load.result (c.load.ensures.told told)
