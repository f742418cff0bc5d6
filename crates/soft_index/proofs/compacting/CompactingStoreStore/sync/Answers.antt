use Rattle.soft_index.proofs.Carrying.{plain_on, synced_on}
use Rattle.soft_index.proofs.compacting.CompactingStoreStore.sync.Goals as goal

pub returns-clause-plain : goal.returns-clause-plain
returns-clause-plain g c = plain_on c.args.self.now c.sync.new.self c.args.moment c.sync.result c.requires.ready.usable.1 c.sync.ensures.plain

pub returns-clause-told : goal.returns-clause-told
returns-clause-told g c told =
    synced_on c.args.self.now c.sync.new.self (g.H.Host.state c.args.host.now) (g.H.Host.state c.sync.new.host) c.args.moment (c.requires.stands told) (c.sync.ensures.grows told) c.sync.result (c.sync.ensures.told told)
