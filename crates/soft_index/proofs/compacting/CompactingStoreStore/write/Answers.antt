use Rattle.soft_index.proofs.Carrying.{plain_on, written_on}
use Rattle.soft_index.proofs.compacting.CompactingStoreStore.write.Goals as goal

pub returns-clause-plain : goal.returns-clause-plain
returns-clause-plain g c = plain_on c.args.self.now c.write.new.self c.args.moment c.write.result c.requires.ready.usable.1 c.write.ensures.plain

pub returns-clause-told : goal.returns-clause-told
returns-clause-told g c told =
    written_on c.args.self.now c.write.new.self (g.H.Host.state c.args.host.now) (g.H.Host.state c.write.new.host) c.args.moment (c.requires.stands told) (c.write.ensures.grows told) c.args.change.now c.write.result (c.write.ensures.told told)
