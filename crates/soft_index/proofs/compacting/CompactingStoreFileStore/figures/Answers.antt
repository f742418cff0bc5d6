use Rattle.soft_index.proofs.Carrying.{figured_on, plain_on}
use Rattle.soft_index.proofs.compacting.CompactingStoreFileStore.figures.Goals as goal

pub returns-clause-plain : goal.returns-clause-plain
returns-clause-plain g c = plain_on c.args.self.now c.figures.new.self c.args.moment c.figures.result c.requires.ready.usable.1 c.figures.ensures.plain

pub returns-clause-told : goal.returns-clause-told
returns-clause-told g c told =
    figured_on c.args.self.now c.figures.new.self (g.H.Host.state c.args.host.now) (g.H.Host.state c.figures.new.host) c.args.moment (c.requires.stands told) (c.figures.ensures.grows told) c.figures.result (c.figures.ensures.told told)
