use Rattle.soft_index.proofs.Carrying.{draws_by_on, plain_on, stepped_on}
use Rattle.soft_index.proofs.compacting.CompactingStoreStore.step.Goals as goal

pub returns-clause-plain : goal.returns-clause-plain
returns-clause-plain g c = plain_on c.args.self.now c.step.new.self c.args.moment c.step.result c.requires.ready.usable.1 c.step.ensures.plain

pub returns-clause-draws : goal.returns-clause-draws
returns-clause-draws g c = draws_by_on c.args.self.now c.step.new.self c.args.kind c.step.result c.in_default.not-Compact c.step.ensures.draws

pub returns-clause-told : goal.returns-clause-told
returns-clause-told g c told =
    stepped_on c.args.self.now c.step.new.self (g.H.Host.state c.args.host.now) (g.H.Host.state c.step.new.host) c.args.moment (c.requires.stands told) (c.step.ensures.grows told) c.args.kind c.step.result c.in_default.not-Compact (c.step.ensures.told told)
