use Rattle.std.proofs.Common.{ap, refl}
use Rattle.record_format.specs.Meaning.{own_item}
use Rattle.rebuild.specs.Taking.{counted_one}
use Rattle.rebuild.proofs.Taken.{takes-end}
use Rattle.rebuild.proofs.scanning.take_one.Goals as goal

pub returns-clause-taken : goal.returns-clause-taken
returns-clause-taken g c told counted stands next =
    takes-end (g.H.Host.state c.args.host.now).files c.args.bits c.args.tree.now c.args.tree.now c.args.figures.now c.pass.new.self counted stands (counted_one c.args.one) c.in-End.moment next (ap own_item c.in-End.is) refl c.pass.ensures.rows c.pass.ensures.next c.pass.ensures.mark
