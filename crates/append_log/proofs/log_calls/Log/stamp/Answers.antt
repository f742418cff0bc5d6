use Rattle.append_log.specs.Current.{is_stamped, stamp_closes}
use Rattle.append_log.specs.Standing.{stamped_held}
use Rattle.append_log.proofs.Holding.{standing_as, stands_on}
use Rattle.append_log.proofs.log_calls.Log.stamp.Goals as goal

pub returns-clause-stands : goal.returns-clause-stands
returns-clause-stands g c told sound =
    let old = c.args.self.now.files in
    let new = c.stamp.new.self in
    let b = g.H.Host.state c.stamp.new.host in
    let stands = c.requires.stands told in
    let told_by = c.stamp.ensures.told told stands.0 stands.1 in
    stands_on old new (g.H.Host.state c.args.host.now) b stands.0 c.stamp.result stands.1
    (standing_as new b (stamped_held (is_stamped old c.args.moment) (stamp_closes old c.args.moment) old.file c.args.moment stands.0) c.stamp.result told_by.stands)
    told_by.refused c.stamp.ensures.goes.refused sound
