use Rattle.cache_model.specs.declared.replies.Turned.{Turned}
use Rattle.append_log.specs.Standing.{turned_held}
use Rattle.append_log.proofs.Holding.{standing_by, stands_on}
use Rattle.append_log.proofs.log_calls.Log.rotate.Goals as goal

pub returns-clause-stands : goal.returns-clause-stands
returns-clause-stands g c told sound =
    let old = c.args.self.now.files in
    let stands = c.requires.stands told in
    let told_by = c.rotate.ensures.told told stands.0 stands.1 in
    stands_on old c.rotate.new.self (g.H.Host.state c.args.host.now) (g.H.Host.state c.rotate.new.host) stands.0 c.rotate.result stands.1 (standing_by c.rotate.new.self (g.H.Host.state c.rotate.new.host) (λ (turned : Turned). turned_held turned old.unsealed old.file c.args.moment stands.0) c.rotate.result told_by.stands) told_by.refused c.rotate.ensures.goes.refused sound
