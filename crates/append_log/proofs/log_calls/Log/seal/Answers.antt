use Rattle.append_log.specs.Standing.{sealed_held}
use Rattle.append_log.proofs.Holding.{standing_by, stands_on}
use Rattle.append_log.proofs.log_calls.Log.seal.Goals as goal

pub returns-clause-stands : goal.returns-clause-stands
returns-clause-stands g c told sound =
    let old = c.args.self.now.files in
    let stands = c.requires.stands told in
    let told_by = c.seal.ensures.told told stands.0 stands.1 in
    stands_on old c.seal.new.self (g.H.Host.state c.args.host.now) (g.H.Host.state c.seal.new.host) stands.0 c.seal.result stands.1 (standing_by c.seal.new.self (g.H.Host.state c.seal.new.host) (λ (answer : Unit {0}). sealed_held old.unsealed c.args.moment stands.0) c.seal.result told_by.stands) told_by.refused c.seal.ensures.goes.refused sound
