use Rattle.cache_session.proofs.Keeping.{written_did}
use Rattle.cache_session.proofs.calls.apply.Goals as goal

pub returns-clause-did : goal.returns-clause-did
returns-clause-did g c told =
    let a = g.H.Host.state c.args.host.now in
    let b = g.H.Host.state c.write.new.host in
    written_did c.args.change.now (g.S.Keyed.facts c.args.store.now) (g.S.Keyed.facts c.write.new.self) (g.S.Keyed.means c.args.store.now a) (g.S.Keyed.means c.write.new.self b) a b c.args.moment c.write.result (c.write.ensures.told told) c.write.ensures.draws
