use Rattle.cache_session.proofs.Keeping.{acts_err}
use Rattle.cache_session.proofs.calls.peek.Goals as goal

pub returns-in-Err-clause-did : goal.returns-in-Err-clause-did
returns-in-Err-clause-did g c told =
    let a = g.H.Host.state c.args.host.now in
    let b = g.H.Host.state c.load.new.host in
    let did = c.in-Err.ensures.told told in
    acts_err (g.S.Keyed.facts c.args.store.now) (g.S.Keyed.facts c.load.new.self) (g.S.Keyed.means c.args.store.now a) (g.S.Keyed.means c.load.new.self b) a b c.args.moment c.in-Err.fault did.acts did.content c.in-Err.ensures.draws
