use Rattle.std.proofs.Common.{arith}
use Rattle.cache_session.proofs.Keeping.{acts_did}
use Rattle.cache_session.specs.Turns.{by_sync}
use Rattle.cache_session.proofs.calls.settle.Goals as goal

pub returns-clause-did : goal.returns-clause-did
returns-clause-did g c told =
    let a = g.H.Host.state c.args.host.now in
    let b = g.H.Host.state c.sync.new.host in
    let did = c.sync.ensures.told told in
    acts_did by_sync (g.S.Keyed.facts c.args.store.now) (g.S.Keyed.facts c.sync.new.self) (g.S.Keyed.means c.args.store.now a) (g.S.Keyed.means c.sync.new.self b) a b c.args.moment c.sync.result c.sync.result
    (λ e is. is) did.acts did.content did.unchanged c.sync.ensures.draws (omega (arith, c.sync.ensures.draws.made)) did.parts
