use Rattle.std.proofs.Common.{arith}
use Rattle.cache_session.proofs.Keeping.{acts_did, always}
use Rattle.cache_session.specs.Turns.{by_changes}
use Rattle.cache_session.proofs.calls.first.Goals as goal

pub returns-clause-did : goal.returns-clause-did
returns-clause-did g c told =
    let a = g.H.Host.state c.args.host.now in
    let b = g.H.Host.state c.next_key.new.host in
    let did = c.next_key.ensures.told told in
    acts_did by_changes (g.S.Keyed.facts c.args.store.now) (g.S.Keyed.facts c.next_key.new.self) (g.S.Keyed.means c.args.store.now a) (g.S.Keyed.means c.next_key.new.self b) a b c.args.moment c.next_key.result c.next_key.result
    (λ e is. is) did.acts (always c.next_key.result did.content) (λ of unspoilt. did.content) c.next_key.ensures.draws (omega (arith, c.next_key.ensures.draws.made)) did.parts
