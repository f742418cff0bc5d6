use Rattle.cache_session.proofs.Counting.{compacted_all, uncompacted_all}
use Rattle.cache_session.proofs.files.compact_all.Goals as goal

pub returns-in-Ok-clause-turns : goal.returns-in-Ok-clause-turns
returns-in-Ok-clause-turns g c told publish plain at shows =
    let a = g.H.Host.state c.args.host.now in
    let b = g.H.Host.state c.compact_all.new.host in
    compacted_all publish plain (g.S.Keyed.facts c.args.store.now) (g.S.Keyed.facts c.compact_all.new.self) (g.S.Keyed.means c.args.store.now a) (g.S.Keyed.means c.compact_all.new.self b) a b c.args.moment
    at shows c.in-Ok.ensures.draws (c.in-Ok.ensures.told told)

pub returns-in-Err-clause-turns : goal.returns-in-Err-clause-turns
returns-in-Err-clause-turns g c told publish plain at shows =
    let a = g.H.Host.state c.args.host.now in
    let b = g.H.Host.state c.compact_all.new.host in
    uncompacted_all publish plain (g.S.Keyed.facts c.args.store.now) (g.S.Keyed.facts c.compact_all.new.self) (g.S.Keyed.means c.args.store.now a) (g.S.Keyed.means c.compact_all.new.self b) a b c.args.moment
    at shows c.in-Err.fault c.in-Err.ensures.draws (c.in-Err.ensures.told told) c.in-Err.ensures.spoilt
