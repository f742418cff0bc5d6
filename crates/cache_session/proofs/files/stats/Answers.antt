use Rattle.cache_session.proofs.Counting.{counted, uncounted}
use Rattle.cache_session.proofs.files.stats.Goals as goal

pub returns-in-Ok-clause-turns : goal.returns-in-Ok-clause-turns
returns-in-Ok-clause-turns g c told publish plain at shows =
    let a = g.H.Host.state c.args.host.now in
    let b = g.H.Host.state c.figures.new.host in
    counted publish plain (g.S.Keyed.facts c.args.store.now) (g.S.Keyed.facts c.figures.new.self) (g.S.Keyed.means c.args.store.now a) (g.S.Keyed.means c.figures.new.self b) a b c.args.moment
    c.in-Ok.ensures.draws at shows c.in-Ok.files c.in-Ok.bytes c.in-Ok.live (c.in-Ok.ensures.told told)

pub returns-in-Err-clause-turns : goal.returns-in-Err-clause-turns
returns-in-Err-clause-turns g c told publish plain at shows =
    let a = g.H.Host.state c.args.host.now in
    let b = g.H.Host.state c.figures.new.host in
    uncounted publish plain (g.S.Keyed.facts c.args.store.now) (g.S.Keyed.facts c.figures.new.self) (g.S.Keyed.means c.args.store.now a) (g.S.Keyed.means c.figures.new.self b) a b c.args.moment
    c.in-Err.ensures.draws at shows c.in-Err.fault (c.in-Err.ensures.told told) c.in-Err.ensures.spoilt
