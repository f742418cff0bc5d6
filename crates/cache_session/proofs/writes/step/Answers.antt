use Rattle.std.proofs.Common.{sym, ◌∙◌}
use Rattle.cache_session.proofs.Stepping.{idle_step, store_step, failed_step}
use Rattle.cache_session.proofs.writes.step.Goals as goal

pub returns-then-gives_up-clause-turns : goal.returns-then-gives_up-clause-turns
returns-then-gives_up-clause-turns g c told publish plain at shows =
    let a = g.H.Host.state c.args.host.now in
    let f = g.S.Keyed.facts c.args.store.now in
    let s = g.S.Keyed.means c.args.store.now a in
    idle_step publish plain c.args.kind f _ s a c.args.moment (sym c.gives_up.ensures ∙ c.if-gives_up.true) at shows (c.requires.stands told)
    (g.met.S.ReadStore.holds_now c.args.store.now c.args.host.now told c.requires.ready.unspoilt (c.requires.stands told))

pub returns-in-Ok-clause-turns : goal.returns-in-Ok-clause-turns
returns-in-Ok-clause-turns g c told publish plain at shows =
    let a = g.H.Host.state c.args.host.now in
    let b = g.H.Host.state c.step.new.host in
    store_step publish plain c.args.kind (g.S.Keyed.facts c.args.store.now) (g.S.Keyed.facts c.step.new.self) c.args.broken.now (g.S.Keyed.means c.args.store.now a) (g.S.Keyed.means c.step.new.self b) a b c.args.moment c.in-Ok.turned
    (sym c.gives_up.ensures ∙ c.if-gives_up.false) c.requires.whole (c.in-Ok.ensures.told told) c.in-Ok.ensures.draws at shows

pub returns-in-Err-clause-turns : goal.returns-in-Err-clause-turns
returns-in-Err-clause-turns g c told publish plain at shows =
    let a = g.H.Host.state c.args.host.now in
    let b = g.H.Host.state c.step.new.host in
    failed_step publish plain c.args.kind (g.S.Keyed.facts c.args.store.now) (g.S.Keyed.facts c.step.new.self) (g.S.Keyed.means c.args.store.now a) (g.S.Keyed.means c.step.new.self b) a b c.args.moment c.in-Err.fault
    (c.in-Err.ensures.told told) c.in-Err.ensures.draws at shows
