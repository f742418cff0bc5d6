use Rattle.std.proofs.Common.{arith, rules, true, false}
use Rattle.store_trait.proofs.Runs.{store_same, store_trans}
use Rattle.cache_session.proofs.Keeping.{ready_again, cause_ok}
use Rattle.cache_session.proofs.Sizing.{begins, goes, ends, stops, gives_up, walked_at}
use Rattle.cache_session.proofs.walks.size.Goals as goal

pub loop-count-init : goal.loop-count-init
loop-count-init g c = record {
  ready = c.requires.ready;
  same = store_same (g.S.Keyed.facts c.args.store.now);
  cause = search rules;
  told = λ told. begins (g.S.Keyed.facts c.args.store.now) (g.S.Keyed.means c.args.store.now (g.H.Host.state c.args.host.now)) (g.H.Host.state c.args.host.now) c.args.moment (c.requires.stands told)
      (g.met.S.ReadStore.holds_now c.args.store.now c.args.host.now told c.requires.ready.unspoilt (c.requires.stands told));
}

pub returns-in-Ok-false-clause-turns : goal.returns-in-Ok-false-clause-turns
returns-in-Ok-false-clause-turns g c told publish plain at shows =
    let a = g.H.Host.state c.args.host.now in
    let b = g.H.Host.state c.loop-count.host in
    let f = g.S.Keyed.facts c.args.store.now in
    let h = g.S.Keyed.facts c.loop-count.store in
    let s = g.S.Keyed.means c.args.store.now a in
    let t = g.S.Keyed.means c.loop-count.store b in
    let d = g.H.Host.state c.walk_one.new.host in
    let k = g.S.Keyed.facts c.walk_one.new.store in
    let u = g.S.Keyed.means c.walk_one.new.store d in
    ends publish plain f h k s t u a b d c.args.moment c.loop-count.count c.loop-count.after c.walk_one.new.after
    c.loop-count.invariant.same c.in-Ok-false.ensures.plain.same (c.loop-count.invariant.told told) (walked_at c.in-Ok-false.field-0 false c.in-Ok-false.field-0-test (c.in-Ok-false.ensures.walked told)) (omega (arith, c.loop-count-test.true)) at shows

pub returns-in-Err-clause-turns : goal.returns-in-Err-clause-turns
returns-in-Err-clause-turns g c told publish plain at shows =
    let a = g.H.Host.state c.args.host.now in
    let b = g.H.Host.state c.loop-count.host in
    let f = g.S.Keyed.facts c.args.store.now in
    let h = g.S.Keyed.facts c.loop-count.store in
    let s = g.S.Keyed.means c.args.store.now a in
    let t = g.S.Keyed.means c.loop-count.store b in
    let d = g.H.Host.state c.walk_one.new.host in
    let k = g.S.Keyed.facts c.walk_one.new.store in
    let u = g.S.Keyed.means c.walk_one.new.store d in
    stops publish plain f h k s t u a b d c.args.moment c.loop-count.count c.loop-count.after c.walk_one.new.after c.in-Err.fault
    c.loop-count.invariant.same c.in-Err.ensures.plain.same (c.loop-count.invariant.told told) (c.in-Err.ensures.walked told) at shows

pub loop-count-preserved : goal.loop-count-preserved
loop-count-preserved g c = record {
  ready = ready_again (g.S.Keyed.facts c.loop-count.store) (g.S.Keyed.facts c.walk_one.new.store) c.args.moment c.in-Ok-true.field-0 c.loop-count.invariant.ready c.in-Ok-true.ensures.plain;
  same = store_trans (g.S.Keyed.facts c.args.store.now) (g.S.Keyed.facts c.loop-count.store) (g.S.Keyed.facts c.walk_one.new.store) c.loop-count.invariant.same c.in-Ok-true.ensures.plain.same;
  cause = cause_ok (g.H.Host.state c.args.host.now) (g.H.Host.state c.loop-count.host) (g.H.Host.state c.walk_one.new.host) tt c.in-Ok-true.field-0 tt c.loop-count.invariant.cause c.in-Ok-true.ensures.cause;
  told = λ told.
      let a = g.H.Host.state c.args.host.now in
      let b = g.H.Host.state c.loop-count.host in
      let f = g.S.Keyed.facts c.args.store.now in
      let h = g.S.Keyed.facts c.loop-count.store in
      let s = g.S.Keyed.means c.args.store.now a in
      let t = g.S.Keyed.means c.loop-count.store b in
      let d = g.H.Host.state c.walk_one.new.host in
      let k = g.S.Keyed.facts c.walk_one.new.store in
      let u = g.S.Keyed.means c.walk_one.new.store d in
      goes f h k s t u a b d c.args.moment c.loop-count.count c.loop-count.after c.walk_one.new.after
      c.loop-count.invariant.same c.in-Ok-true.ensures.plain.same (c.loop-count.invariant.told told) (walked_at c.in-Ok-true.field-0 true c.in-Ok-true.field-0-test (c.in-Ok-true.ensures.walked told));
}

pub returns-clause-turns : goal.returns-clause-turns
returns-clause-turns g c told publish plain at shows =
    let a = g.H.Host.state c.args.host.now in
    let b = g.H.Host.state c.loop-count.host in
    let f = g.S.Keyed.facts c.args.store.now in
    let h = g.S.Keyed.facts c.loop-count.store in
    let s = g.S.Keyed.means c.args.store.now a in
    let t = g.S.Keyed.means c.loop-count.store b in
    gives_up publish plain f h s t a b c.args.moment c.loop-count.count c.loop-count.after (c.loop-count.invariant.told told) at shows
