use Rattle.std.proofs.Common.{ℕ, List, rules, sym, subst, true, false}
use Rattle.store_trait.proofs.Runs.{store_same, store_trans}
use Rattle.cache_session.proofs.Keeping.{ready_again, cause_ok}
use Rattle.cache_session.proofs.Listing.{Listing, begins, goes, ends, stops, gives_up, listed_at}
use Rattle.cache_session.proofs.walks.keys.Goals as goal

pub loop-init : goal.loop-init
loop-init g c = record {
  ready = c.requires.ready;
  same = store_same (g.S.Keyed.facts c.args.store.now);
  cause = search rules;
  told = λ told. subst (λ (l : List (List ℕ)). Listing (g.S.Keyed.facts c.args.store.now) (g.S.Keyed.facts c.args.store.now) (g.S.Keyed.means c.args.store.now (g.H.Host.state c.args.host.now)) (g.S.Keyed.means c.args.store.now (g.H.Host.state c.args.host.now)) (g.H.Host.state c.args.host.now) (g.H.Host.state c.args.host.now) c.args.moment l) (sym c.new-list.ensures)
      (begins (g.S.Keyed.facts c.args.store.now) (g.S.Keyed.means c.args.store.now (g.H.Host.state c.args.host.now)) (g.H.Host.state c.args.host.now) c.args.moment (c.requires.stands told)
      (g.met.S.ReadStore.holds_now c.args.store.now c.args.host.now told c.requires.ready.unspoilt (c.requires.stands told)));
}

pub returns-in-Ok-false-clause-turns : goal.returns-in-Ok-false-clause-turns
returns-in-Ok-false-clause-turns g c told publish plain at shows =
    let a = g.H.Host.state c.args.host.now in
    let b = g.H.Host.state c.loop.host in
    let f = g.S.Keyed.facts c.args.store.now in
    let h = g.S.Keyed.facts c.loop.store in
    let s = g.S.Keyed.means c.args.store.now a in
    let t = g.S.Keyed.means c.loop.store b in
    let d = g.H.Host.state c.list_one.new.host in
    let k = g.S.Keyed.facts c.list_one.new.store in
    let u = g.S.Keyed.means c.list_one.new.store d in
    ends publish plain f h k s t u a b d c.args.moment c.loop.list c.list_one.new.list c.sort.new.self
    c.loop.invariant.same c.in-Ok-false.ensures.plain.same (c.loop.invariant.told told) (listed_at c.in-Ok-false.field-0 false c.in-Ok-false.field-0-test (c.in-Ok-false.ensures.listed told)) c.sort.ensures.keys c.sort.ensures.ascending at shows

pub returns-in-Err-clause-turns : goal.returns-in-Err-clause-turns
returns-in-Err-clause-turns g c told publish plain at shows =
    let a = g.H.Host.state c.args.host.now in
    let b = g.H.Host.state c.loop.host in
    let f = g.S.Keyed.facts c.args.store.now in
    let h = g.S.Keyed.facts c.loop.store in
    let s = g.S.Keyed.means c.args.store.now a in
    let t = g.S.Keyed.means c.loop.store b in
    let d = g.H.Host.state c.list_one.new.host in
    let k = g.S.Keyed.facts c.list_one.new.store in
    let u = g.S.Keyed.means c.list_one.new.store d in
    stops publish plain f h k s t u a b d c.args.moment c.loop.list c.list_one.new.list c.in-Err.fault
    c.loop.invariant.same c.in-Err.ensures.plain.same (c.loop.invariant.told told) (c.in-Err.ensures.listed told) at shows

pub loop-preserved : goal.loop-preserved
loop-preserved g c = record {
  ready = ready_again (g.S.Keyed.facts c.loop.store) (g.S.Keyed.facts c.list_one.new.store) c.args.moment c.in-Ok-true.field-0 c.loop.invariant.ready c.in-Ok-true.ensures.plain;
  same = store_trans (g.S.Keyed.facts c.args.store.now) (g.S.Keyed.facts c.loop.store) (g.S.Keyed.facts c.list_one.new.store) c.loop.invariant.same c.in-Ok-true.ensures.plain.same;
  cause = cause_ok (g.H.Host.state c.args.host.now) (g.H.Host.state c.loop.host) (g.H.Host.state c.list_one.new.host) tt c.in-Ok-true.field-0 tt c.loop.invariant.cause c.in-Ok-true.ensures.cause;
  told = λ told.
      let a = g.H.Host.state c.args.host.now in
      let b = g.H.Host.state c.loop.host in
      let f = g.S.Keyed.facts c.args.store.now in
      let h = g.S.Keyed.facts c.loop.store in
      let s = g.S.Keyed.means c.args.store.now a in
      let t = g.S.Keyed.means c.loop.store b in
      let d = g.H.Host.state c.list_one.new.host in
      let k = g.S.Keyed.facts c.list_one.new.store in
      let u = g.S.Keyed.means c.list_one.new.store d in
      goes f h k s t u a b d c.args.moment c.loop.list c.list_one.new.list
      c.loop.invariant.same c.in-Ok-true.ensures.plain.same (c.loop.invariant.told told) (listed_at c.in-Ok-true.field-0 true c.in-Ok-true.field-0-test (c.in-Ok-true.ensures.listed told));
}

pub returns-clause-turns : goal.returns-clause-turns
returns-clause-turns g c told publish plain at shows =
    let a = g.H.Host.state c.args.host.now in
    let b = g.H.Host.state c.loop.host in
    let f = g.S.Keyed.facts c.args.store.now in
    let h = g.S.Keyed.facts c.loop.store in
    let s = g.S.Keyed.means c.args.store.now a in
    let t = g.S.Keyed.means c.loop.store b in
    gives_up publish plain f h s t a b c.args.moment c.loop.list (c.loop.invariant.told told) at shows
