use Rattle.std.proofs.Common.{◌≡◌, IsTrue, false}
use Rattle.std.specs.Prelude.{Ok}
use Rattle.cache_disk.specs.Calls.{HasStoreCause}
use Rattle.store_trait.specs.Calls.{IsReady}
use Rattle.store_trait.specs.Keeping.{SameStore}
use Rattle.cache_session.proofs.Clearing.{Clearing}
use Rattle.cache_session.proofs.walks.clear.Given as goal

abbrev pub invariant-loop-count : goal.invariant-loop-count
invariant-loop-count g l = record {
  ready : IsReady (g.S.Keyed.facts l.store) l.moment;
  same : SameStore (g.S.Keyed.facts l.fn.store) (g.S.Keyed.facts l.store);
  whole : l.broken ≡ false;
  cause : HasStoreCause {T = Unit {0}} (g.H.Host.state l.fn.host) (g.H.Host.state l.host) (Ok tt);
  told : IsTrue g.H.Host.tells → Clearing (g.S.Keyed.facts l.fn.store) (g.S.Keyed.facts l.store)
      (g.S.Keyed.means l.fn.store (g.H.Host.state l.fn.host)) (g.S.Keyed.means l.store (g.H.Host.state l.host)) (g.H.Host.state l.fn.host) (g.H.Host.state l.host) l.moment l.count l.after;
}
