use Rattle.std.proofs.Common.{[], None}
use Rattle.cache_session.proofs.Keeping.{did_err}
use Rattle.cache_session.proofs.walks.walk_one.Goals as goal

pub returns-in-Err-clause-walked : goal.returns-in-Err-clause-walked
returns-in-Err-clause-walked g c told =
    let a = g.H.Host.state c.args.host.now in
    let b = g.H.Host.state c.first.new.host in
    let f = g.S.Keyed.facts c.args.store.now in
    let h = g.S.Keyed.facts c.first.new.store in
    record {
      next = None;
      did = did_err f h h.spoilt (g.S.Keyed.means c.args.store.now a) (g.S.Keyed.means c.first.new.store b) a b c.args.moment [] c.in-Err.fault (c.in-Err.ensures.did told);
      first = tt;
      more = tt;
      stands_at = λ key is. tt;
    }
