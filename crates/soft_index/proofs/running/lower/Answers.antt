use Rattle.std.proofs.Common.{arith, rules, ◌+◌, Err, List, Ok, ap, length, ℕ}
use Rattle.cache_disk.proofs.Runs.{Stands-same, Stands-trans}
use Rattle.soft_index.proofs.Chaining.{still_chain}
use Rattle.soft_index.proofs.Lowered.{later_still, lowered_first, lowered_more}
use Rattle.soft_index.proofs.running.lower.Goals as goal

pub loop-key-init : goal.loop-key-init
loop-key-init g c = record {
  count = 0;
  passed = omega (arith, ap (λ (l : List (List ℕ)). length l) c.into_iter-key-iterator.ensures.into_iter_gives.0);
  lowered = lowered_first c.args.store.now c.args.moment c.requires.ready c.requires.empty;
  still = λ told. Stands-same (g.H.Host.state c.args.host.now);
  told = λ told frames records stands. later_still c.args.store.now c.args.moment (g.H.Host.state c.args.host.now) (g.H.Host.state c.args.host.now) frames records stands c.requires.ready.unspoilt c.requires.ready.late (Stands-same (g.H.Host.state c.args.host.now));
  cause = search rules;
}

pub lower_one-requires-clause-stands : goal.lower_one-requires-clause-stands
lower_one-requires-clause-stands g c told =
    let stands = c.requires.stands told in
    (stands.0, stands.1, (c.loop-key.invariant.told told stands.0 stands.1 stands.2).kept)

pub returns-in-Err-clause-told : goal.returns-in-Err-clause-told
returns-in-Err-clause-told g c told frames records stands =
    let before = c.loop-key.invariant.told told frames records stands in
    still_chain {Q = Unit {0}} {R = Unit {0}} c.args.store.now c.loop-key.store c.lower_one.new.store (g.H.Host.state c.args.host.now) (g.H.Host.state c.loop-key.host) (g.H.Host.state c.lower_one.new.host) frames records c.args.moment tt (Err c.in-Err.fault)
    c.loop-key.invariant.lowered.plain.same before (c.in-Err.ensures.told told frames records before.kept)

pub loop-key-preserved : goal.loop-key-preserved
loop-key-preserved g c =
    let was = c.loop-key.invariant in
    let ens = c.in_default.ensures in
    record {
      count = was.count + 1;
      passed = omega (arith, was.passed, ap (λ (l : List (List ℕ)). length l) c.in-Some.ensures.steps.0);
      lowered = lowered_more c.args.store.now c.loop-key.store c.lower_one.new.store c.args.moment was.count was.lowered ens.plain ens.draws ens.log ens.limit ens.queued;
      still = λ told. Stands-trans (g.H.Host.state c.args.host.now) (g.H.Host.state c.loop-key.host) (g.H.Host.state c.lower_one.new.host) (was.still told) (ens.still told);
      told = λ told frames records stands.
          let before = was.told told frames records stands in
          still_chain {Q = Unit {0}} {R = Unit {0}} c.args.store.now c.loop-key.store c.lower_one.new.store (g.H.Host.state c.args.host.now) (g.H.Host.state c.loop-key.host) (g.H.Host.state c.lower_one.new.host) frames records c.args.moment tt (Ok tt)
          was.lowered.plain.same before (ens.told told frames records before.kept);
      cause = search rules;
    }
