use Rattle.std.proofs.Common.{◌≡◌, ◌≤◌, IsTrue, Ok}
use Rattle.cache_disk.specs.Calls.{HasStoreCause}
use Rattle.store_trait.specs.Calls.{Plainly}
use Rattle.soft_index.specs.Running.{MayGoOn, due_of}
use Rattle.soft_index.specs.Store.{log_facts, next_of, number}
use Rattle.soft_index.proofs.Ending.{HasGone}
use Rattle.soft_index.proofs.compacting.end_run.Given as goal

abbrev pub invariant-loop-run : goal.invariant-loop-run
invariant-loop-run g l = record {
  plain : Plainly {T = Unit {0}} (log_facts l.fn.store.log) (log_facts l.store.log) l.moment (Ok tt);
  threshold : l.store.threshold ≡ l.fn.store.threshold;
  may : MayGoOn l.store.run;
  next : next_of l.store.log ≡ next_of l.fn.store.log;
  file : number l.fn.store.log ≤ number l.store.log;
  told : IsTrue g.H.Host.tells → HasGone l.fn.store l.store (g.H.Host.state l.fn.host) (g.H.Host.state l.host) l.moment;
  cause : HasStoreCause {T = Unit {0}} (g.H.Host.state l.fn.host) (g.H.Host.state l.host) (Ok tt);
}

abbrev pub decreases-loop-run : goal.decreases-loop-run
decreases-loop-run g l = due_of l.store.run
