use Rattle.std.proofs.Common.{◌≡◌, ◌≤◌, ◌++◌, IsTrue, List, None, Ok, ℕ}
use Rattle.std.specs.Vec.Iter.{into_iter_items}
use Rattle.cache_disk.specs.Calls.{HasStoreCause}
use Rattle.store_trait.specs.Calls.{Plainly}
use Rattle.soft_index.specs.Running.{HoldsRun, MayGoOn}
use Rattle.soft_index.specs.Store.{log_facts, next_of, number}
use Rattle.soft_index.specs.Sweeping.{AreToSweep, HasSwept}
use Rattle.soft_index.proofs.sweeping.sweep.Given as goal

abbrev pub invariant-loop-file : goal.invariant-loop-file
invariant-loop-file g l = record {
  done : List ℕ;
  split : l.fn.files.items ≡ done ++ into_iter_items l.file-iterator;
  plain : Plainly {T = Unit {0}} (log_facts l.fn.store.log) (log_facts l.store.log) l.moment (Ok tt);
  threshold : l.store.threshold ≡ l.fn.store.threshold;
  may : MayGoOn l.store.run;
  ended : l.store.run ≡ None;
  next : next_of l.store.log ≡ next_of l.fn.store.log;
  file : number l.fn.store.log ≤ number l.store.log;
  held : IsTrue g.H.Host.tells → HoldsRun None l.store.log (g.H.Host.state l.host);
  told : IsTrue g.H.Host.tells → AreToSweep l.fn.files.items l.fn.store.log (g.H.Host.state l.fn.host).files → HasSwept done l.fn.store l.store (g.H.Host.state l.fn.host) (g.H.Host.state l.host) l.moment (Ok tt);
  cause : HasStoreCause {T = Unit {0}} (g.H.Host.state l.fn.host) (g.H.Host.state l.host) (Ok tt);
}
