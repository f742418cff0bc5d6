use Rattle.std.proofs.Common.{IsTrue}
use Rattle.std.specs.Prelude.{Ok, option_map}
use Rattle.std.specs.Option.{option_or}
use Rattle.cache_disk.specs.State.{Stands as IsSame}
use Rattle.cache_disk.specs.Calls.{HasStoreCause}
use Rattle.compactor.specs.Counting.{Kept, AreThere, counts_in}
use Rattle.compactor.specs.Indexing.{AreIndexed}
use Rattle.soft_index.proofs.Looks.{LooksSame}
use Rattle.soft_index.proofs.Shown.{HasPassed}
use Rattle.soft_index.proofs.walking.next_shown.Given as goal

abbrev pub invariant-loop : goal.invariant-loop
invariant-loop g l = record {
  looks : LooksSame l.fn.parts l.parts;
  cause : HasStoreCause {T = Unit {0}} (g.H.Host.state l.fn.host) (g.H.Host.state l.host) (Ok tt);
  stands : IsTrue g.H.Host.tells → IsSame (g.H.Host.state l.fn.host) (g.H.Host.state l.host);
  passed : IsTrue g.H.Host.tells → (kept : Kept) → AreIndexed (counts_in kept) l.fn.parts → AreThere (counts_in kept) (g.H.Host.state l.fn.host).files
      → HasPassed (counts_in kept) l.fn.parts.tree.bits l.moment (option_map (λ key. key.now) l.after) (option_or l.last (option_map (λ key. key.now) l.after));
}
