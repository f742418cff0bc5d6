use Rattle.std.proofs.Common.{◌≡◌, IsTrue, List, Ok, ◌+◌, ℕ}
use Rattle.std.specs.Prelude.{length}
use Rattle.std.specs.Vec.Iter.{into_iter_items}
use Rattle.cache_model.specs.Items.{Item}
use Rattle.cache_model.specs.DataFiles.{Frame}
use Rattle.cache_disk.specs.State.{Stands as IsSame}
use Rattle.cache_disk.specs.Calls.{HasStoreCause}
use Rattle.soft_index.specs.Running.{IsStill}
use Rattle.soft_index.specs.Store.{LogStands}
use Rattle.soft_index.proofs.Lowered.{HasLowered}
use Rattle.soft_index.proofs.running.lower.Given as goal

abbrev pub invariant-loop-key : goal.invariant-loop-key
invariant-loop-key g l = record {
  count : ℕ;
  passed : count + length (into_iter_items l.key-iterator) ≡ length l.fn.looked.items;
  lowered : HasLowered l.fn.store l.store l.moment count;
  still : IsTrue g.H.Host.tells → IsSame (g.H.Host.state l.fn.host) (g.H.Host.state l.host);
  told : IsTrue g.H.Host.tells → (frames : List Frame) (records : List Item) → LogStands l.fn.store (g.H.Host.state l.fn.host) frames records
      → IsStill {R = Unit {0}} l.fn.store l.store (g.H.Host.state l.fn.host) (g.H.Host.state l.host) frames records l.moment (Ok tt);
  cause : HasStoreCause {T = Unit {0}} (g.H.Host.state l.fn.host) (g.H.Host.state l.host) (Ok tt);
}
