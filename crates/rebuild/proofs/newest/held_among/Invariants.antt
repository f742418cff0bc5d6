use Rattle.std.proofs.Common.{◌≡◌, IsTrue, None, take}
use Rattle.cache_disk.specs.State.{Stands}
use Rattle.rebuild.specs.Reading.{IsHeldAmong}
use Rattle.rebuild.proofs.newest.held_among.Given as goal

abbrev pub invariant-loop-place : goal.invariant-loop-place
invariant-loop-place g l = record {
  faults : (g.H.Host.state l.host).disk_faults ≡ (g.H.Host.state l.fn.host).disk_faults;
  says : (g.H.Host.state l.host).say_faults ≡ (g.H.Host.state l.fn.host).say_faults;
  stands : IsTrue g.H.Host.tells → Stands (g.H.Host.state l.fn.host) (g.H.Host.state l.host);
  none : IsTrue g.H.Host.tells → IsHeldAmong (g.H.Host.state l.fn.host).files (take l.place-index l.found) l.key None;
}
