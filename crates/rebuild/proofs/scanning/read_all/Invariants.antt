use Rattle.std.proofs.Common.{◌≡◌, take, IsTrue}
use Rattle.cache_disk.specs.Calls.{AllLeft}
use Rattle.rebuild.specs.Listing.{IsSettledAll}
use Rattle.rebuild.specs.Rebuilt.{IsInOrder, IsRead}
use Rattle.rebuild.specs.Rows.{numbers_of}
use Rattle.rebuild.proofs.Readings.{HaveRead}
use Rattle.rebuild.proofs.scanning.read_all.Given as goal

abbrev pub invariant-loop-number : goal.invariant-loop-number
invariant-loop-number g l = record {
  in_order : IsInOrder l.bits l.tree;
  rows : numbers_of l.figures.rows ≡ take l.number-index l.numbers;
  faults : (g.H.Host.state l.host).disk_faults ≡ (g.H.Host.state l.fn.host).disk_faults;
  says : (g.H.Host.state l.host).say_faults ≡ (g.H.Host.state l.fn.host).say_faults;
  read : IsTrue g.H.Host.tells → IsRead (g.H.Host.state l.fn.host) (g.H.Host.state l.host);
  settled : IsTrue g.H.Host.tells → AllLeft (g.H.Host.state l.host) (IsSettledAll (take l.number-index l.numbers) (g.H.Host.state l.fn.host).files);
  taken : IsTrue g.H.Host.tells → HaveRead (g.H.Host.state l.fn.host).files l.bits (take l.number-index l.numbers) l.tree l.figures;
}
