use Rattle.std.proofs.Common.{◌≡◌, false, IsTrue}
use Rattle.cache_model.specs.Images.{log_name}
use Rattle.cache_disk.specs.State.{Stands}
use Rattle.data_file.specs.Scanning.{scanned_name, is_spoilt, left_of}
use Rattle.rebuild.specs.Rebuilt.{IsInOrder}
use Rattle.rebuild.specs.Rows.{numbers_of}
use Rattle.rebuild.proofs.Scans.{IsTaking}
use Rattle.rebuild.proofs.scanning.take_items.Given as goal

abbrev pub invariant-loop-one : goal.invariant-loop-one
invariant-loop-one g l = record {
  sound : is_spoilt l.scan ≡ false;
  name : scanned_name l.scan ≡ log_name l.number;
  in_order : IsInOrder l.bits l.tree;
  numbers : numbers_of l.figures.rows ≡ numbers_of l.fn.figures.rows;
  faults : (g.H.Host.state l.host).disk_faults ≡ (g.H.Host.state l.fn.host).disk_faults;
  says : (g.H.Host.state l.host).say_faults ≡ (g.H.Host.state l.fn.host).say_faults;
  stands : IsTrue g.H.Host.tells → Stands (g.H.Host.state l.fn.host) (g.H.Host.state l.host);
  taking : IsTrue g.H.Host.tells → IsTaking (g.H.Host.state l.fn.host).files l.bits l.number l.scan l.fn.tree l.tree l.fn.figures l.figures;
}

abbrev pub decreases-loop-one : goal.decreases-loop-one
decreases-loop-one g l = left_of l.scan
