use Rattle.std.proofs.Common.{◌≡◌, ◌≤◌, false, IsTrue}
use Rattle.data_file.specs.Scanning.{is_spoilt, left_of, scanned_name}
use Rattle.compactor.proofs.NextRecord.{IsPassing}
use Rattle.compactor.proofs.passing.next_record.Given as goal

abbrev pub invariant-loop-one : goal.invariant-loop-one
invariant-loop-one g l = record {
  sound : is_spoilt l.scan ≡ false;
  left : left_of l.scan ≤ left_of l.fn.scan;
  name : scanned_name l.scan ≡ scanned_name l.fn.scan;
  faults : (g.H.Host.state l.host).disk_faults ≡ (g.H.Host.state l.fn.host).disk_faults;
  says : (g.H.Host.state l.host).say_faults ≡ (g.H.Host.state l.fn.host).say_faults;
  passing : IsTrue g.H.Host.tells → IsPassing l.fn.scan l.scan (g.H.Host.state l.fn.host) (g.H.Host.state l.host);
}

abbrev pub decreases-loop-one : goal.decreases-loop-one
decreases-loop-one g l = left_of l.scan
