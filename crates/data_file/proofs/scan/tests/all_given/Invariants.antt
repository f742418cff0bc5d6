use Rattle.std.proofs.Common.{◌≡◌, false, IsTrue}
use Rattle.cache_model.specs.Files.{bytes_in}
use Rattle.cache_model.specs.Images.{log_name}
use Rattle.data_file.specs.Scanning.{scanned_name, is_spoilt, left_of, IsScanOf}
use Rattle.data_file.proofs.scan.tests.all_given.Given as goal

abbrev pub invariant-loop-given : goal.invariant-loop-given
invariant-loop-given g l = record {
  sound : is_spoilt l.scan ≡ false;
  name : scanned_name l.scan ≡ log_name 1;
  scans : IsTrue g.H.Host.tells → IsScanOf l.scan (bytes_in (g.H.Host.state l.host).files (log_name 1));
}

abbrev pub decreases-loop-given : goal.decreases-loop-given
decreases-loop-given g l = left_of l.scan
