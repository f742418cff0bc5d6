use Rattle.std.proofs.Common.{◌≡◌, false, IsTrue}
use Rattle.cache_model.specs.Files.{bytes_in}
use Rattle.cache_model.specs.Images.{log_name}
use Rattle.data_file.specs.Scanning.{scanned_name, is_spoilt, left_of, IsScanOf}
use Rattle.rebuild.proofs.tests.read_on.Given as goal

abbrev pub invariant-loop-one : goal.invariant-loop-one
invariant-loop-one g l = record {
  sound : is_spoilt l.scan ≡ false;
  name : scanned_name l.scan ≡ log_name l.number;
  scans : IsTrue g.H.Host.tells → IsScanOf l.scan (bytes_in (g.H.Host.state l.host).files (log_name l.number));
}

abbrev pub decreases-loop-one : goal.decreases-loop-one
decreases-loop-one g l = left_of l.scan
