use Rattle.std.proofs.Common.{◌≡◌, false, IsTrue}
use Rattle.cache_model.specs.Files.{bytes_in}
use Rattle.data_file.specs.Scanning.{scanned_name, is_spoilt, left_of, IsScanOf}
use Rattle.append_log.specs.Current.{data_name}
use Rattle.append_log.proofs.tests.counted_in.Given as goal

abbrev pub invariant-loop-one : goal.invariant-loop-one
invariant-loop-one g l = record {
  sound : is_spoilt l.scan ≡ false;
  name : scanned_name l.scan ≡ data_name 0 l.number;
  scans : IsTrue g.H.Host.tells → IsScanOf l.scan (bytes_in (g.H.Host.state l.host).files (data_name 0 l.number));
}

abbrev pub decreases-loop-one : goal.decreases-loop-one
decreases-loop-one g l = left_of l.scan
