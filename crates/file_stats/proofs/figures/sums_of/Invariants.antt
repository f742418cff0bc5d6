use Rattle.std.proofs.Common.{◌≡◌, ◌^◌, ◌<◌, ◌≤◌, All, take}
use Rattle.file_stats.specs.Figures.{bytes_of, live_bytes_of}
use Rattle.file_stats.proofs.figures.sums_of.Given as goal

abbrev pub invariant-loop-row : goal.invariant-loop-row
invariant-loop-row l = record {
  bytes : l.bytes ≡ bytes_of (take l.row-index l.rows);
  live : l.live ≡ live_bytes_of (take l.row-index l.rows);
  lower : l.live ≤ l.bytes;
  fit : All (λ row. row.size < 2 ^ 64) (take l.row-index l.rows);
}
