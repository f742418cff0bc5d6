use Rattle.std.proofs.Common.{◌≡◌, ◌+◌, ◌*◌, length}
use Rattle.cache_script.specs.Pieces.{escaped}
use Rattle.cache_script.proofs.tokens.escapes_count.Given as goal

abbrev pub invariant-loop-rest : goal.invariant-loop-rest
invariant-loop-rest l = record {
  count : length (escaped l.bytes) ≡ l.count + length (escaped l.rest);
  room : 3 * l.count + length l.rest ≡ length l.bytes;
}

abbrev pub decreases-loop-rest : goal.decreases-loop-rest
decreases-loop-rest l = length l.rest
