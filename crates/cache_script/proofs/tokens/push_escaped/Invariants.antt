use Rattle.std.proofs.Common.{◌≡◌, ◌++◌, length}
use Rattle.cache_script.specs.Pieces.{escaped}
use Rattle.cache_script.proofs.tokens.push_escaped.Given as goal

abbrev pub invariant-loop-byte : goal.invariant-loop-byte
invariant-loop-byte l = l.fn.out.items ++ escaped l.bytes ≡ l.out.items ++ escaped l.rest

abbrev pub decreases-loop-byte : goal.decreases-loop-byte
decreases-loop-byte l = length l.rest
