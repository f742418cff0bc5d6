use Rattle.std.proofs.Common.{◌≡◌, ◌+◌, ◌≤◌, length}
use Rattle.std.specs.Prelude.{option_map}
use Rattle.cache_model.specs.Tokens.{pieces_value}
use Rattle.cache_script.proofs.tokens.pieces_count.Given as goal

abbrev pub invariant-loop-cut : goal.invariant-loop-cut
invariant-loop-cut l = record {
  value : option_map length (pieces_value l.pieces) ≡ option_map (λ n. l.count + n) (option_map length (pieces_value l.rest));
  room : l.count + length l.rest ≤ length l.pieces;
}

abbrev pub decreases-loop-cut : goal.decreases-loop-cut
decreases-loop-cut l = length l.rest
