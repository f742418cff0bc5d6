use Rattle.std.proofs.Common.{◌≡◌, ◌++◌, length}
use Rattle.std.specs.Prelude.{option_map}
use Rattle.cache_model.specs.Tokens.{pieces_value}
use Rattle.cache_script.proofs.tokens.push_pieces.Given as goal

abbrev pub invariant-loop-behind : goal.invariant-loop-behind
invariant-loop-behind l = option_map (λ bytes. l.fn.out.items ++ bytes) (pieces_value l.pieces) ≡ option_map (λ bytes. l.out.items ++ bytes) (pieces_value l.rest)

abbrev pub decreases-loop-behind : goal.decreases-loop-behind
decreases-loop-behind l = length l.rest
