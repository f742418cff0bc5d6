use Rattle.std.proofs.Common.{◌≡◌, ◌++◌, flat_map, length}
use Rattle.cache_model.specs.Tokens.{byte_text}
use Rattle.cache_script.specs.Pushing.{Extends}
use Rattle.cache_script.proofs.pushing.push_pieces.Given as goal

abbrev pub invariant-loop-rest : goal.invariant-loop-rest
invariant-loop-rest l = record {
  text : l.out.items ++ flat_map byte_text l.rest ≡ l.fn.out.items ++ flat_map byte_text l.bytes;
  front : Extends l.fn.out.items l.out.items;
}

abbrev pub decreases-loop-rest : goal.decreases-loop-rest
decreases-loop-rest l = length l.rest
