use Rattle.std.proofs.Common.{◌≡◌, ◌+◌, ◌++◌, take, drop, flat_map}
use Rattle.std.specs.Prelude.{not}
use Rattle.std.specs.List.{prefix_len}
use Rattle.cache_model.specs.Tokens.{is_plain_byte, byte_text}
use Rattle.cache_script.proofs.pushing.push_escapes.Given as goal

abbrev pub invariant-loop-at : goal.invariant-loop-at
invariant-loop-at l = record {
  added : l.out.items ≡ l.fn.out.items ++ flat_map byte_text (take l.at l.bytes);
  counted : prefix_len (λ byte. not (is_plain_byte byte)) l.bytes ≡ l.at + prefix_len (λ byte. not (is_plain_byte byte)) (drop l.at l.bytes);
}
