use Rattle.std.proofs.Common.{◌≡◌, ◌+◌, drop}
use Rattle.std.specs.List.{prefix_len}
use Rattle.cache_model.specs.Tokens.{is_plain_byte}
use Rattle.cache_script.proofs.tokens.plain_count.Given as goal

abbrev pub invariant-loop-at : goal.invariant-loop-at
invariant-loop-at l = prefix_len is_plain_byte l.bytes ≡ l.at + prefix_len is_plain_byte (drop l.at l.bytes)
