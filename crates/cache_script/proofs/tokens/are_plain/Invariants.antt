use Rattle.std.proofs.Common.{◌≡◌, take}
use Rattle.std.specs.List.{list_all}
use Rattle.cache_model.specs.Tokens.{is_plain_byte}
use Rattle.cache_script.proofs.tokens.are_plain.Given as goal

abbrev pub invariant-loop-byte : goal.invariant-loop-byte
invariant-loop-byte l = l.all ≡ list_all is_plain_byte (take l.byte-index l.bytes)
