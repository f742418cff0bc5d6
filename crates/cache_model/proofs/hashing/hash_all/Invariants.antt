use Rattle.std.proofs.Common.{◌≡◌, drop}
use Rattle.cache_model.specs.Hash.{hash_on}
use Rattle.cache_model.proofs.hashing.hash_all.Given as goal

-- the hash from here on over the rest is that of all
abbrev pub invariant-loop-byte : goal.invariant-loop-byte
invariant-loop-byte l = hash_on l.hash (drop l.byte-index l.bytes) ≡ hash_on 2166136261 l.bytes
