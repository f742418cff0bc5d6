-- The hash of keys, and the order in which keys are walked.
use Rattle.std.specs.Prelude.{ℕ, ◌*◌, ◌%◌, ◌^◌, ◌==◌, Bool, List, [], ◌∷◌, Option, Some, None, true, if◌then◌else◌, nat_lt, bit_xor}
use Rattle.std.specs.Ordering.{nat_cmp, is_lt}
use Rattle.std.specs.Cmp.Lexicographic.{slice_cmp}

-- FNV-1a with 32 bits, from a value on
abbrev pub hash_on : ℕ → List ℕ → ℕ
hash_on h [] = h
hash_on h (byte ∷ bytes) = hash_on ((bit_xor h byte * 16777619) % 2 ^ 32) bytes

-- the hash of a key, cut to its low bits
unfoldable pub hash : ℕ → List ℕ → ℕ
hash bits key = hash_on 2166136261 key % 2 ^ bits

-- whether a key stands before another in walk order: by the hash, and then by the bytes
abbrev pub precedes : ℕ → List ℕ → List ℕ → Bool
precedes bits one other =
    if hash bits one == hash bits other then is_lt (slice_cmp nat_cmp one other) else nat_lt (hash bits one) (hash bits other)

-- whether a key stands behind another in walk order, or behind none
abbrev pub follows : ℕ → Option (List ℕ) → List ℕ → Bool
follows bits None key = true
follows bits (Some after) key = precedes bits after key
