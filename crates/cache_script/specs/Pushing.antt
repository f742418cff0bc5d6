-- What is added to the bytes that are to be said.
use Rattle.std.specs.Prelude.{◌≡◌, ℕ, not, ◌<◌, ◌≤◌, List, ◌++◌, length, take, flat_map, Result, MatchResult}
use Rattle.std.specs.declared.alloc.AllocError.{AllocError}
use Rattle.std.specs.List.{prefix_len}
use Rattle.cache_model.specs.Tokens.{is_plain_byte, byte_text}

-- some bytes still stand in front
abbrev pub Extends : List ℕ → List ℕ → Type 0
Extends old new = take (length old) new ≡ old

-- a text was added, or a part of it for want of memory
abbrev pub Pushes : List ℕ → List ℕ → List ℕ → Result (Unit {0}) AllocError → Type 0
Pushes text old new result = MatchResult result (λ done. new ≡ old ++ text) (λ fault. Extends old new)

-- So many bytes were added, each as an escape: those at the front that don't stand for themselves.
pub record AddsEscapes (bytes old new : List ℕ) (count : ℕ) : Type 0 where
  pub counted : count ≡ prefix_len (λ byte. not (is_plain_byte byte)) bytes
  pub within : count ≤ length bytes
  pub added : new ≡ old ++ flat_map byte_text (take count bytes)

-- they were added, or a part of them for want of memory
abbrev pub PushesEscapes : List ℕ → List ℕ → List ℕ → Result ℕ AllocError → Type 0
PushesEscapes bytes old new result = MatchResult result (AddsEscapes bytes old new) (λ fault. Extends old new)

-- So many bytes were added as a part of a token.
pub record AddsPiece (bytes old new : List ℕ) (count : ℕ) : Type 0 where
  pub some : 0 < count
  pub within : count ≤ length bytes
  pub added : new ≡ old ++ flat_map byte_text (take count bytes)

-- the first bytes were added as a part of a token, or a part of that for want of memory
abbrev pub PushesPiece : List ℕ → List ℕ → List ℕ → Result ℕ AllocError → Type 0
PushesPiece bytes old new result = MatchResult result (AddsPiece bytes old new) (λ fault. Extends old new)
