-- What a token stands for.
use Rattle.std.specs.Prelude.{◌≡◌, ℕ, List, [], length, Option, Some, unwrap_or, option_and_then}
use Rattle.std.specs.List.{slice_get}
use Rattle.cache_model.specs.Tokens.{token_value}

-- the bytes that a word stands for
abbrev pub bytes_behind : List ℕ → List ℕ
bytes_behind word = unwrap_or (token_value word) []

-- A word is a token that stands for so many bytes.
pub record IsToken (word : List ℕ) (count : ℕ) : Type 0 where
  pub value : token_value word ≡ Some (bytes_behind word)
  pub counted : count ≡ length (bytes_behind word)

-- the bytes that the first of these words stands for, where it is a token
abbrev pub first_token : List (List ℕ) → Option (List ℕ)
first_token words = option_and_then token_value (slice_get words 0)
