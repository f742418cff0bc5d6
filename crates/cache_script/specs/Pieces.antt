-- The pieces of a token.
use Rattle.std.specs.Prelude.{◌≡◌, ℕ, ◌<◌, ◌≤◌, ◌+◌, List, [], ◌∷◌, ◌++◌, length, take, Option, Some, None, option_map, if◌then◌else◌, nat_lt}
use Rattle.std.specs.List.{prefix_len}
use Rattle.std.specs.Char.{digit_value, is_digit}
use Rattle.cache_model.specs.Tokens.{is_plain_byte, is_escape, escaped_byte, pieces_value}

-- the value of a hexadecimal digit
abbrev pub hex_value : ℕ → Option ℕ
hex_value byte = if is_digit byte 16 then Some (digit_value byte) else None

-- the byte of an escape at the front of some bytes, where one stands there
abbrev pub escape_at : List ℕ → Option ℕ
escape_at [] = None
escape_at (sign ∷ []) = None
escape_at (sign ∷ high ∷ []) = None
escape_at (sign ∷ high ∷ low ∷ rest) = if is_escape sign high low then Some (escaped_byte high low) else None

-- the bytes of the escapes at the front of some bytes, one behind another
abbrev pub escaped : List ℕ → List ℕ
escaped [] = []
escaped (sign ∷ []) = []
escaped (sign ∷ high ∷ []) = []
escaped (sign ∷ high ∷ low ∷ rest) = if is_escape sign high low then escaped_byte high low ∷ escaped rest else []

-- the bytes that the first piece stands for: those at the front that stand for themselves, or else those of the escapes
abbrev pub front : List ℕ → List ℕ
front bytes = if nat_lt 0 (prefix_len is_plain_byte bytes) then take (prefix_len is_plain_byte bytes) bytes else escaped bytes

-- Some bytes begin with a piece that stands for these bytes, so many of them, and the rest stands behind it.
pub record Cuts (bytes piece : List ℕ) (count : ℕ) (rest : List ℕ) : Type 0 where
  pub value : pieces_value bytes ≡ option_map (λ more. piece ++ more) (pieces_value rest)
  pub counted : count ≡ length piece
  pub shorter : length rest < length bytes
  pub room : count + length rest ≤ length bytes

-- some bytes, where there are any, aren't pieces, since none is at the front
abbrev pub HasNoPiece : List ℕ → Type 0
HasNoPiece bytes = 0 < length bytes → pieces_value bytes ≡ None

-- there is no piece, and nothing was added
abbrev pub AddsNothing : List ℕ → List ℕ → List ℕ → Type 0
AddsNothing bytes old new = HasNoPiece bytes × (new ≡ old)

-- The bytes that the first piece stands for were added, and the rest stands behind it.
pub record AddsFront (bytes old new rest : List ℕ) : Type 0 where
  pub cuts : Cuts bytes (front bytes) (length (front bytes)) rest
  pub added : new ≡ old ++ front bytes
