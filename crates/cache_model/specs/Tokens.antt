-- Tokens: how the bytes of keys and values are written in lines.
use Rattle.std.specs.Prelude.{ℕ, ◌+◌, ◌*◌, ◌/◌, ◌%◌, ◌==◌, ◌&&◌, not, Bool, List, [], ◌∷◌, flat_map, Option, Some, None, option_map, if◌then◌else◌, nat_lt, nat_le, codes}
use Rattle.std.specs.Char.{digit_value, is_digit}
use Rattle.std.specs.Str.{bytes_eq}

-- a byte that stands for itself: printable, no space and no percent sign
abbrev pub is_plain_byte : ℕ → Bool
is_plain_byte byte = nat_le 33 byte && nat_le byte 126 && not (byte == 37)

-- a percent sign and two hexadecimal digits, of either case
abbrev pub is_escape : ℕ → ℕ → ℕ → Bool
is_escape sign high low = sign == 37 && is_digit high 16 && is_digit low 16

-- the byte that two hexadecimal digits write
abbrev pub escaped_byte : ℕ → ℕ → ℕ
escaped_byte high low = 16 * digit_value high + digit_value low

-- a byte in front of some bytes, where there are any
abbrev pub behind_byte : ℕ → Option (List ℕ) → Option (List ℕ)
behind_byte byte bytes = option_map (λ rest. byte ∷ rest) bytes

-- The bytes that the pieces of a token stand for: a plain byte for itself, and a percent sign with two hexadecimal
-- digits for the byte that they write.
abbrev pub pieces_value : List ℕ → Option (List ℕ)
pieces_value [] = Some []
pieces_value (byte ∷ high ∷ low ∷ rest) =
    if is_plain_byte byte then behind_byte byte (pieces_value (high ∷ low ∷ rest))
    else (if is_escape byte high low then behind_byte (escaped_byte high low) (pieces_value rest) else None)
pieces_value (byte ∷ rest) = if is_plain_byte byte then behind_byte byte (pieces_value rest) else None

-- the bytes that a token stands for: its pieces, of which it has one at least, or no bytes where it is `%.`
unfoldable pub token_value : List ℕ → Option (List ℕ)
token_value [] = None
token_value (byte ∷ rest) = if bytes_eq (byte ∷ rest) (codes "%.") then Some [] else pieces_value (byte ∷ rest)

-- a hexadecimal digit as it is said: 0 to 9, then a to f
abbrev pub hex_digit : ℕ → ℕ
hex_digit n = if nat_lt n 10 then 48 + n else 87 + n

-- a byte within a token that is said: itself, or a percent sign and two hexadecimal digits
abbrev pub byte_text : ℕ → List ℕ
byte_text byte = if is_plain_byte byte then byte ∷ [] else 37 ∷ hex_digit (byte / 16) ∷ hex_digit (byte % 16) ∷ []

-- some bytes as a token that is said; `%.` stands for none
abbrev pub token_text : List ℕ → List ℕ
token_text [] = codes "%."
token_text (byte ∷ bytes) = flat_map byte_text (byte ∷ bytes)
