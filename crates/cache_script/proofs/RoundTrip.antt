-- What is said as a token is read as the same bytes.
use Rattle.std.proofs.Common.{◌≡◌, ℕ, suc, ◌/◌, ◌%◌, ◌<◌, ◌==◌, ◌&&◌, true, false, cond, List, [], ◌∷◌, ◌++◌, flat_map, Some, None, refl, sym, ◌∙◌, ap, arith, codes}
use Rattle.std.specs.Char.{digit_value, is_digit}
use Rattle.std.specs.List.{All}
use Rattle.std.specs.Str.{bytes_eq}
use Rattle.std.proofs.lemmas.Bool.{agree_below_at, and_parts, and_from, eqb-true, cond-true}
use Rattle.std.proofs.lemmas.Slice.Eq.{bytes_eq-Decides}
use Rattle.cache_model.specs.Tokens.{is_plain_byte, is_escape, escaped_byte, behind_byte, pieces_value, token_value, hex_digit, byte_text, token_text}
use Rattle.cache_script.proofs.PieceLemmas.{pieces_value-plain}
use Rattle.cache_script.proofs.TokenLemmas.{token_value-none, token_value-pieces}

-- a hexadecimal digit that is said is read as its value
digit-read : (n : ℕ) → n < 16 → (is_digit (hex_digit n) 16 ≡ true) × (digit_value (hex_digit n) ≡ n)
digit-read n small =
    let both = and_parts (is_digit (hex_digit n) 16) (digit_value (hex_digit n) == n) (agree_below_at (λ k. is_digit (hex_digit k) 16 && (digit_value (hex_digit k) == k)) (λ k. true) 16 n refl small) in
    (both.0, eqb-true (digit_value (hex_digit n)) n both.1)

-- a byte that is said is read as itself
byte-read : (byte : ℕ) (rest : List ℕ) → byte < 256 → pieces_value (byte_text byte ++ rest) ≡ behind_byte byte (pieces_value rest)
byte-read byte rest small =
    elim (is_plain_byte byte) as (λ is. is_plain_byte byte ≡ is → pieces_value (cond is (byte ∷ []) (37 ∷ hex_digit (byte / 16) ∷ hex_digit (byte % 16) ∷ []) ++ rest) ≡ behind_byte byte (pieces_value rest)) [
      | true ↦ λ plain. pieces_value-plain byte rest plain
      | false ↦ λ other.
          let high = digit-read (byte / 16) (omega arith) in
          let low = digit-read (byte % 16) (omega arith) in
          let whole : escaped_byte (hex_digit (byte / 16)) (hex_digit (byte % 16)) ≡ byte = omega (arith, high.1, low.1) in
          cond-true (is_escape 37 (hex_digit (byte / 16)) (hex_digit (byte % 16))) _ None (and_from (is_digit (hex_digit (byte / 16)) 16) (is_digit (hex_digit (byte % 16)) 16) high.0 low.0)
          ∙ ap (λ b. behind_byte b (pieces_value rest)) whole
    ] refl

-- bytes that are said are read as themselves
pieces-read : (bytes : List ℕ) → All (λ byte. byte < 256) bytes → pieces_value (flat_map byte_text bytes) ≡ Some bytes
pieces-read [] small = refl
pieces-read (byte ∷ bytes) small =
    byte-read byte (flat_map byte_text bytes) (small 0 0 (omega arith))
    ∙ ap (behind_byte byte) (pieces-read bytes (λ k d inside. small (suc k) d (omega (arith, inside))))

-- a word whose pieces stand for some bytes is a token
token-from_pieces : (word : List ℕ) (byte : ℕ) (bytes : List ℕ) → pieces_value word ≡ Some (byte ∷ bytes) → token_value word ≡ Some (byte ∷ bytes)
token-from_pieces [] byte bytes value = absurd (let same : [] ≡ byte ∷ bytes = cc in cc)
token-from_pieces (first ∷ word) byte bytes value =
    elim (bytes_eq (first ∷ word) (codes "%.")) as (λ is. bytes_eq (first ∷ word) (codes "%.") ≡ is → token_value (first ∷ word) ≡ Some (byte ∷ bytes)) [
      | true ↦ λ is.
          let none : first ∷ word ≡ codes "%." = (bytes_eq-Decides (first ∷ word) (codes "%.")).0 is in
          let no : None ≡ Some (byte ∷ bytes) = sym (ap pieces_value none) ∙ value in
          absurd (cc)
      | false ↦ λ is. token_value-pieces (first ∷ word) (omega arith) is ∙ value
    ] refl

-- what is said as a token is read as the same bytes
pub read_as_said : (bytes : List ℕ) → All (λ byte. byte < 256) bytes → token_value (token_text bytes) ≡ Some bytes
read_as_said [] small = token_value-none
read_as_said (byte ∷ bytes) small = token-from_pieces (token_text (byte ∷ bytes)) byte bytes (pieces-read (byte ∷ bytes) small)
