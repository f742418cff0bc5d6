-- What tokens stand for.
use Rattle.std.proofs.Common.{◌≡◌, ℕ, suc, ◌<◌, ◌≤◌, true, false, cond, List, [], ◌∷◌, ◌++◌, length, Option, Some, None, refl, sym, ◌∙◌, ap, arith, append_assoc, append-nil, codes}
use Rattle.std.specs.Prelude.{option_map, unwrap_or, IfSome}
use Rattle.std.specs.Str.{bytes_eq}
use Rattle.std.proofs.lemmas.Bool.{cond-false}
use Rattle.std.proofs.lemmas.Slice.Eq.{bytes_eq-Decides}
use Rattle.cache_model.specs.Tokens.{is_plain_byte, is_escape, escaped_byte, behind_byte, pieces_value, token_value}
use Rattle.cache_script.specs.Pieces.{Cuts, AddsNothing}
use Rattle.cache_script.specs.Tokens.{bytes_behind, IsToken}

-- no word of no bytes is a token
pub token_value-empty : token_value [] ≡ None
unfolding token_value
token_value-empty = refl

-- `%.` stands for no bytes
pub token_value-none : token_value (codes "%.") ≡ Some []
unfolding token_value
token_value-none = refl

-- any other word is its pieces
pub token_value-pieces : (word : List ℕ) → 0 < length word → bytes_eq word (codes "%.") ≡ false → token_value word ≡ pieces_value word
unfolding token_value
token_value-pieces [] some other = absurd (omega arith)
token_value-pieces (byte ∷ rest) some other = cond-false (bytes_eq (byte ∷ rest) (codes "%.")) _ _ other

-- a byte in front of the bytes that are there
behind_byte-some : (byte : ℕ) (o : Option (List ℕ)) (bytes : List ℕ) → behind_byte byte o ≡ Some bytes → (more : List ℕ) × (o ≡ Some more) × (bytes ≡ byte ∷ more)
behind_byte-some byte None bytes is = absurd (cc)
behind_byte-some byte (Some more) bytes is = (more, refl, cc)

-- Pieces stand for as many bytes as they have at most, and for themselves where they stand for as many.
abbrev IsShort : List ℕ → List ℕ → Type 0
IsShort word bytes = (length bytes ≤ length word) × (length bytes ≡ length word → bytes ≡ word)

-- one plain byte more
short-plain : (byte : ℕ) (rest bytes : List ℕ) → ((more : List ℕ) → pieces_value rest ≡ Some more → IsShort rest more) → behind_byte byte (pieces_value rest) ≡ Some bytes → IsShort (byte ∷ rest) bytes
short-plain byte rest bytes shorter is =
    let more = behind_byte-some byte (pieces_value rest) bytes is in
    let short = shorter more.0 more.1 in
    let size : length bytes ≡ suc (length more.0) = ap (λ (l : List ℕ). length l) more.2 in (
      omega (arith, short.0, size),
      λ same. more.2 ∙ ap (λ (l : List ℕ). byte ∷ l) (short.1 (omega (arith, size, same))),
    )

-- one escape more
short-escape : (byte sign high low : ℕ) (rest bytes : List ℕ) → ((more : List ℕ) → pieces_value rest ≡ Some more → IsShort rest more) → behind_byte byte (pieces_value rest) ≡ Some bytes → IsShort (sign ∷ high ∷ low ∷ rest) bytes
short-escape byte sign high low rest bytes shorter is =
    let more = behind_byte-some byte (pieces_value rest) bytes is in
    let short = shorter more.0 more.1 in
    let size : length bytes ≡ suc (length more.0) = ap (λ (l : List ℕ). length l) more.2 in (
      omega (arith, short.0, size),
      λ same. absurd (omega (arith, short.0, size, same)),
    )

pieces_value-short : (word bytes : List ℕ) → pieces_value word ≡ Some bytes → IsShort word bytes
pieces_value-short [] bytes is = let none : bytes ≡ [] = cc in (omega (arith, ap (λ (l : List ℕ). length l) none), λ same. none)
pieces_value-short (byte ∷ []) bytes is =
    elim (is_plain_byte byte) as (λ plain. cond plain (behind_byte byte (Some [])) None ≡ Some bytes → IsShort (byte ∷ []) bytes) [
      | true ↦ λ some. short-plain byte [] bytes (λ more is. pieces_value-short [] more is) some
      | false ↦ λ some. absurd (cc)
    ] is
pieces_value-short (byte ∷ high ∷ []) bytes is =
    elim (is_plain_byte byte) as (λ plain. cond plain (behind_byte byte (pieces_value (high ∷ []))) None ≡ Some bytes → IsShort (byte ∷ high ∷ []) bytes) [
      | true ↦ λ some. short-plain byte (high ∷ []) bytes (λ more is. pieces_value-short (high ∷ []) more is) some
      | false ↦ λ some. absurd (cc)
    ] is
pieces_value-short (byte ∷ high ∷ low ∷ rest) bytes is =
    elim (is_plain_byte byte) as (λ plain. cond plain (behind_byte byte (pieces_value (high ∷ low ∷ rest))) (cond (is_escape byte high low) (behind_byte (escaped_byte high low) (pieces_value rest)) None) ≡ Some bytes → IsShort (byte ∷ high ∷ low ∷ rest) bytes) [
      | true ↦ λ some. short-plain byte (high ∷ low ∷ rest) bytes (λ more is. pieces_value-short (high ∷ low ∷ rest) more is) some
      | false ↦ elim (is_escape byte high low) as (λ escape. cond escape (behind_byte (escaped_byte high low) (pieces_value rest)) None ≡ Some bytes → IsShort (byte ∷ high ∷ low ∷ rest) bytes) [
        | true ↦ λ some. short-escape (escaped_byte high low) byte high low rest bytes (λ more is. pieces_value-short rest more is) some
        | false ↦ λ some. absurd (cc)
      ]
    ] is

-- a token that stands for as many bytes as it has stands for itself
pub literal : (word : List ℕ) (count : ℕ) → IsToken word count → count ≡ length word → word ≡ bytes_behind word
literal [] count token same = absurd (let no : None ≡ Some (bytes_behind []) = sym token_value-empty ∙ token.value in cc)
literal (byte ∷ rest) count token same =
    elim (bytes_eq (byte ∷ rest) (codes "%.")) as (λ is. bytes_eq (byte ∷ rest) (codes "%.") ≡ is → byte ∷ rest ≡ bytes_behind (byte ∷ rest)) [
      | true ↦ λ is.
          let word : byte ∷ rest ≡ codes "%." = (bytes_eq-Decides (byte ∷ rest) (codes "%.")).0 is in
          let empty : bytes_behind (byte ∷ rest) ≡ [] = ap bytes_behind word ∙ ap (λ o. unwrap_or o []) token_value-none in
          absurd (omega (arith, ap (λ (l : List ℕ). length l) word, ap (λ (l : List ℕ). length l) empty, token.counted, same))
      | false ↦ λ is.
          let value : pieces_value (byte ∷ rest) ≡ Some (bytes_behind (byte ∷ rest)) = sym (token_value-pieces (byte ∷ rest) (omega arith) is) ∙ token.value in
          sym ((pieces_value-short (byte ∷ rest) (bytes_behind (byte ∷ rest)) value).1 (sym token.counted ∙ same))
    ] refl

-- a token that stands for some bytes is its pieces
pub some-pieces : (word : List ℕ) (count : ℕ) → IsToken word count → 0 < count → pieces_value word ≡ Some (bytes_behind word)
some-pieces [] count token some = absurd (let no : None ≡ Some (bytes_behind []) = sym token_value-empty ∙ token.value in cc)
some-pieces (byte ∷ rest) count token some =
    elim (bytes_eq (byte ∷ rest) (codes "%.")) as (λ is. bytes_eq (byte ∷ rest) (codes "%.") ≡ is → pieces_value (byte ∷ rest) ≡ Some (bytes_behind (byte ∷ rest))) [
      | true ↦ λ is.
          let word : byte ∷ rest ≡ codes "%." = (bytes_eq-Decides (byte ∷ rest) (codes "%.")).0 is in
          let empty : bytes_behind (byte ∷ rest) ≡ [] = ap bytes_behind word ∙ ap (λ o. unwrap_or o []) token_value-none in
          absurd (omega (arith, ap (λ (l : List ℕ). length l) empty, token.counted, some))
      | false ↦ λ is. sym (token_value-pieces (byte ∷ rest) (omega arith) is) ∙ token.value
    ] refl

-- one list more in front
append-pieces : (added piece : List ℕ) (o : Option (List ℕ)) → option_map (λ l. added ++ l) (option_map (λ more. piece ++ more) o) ≡ option_map (λ l. (added ++ piece) ++ l) o
append-pieces added piece None = refl
append-pieces added piece (Some more) = ap Some (sym (append_assoc added piece more))

-- the bytes that pieces stand for, once those of one of them are added
pub added-more : (whole bytes piece : List ℕ) (count : ℕ) (rest out added : List ℕ) → option_map (λ l. out ++ l) (pieces_value whole) ≡ option_map (λ l. added ++ l) (pieces_value bytes) → Cuts bytes piece count rest → option_map (λ l. out ++ l) (pieces_value whole) ≡ option_map (λ l. (added ++ piece) ++ l) (pieces_value rest)
added-more whole bytes piece count rest out added before cuts =
    before ∙ ap (λ o. option_map (λ l. added ++ l) o) cuts.value ∙ append-pieces added piece (pieces_value rest)

some_same : (one other : List ℕ) → Some one ≡ Some other → one ≡ other
some_same one other is = cc

-- what was added, once no piece is left
pub added-all : (whole rest old out new : List ℕ) → option_map (λ l. old ++ l) (pieces_value whole) ≡ option_map (λ l. out ++ l) (pieces_value rest) → AddsNothing rest out new → IfSome (pieces_value whole) (λ bytes. new ≡ old ++ bytes)
added-all whole [] old out new before nothing =
    elim (pieces_value whole) as (λ found. option_map (λ l. old ++ l) found ≡ Some (out ++ []) → IfSome found (λ bytes. new ≡ old ++ bytes)) [
      | None ↦ λ none. tt
      | Some bytes ↦ λ some. nothing.1 ∙ sym (append-nil out) ∙ sym (some_same (old ++ bytes) (out ++ []) some)
    ] before
added-all whole (byte ∷ rest) old out new before nothing =
    elim (pieces_value whole) as (λ found. option_map (λ l. old ++ l) found ≡ option_map (λ l. out ++ l) (pieces_value (byte ∷ rest)) → IfSome found (λ bytes. new ≡ old ++ bytes)) [
      | None ↦ λ none. tt
      | Some bytes ↦ λ some. absurd (let no : Some (old ++ bytes) ≡ None = some ∙ ap (λ o. option_map (λ l. out ++ l) o) (nothing.0 (omega arith)) in cc)
    ] before
