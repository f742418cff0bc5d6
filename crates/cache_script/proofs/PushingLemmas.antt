-- Bytes and tokens that are said.
use Rattle.std.proofs.Common.{◌≡◌, true, false, cond, ◌<◌, ℕ, suc, ◌+◌, ◌≤◌, List, [], ◌∷◌, ◌++◌, length, take, drop, flat_map, refl, sym, ◌∙◌, ap, subst, arith, append_assoc, length-take, take-append-drop}
use Rattle.std.specs.List.{prefix_len, list_all}
use Rattle.std.proofs.lemmas.Bool.{cond-true, cond_both}
use Rattle.std.proofs.lemmas.List.{take-take, take_at}
use Rattle.std.proofs.lemmas.List.Concat.{flat_map-append}
use Rattle.cache_model.specs.Tokens.{is_plain_byte, byte_text, token_text}
use Rattle.std.specs.Prelude.{Result, Ok, Err, not}
use Rattle.std.specs.declared.alloc.AllocError.{AllocError}
use Rattle.cache_script.specs.Pushing.{Extends, Pushes, AddsPiece, PushesPiece, PushesEscapes}
use Rattle.cache_script.proofs.PieceLemmas.{both_true}

-- bytes that stand for themselves are said as they are
pub run-text : (bytes : List ℕ) → flat_map byte_text (take (prefix_len is_plain_byte bytes) bytes) ≡ take (prefix_len is_plain_byte bytes) bytes
run-text [] = refl
run-text (byte ∷ rest) =
    let count = prefix_len is_plain_byte rest in
    let next : 1 + count ≡ suc count = omega arith in
    cond_both (is_plain_byte byte) (1 + count) 0 (λ n. flat_map byte_text (take n (byte ∷ rest)) ≡ take n (byte ∷ rest))
    (λ plain.
    subst (λ n. flat_map byte_text (take n (byte ∷ rest)) ≡ take n (byte ∷ rest)) (sym next)
    (ap (λ text. text ++ flat_map byte_text (take count rest)) (cond-true (is_plain_byte byte) (byte ∷ []) _ plain) ∙ ap (λ l. byte ∷ l) (run-text rest)))
    (λ other. refl)

-- bytes each of which stands for itself are said as they are
all-text : (bytes : List ℕ) → list_all is_plain_byte bytes ≡ true → flat_map byte_text bytes ≡ bytes
all-text [] all = refl
all-text (byte ∷ rest) all =
    let both = both_true (is_plain_byte byte) (list_all is_plain_byte rest) all in
    ap (λ text. text ++ flat_map byte_text rest) (cond-true (is_plain_byte byte) (byte ∷ []) _ both.0) ∙ ap (λ l. byte ∷ l) (all-text rest both.1)

-- and so is a token of them, where there are any
pub plain-token : (bytes : List ℕ) → 0 < length bytes → list_all is_plain_byte bytes ≡ true → token_text bytes ≡ bytes
plain-token [] some all = absurd (omega arith)
plain-token (byte ∷ rest) some all = all-text (byte ∷ rest) all

-- what is left to be said, once a piece was added
pub text-more : (bytes old new whole : List ℕ) (count : ℕ) → old ++ flat_map byte_text bytes ≡ whole → AddsPiece bytes old new count → new ++ flat_map byte_text (drop count bytes) ≡ whole
text-more bytes old new whole count before piece =
    ap (λ l. l ++ flat_map byte_text (drop count bytes)) piece.added
    ∙ append_assoc old (flat_map byte_text (take count bytes)) (flat_map byte_text (drop count bytes))
    ∙ ap (λ l. old ++ l) (sym (flat_map-append byte_text (take count bytes) (drop count bytes)) ∙ ap (flat_map byte_text) (take-append-drop count bytes))
    ∙ before

-- bytes that stand in front of what stands in front
pub extends-twice : (one two three : List ℕ) → Extends one two → Extends two three → Extends one three
extends-twice one two three first second =
    let inside : length one ≤ length two = omega (arith, ap length first, length-take (length one) two) in
    sym (take-take (length one) (length two) three inside) ∙ ap (take (length one)) second ∙ first

-- bytes with more behind them
pub extends-more : (one more : List ℕ) → Extends one (one ++ more)
extends-more one more = take_at one more (length one) refl

-- one text behind another
pub pushes-then : (one two old middle new : List ℕ) (result : Result (Unit {0}) AllocError) → middle ≡ old ++ one → Pushes two middle new result → Pushes (one ++ two) old new result
pushes-then one two old middle new (Ok done) first second = second ∙ ap (λ l. l ++ two) first ∙ append_assoc old one two
pushes-then one two old middle new (Err fault) first second =
    extends-twice old middle new (subst (λ l. Extends old l) (sym first) (extends-more old one)) second

-- where no byte at the front stands for itself, one doesn't
some-escape : (bytes : List ℕ) → 0 < length bytes → prefix_len is_plain_byte bytes ≡ 0 → 0 < prefix_len (λ byte. not (is_plain_byte byte)) bytes
some-escape [] some none = absurd (omega arith)
some-escape (byte ∷ rest) some none =
    elim (is_plain_byte byte) as (λ plain. cond plain (1 + prefix_len is_plain_byte rest) 0 ≡ 0 → 0 < cond (not plain) (1 + prefix_len (λ b. not (is_plain_byte b)) rest) 0) [
      | true ↦ λ zero. absurd (omega (arith, zero))
      | false ↦ λ zero. omega arith
    ] none

-- escapes are a part of a token
pub escapes-piece : (bytes old new : List ℕ) (result : Result ℕ AllocError) → 0 < length bytes → prefix_len is_plain_byte bytes ≡ 0 → PushesEscapes bytes old new result → PushesPiece bytes old new result
escapes-piece bytes old new (Ok count) some none adds = record {
  some = omega (arith, adds.counted, some-escape bytes some none);
  within = adds.within;
  added = adds.added;
}
escapes-piece bytes old new (Err fault) some none front = front
