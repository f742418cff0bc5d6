-- The pieces of a token, one after another.
use Rattle.std.proofs.Common.{◌≡◌, ◌==◌, ◌*◌, ◌&&◌, Bool, ℕ, suc, ◌+◌, ◌<◌, ◌≤◌, true, false, cond, List, [], ◌∷◌, ◌++◌, length, take, drop, Option, Some, None, refl, sym, ◌∙◌, ap, subst, arith, length-drop}
use Rattle.std.specs.Prelude.{option_map, option_and_then, nat_lt}
use Rattle.std.proofs.lemmas.Bool.Decides.{nat_tests}
use Rattle.std.specs.List.{prefix_len, list_all}
use Rattle.std.proofs.lemmas.List.{length-take-le}
use Rattle.std.proofs.lemmas.Bool.{cond-true, cond-false, cond_both, eqb-true}
use Rattle.std.specs.Char.{is_digit}
use Rattle.cache_model.specs.Tokens.{is_plain_byte, is_escape, escaped_byte, behind_byte, pieces_value}
use Rattle.cache_script.specs.Pieces.{escape_at, escaped, front, Cuts, AddsFront}

-- one map after another
option_map-map : {A B C : Type 0} (f : B → C) (g : A → B) (o : Option A) → option_map f (option_map g o) ≡ option_map (λ x. f (g x)) o
option_map-map f g None = refl
option_map-map f g (Some x) = refl

-- nothing in front
option_map-nothing : (o : Option (List ℕ)) → o ≡ option_map (λ more. [] ++ more) o
option_map-nothing None = refl
option_map-nothing (Some x) = refl

-- a byte that stands for itself
pub pieces_value-plain : (byte : ℕ) (rest : List ℕ) → is_plain_byte byte ≡ true → pieces_value (byte ∷ rest) ≡ behind_byte byte (pieces_value rest)
pieces_value-plain byte [] plain = cond-true (is_plain_byte byte) _ _ plain
pieces_value-plain byte (high ∷ []) plain = cond-true (is_plain_byte byte) _ _ plain
pieces_value-plain byte (high ∷ low ∷ rest) plain = cond-true (is_plain_byte byte) _ _ plain

-- a byte that doesn't begins an escape, or no piece
pieces_value-other : (byte : ℕ) (rest : List ℕ) → is_plain_byte byte ≡ false → pieces_value (byte ∷ rest) ≡ option_and_then (λ b. behind_byte b (pieces_value (drop 3 (byte ∷ rest)))) (escape_at (byte ∷ rest))
pieces_value-other byte [] plain = cond-false (is_plain_byte byte) _ _ plain
pieces_value-other byte (high ∷ []) plain = cond-false (is_plain_byte byte) _ _ plain
pieces_value-other byte (high ∷ low ∷ rest) plain =
    cond-false (is_plain_byte byte) _ _ plain
    ∙ elim (is_escape byte high low) as (λ is. cond is (behind_byte (escaped_byte high low) (pieces_value rest)) None ≡ option_and_then (λ b. behind_byte b (pieces_value rest)) (cond is (Some (escaped_byte high low)) None)) [
      | true ↦ refl
      | false ↦ refl
    ]

-- the bytes at the front that stand for themselves
pub pieces_value-run : (bytes : List ℕ) → pieces_value bytes ≡ option_map (λ more. take (prefix_len is_plain_byte bytes) bytes ++ more) (pieces_value (drop (prefix_len is_plain_byte bytes) bytes))
pieces_value-run [] = refl
pieces_value-run (byte ∷ rest) =
    let count = prefix_len is_plain_byte rest in
    let next : 1 + count ≡ suc count = omega arith in
    cond_both (is_plain_byte byte) (1 + count) 0 (λ n. pieces_value (byte ∷ rest) ≡ option_map (λ more. take n (byte ∷ rest) ++ more) (pieces_value (drop n (byte ∷ rest))))
    (λ plain.
    pieces_value-plain byte rest plain
    ∙ ap (λ o. behind_byte byte o) (pieces_value-run rest)
    ∙ option_map-map (λ more. byte ∷ more) (λ more. take count rest ++ more) (pieces_value (drop count rest))
    ∙ sym (ap (λ n. option_map (λ more. take n (byte ∷ rest) ++ more) (pieces_value (drop n (byte ∷ rest)))) next))
    (λ other. option_map-nothing (pieces_value (byte ∷ rest)))

-- both of two hold
pub both_true : (one other : Bool) → (one && other) ≡ true → (one ≡ true) × (other ≡ true)
both_true true other is = (refl, is)
both_true false other is = absurd (cc)

-- bytes each of which stands for itself
pub pieces_value-all : (bytes : List ℕ) → list_all is_plain_byte bytes ≡ true → pieces_value bytes ≡ Some bytes
pieces_value-all [] all = refl
pieces_value-all (byte ∷ rest) all =
    let both = both_true (is_plain_byte byte) (list_all is_plain_byte rest) all in
    pieces_value-plain byte rest both.0 ∙ ap (λ o. behind_byte byte o) (pieces_value-all rest both.1)

-- some bytes stand for themselves
pub cuts-run : (bytes : List ℕ) (count : ℕ) → count ≡ prefix_len is_plain_byte bytes → 0 < count → count ≤ length bytes → Cuts bytes (take count bytes) count (drop count bytes)
cuts-run bytes count is some inside = record {
  value = subst (λ n. pieces_value bytes ≡ option_map (λ more. take n bytes ++ more) (pieces_value (drop n bytes))) (sym is) (pieces_value-run bytes);
  counted = sym (length-take-le count bytes inside);
  shorter = omega (arith, length-drop count bytes);
  room = omega (arith, length-drop count bytes);
}

-- where no byte at the front stands for itself, an escape does, or there is no piece
pub pieces_value-escape : (bytes : List ℕ) → 0 < length bytes → prefix_len is_plain_byte bytes ≡ 0 → pieces_value bytes ≡ option_and_then (λ b. behind_byte b (pieces_value (drop 3 bytes))) (escape_at bytes)
pieces_value-escape [] some none = absurd (omega arith)
pieces_value-escape (byte ∷ rest) some none =
    elim (is_plain_byte byte) as (λ is. is_plain_byte byte ≡ is → cond is (1 + prefix_len is_plain_byte rest) 0 ≡ 0 → pieces_value (byte ∷ rest) ≡ option_and_then (λ b. behind_byte b (pieces_value (drop 3 (byte ∷ rest)))) (escape_at (byte ∷ rest))) [
      | true ↦ λ plain zero. absurd (omega arith)
      | false ↦ λ plain zero. pieces_value-other byte rest plain
    ] refl none

-- an escape at the front is the first of the escapes there
pub escaped-some : (bytes : List ℕ) (byte : ℕ) → escape_at bytes ≡ Some byte → escaped bytes ≡ byte ∷ escaped (drop 3 bytes)
escaped-some [] byte is = absurd (cc)
escaped-some (sign ∷ []) byte is = absurd (cc)
escaped-some (sign ∷ high ∷ []) byte is = absurd (cc)
escaped-some (sign ∷ high ∷ low ∷ rest) byte is =
    elim (is_escape sign high low) as (λ escape. cond escape (Some (escaped_byte high low)) None ≡ Some byte → cond escape (escaped_byte high low ∷ escaped rest) [] ≡ byte ∷ escaped rest) [
      | true ↦ λ some. cc
      | false ↦ λ none. absurd (cc)
    ] is

-- where none is at the front, there are no escapes there
pub escaped-none : (bytes : List ℕ) → escape_at bytes ≡ None → escaped bytes ≡ []
escaped-none [] is = refl
escaped-none (sign ∷ []) is = refl
escaped-none (sign ∷ high ∷ []) is = refl
escaped-none (sign ∷ high ∷ low ∷ rest) is =
    elim (is_escape sign high low) as (λ escape. cond escape (Some (escaped_byte high low)) None ≡ None → cond escape (escaped_byte high low ∷ escaped rest) [] ≡ []) [
      | true ↦ λ some. absurd (cc)
      | false ↦ λ none. refl
    ] is

-- an escape has three bytes
pub escape-length : (bytes : List ℕ) (byte : ℕ) → escape_at bytes ≡ Some byte → 3 ≤ length bytes
escape-length [] byte is = absurd (cc)
escape-length (sign ∷ []) byte is = absurd (cc)
escape-length (sign ∷ high ∷ []) byte is = absurd (cc)
escape-length (sign ∷ high ∷ low ∷ rest) byte is = omega arith

-- an escape is no byte that stands for itself
escape-sign : (sign high low : ℕ) → is_escape sign high low ≡ true → is_plain_byte sign ≡ false
escape-sign sign high low is = ap is_plain_byte (eqb-true sign 37 (both_true (sign == 37) (is_digit high 16) (both_true (sign == 37 && is_digit high 16) (is_digit low 16) is).0).0)

-- three bytes less for each escape
drop-escape : (sign high low : ℕ) (rest : List ℕ) (count : ℕ) → drop (3 * suc count) (sign ∷ high ∷ low ∷ rest) ≡ drop (3 * count) rest
drop-escape sign high low rest count = ap (λ n. drop n (sign ∷ high ∷ low ∷ rest)) (let next : 3 * suc count ≡ suc (suc (suc (3 * count))) = omega arith in next)

-- the escapes at the front
pub pieces_value-escaped : (bytes : List ℕ) → pieces_value bytes ≡ option_map (λ more. escaped bytes ++ more) (pieces_value (drop (3 * length (escaped bytes)) bytes))
pieces_value-escaped [] = refl
pieces_value-escaped (sign ∷ []) = option_map-nothing (pieces_value (sign ∷ []))
pieces_value-escaped (sign ∷ high ∷ []) = option_map-nothing (pieces_value (sign ∷ high ∷ []))
pieces_value-escaped (sign ∷ high ∷ low ∷ rest) =
    let bytes = sign ∷ high ∷ low ∷ rest in
    let byte = escaped_byte high low in
    cond_both (is_escape sign high low) (byte ∷ escaped rest) [] (λ l. pieces_value bytes ≡ option_map (λ more. l ++ more) (pieces_value (drop (3 * length l) bytes)))
    (λ escape.
    cond-false (is_plain_byte sign) _ _ (escape-sign sign high low escape)
    ∙ cond-true (is_escape sign high low) (behind_byte byte (pieces_value rest)) None escape
    ∙ ap (λ o. behind_byte byte o) (pieces_value-escaped rest)
    ∙ option_map-map (λ more. byte ∷ more) (λ more. escaped rest ++ more) (pieces_value (drop (3 * length (escaped rest)) rest))
    ∙ sym (ap (λ l. option_map (λ more. (byte ∷ escaped rest) ++ more) (pieces_value l)) (drop-escape sign high low rest (length (escaped rest)))))
    (λ other. option_map-nothing (pieces_value bytes))

-- some escapes stand for their bytes
pub cuts-escapes : (bytes : List ℕ) (count : ℕ) → count ≡ length (escaped bytes) → 3 * count ≤ length bytes → 0 < count → Cuts bytes (escaped bytes) count (drop (3 * count) bytes)
cuts-escapes bytes count is inside some = record {
  value = subst (λ n. pieces_value bytes ≡ option_map (λ more. escaped bytes ++ more) (pieces_value (drop (3 * n) bytes))) (sym is) (pieces_value-escaped bytes);
  counted = is;
  shorter = omega (arith, length-drop (3 * count) bytes);
  room = omega (arith, length-drop (3 * count) bytes);
}

-- no escape, no piece
pub cuts-none : (bytes : List ℕ) → 0 < length bytes → prefix_len is_plain_byte bytes ≡ 0 → length (escaped bytes) ≡ 0 → pieces_value bytes ≡ None
cuts-none bytes some none zero =
    elim (escape_at bytes) as (λ found. escape_at bytes ≡ found → pieces_value bytes ≡ None) [
      | Some byte ↦ λ is. absurd (omega (arith, zero, ap (λ (l : List ℕ). length l) (escaped-some bytes byte is)))
      | None ↦ λ is. pieces_value-escape bytes some none ∙ ap (λ o. option_and_then (λ b. behind_byte b (pieces_value (drop 3 bytes))) o) is
    ] refl

-- the first piece, where a byte at the front stands for itself
pub front-run : (bytes : List ℕ) (count : ℕ) → count ≡ prefix_len is_plain_byte bytes → 0 < count → front bytes ≡ take count bytes
front-run bytes count is some = cond-true (nat_lt 0 (prefix_len is_plain_byte bytes)) _ _ (grind (arith, nat_tests)) ∙ ap (λ n. take n bytes) (sym is)

-- and where none does
pub front-escapes : (bytes : List ℕ) → prefix_len is_plain_byte bytes ≡ 0 → front bytes ≡ escaped bytes
front-escapes bytes none = cond-false (nat_lt 0 (prefix_len is_plain_byte bytes)) _ _ (grind (arith, nat_tests))

-- it is cut off
pub cuts-front-run : (bytes : List ℕ) (count : ℕ) → count ≡ prefix_len is_plain_byte bytes → 0 < count → count ≤ length bytes → Cuts bytes (front bytes) count (drop count bytes)
cuts-front-run bytes count is some inside = subst (λ l. Cuts bytes l count (drop count bytes)) (sym (front-run bytes count is some)) (cuts-run bytes count is some inside)

pub cuts-front-escapes : (bytes : List ℕ) (count : ℕ) → prefix_len is_plain_byte bytes ≡ 0 → count ≡ length (escaped bytes) → 3 * count ≤ length bytes → 0 < count → Cuts bytes (front bytes) count (drop (3 * count) bytes)
cuts-front-escapes bytes count none is inside some = subst (λ l. Cuts bytes l count (drop (3 * count) bytes)) (sym (front-escapes bytes none)) (cuts-escapes bytes count is inside some)

-- an escape has three bytes, so there is room for each
pub escaped-room : (bytes : List ℕ) → 3 * length (escaped bytes) ≤ length bytes
escaped-room [] = omega arith
escaped-room (sign ∷ []) = omega arith
escaped-room (sign ∷ high ∷ []) = omega arith
escaped-room (sign ∷ high ∷ low ∷ rest) =
    cond_both (is_escape sign high low) (escaped_byte high low ∷ escaped rest) [] (λ l. 3 * length l ≤ length (sign ∷ high ∷ low ∷ rest))
    (λ escape. omega (arith, escaped-room rest))
    (λ other. omega arith)

-- the first piece was added: bytes that stand for themselves, or escapes
pub adds-run : (bytes old new : List ℕ) (count : ℕ) → count ≡ prefix_len is_plain_byte bytes → 0 < count → count ≤ length bytes → new ≡ old ++ take count bytes → AddsFront bytes old new (drop count bytes)
adds-run bytes old new count is some inside added =
    let run = front-run bytes count is some in
    record {
      cuts = subst (λ n. Cuts bytes (front bytes) n (drop count bytes)) (sym (ap (λ (l : List ℕ). length l) run ∙ length-take-le count bytes inside)) (cuts-front-run bytes count is some inside);
      added = added ∙ ap (λ l. old ++ l) (sym run);
    }

pub adds-escapes : (bytes old new : List ℕ) (count : ℕ) → prefix_len is_plain_byte bytes ≡ 0 → count ≡ length (escaped bytes) → 3 * count ≤ length bytes → 0 < count → new ≡ old ++ escaped bytes → AddsFront bytes old new (drop (3 * count) bytes)
adds-escapes bytes old new count none is inside some added =
    let escapes = front-escapes bytes none in
    record {
      cuts = subst (λ n. Cuts bytes (front bytes) n (drop (3 * count) bytes)) (is ∙ sym (ap (λ (l : List ℕ). length l) escapes)) (cuts-front-escapes bytes count none is inside some);
      added = added ∙ ap (λ l. old ++ l) (sym escapes);
    }
