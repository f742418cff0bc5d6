use Rattle.std.proofs.Common.{◌≡◌, length, List, ℕ, [], ◌<◌, ◌∙◌, sym, ap, arith, codes, false}
use Rattle.std.specs.Prelude.{option_map}
use Rattle.std.specs.Str.{bytes_eq}
use Rattle.std.proofs.lemmas.Bool.{eqb-true, eqb-false}
use Rattle.std.proofs.lemmas.List.{nil_from_length}
use Rattle.std.proofs.lemmas.Slice.Eq.{bytes_eq-Decides}
use Rattle.cache_model.specs.Tokens.{token_value}
use Rattle.cache_script.proofs.PieceLemmas.{pieces_value-all}
use Rattle.cache_script.proofs.TokenLemmas.{token_value-empty, token_value-none, token_value-pieces}
use Rattle.cache_script.proofs.tokens.token_count.Goals as goal

pub returns-then-is_empty : goal.returns-then-is_empty
returns-then-is_empty c =
    let empty : c.args.word.now ≡ [] = nil_from_length c.args.word.now (eqb-true (length c.args.word.now) 0 (sym c.if-is_empty.ensures)) in
    sym (ap (λ (word : List ℕ). option_map length (token_value word)) empty ∙ ap (λ o. option_map length o) token_value-empty)

pub returns-then-eq : goal.returns-then-eq
returns-then-eq c =
    let none : c.args.word.now ≡ codes "%." = (bytes_eq-Decides c.args.word.now (codes "%.")).0 (ap (bytes_eq c.args.word.now) (sym c.as_slice.ensures) ∙ sym c.if-eq.ensures) in
    sym (ap (λ (word : List ℕ). option_map length (token_value word)) none ∙ ap (λ o. option_map length o) token_value-none)

pub returns-then-are_plain : goal.returns-then-are_plain
returns-then-are_plain c =
    let other : bytes_eq c.args.word.now (codes "%.") ≡ false = ap (bytes_eq c.args.word.now) (sym c.as_slice.ensures) ∙ sym c.eq.ensures ∙ c.if-eq.false in
    let some : 0 < length c.args.word.now = omega (arith, eqb-false (length c.args.word.now) 0 (sym c.if-is_empty.ensures)) in
    sym (ap (λ o. option_map length o) (token_value-pieces c.args.word.now some other ∙ pieces_value-all c.args.word.now (sym c.if-are_plain.ensures)))

pub returns : goal.returns
returns c =
    let other : bytes_eq c.args.word.now (codes "%.") ≡ false = ap (bytes_eq c.args.word.now) (sym c.as_slice.ensures) ∙ sym c.eq.ensures ∙ c.if-eq.false in
    let some : 0 < length c.args.word.now = omega (arith, eqb-false (length c.args.word.now) 0 (sym c.if-is_empty.ensures)) in
    c.pieces_count.ensures ∙ ap (λ o. option_map length o) (sym (token_value-pieces c.args.word.now some other))
