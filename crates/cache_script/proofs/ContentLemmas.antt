-- What a line means, by its content.
use Rattle.std.proofs.Common.{◌≡◌, ℕ, ◌+◌, ◌-◌, ◌<◌, ◌≤◌, List, [], ◌∷◌, length, take, sym, ◌∙◌, ap, subst, arith, nat_eq}
use Rattle.std.specs.List.{ends_with}
use Rattle.std.proofs.lemmas.Bool.{cond_both, cond-true, cond-false, lt-ltb, le-ltb}
use Rattle.std.proofs.lemmas.List.{length-take-le}
use Rattle.cache_model.specs.Lines.{content_of, content_meaning, meaning_of, refuses}
use Rattle.cache_model.specs.Replies.{long}
use Rattle.cache_script.specs.LineReader.{HasContent, IsLong}

-- a line has at most one byte more than its content
pub length-content : (line : List ℕ) → length line ≤ length (content_of line) + 1
length-content line =
    cond_both (ends_with nat_eq line (13 ∷ [])) (take (length line - 1) line) line (λ content. length line ≤ length content + 1)
    (λ ends. omega (arith, length-take-le (length line - 1) line (omega arith)))
    (λ no. omega arith)

meaning_of-short : (line : List ℕ) → length (content_of line) ≤ 1048576 → meaning_of line ≡ content_meaning (content_of line)
unfolding meaning_of
meaning_of-short line short = cond-false _ (refuses long) (content_meaning (content_of line)) (le-ltb 1048576 (length (content_of line)) short)

meaning_of-long : (line : List ℕ) → 1048576 < length (content_of line) → meaning_of line ≡ refuses long
unfolding meaning_of
meaning_of-long line above = cond-true _ (refuses long) (content_meaning (content_of line)) (lt-ltb 1048576 (length (content_of line)) above)

-- a line with this content, which isn't long
pub has-content : (line text : List ℕ) → content_of line ≡ text → length text ≤ 1048576 → HasContent line text
has-content line text is short = record {
  content = is;
  short = short;
  means = meaning_of-short line (subst (λ l. length l ≤ 1048576) (sym is) short) ∙ ap content_meaning is;
}

-- a long line
pub is-long : (line : List ℕ) → 1048576 < length (content_of line) → IsLong line
is-long line above = record { above = above; means = meaning_of-long line above }
