-- Where a byte is found, and the words of a line.
use Rattle.std.proofs.Common.{◌≡◌, ℕ, ◌+◌, ◌<◌, ◌≤◌, ◌==◌, Bool, true, false, List, [], ◌∷◌, ◌++◌, length, take, drop, get_or, Option, Some, None, MatchOption, sym, ◌∙◌, ap, subst, arith, take-append-drop}
use Rattle.std.specs.List.{slice_get}
use Rattle.std.specs.Prelude.{is_some, not, MatchBool, ◌≢◌}
use Rattle.std.specs.Borrow.{Bor}
use Rattle.cache_script.specs.Words.{words_left}
use Rattle.std.proofs.lemmas.Bool.{false_from_ne_true, eqb-true}
use Rattle.std.proofs.lemmas.List.{get_or-take, get_or_default, length-take-le, drop_more}
use Rattle.std.proofs.lemmas.List.Folds.{list_any_none}
use Rattle.memchr.specs.Find.{IsFirstByte, is_byte}
use Rattle.cache_model.specs.Lines.{Lacks, IsFirst, words_of}
use Rattle.cache_model.proofs.Cut.{cut_at-found, cut_at-whole, cut_at-first}

-- no byte in front of a place is the separator
before-lacks : (separator : ℕ) (bytes : List ℕ) (at : ℕ) → at ≤ length bytes → ((k : ℕ) → k < at → is_byte separator (get_or bytes k 0) ≡ true → ⊥) → Lacks separator (take at bytes)
before-lacks separator bytes at within none =
    list_any_none (λ byte. byte == separator) (take at bytes)
    (λ k d inside.
    let size : length (take at bytes) ≡ at = length-take-le at bytes within in
    let below : k < at = omega arith in
    let same : get_or (take at bytes) k d ≡ get_or bytes k 0 = get_or-take at bytes k d below ∙ get_or_default bytes k d 0 (omega arith) in
    false_from_ne_true (get_or (take at bytes) k d == separator) (λ is. none k below (subst (λ (b : ℕ). (b == separator) ≡ true) same is)))

-- what a search for a byte tells
pub found-first : (separator : ℕ) (bytes : List ℕ) (result : Option ℕ) → IsFirstByte (is_byte separator) bytes result → MatchOption result (Lacks separator bytes) (λ at. IsFirst separator bytes at)
found-first separator bytes None found =
    subst (λ (l : List ℕ). Lacks separator l) (Rattle.std.proofs.lemmas.List.take_all (length bytes) bytes (omega arith)) (before-lacks separator bytes (length bytes) (omega arith) (λ k below. found k (omega arith) below))
found-first separator bytes (Some at) found =
    let inside : at < length bytes = found.0.high in
    let here : get_or bytes at 0 ≡ separator = eqb-true (get_or bytes at 0) separator found.1 in
    record {
      within = inside;
      lacks = before-lacks separator bytes at (omega arith) (λ k below. found.0.before k (omega arith) below);
      split = sym (take-append-drop at bytes) ∙ ap (λ (l : List ℕ). take at bytes ++ l) (drop_more bytes at 0 inside ∙ ap (λ (b : ℕ). b ∷ drop (at + 1) bytes) here);
    }

-- a line that lacks a space is its only word
pub one_word : (line : List ℕ) → Lacks 32 line → words_of line ≡ line ∷ []
one_word line lacks = cut_at-whole 32 line lacks

-- the words of a line in which a space was found
pub more_words : (line : List ℕ) (at : ℕ) → IsFirst 32 line at → words_of line ≡ take at line ∷ words_of (drop (at + 1) line)
more_words line at first = ap words_of first.split ∙ cut_at-found 32 ([] ∷ []) (take at line) (drop (at + 1) line) first.lacks

-- a line has a word
pub some_word : (line : List ℕ) → words_of line ≡ [] → ⊥
some_word line none =
    let first = cut_at-first 32 line in
    let is : words_of line ≡ first.0 ∷ first.1.0 = first.1.1 in
    cc

-- the first word, and the words behind it
pub first-is : (words rest : List (List ℕ)) (word : List ℕ) → words ≡ word ∷ rest → Some word ≡ slice_get words 0
first-is words rest word is = sym (ap (λ (l : List (List ℕ)). slice_get l 0) is)

pub rest-is : (words rest : List (List ℕ)) (word : List ℕ) → words ≡ word ∷ rest → rest ≡ drop 1 words
rest-is words rest word is = sym (ap (λ (l : List (List ℕ)). drop 1 l) is)

-- words are left exactly where something stands behind the last space that was read
pub none-left : (rest : Option (Bor (List ℕ))) (words : List (List ℕ)) (none : Bool) → words_left rest ≡ words → is_some rest ≡ not none → MatchBool none (words ≡ []) (words ≢ [])
none-left None words true view some = sym view
none-left None words false view some = absurd (cc)
none-left (Some line) words true view some = absurd (cc)
none-left (Some line) words false view some = λ empty. some_word line.now (view ∙ empty)
