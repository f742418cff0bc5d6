-- How bytes are cut at a separator.
use Rattle.std.proofs.Common.{◌≡◌, ℕ, Bool, true, false, List, [], ◌∷◌, ◌++◌, refl, ◌∙◌, ap, arith}
use Rattle.std.specs.Prelude.{◌==◌, ◌||◌}
use Rattle.std.specs.List.{list_any}
use Rattle.std.proofs.lemmas.Bool.Decides.{nat_tests}
use Rattle.cache_model.specs.Lines.{with_first, cut_at, Lacks}

or_false : (p q : Bool) → (p || q) ≡ false → (p ≡ false) × (q ≡ false)
or_false true q e = absurd (cc)
or_false false q e = (refl, e)

-- the bytes up to the first separator are the first piece
pub cut_at-found : (separator : ℕ) (last : List (List ℕ)) (piece rest : List ℕ) → Lacks separator piece → cut_at separator last (piece ++ separator ∷ rest) ≡ piece ∷ cut_at separator last rest
cut_at-found separator last [] rest lacks = grind (arith, nat_tests)
cut_at-found separator last (b ∷ piece) rest lacks =
    let parts = or_false (b == separator) (list_any (λ x. x == separator) piece) lacks in
    let here : (b == separator) ≡ false = parts.0 in
    let more : cut_at separator last (piece ++ separator ∷ rest) ≡ piece ∷ cut_at separator last rest = cut_at-found separator last piece rest parts.1 in
    rw (here, more) refl

-- bytes without a separator are the last piece
pub cut_at-whole : (separator : ℕ) (piece : List ℕ) → Lacks separator piece → cut_at separator ([] ∷ []) piece ≡ piece ∷ []
cut_at-whole separator [] lacks = refl
cut_at-whole separator (b ∷ piece) lacks =
    let parts = or_false (b == separator) (list_any (λ x. x == separator) piece) lacks in
    let here : (b == separator) ≡ false = parts.0 in
    let more : cut_at separator ([] ∷ []) piece ≡ piece ∷ [] = cut_at-whole separator piece parts.1 in
    rw (here, more) refl

-- and where no bytes are no piece, they are the last one where there is one
pub cut_at-last : (separator b : ℕ) (piece : List ℕ) → Lacks separator (b ∷ piece) → cut_at separator [] (b ∷ piece) ≡ (b ∷ piece) ∷ []
cut_at-last separator b [] lacks =
    let here : (b == separator) ≡ false = (or_false (b == separator) false lacks).0 in
    rw here refl
cut_at-last separator b (c ∷ piece) lacks =
    let parts = or_false (b == separator) (list_any (λ x. x == separator) (c ∷ piece)) lacks in
    let here : (b == separator) ≡ false = parts.0 in
    let more : cut_at separator [] (c ∷ piece) ≡ (c ∷ piece) ∷ [] = cut_at-last separator c piece parts.1 in
    ap (λ (e : Bool). Rattle.std.specs.Bool.if◌then◌else◌ e ([] ∷ cut_at separator [] (c ∷ piece)) (with_first b (cut_at separator [] (c ∷ piece)))) here ∙ ap (with_first b) more

-- there is a first piece
pub cut_at-first : (separator : ℕ) (bytes : List ℕ) → (first : List ℕ) × ((pieces : List (List ℕ)) × (cut_at separator ([] ∷ []) bytes ≡ first ∷ pieces))
cut_at-first separator [] = ([], ([], refl))
cut_at-first separator (b ∷ bytes) =
    let more = cut_at-first separator bytes in
    elim (b == separator) as (λ e. (first : List ℕ) × ((pieces : List (List ℕ)) × (Rattle.std.specs.Bool.if◌then◌else◌ e ([] ∷ cut_at separator ([] ∷ []) bytes) (with_first b (cut_at separator ([] ∷ []) bytes)) ≡ first ∷ pieces))) [
      | true ↦ ([], (cut_at separator ([] ∷ []) bytes, refl))
      | false ↦ (b ∷ more.0, (more.1.0, ap (with_first b) more.1.1))
    ]
