-- What is pending in a buffer.
use Rattle.std.proofs.Common.{◌≡◌, ℕ, ◌+◌, ◌-◌, ◌≤◌, ◌<◌, List, [], ◌∷◌, ◌++◌, length, take, drop, refl, sym, ◌∙◌, ap, arith, length-drop}
use Rattle.cache_model.specs.Lines.{IsFirst}
use Rattle.std.proofs.lemmas.List.{drop-take, drop-drop, length-take-le, drop_at}

-- what is between two places of some bytes
abbrev pub between : List ℕ → ℕ → ℕ → List ℕ
between bytes at end = take (end - at) (drop at bytes)

pub length-between : (bytes : List ℕ) (at end : ℕ) → at ≤ end → end ≤ length bytes → length (between bytes at end) ≡ end - at
length-between bytes at end order inside = length-take-le (end - at) (drop at bytes) (omega (arith, length-drop at bytes))

pub between-later : (bytes : List ℕ) (at end count : ℕ) → at + count ≤ end → between bytes (at + count) end ≡ drop count (between bytes at end)
between-later bytes at end count inside =
    let rest = end - (at + count) in
    let whole : end - at ≡ count + rest = omega arith in
    sym (
    ap (λ (n : ℕ). drop count (take n (drop at bytes))) whole
    ∙ drop-take count rest (drop at bytes)
    ∙ ap (λ (l : List ℕ). take rest l) (drop-drop count at bytes)
    )

take-take : (n m : ℕ) (bytes : List ℕ) → n ≤ m → take n (take m bytes) ≡ take n bytes
take-take Rattle.std.proofs.Common.zero m bytes le = refl
take-take (Rattle.std.proofs.Common.suc n) Rattle.std.proofs.Common.zero bytes le = absurd (omega arith)
take-take (Rattle.std.proofs.Common.suc n) (Rattle.std.proofs.Common.suc m) [] le = refl
take-take (Rattle.std.proofs.Common.suc n) (Rattle.std.proofs.Common.suc m) (b ∷ bytes) le = ap (λ (l : List ℕ). b ∷ l) (take-take n m bytes (omega arith))

-- the first of what is between two places
pub between-front : (bytes : List ℕ) (at end count : ℕ) → at + count ≤ end → take (at + count - at) (drop at bytes) ≡ take count (between bytes at end)
between-front bytes at end count inside =
    let n : at + count - at ≡ count = omega arith in
    ap (λ (k : ℕ). take k (drop at bytes)) n ∙ sym (take-take count (end - at) (drop at bytes) (omega arith))

-- behind the first separator
pub behind-first : (separator : ℕ) (bytes : List ℕ) (at : ℕ) → IsFirst separator bytes at → drop at bytes ≡ separator ∷ drop 1 (drop at bytes)
behind-first separator bytes at first =
    let front : length (take at bytes) ≡ at = length-take-le at bytes (omega (arith, first.within)) in
    let here : drop at bytes ≡ separator ∷ drop (at + 1) bytes =
    ap (λ (l : List ℕ). drop at l) first.split ∙ drop_at (take at bytes) (separator ∷ drop (at + 1) bytes) at front in
    here ∙ ap (λ (l : List ℕ). separator ∷ l) (sym (drop-drop 1 at bytes))
