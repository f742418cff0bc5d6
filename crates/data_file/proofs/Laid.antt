-- How the items of a file lie: one after another, each in its own bytes.
use Rattle.std.proofs.Common.{◌≡◌, ℕ, zero, suc, ◌+◌, ◌-◌, ◌^◌, ◌<◌, ◌≤◌, ◌==◌, true, false, cond, ⊎_elim, List, [], ◌∷◌, ◌++◌, length, drop, Contains, refl, sym, ap, subst, ◌∙◌, arith}
use Rattle.std.specs.Prelude.{nat_le, sum_by}
use Rattle.std.proofs.lemmas.List.{drop-drop, length-drop}
use Rattle.std.proofs.lemmas.List.Elements.{Contains-append_right}
use Rattle.std.proofs.lemmas.List.Sums.{sum_by-cons}
use Rattle.cache_model.specs.Items.{Item, put, removal, end, spelling, Front, whole, cut, bad, front}
use Rattle.cache_model.specs.DataFiles.{Found, nothing, damaged, counted_items, found_at_gate, found_at_item, found_behind, found_at_version, found_within}
use Rattle.cache_model.specs.declared.faults.BadKind.TheVariants.{Place, Version}
use Rattle.cache_model.proofs.Members.{among-none, among-here, among-cases}
use Rattle.cache_model.proofs.Spelled.{spelling-some}
use Rattle.cache_model.proofs.Spelling.{whole-size}
use Rattle.cache_model.proofs.Standing.{front-stands, standing-within}

-- Items lie in a file from an offset on: each is what stands at its offset, and the next begins behind it.
abbrev pub AreLaid : List ℕ → ℕ → List (ℕ × Item) → Type 0
AreLaid file from [] = Unit {0}
AreLaid file from (one ∷ items) = (from ≤ one.0) × (front (drop one.0 file) ≡ whole one.1 (length (spelling one.1))) × AreLaid file (one.0 + length (spelling one.1)) items

laid-from : (file : List ℕ) (from later : ℕ) (items : List (ℕ × Item)) → from ≤ later → AreLaid file later items → AreLaid file from items
laid-from file from later [] le laid = tt
laid-from file from later (one ∷ items) le laid = (omega (arith, laid.0), laid.1, laid.2)

-- what is found from each offset on lies from there on
abbrev LiesFrom : List ℕ → (ℕ → List ℕ → Found) → Type 0
LiesFrom file next = (at : ℕ) (bytes : List ℕ) → bytes ≡ drop at file → AreLaid file at (next at bytes).items

behind-gate : (file : List ℕ) (next : ℕ → List ℕ → Found) → LiesFrom file next → (at : ℕ) (bytes : List ℕ) → bytes ≡ drop at file → AreLaid file at (found_at_gate next at bytes).items
behind-gate file next lies at [] is = tt
behind-gate file next lies at (gate ∷ rest) is =
    let more : rest ≡ drop (at + 1) file = ap (drop 1) is ∙ drop-drop 1 at file in
    elim (gate == 1) as (λ b. AreLaid file at (cond b (next (at + 1) rest) nothing).items) [ true ↦ laid-from file at (at + 1) (next (at + 1) rest).items (omega arith) (lies (at + 1) rest more) | false ↦ tt ]

behind-item : (file : List ℕ) (next : ℕ → List ℕ → Found) → LiesFrom file next → (item : Item) (at : ℕ) (bytes : List ℕ) → bytes ≡ drop at file → AreLaid file at (found_behind next item at bytes).items
behind-item file next lies (put seq until key value) at bytes is = lies at bytes is
behind-item file next lies (removal seq key) at bytes is = lies at bytes is
behind-item file next lies (end moment) at bytes is = behind-gate file next lies at bytes is

at-item : (file : List ℕ) (next : ℕ → List ℕ → Found) → LiesFrom file next → (at : ℕ) (bytes : List ℕ) (found : Front) → bytes ≡ drop at file → front bytes ≡ found → AreLaid file at (found_at_item next at bytes found).items
at-item file next lies at bytes (whole item size) is stands =
    let long : size ≡ length (spelling item) = whole-size bytes item size stands in
    let here : front (drop at file) ≡ whole item (length (spelling item)) = ap front (sym is) ∙ stands ∙ ap (whole item) long in
    let more : drop size bytes ≡ drop (at + size) file = ap (drop size) is ∙ drop-drop size at file in
    (omega arith, here, subst (λ n. AreLaid file (at + n) (found_behind next item (at + size) (drop size bytes)).items) long (behind-item file next lies item (at + size) (drop size bytes) more))
at-item file next lies at bytes cut is stands = tt
at-item file next lies at bytes (bad kind) is stands = tt

within-laid : (file : List ℕ) (most : ℕ) → LiesFrom file (λ at bytes. found_within most at bytes)
within-laid file zero at bytes is = tt
within-laid file (suc most) at bytes is =
    elim (nat_le (2 ^ 32) at) as (λ b. AreLaid file at (cond b (damaged at Place) (found_at_item (λ next rest. found_within most next rest) at bytes (front bytes))).items) [
      | true ↦ tt
      | false ↦ at-item file (λ next rest. found_within most next rest) (within-laid file most) at bytes (front bytes) is refl
    ]

-- The items that count in a file lie behind its first gate and its version.
pub counted-laid : (file : List ℕ) → AreLaid file 0 (counted_items file)
counted-laid [] = tt
counted-laid (gate ∷ rest) = elim (gate == 1) as (λ b. AreLaid (gate ∷ rest) 0 (cond b (found_at_version rest) nothing).items) [ true ↦ at_version rest | false ↦ tt ]
  where
    at_version : (behind : List ℕ) → AreLaid (gate ∷ behind) 0 (found_at_version behind).items
    at_version [] = tt
    at_version (version ∷ behind) =
        let file : List ℕ = gate ∷ version ∷ behind in
        elim (version == 1) as (λ b. AreLaid file 0 (cond b (found_within (length behind + 1) 2 behind) (damaged 1 (Version version))).items) [
          | true ↦ laid-from file 0 2 (found_within (length behind + 1) 2 behind).items (omega arith) (within-laid file (length behind + 1) 2 behind refl)
          | false ↦ tt
        ]

-- an item lies no lower than the first
laid-above : (file : List ℕ) (from : ℕ) (items : List (ℕ × Item)) (one : ℕ × Item) → AreLaid file from items → Contains items one → from ≤ one.0
laid-above file from [] one laid among = absurd (among-none one among)
laid-above file from (first ∷ items) one laid among =
    ⊎_elim
    (λ same. omega (arith, laid.0, ap (λ (p : ℕ × Item). p.0) same))
    (λ later. let above = laid-above file (first.0 + length (spelling first.1)) items one laid.2 later in omega (arith, laid.0, above))
    (among-cases first one items among)

-- each is what stands at its offset
pub laid-stands : (file : List ℕ) (from : ℕ) (items : List (ℕ × Item)) (one : ℕ × Item) → AreLaid file from items → Contains items one → front (drop one.0 file) ≡ whole one.1 (length (spelling one.1))
laid-stands file from [] one laid among = absurd (among-none one among)
laid-stands file from (first ∷ items) one laid among =
    ⊎_elim
    (λ same. subst (λ (p : ℕ × Item). front (drop p.0 file) ≡ whole p.1 (length (spelling p.1))) same laid.1)
    (λ later. laid-stands file (first.0 + length (spelling first.1)) items one laid.2 later)
    (among-cases first one items among)

-- an item lies above all in front of it
pub laid-below : (file : List ℕ) (from : ℕ) (before : List (ℕ × Item)) (one : ℕ × Item) (rest : List (ℕ × Item)) → AreLaid file from (before ++ one ∷ rest) → (other : ℕ × Item) → Contains before other → other.0 < one.0
laid-below file from [] one rest laid other among = absurd (among-none other among)
laid-below file from (first ∷ before) one rest laid other among =
    ⊎_elim
    (λ same.
    let above = laid-above file (first.0 + length (spelling first.1)) (before ++ one ∷ rest) one laid.2 (Contains-append_right before (one ∷ rest) one (among-here one rest)) in
    omega (arith, above, spelling-some first.1, ap (λ (p : ℕ × Item). p.0) same))
    (λ later. laid-below file (first.0 + length (spelling first.1)) before one rest laid.2 other later)
    (among-cases first other before among)

-- together they have no more bytes than the file
pub laid-total : (file : List ℕ) (from : ℕ) (items : List (ℕ × Item)) → AreLaid file from items → sum_by (λ one. length (spelling one.1)) items ≤ length file - from
laid-total file from [] laid = omega arith
laid-total file from (one ∷ items) laid =
    let rest = laid-total file (one.0 + length (spelling one.1)) items laid.2 in
    let within = standing-within (drop one.0 file) one.1 (length (spelling one.1)) (front-stands (drop one.0 file) one.1 (length (spelling one.1)) laid.1) in
    rw (sum_by-cons (λ (one : ℕ × Item). length (spelling one.1)) one items) (omega (arith, rest, within, length-drop one.0 file, laid.0, spelling-some one.1))
