-- What stands at the places of a file.
use Rattle.std.proofs.Common.{◌≡◌, ◌⊎◌, ⊎_elim, inl, inr, ℕ, ◌+◌, List, [], ◌∷◌, ◌++◌, Contains, length, drop, refl, sym, ◌∙◌, ap, subst, arith, append_assoc, length-append}
use Rattle.std.specs.Prelude.{flat_map}
use Rattle.std.proofs.lemmas.List.{append-nil, drop_at, drop-drop}
use Rattle.std.proofs.lemmas.List.Elements.{Contains-append_cases, Contains-push_cases}
use Rattle.cache_model.specs.Items.{Item, spelling}
use Rattle.cache_model.specs.DataFiles.{Frame, items_of, frame_spelling, frames_spelling, file_spelling, placed_items, placed_frames}
use Rattle.data_file.specs.Appending.{written, unsealed, frame_start}
use Rattle.data_file.proofs.Frame.{placed_of}

-- the bytes have the spelling of an item from an offset on
abbrev pub SpellsAt : List ℕ → ℕ → Item → Type 0
SpellsAt bytes at item = (rest : List ℕ) × (drop at bytes ≡ spelling item ++ rest)

pub contains_first : {X : Type 0} (one : X) (others : List X) (x : X) → Contains (one ∷ others) x → (one ≡ x) ⊎ Contains others x
contains_first one others x within =
    ⊎_elim
    (λ first. ⊎_elim (λ none. absurd (omega (arith, none.1))) (λ is. inl is) (Contains-push_cases [] one x first))
    (λ later. inr later)
    (Contains-append_cases (one ∷ []) others x within)

-- behind other bytes, and in front of others
spells_behind : (front bytes : List ℕ) (at : ℕ) (item : Item) → SpellsAt bytes at item → SpellsAt (front ++ bytes) (length front + at) item
spells_behind front bytes at item is = (is.0, sym (drop-drop at (length front) (front ++ bytes)) ∙ ap (λ (l : List ℕ). drop at l) (drop_at front bytes (length front) refl) ∙ is.1)

-- the items of a run of items, each at its place
in_items : (start : ℕ) (items : List Item) (tail : List ℕ) (at : ℕ) (item : Item) → Contains (placed_items start items) (at, item) → (k : ℕ) × (at ≡ start + k) × SpellsAt (flat_map spelling items ++ tail) k item
in_items start [] tail at item within = absurd (omega (arith, within.1))
in_items start (one ∷ items) tail at item within =
    let whole : flat_map spelling (one ∷ items) ++ tail ≡ spelling one ++ (flat_map spelling items ++ tail) = append_assoc (spelling one) (flat_map spelling items) tail in
    ⊎_elim
    (λ is. (
      0,
      omega (arith, ap (λ (p : ℕ × Item). p.0) is),
      subst (λ (i : Item). SpellsAt (flat_map spelling (one ∷ items) ++ tail) 0 i) (ap (λ (p : ℕ × Item). p.1) is) (flat_map spelling items ++ tail, whole),
    ))
    (λ later.
    let rest = in_items (start + length (spelling one)) items tail at item later in (
      length (spelling one) + rest.0,
      omega (arith, rest.1),
      subst (λ (l : List ℕ). SpellsAt l (length (spelling one) + rest.0) item) (sym whole) (spells_behind (spelling one) (flat_map spelling items ++ tail) rest.0 item rest.2),
    ))
    (contains_first (start, one) (placed_items (start + length (spelling one)) items) (at, item) within)

-- the items of frames, of which the first gate stands at this offset
in_frames : (gate : ℕ) (frames : List Frame) (tail : List ℕ) (at : ℕ) (item : Item) → Contains (placed_frames (gate + 1) frames) (at, item) → (k : ℕ) × (at ≡ gate + k) × SpellsAt (frames_spelling frames ++ tail) k item
in_frames gate [] tail at item within = absurd (omega (arith, within.1))
in_frames gate (frame ∷ frames) tail at item within =
    let rest : List ℕ = frames_spelling frames ++ tail in
    let whole : frames_spelling (frame ∷ frames) ++ tail ≡ (1 ∷ []) ++ (frame_spelling frame ++ rest) = ap (λ (l : List ℕ). 1 ∷ l) (append_assoc (frame_spelling frame) (frames_spelling frames) tail) in
    ⊎_elim
    (λ here.
    let first = in_items (gate + 1) (items_of frame) rest at item here in (
      1 + first.0,
      omega (arith, first.1),
      subst (λ (l : List ℕ). SpellsAt l (1 + first.0) item) (sym whole) (spells_behind (1 ∷ []) (frame_spelling frame ++ rest) first.0 item first.2),
    ))
    (λ later.
    let next = in_frames (gate + 1 + length (frame_spelling frame)) frames tail at item later in
    let long : length ((1 ∷ []) ++ frame_spelling frame) ≡ 1 + length (frame_spelling frame) = omega (arith, length-append (1 ∷ []) (frame_spelling frame)) in (
      length ((1 ∷ []) ++ frame_spelling frame) + next.0,
      omega (arith, next.1, long),
      subst (λ (l : List ℕ). SpellsAt l (length ((1 ∷ []) ++ frame_spelling frame) + next.0) item) (sym whole) (spells_behind ((1 ∷ []) ++ frame_spelling frame) rest next.0 item next.2),
    ))
    (Contains-append_cases (placed_items (gate + 1) (items_of frame)) (placed_frames (gate + 1 + length (frame_spelling frame) + 1) frames) (at, item) within)

-- the items of the frames of a file
pub in_file : (frames : List Frame) (tail : List ℕ) (at : ℕ) (item : Item) → Contains (placed_frames 2 frames) (at, item) → SpellsAt (file_spelling frames ++ tail) at item
in_file [] tail at item within = absurd (omega (arith, within.1))
in_file (frame ∷ frames) tail at item within =
    let found = in_frames 1 (frame ∷ frames) tail at item within in
    subst (λ (n : ℕ). SpellsAt (file_spelling (frame ∷ frames) ++ tail) n item) (sym found.1)
    (spells_behind (1 ∷ []) (frames_spelling (frame ∷ frames) ++ tail) found.0 item found.2)

-- the records behind them
in_records : (frames : List Frame) (records : List Item) (at : ℕ) (item : Item) → Contains (placed_items (frame_start frames) records) (at, item) → SpellsAt (written frames records) at item
in_records [] [] at item within = absurd (omega (arith, within.1))
in_records [] (one ∷ records) at item within =
    let found = in_items 2 (one ∷ records) [] at item within in
    let bytes : List ℕ = flat_map spelling (one ∷ records) in
    subst (λ (n : ℕ). SpellsAt (written [] (one ∷ records)) n item) (sym found.1)
    (spells_behind (0 ∷ 1 ∷ []) bytes found.0 item (subst (λ (l : List ℕ). SpellsAt l found.0 item) (append-nil bytes) found.2))
in_records (frame ∷ frames) records at item within =
    let found = in_items (frame_start (frame ∷ frames)) records [] at item within in
    let bytes : List ℕ = flat_map spelling records in
    subst (λ (n : ℕ). SpellsAt (written (frame ∷ frames) records) n item) (sym found.1)
    (spells_behind (file_spelling (frame ∷ frames)) bytes found.0 item (subst (λ (l : List ℕ). SpellsAt l found.0 item) (append-nil bytes) found.2))

-- all that a file in the making holds
pub in_written : (frames : List Frame) (records : List Item) (at : ℕ) (item : Item) → Contains (placed_of frames records) (at, item) → SpellsAt (written frames records) at item
in_written frames records at item within =
    ⊎_elim
    (λ sealed. in_file frames (unsealed frames records) at item sealed)
    (λ behind. in_records frames records at item behind)
    (Contains-append_cases (placed_frames 2 frames) (placed_items (frame_start frames) records) (at, item) within)
