-- The items of the current file lie one after another.
use Rattle.std.proofs.Common.{◌≡◌, ⊎_elim, ℕ, ◌+◌, ◌≤◌, List, [], ◌∷◌, ◌++◌, length, drop, Contains, sym, ap, subst, ◌∙◌, arith, append_assoc, append-nil}
use Rattle.std.proofs.lemmas.List.{length-append, length-drop}
use Rattle.cache_model.specs.Items.{Item, end, spelling, whole, front}
use Rattle.cache_model.specs.DataFiles.{Frame, placed_frames}
use Rattle.cache_model.proofs.Members.{among-cases, among-here, among-later, among-none}
use Rattle.cache_model.proofs.Spelled.{spelling-some}
use Rattle.data_file.specs.Appending.{next_place, written}
use Rattle.data_file.proofs.Bytes.{due_version, next_place-is}
use Rattle.data_file.proofs.Frame.{placed_of, placed-push, placed-sealed}
use Rattle.data_file.proofs.Laid.{AreLaid}
use Rattle.append_log.proofs.Places.{in_written}
use Rattle.compactor.specs.Figuring.{StandApart}

-- items from an offset on, each of which begins behind the one before
abbrev AreSpaced : ℕ → List (ℕ × Item) → Type 0
AreSpaced from [] = Unit {0}
AreSpaced from (one ∷ items) = (from ≤ one.0) × AreSpaced (one.0 + length (spelling one.1)) items

spaced_push : (from : ℕ) (items : List (ℕ × Item)) (at : ℕ) (last : Item) → AreSpaced from items → from ≤ at → ((one : ℕ × Item) → Contains items one → one.0 + length (spelling one.1) ≤ at) → AreSpaced from (items ++ (at, last) ∷ [])
spaced_push from [] at last spaced le below = (le, tt)
spaced_push from (one ∷ items) at last spaced le below =
    (spaced.0, spaced_push (one.0 + length (spelling one.1)) items at last spaced.1 (below one (among-here one items)) (λ other among. below other (among-later one other items among)))

-- each item ends in front of the next one's place
placed_end : (frames : List Frame) (records : List Item) (one : ℕ × Item) → Contains (placed_of frames records) one → one.0 + length (spelling one.1) ≤ next_place frames records
placed_end frames records one among =
    let spelled = in_written frames records one.0 one.1 among in
    let long = length-drop one.0 (written frames records) in
    let here : length (drop one.0 (written frames records)) ≡ length (spelling one.1) + length spelled.0 = ap length spelled.1 ∙ length-append (spelling one.1) spelled.0 in
    let all : next_place frames records ≡ length (written frames records) + length (due_version frames records) = next_place-is frames records ∙ length-append (written frames records) (due_version frames records) in
    omega (arith, long, here, all, spelling-some one.1)

-- so they are spaced, record by record and frame by frame

spaced_behind : (frames : List Frame) (records : List Item) (last : Item) → AreSpaced 0 (placed_of frames records) → AreSpaced 0 (placed_of frames records ++ (next_place frames records, last) ∷ [])
spaced_behind frames records last spaced = spaced_push 0 (placed_of frames records) (next_place frames records) last spaced (omega arith) (placed_end frames records)

spaced_records : (frames : List Frame) (done rest : List Item) → AreSpaced 0 (placed_of frames done) → AreSpaced 0 (placed_of frames (done ++ rest))
spaced_records frames done [] spaced = subst (λ (l : List Item). AreSpaced 0 (placed_of frames l)) (sym (append-nil done)) spaced
spaced_records frames done (one ∷ rest) spaced =
    let more : AreSpaced 0 (placed_of frames (done ++ one ∷ [])) = subst (AreSpaced 0) (sym (placed-push frames done one)) (spaced_behind frames done one spaced) in
    subst (λ (l : List Item). AreSpaced 0 (placed_of frames l)) (append_assoc done (one ∷ []) rest) (spaced_records frames (done ++ one ∷ []) rest more)

spaced_frames : (done rest : List Frame) → AreSpaced 0 (placed_of done []) → AreSpaced 0 (placed_of (done ++ rest) [])
spaced_frames done [] spaced = subst (λ (l : List Frame). AreSpaced 0 (placed_of l [])) (sym (append-nil done)) spaced
spaced_frames done (frame ∷ rest) spaced =
    let ended : AreSpaced 0 (placed_frames 2 (done ++ frame ∷ [])) =
    subst (AreSpaced 0) (sym (placed-sealed done frame.records frame.moment)) (spaced_behind done frame.records (end frame.moment) (spaced_records done [] frame.records spaced)) in
    let more : AreSpaced 0 (placed_of (done ++ frame ∷ []) []) = subst (AreSpaced 0) (sym (append-nil (placed_frames 2 (done ++ frame ∷ [])))) ended in
    subst (λ (l : List Frame). AreSpaced 0 (placed_of l [])) (append_assoc done (frame ∷ []) rest) (spaced_frames (done ++ frame ∷ []) rest more)

spaced_placed : (frames : List Frame) (records : List Item) → AreSpaced 0 (placed_of frames records)
spaced_placed frames records = spaced_records frames [] records (spaced_frames [] frames tt)

laid_by : (file : List ℕ) (from : ℕ) (items : List (ℕ × Item)) → AreSpaced from items → ((one : ℕ × Item) → Contains items one → front (drop one.0 file) ≡ whole one.1 (length (spelling one.1))) → AreLaid file from items
laid_by file from [] spaced there = tt
laid_by file from (one ∷ items) spaced there = (spaced.0, there one (among-here one items), laid_by file (one.0 + length (spelling one.1)) items spaced.1 (λ other among. there other (among-later one other items among)))

-- The items of a file in the making lie in it, where each stands whole at its place.
pub placed_laid : (file : List ℕ) (frames : List Frame) (records : List Item) → ((one : ℕ × Item) → Contains (placed_of frames records) one → front (drop one.0 file) ≡ whole one.1 (length (spelling one.1))) → AreLaid file 0 (placed_of frames records)
placed_laid file frames records there = laid_by file 0 (placed_of frames records) (spaced_placed frames records) there

-- items that lie in a file stand apart

laid_above : (file : List ℕ) (from : ℕ) (items : List (ℕ × Item)) (one : ℕ × Item) → AreLaid file from items → Contains items one → from ≤ one.0
laid_above file from [] one laid among = absurd (among-none one among)
laid_above file from (first ∷ items) one laid among =
    ⊎_elim
    (λ same. omega (arith, laid.0, ap (λ (p : ℕ × Item). p.0) same))
    (λ later. let above = laid_above file (first.0 + length (spelling first.1)) items one laid.2 later in omega (arith, laid.0, above))
    (among-cases first one items among)

pub laid_apart : (file : List ℕ) (from : ℕ) (items : List (ℕ × Item)) → AreLaid file from items → StandApart items
laid_apart file from [] laid = tt
laid_apart file from (one ∷ items) laid = (
  λ other among same. let above = laid_above file (one.0 + length (spelling one.1)) items other laid.2 among in omega (arith, above, same, spelling-some one.1),
  laid_apart file (one.0 + length (spelling one.1)) items laid.2,
)
