-- What is found in a file of whole frames: just their items, whatever stands behind the first closed gate.
use Rattle.std.proofs.Common.{◌≡◌, ℕ, zero, suc, ◌+◌, ◌^◌, ◌<◌, ◌≤◌, ◌≢◌, ◌==◌, false, List, [], ◌∷◌, ◌++◌, length, drop, refl, sym, ap, ◌∙◌, arith, length-append, append-nil, append_assoc, subst, if◌then◌else◌}
use Rattle.std.proofs.lemmas.Bool.{le-leb}
use Rattle.std.proofs.lemmas.Bool.Decides.{nat_tests}
use Rattle.std.proofs.lemmas.List.{drop_at, length-drop}
use Rattle.std.proofs.lemmas.List.Elements.{All-head, All-tail}
use Rattle.std.specs.Prelude.{nat_le, flat_map, All, None}
use Rattle.cache_model.specs.declared.faults.BadKind.TheVariants.{Cut, Place}
use Rattle.cache_model.specs.declared.faults.BadKind.{BadKind}
use Rattle.cache_model.specs.Items.{Item, put, removal, end, IsItem, IsRecord, spelling, Front, whole, cut, bad, front}
use Rattle.cache_model.specs.DataFiles.{Frame, items_of, frame_spelling, IsFrameAt, AreFramesAt, AreFrames, frames_spelling, file_spelling, Found, nothing, damaged, and_then, found_at_gate, found_behind, found_at_item, found_within, found_at_version, found_in, placed_items, placed_frames, CountsFrames}
use Rattle.cache_model.proofs.Standing.{front-stands, standing-some, standing-within}
use Rattle.cache_model.proofs.Spelled.{length-spelling, spelling-some, front-spelling, below-test}

-- two ways to go on that agree on fewer than so many bytes
abbrev pub Agree : ℕ → (ℕ → List ℕ → Found) → (ℕ → List ℕ → Found) → Type 0
Agree most one other = (at : ℕ) (bytes : List ℕ) → length bytes < most → one at bytes ≡ other at bytes

agree-gate : (one other : ℕ → List ℕ → Found) (at : ℕ) (bytes : List ℕ) → Agree (length bytes) one other
    → found_at_gate one at bytes ≡ found_at_gate other at bytes
agree-gate one other at [] agree = refl
agree-gate one other at (gate ∷ rest) agree = ap (λ found. if gate == 1 then found else nothing) (agree (at + 1) rest (omega arith))

agree-behind : (one other : ℕ → List ℕ → Found) (most : ℕ) (item : Item) (at : ℕ) (bytes : List ℕ) → length bytes < most → Agree most one other
    → found_behind one item at bytes ≡ found_behind other item at bytes
agree-behind one other most (put seq until key value) at bytes fewer agree = agree at bytes fewer
agree-behind one other most (removal seq key) at bytes fewer agree = agree at bytes fewer
agree-behind one other most (end moment) at bytes fewer agree = agree-gate one other at bytes (λ next rest h. agree next rest (omega arith))

agree-item : (one other : ℕ → List ℕ → Found) (at : ℕ) (bytes : List ℕ) (found : Front) → front bytes ≡ found → Agree (length bytes) one other
    → found_at_item one at bytes found ≡ found_at_item other at bytes found
agree-item one other at bytes (whole item size) is agree =
    let stands = front-stands bytes item size is in
    let some = standing-some bytes item size stands in
    let within = standing-within bytes item size stands in
    ap (and_then (at, item)) (agree-behind one other (length bytes) item (at + size) (drop size bytes) (omega (arith, length-drop size bytes)) agree)
agree-item one other at bytes cut is agree = refl
agree-item one other at bytes (bad kind) is agree = refl

-- What is found within a frame hangs on no more items than there are bytes.
pub found_within-more : (one other : ℕ) (at : ℕ) (bytes : List ℕ) → length bytes < one → length bytes < other
    → found_within one at bytes ≡ found_within other at bytes
found_within-more zero other at bytes h k = absurd (omega arith)
found_within-more (suc one) zero at bytes h k = absurd (omega arith)
found_within-more (suc one) (suc other) at bytes h k =
    ap (λ found. if nat_le (2 ^ 32) at then damaged at Place else found)
    (agree-item (λ next rest. found_within one next rest) (λ next rest. found_within other next rest) at bytes (front bytes) refl
    (λ next rest fewer. found_within-more one other next rest (omega arith) (omega arith)))

-- What is found from an offset on, within a counted frame.
abbrev pub found_from : ℕ → List ℕ → Found
found_from at bytes = found_within (length bytes + 1) at bytes

pub found_within-from : (most at : ℕ) (bytes : List ℕ) → length bytes < most → found_within most at bytes ≡ found_from at bytes
found_within-from most at bytes h = found_within-more most (length bytes + 1) at bytes h (omega arith)

-- the items and damage that are found behind some others
abbrev pub behind_items : List (ℕ × Item) → Found → Found
behind_items items found = record { items = items ++ found.items; damage = found.damage }

-- One item in front, and then what is found behind it.
pub found_from-item : (at : ℕ) (item : Item) (rest : List ℕ) → IsItem item → at < 2 ^ 32
    → found_from at (spelling item ++ rest) ≡ and_then (at, item) (found_behind (λ next more. found_from next more) item (at + length (spelling item)) rest)
found_from-item at item rest fits below =
    let bytes : List ℕ = spelling item ++ rest in
    let one : ℕ → List ℕ → Found = λ next more. found_within (length bytes) next more in
    let size : ℕ = length (spelling item) in
    let shorter : length rest < length bytes = omega (arith, length-append (spelling item) rest, spelling-some item) in
    let first : found_from at bytes ≡ (if nat_le (2 ^ 32) at then damaged at Place else found_at_item one at bytes (front bytes)) =
    found_within-more (length bytes + 1) (suc (length bytes)) at bytes (omega arith) (omega arith) in
    first
    ∙ ap (λ b. if b then damaged at Place else found_at_item one at bytes (front bytes)) (below-test _ _ below)
    ∙ ap (found_at_item one at bytes) (front-spelling item fits rest)
    ∙ ap (λ more. and_then (at, item) (found_behind one item (at + size) more)) (drop_at (spelling item) rest size refl)
    ∙ ap (and_then (at, item)) (agree-behind one (λ next more. found_from next more) (length bytes) item (at + size) rest shorter (λ next more fewer. found_within-from (length bytes) next more fewer))

behind-record : (item : Item) (in_frame : ℕ → List ℕ → Found) (at : ℕ) (rest : List ℕ) → IsRecord item → found_behind in_frame item at rest ≡ in_frame at rest
behind-record (put seq until key value) in_frame at rest is = refl
behind-record (removal seq key) in_frame at rest is = refl
behind-record (end moment) in_frame at rest is = absurd is

record-item : (item : Item) → IsRecord item → IsItem item
record-item (put seq until key value) is = is
record-item (removal seq key) is = is
record-item (end moment) is = absurd is

behind_items-append : (items more : List (ℕ × Item)) (found : Found) → behind_items items (behind_items more found) ≡ behind_items (items ++ more) found
behind_items-append items more found = ap (λ placed. record { items = placed; damage = found.damage }) (sym (append_assoc items more found.items))

-- Records in front, and then what is found behind them.
pub found_from-records : (at : ℕ) (items : List Item) (rest : List ℕ) → All IsRecord items → at + length (flat_map spelling items) < 2 ^ 32
    → found_from at (flat_map spelling items ++ rest) ≡ behind_items (placed_items at items) (found_from (at + length (flat_map spelling items)) rest)
found_from-records at [] rest are below = ap (λ n. found_from n rest) (omega arith)
found_from-records at (item ∷ items) rest are below =
    let first : IsRecord item = All-head IsRecord item items are in
    let size : ℕ = length (spelling item) in
    let more : List ℕ = flat_map spelling items in
    let total : length (spelling item ++ more) ≡ size + length more = length-append (spelling item) more in
    let behind = found_from-records (at + size) items rest (All-tail IsRecord item items are) (omega arith) in
    ap (found_from at) (append_assoc (spelling item) more rest)
    ∙ found_from-item at item (more ++ rest) (record-item item first) (omega arith)
    ∙ ap (and_then (at, item)) (behind-record item (λ next bytes. found_from next bytes) (at + size) (more ++ rest) first ∙ behind)
    ∙ ap (λ n. behind_items (placed_items at (item ∷ items)) (found_from n rest)) (omega arith)

-- what is found behind the end of a counted frame
abbrev pub found_at_end : ℕ → List ℕ → Found
found_at_end at bytes = found_at_gate (λ next more. found_from next more) at bytes

placed-append : (at : ℕ) (items more : List Item) → placed_items at (items ++ more) ≡ placed_items at items ++ placed_items (at + length (flat_map spelling items)) more
placed-append at [] more = ap (λ n. placed_items n more) (omega arith)
placed-append at (item ∷ items) more =
    ap (λ placed. (at, item) ∷ placed) (placed-append (at + length (spelling item)) items more
    ∙ ap (λ n. placed_items (at + length (spelling item)) items ++ placed_items n more) (omega (arith, length-append (spelling item) (flat_map spelling items))))

spelled-append : (items more : List Item) → flat_map spelling (items ++ more) ≡ flat_map spelling items ++ flat_map spelling more
spelled-append [] more = refl
spelled-append (item ∷ items) more = ap (λ bytes. spelling item ++ bytes) (spelled-append items more) ∙ sym (append_assoc (spelling item) (flat_map spelling items) (flat_map spelling more))

-- a frame is its records and then its end
pub frame-spelling : (frame : Frame) → frame_spelling frame ≡ flat_map spelling frame.records ++ spelling (end frame.moment)
frame-spelling frame = spelled-append frame.records (end frame.moment ∷ []) ∙ ap (λ bytes. flat_map spelling frame.records ++ bytes) (append-nil (spelling (end frame.moment)))

pub length-frame : (frame : Frame) → length (frame_spelling frame) ≡ length (flat_map spelling frame.records) + 9
length-frame frame = ap length (frame-spelling frame) ∙ length-append (flat_map spelling frame.records) (spelling (end frame.moment)) ∙ ap (λ n. length (flat_map spelling frame.records) + n) (length-spelling (end frame.moment))

-- A frame in front, and then what is found behind its end.
pub found_from-frame : (at : ℕ) (frame : Frame) (rest : List ℕ) → IsFrameAt at frame
    → found_from at (frame_spelling frame ++ rest) ≡ behind_items (placed_items at (items_of frame)) (found_at_end (at + length (frame_spelling frame)) rest)
found_from-frame at frame rest is =
    let records : List ℕ = flat_map spelling frame.records in
    let ends : ℕ = at + length records in
    let nine = length-spelling (end frame.moment) in
    ap (λ bytes. found_from at (bytes ++ rest)) (frame-spelling frame)
    ∙ ap (found_from at) (append_assoc records (spelling (end frame.moment)) rest)
    ∙ found_from-records at frame.records (spelling (end frame.moment) ++ rest) is.records is.below
    ∙ ap (behind_items (placed_items at frame.records)) (found_from-item ends (end frame.moment) rest is.moment is.below)
    ∙ ap (λ n. behind_items (placed_items at frame.records) (and_then (ends, end frame.moment) (found_at_end n rest))) (omega (arith, length-frame frame, nine))
    ∙ behind_items-append (placed_items at frame.records) ((ends, end frame.moment) ∷ []) (found_at_end (at + length (frame_spelling frame)) rest)
    ∙ ap (λ placed. behind_items placed (found_at_end (at + length (frame_spelling frame)) rest)) (sym (placed-append at frame.records (end frame.moment ∷ [])))

-- frames behind the first, each behind its open gate
abbrev pub next_spelling : List Frame → List ℕ
next_spelling [] = []
next_spelling (frame ∷ frames) = (1 ∷ []) ++ frame_spelling frame ++ next_spelling frames

-- what stands in front of the last gate of a file
abbrev pub open_spelling : List Frame → List ℕ
open_spelling [] = []
open_spelling (frame ∷ frames) = (1 ∷ 1 ∷ []) ++ frame_spelling frame ++ next_spelling frames

-- Behind the end of a frame stand further frames, and then what is found behind the end of the last.
pub found_at_end-frames : (at : ℕ) (frames : List Frame) (rest : List ℕ) → AreFramesAt (at + 1) frames
    → found_at_end at (next_spelling frames ++ rest) ≡ behind_items (placed_frames (at + 1) frames) (found_at_end (at + length (next_spelling frames)) rest)
found_at_end-frames at [] rest are = ap (λ n. found_at_end n rest) (omega arith)
found_at_end-frames at (frame ∷ frames) rest are =
    let ends : ℕ = at + 1 + length (frame_spelling frame) in
    let next : List ℕ = next_spelling frames in
    ap (found_from (at + 1)) (append_assoc (frame_spelling frame) next rest)
    ∙ found_from-frame (at + 1) frame (next ++ rest) are.0
    ∙ ap (behind_items (placed_items (at + 1) (items_of frame))) (found_at_end-frames ends frames rest are.1)
    ∙ behind_items-append (placed_items (at + 1) (items_of frame)) (placed_frames (ends + 1) frames) (found_at_end (ends + length next) rest)
    ∙ ap (λ n. behind_items (placed_frames (at + 1) (frame ∷ frames)) (found_at_end n rest)) (omega (arith, length-append (frame_spelling frame) next))

-- what is found in a file behind its frames, where a gate stands
abbrev pub found_at_last : List Frame → List ℕ → Found
found_at_last [] bytes = found_in bytes
found_at_last (frame ∷ frames) bytes = found_at_end (length (open_spelling (frame ∷ frames))) bytes

-- A file of whole frames, and then what is found at the gate behind them.
pub found_in-frames : (frames : List Frame) (rest : List ℕ) → AreFrames frames
    → found_in (open_spelling frames ++ rest) ≡ behind_items (placed_frames 2 frames) (found_at_last frames rest)
found_in-frames [] rest are = refl
found_in-frames (frame ∷ frames) rest are =
    let ends : ℕ = 2 + length (frame_spelling frame) in
    let next : List ℕ = next_spelling frames in
    ap (found_from 2) (append_assoc (frame_spelling frame) next rest)
    ∙ found_from-frame 2 frame (next ++ rest) are.0
    ∙ ap (behind_items (placed_items 2 (items_of frame))) (found_at_end-frames ends frames rest are.1)
    ∙ behind_items-append (placed_items 2 (items_of frame)) (placed_frames (ends + 1) frames) (found_at_end (ends + length next) rest)
    ∙ ap (λ n. behind_items (placed_frames 2 (frame ∷ frames)) (found_at_end n rest)) (omega (arith, length-append (frame_spelling frame) next))

closed-test : (gate : ℕ) → gate ≢ 1 → (gate == 1) ≡ false
closed-test gate closed = grind (arith, nat_tests)

nothing-behind : (items : List (ℕ × Item)) → behind_items items nothing ≡ record { items = items; damage = None }
nothing-behind items = ap (λ placed. record { items = placed; damage = None }) (append-nil items)

closed-last : (frames : List Frame) (gate : ℕ) (rest : List ℕ) → gate ≢ 1 → found_at_last frames (gate ∷ rest) ≡ nothing
closed-last [] gate rest closed = ap (λ b. if b then found_at_version rest else nothing) (closed-test gate closed)
closed-last (frame ∷ frames) gate rest closed =
    ap (λ b. if b then found_from (length (open_spelling (frame ∷ frames)) + 1) rest else nothing) (closed-test gate closed)

-- A closed gate ends what is counted, whatever stands behind it.
pub counts-closed : (frames : List Frame) (gate : ℕ) (rest : List ℕ) → AreFrames frames → gate ≢ 1 → CountsFrames frames (open_spelling frames ++ (gate ∷ rest))
counts-closed frames gate rest are closed =
    found_in-frames frames (gate ∷ rest) are
    ∙ ap (behind_items (placed_frames 2 frames)) (closed-last frames gate rest closed)
    ∙ nothing-behind (placed_frames 2 frames)

-- the version byte, in front of the first frame of a file
abbrev pub lead_of : List Frame → List ℕ
lead_of [] = 1 ∷ []
lead_of (frame ∷ frames) = []

next-more : (frames : List Frame) (frame : Frame) → next_spelling (frames ++ frame ∷ []) ≡ next_spelling frames ++ ((1 ∷ []) ++ frame_spelling frame)
next-more [] frame = ap (λ bytes. 1 ∷ bytes) (append-nil (frame_spelling frame))
next-more (first ∷ frames) frame =
    ap (λ bytes. (1 ∷ []) ++ frame_spelling first ++ bytes) (next-more frames frame) ∙ sym (append_assoc ((1 ∷ []) ++ frame_spelling first) (next_spelling frames) ((1 ∷ []) ++ frame_spelling frame))

-- One frame more stands behind an open gate, the first behind the version byte too.
pub open-more : (frames : List Frame) (frame : Frame) → open_spelling (frames ++ frame ∷ []) ≡ open_spelling frames ++ ((1 ∷ lead_of frames) ++ frame_spelling frame)
open-more [] frame = ap (λ bytes. 1 ∷ 1 ∷ bytes) (append-nil (frame_spelling frame))
open-more (first ∷ frames) frame =
    ap (λ bytes. (1 ∷ 1 ∷ []) ++ frame_spelling first ++ bytes) (next-more frames frame) ∙ sym (append_assoc ((1 ∷ 1 ∷ []) ++ frame_spelling first) (next_spelling frames) ((1 ∷ []) ++ frame_spelling frame))

are-more-at : (at : ℕ) (frames : List Frame) (frame : Frame) → AreFramesAt (at + 1) frames → IsFrameAt (at + length (next_spelling frames) + 1) frame → AreFramesAt (at + 1) (frames ++ frame ∷ [])
are-more-at at [] frame are is = (subst (λ n. IsFrameAt n frame) (omega arith) is, tt)
are-more-at at (first ∷ frames) frame are is =
    let total = length-append (frame_spelling first) (next_spelling frames) in
    (are.0, are-more-at (at + 1 + length (frame_spelling first)) frames frame are.1 (subst (λ n. IsFrameAt n frame) (omega (arith, total)) is))

-- where the next frame of a file begins
abbrev pub next_at : List Frame → ℕ
next_at frames = length (open_spelling frames) + 1 + length (lead_of frames)

pub are-more : (frames : List Frame) (frame : Frame) → AreFrames frames → IsFrameAt (next_at frames) frame → AreFrames (frames ++ frame ∷ [])
are-more [] frame are is = (is, tt)
are-more (first ∷ frames) frame are is =
    let total = length-append (frame_spelling first) (next_spelling frames) in
    (are.0, are-more-at (2 + length (frame_spelling first)) frames frame are.1 (subst (λ n. IsFrameAt n frame) (omega (arith, total)) is))

next-closed : (frames : List Frame) → frames_spelling frames ≡ next_spelling frames ++ (0 ∷ [])
next-closed [] = refl
next-closed (frame ∷ frames) =
    ap (λ bytes. (1 ∷ []) ++ frame_spelling frame ++ bytes) (next-closed frames) ∙ sym (append_assoc ((1 ∷ []) ++ frame_spelling frame) (next_spelling frames) (0 ∷ []))

-- A file at rest is its frames and a closed gate.
pub file-open : (frames : List Frame) → file_spelling frames ≡ open_spelling frames ++ (0 ∷ [])
file-open [] = refl
file-open (frame ∷ frames) =
    ap (λ bytes. (1 ∷ 1 ∷ []) ++ frame_spelling frame ++ bytes) (next-closed frames) ∙ sym (append_assoc ((1 ∷ 1 ∷ []) ++ frame_spelling frame) (next_spelling frames) (0 ∷ []))

-- a file at rest counts its frames
pub counts-file : (frames : List Frame) → AreFrames frames → CountsFrames frames (file_spelling frames)
counts-file frames are = subst (CountsFrames frames) (sym (file-open frames)) (counts-closed frames 0 [] are (λ e. cc))

placed-next : (at : ℕ) (frames : List Frame) (frame : Frame) → placed_frames (at + 1) (frames ++ frame ∷ []) ≡ placed_frames (at + 1) frames ++ placed_items (at + length (next_spelling frames) + 1) (items_of frame)
placed-next at [] frame = append-nil (placed_items (at + 1) (items_of frame)) ∙ ap (λ n. placed_items n (items_of frame)) (omega arith)
placed-next at (first ∷ frames) frame =
    let ends : ℕ = at + 1 + length (frame_spelling first) in
    ap (λ placed. placed_items (at + 1) (items_of first) ++ placed) (placed-next ends frames frame)
    ∙ sym (append_assoc (placed_items (at + 1) (items_of first)) (placed_frames (ends + 1) frames) (placed_items (ends + length (next_spelling frames) + 1) (items_of frame)))
    ∙ ap (λ n. placed_frames (at + 1) (first ∷ frames) ++ placed_items n (items_of frame)) (omega (arith, length-append (frame_spelling first) (next_spelling frames)))

-- the items of one frame more stand behind the others
pub placed-more : (frames : List Frame) (frame : Frame) → placed_frames 2 (frames ++ frame ∷ []) ≡ placed_frames 2 frames ++ placed_items (next_at frames) (items_of frame)
placed-more [] frame = append-nil (placed_items 2 (items_of frame))
placed-more (first ∷ frames) frame =
    let ends : ℕ = 2 + length (frame_spelling first) in
    ap (λ placed. placed_items 2 (items_of first) ++ placed) (placed-next ends frames frame)
    ∙ sym (append_assoc (placed_items 2 (items_of first)) (placed_frames (ends + 1) frames) (placed_items (ends + length (next_spelling frames) + 1) (items_of frame)))
    ∙ ap (λ n. placed_frames 2 (first ∷ frames) ++ placed_items n (items_of frame)) (omega (arith, length-append (frame_spelling first) (next_spelling frames)))

-- An open gate in front of one more whole frame and a closed gate counts that frame too.
pub counts-opened : (frames : List Frame) (frame : Frame) (gate : ℕ) (rest : List ℕ) → AreFrames frames → IsFrameAt (next_at frames) frame → gate ≢ 1
    → CountsFrames (frames ++ frame ∷ []) (open_spelling frames ++ (((1 ∷ lead_of frames) ++ frame_spelling frame) ++ (gate ∷ rest)))
counts-opened frames frame gate rest are is closed =
    subst (CountsFrames (frames ++ frame ∷ []))
    (ap (λ bytes. bytes ++ (gate ∷ rest)) (open-more frames frame) ∙ append_assoc (open_spelling frames) ((1 ∷ lead_of frames) ++ frame_spelling frame) (gate ∷ rest))
    (counts-closed (frames ++ frame ∷ []) gate rest (are-more frames frame are is) closed)

-- what is found from an offset on, by what stands there

found_from-at : (at : ℕ) (bytes : List ℕ) (found : Front) → at < 2 ^ 32 → front bytes ≡ found
    → found_from at bytes ≡ found_at_item (λ next more. found_from next more) at bytes found
found_from-at at bytes found below is =
    let one : ℕ → List ℕ → Found = λ next more. found_within (length bytes) next more in
    let first : found_from at bytes ≡ (if nat_le (2 ^ 32) at then damaged at Place else found_at_item one at bytes (front bytes)) =
    found_within-more (length bytes + 1) (suc (length bytes)) at bytes (omega arith) (omega arith) in
    first
    ∙ ap (λ b. if b then damaged at Place else found_at_item one at bytes (front bytes)) (below-test _ _ below)
    ∙ agree-item one (λ next more. found_from next more) at bytes (front bytes) refl (λ next more fewer. found_within-from (length bytes) next more fewer)
    ∙ ap (found_at_item (λ next more. found_from next more) at bytes) is

pub found_from-whole : (at : ℕ) (bytes : List ℕ) (item : Item) (size : ℕ) → at < 2 ^ 32 → front bytes ≡ whole item size
    → found_from at bytes ≡ and_then (at, item) (found_behind (λ next more. found_from next more) item (at + size) (drop size bytes))
found_from-whole at bytes item size below is = found_from-at at bytes (whole item size) below is

pub found_from-cut : (at : ℕ) (bytes : List ℕ) → at < 2 ^ 32 → front bytes ≡ cut → found_from at bytes ≡ damaged at Cut
found_from-cut at bytes below is = found_from-at at bytes cut below is

pub found_from-bad : (at : ℕ) (bytes : List ℕ) (kind : BadKind) → at < 2 ^ 32 → front bytes ≡ bad kind → found_from at bytes ≡ damaged at kind
found_from-bad at bytes kind below is = found_from-at at bytes (bad kind) below is

pub found_from-place : (at : ℕ) (bytes : List ℕ) → 2 ^ 32 ≤ at → found_from at bytes ≡ damaged at Place
found_from-place at bytes above =
    found_within-more (length bytes + 1) (suc (length bytes)) at bytes (omega arith) (omega arith)
    ∙ ap (λ b. if b then damaged at Place else found_at_item (λ next rest. found_within (length bytes) next rest) at bytes (front bytes)) (le-leb (2 ^ 32) at above)
