-- The bytes of data files in the making: what stands behind the closed gate, and what is counted there.
use Rattle.std.proofs.Common.{◌≡◌, inl, inr, ℕ, ◌+◌, ◌^◌, ◌<◌, ◌≤◌, Bool, true, false, List, [], ◌∷◌, ◌++◌, length, take, drop, refl, sym, ◌∙◌, ap, subst, arith, append_assoc, length-append, if◌then◌else◌}
use Rattle.std.specs.Prelude.{All, flat_map, get_or}
use Rattle.std.proofs.lemmas.List.{append-nil, take_at, drop_at, take_all, drop_all, take-append-drop, take-take, drop_more}
use Rattle.std.proofs.lemmas.Bool.{cases_eq}
use Rattle.cache_model.specs.Items.{Item, put, removal, end, IsRecord, spelling}
use Rattle.cache_model.specs.DataFiles.{Frame, frame_spelling, AreFrames, file_spelling, CountsFrames}
use Rattle.cache_model.proofs.Grammar.{open_spelling, lead_of, next_at, file-open, open-more, are-more, counts-closed, frame-spelling}
use Rattle.cache_model.proofs.Spelled.{size_of, length-spelling}
use Rattle.cache_disk.specs.Calls.{Torn, overwritten}
use Rattle.data_file.specs.Appending.{IsRecordSpelling, unsealed, written, frame_start, next_place, is_versioned, ending, StartsWith, sealed, CountsOneOf}

-- spellings of lists of items

pub spellings-append : (one other : List Item) → flat_map spelling (one ++ other) ≡ flat_map spelling one ++ flat_map spelling other
spellings-append [] other = refl
spellings-append (item ∷ items) other =
    ap (λ (l : List ℕ). spelling item ++ l) (spellings-append items other) ∙ sym (append_assoc (spelling item) (flat_map spelling items) (flat_map spelling other))

pub spellings-push : (items : List Item) (item : Item) → flat_map spelling (items ++ item ∷ []) ≡ flat_map spelling items ++ spelling item
spellings-push items item = spellings-append items (item ∷ []) ∙ ap (λ (l : List ℕ). flat_map spelling items ++ l) (append-nil (spelling item))

-- a record has far fewer than 2^32 bytes
pub record-short : (bytes : List ℕ) → IsRecordSpelling bytes → length bytes < 2 ^ 32
record-short bytes spelled = omega (arith, ap length spelled.2, length-spelling spelled.0, short spelled.0 spelled.1)
  where
    short : (item : Item) → IsRecord item → size_of item < 2 ^ 32
    short (put seq until key value) is = omega arith
    short (removal seq key) is = omega arith
    short (end moment) is = absurd is

-- places

pub length-file : (frames : List Frame) → length (file_spelling frames) ≡ length (open_spelling frames) + 1
length-file frames = ap length (file-open frames) ∙ length-append (open_spelling frames) (0 ∷ [])

-- where the frame in the making starts: behind the closed gate, and in a first frame behind the version byte
pub frame_start-next : (frames : List Frame) → frame_start frames ≡ next_at frames
frame_start-next [] = refl
frame_start-next (frame ∷ frames) = omega (arith, length-file (frame ∷ frames))

-- what an appender adds to what is unsealed

-- the version byte, where it isn't in the file yet
abbrev pub due_version : List Frame → List Item → List ℕ
due_version [] [] = 1 ∷ []
due_version [] (item ∷ items) = []
due_version (frame ∷ frames) items = []

pub due-versioned : (frames : List Frame) (records : List Item) → is_versioned frames records ≡ true → due_version frames records ≡ []
due-versioned [] [] is = cc
due-versioned [] (item ∷ items) is = refl
due-versioned (frame ∷ frames) items is = refl

pub due-first : (frames : List Frame) (records : List Item) → is_versioned frames records ≡ false → due_version frames records ≡ 1 ∷ []
due-first [] [] is = refl
due-first [] (item ∷ items) is = cc
due-first (frame ∷ frames) items is = cc

pub versioned-push : (frames : List Frame) (records : List Item) (item : Item) → is_versioned frames (records ++ item ∷ []) ≡ true
versioned-push [] [] item = refl
versioned-push [] (first ∷ items) item = refl
versioned-push (frame ∷ frames) records item = refl

pub versioned-sealed : (frames : List Frame) (records : List Item) (moment : ℕ) → is_versioned (sealed frames records moment) [] ≡ true
versioned-sealed [] records moment = refl
versioned-sealed (frame ∷ frames) records moment = refl

-- the version byte where it is due, and one record more
pub unsealed-push : (frames : List Frame) (records : List Item) (item : Item) → unsealed frames (records ++ item ∷ []) ≡ (unsealed frames records ++ due_version frames records) ++ spelling item
unsealed-push [] [] item = ap (λ (l : List ℕ). 1 ∷ l) (append-nil (spelling item))
unsealed-push [] (first ∷ items) item = ap (λ (l : List ℕ). 1 ∷ l) (spellings-push (first ∷ items) item) ∙ ap (λ (l : List ℕ). l ++ spelling item) (sym (append-nil (1 ∷ flat_map spelling (first ∷ items))))
unsealed-push (frame ∷ frames) records item = spellings-push records item ∙ ap (λ (l : List ℕ). l ++ spelling item) (sym (append-nil (flat_map spelling records)))

pub written-push : (frames : List Frame) (records : List Item) (item : Item) → written frames (records ++ item ∷ []) ≡ (written frames records ++ due_version frames records) ++ spelling item
written-push frames records item =
    ap (λ (l : List ℕ). file_spelling frames ++ l) (unsealed-push frames records item)
    ∙ sym (append_assoc (file_spelling frames) (unsealed frames records ++ due_version frames records) (spelling item))
    ∙ ap (λ (l : List ℕ). l ++ spelling item) (sym (append_assoc (file_spelling frames) (unsealed frames records) (due_version frames records)))

-- where the version byte is due there stands nothing yet but the closed gate; else its place is counted
pub unsealed-version : (frames : List Frame) (records : List Item) → unsealed frames records ++ due_version frames records ≡ lead_of frames ++ flat_map spelling records
unsealed-version [] [] = refl
unsealed-version [] (item ∷ items) = append-nil (1 ∷ flat_map spelling (item ∷ items))
unsealed-version (frame ∷ frames) records = append-nil (flat_map spelling records)

-- the next item stands at the end of the file, behind the version byte
pub next_place-is : (frames : List Frame) (records : List Item) → next_place frames records ≡ length (written frames records ++ due_version frames records)
next_place-is frames records =
    let both : length (unsealed frames records ++ due_version frames records) ≡ length (lead_of frames) + length (flat_map spelling records) = ap length (unsealed-version frames records) ∙ length-append (lead_of frames) (flat_map spelling records) in
    omega (arith, both, frame_start-next frames, length-file frames, length-append (written frames records) (due_version frames records), length-append (file_spelling frames) (unsealed frames records), length-append (unsealed frames records) (due_version frames records))

-- what is unsealed, with the version byte where it is due, and then the end and the next gate
pub unsealed-end : (frames : List Frame) (records : List Item) (moment : ℕ)
    → (unsealed frames records ++ due_version frames records) ++ (spelling (end moment) ++ 0 ∷ []) ≡ (lead_of frames ++ frame_spelling (record { records = records; moment = moment })) ++ 0 ∷ []
unsealed-end frames records moment =
    ap (λ (l : List ℕ). l ++ (spelling (end moment) ++ 0 ∷ [])) (unsealed-version frames records)
    ∙ sym (append_assoc (lead_of frames ++ flat_map spelling records) (spelling (end moment)) (0 ∷ []))
    ∙ ap (λ (l : List ℕ). l ++ 0 ∷ []) (append_assoc (lead_of frames) (flat_map spelling records) (spelling (end moment)))
    ∙ ap (λ (l : List ℕ). (lead_of frames ++ l) ++ 0 ∷ []) (sym (frame-spelling (record { records = records; moment = moment })))

-- the frame is in the grammar where its end begins below 2^32
pub AreFrames-sealed : (frames : List Frame) (records : List Item) (moment : ℕ) → AreFrames frames → All IsRecord records → moment < 2 ^ 61 → next_place frames records < 2 ^ 32 → AreFrames (sealed frames records moment)
AreFrames-sealed frames records moment are each below fits =
    are-more frames (record { records = records; moment = moment }) are (record { records = each; moment = below; below = omega (arith, frame_start-next frames) })

-- what is counted

-- of a file that starts with frames at rest just these are counted
pub counts-start : (frames : List Frame) (bytes : List ℕ) → AreFrames frames → StartsWith (file_spelling frames) bytes → CountsFrames frames bytes
counts-start frames bytes are starts =
    let whole : bytes ≡ open_spelling frames ++ 0 ∷ drop (length (file_spelling frames)) bytes =
    sym (take-append-drop (length (file_spelling frames)) bytes)
    ∙ ap (λ (l : List ℕ). l ++ drop (length (file_spelling frames)) bytes) (starts ∙ file-open frames)
    ∙ append_assoc (open_spelling frames) (0 ∷ []) (drop (length (file_spelling frames)) bytes) in
    subst (CountsFrames frames) (sym whole) (counts-closed frames 0 (drop (length (file_spelling frames)) bytes) are (omega arith))

-- a file of one byte or none counts no frame
pub counts-short : (bytes : List ℕ) → length bytes ≤ 1 → CountsFrames [] bytes
counts-short [] short = refl
counts-short (gate ∷ []) short = shut gate
  where
    shut : (gate : ℕ) → CountsFrames [] (gate ∷ [])
    shut gate = grind arith
counts-short (gate ∷ next ∷ rest) short = absurd (omega arith)

-- what a torn write leaves

-- a write behind them leaves the bytes in front as they are
pub torn-starts : (front old new : List ℕ) (at n : ℕ) → length front ≤ at → Torn at n old new → StartsWith front old → StartsWith front new
torn-starts front old new at n le torn starts =
    sym (take-take (length front) at new le) ∙ ap (λ (l : List ℕ). take (length front) l) torn.before ∙ take-take (length front) at old le ∙ starts

-- a write past the end
pub written-behind : (old bytes : List ℕ) (at : ℕ) → at ≡ length old → overwritten old at bytes ≡ old ++ bytes
written-behind old bytes at e =
    ap (λ (l : List ℕ). l ++ bytes ++ drop (at + length bytes) old) (take_all at old (omega (arith, e)))
    ∙ ap (λ (l : List ℕ). old ++ bytes ++ l) (drop_all (at + length bytes) old (omega (arith, e)))
    ∙ append-nil (old ++ bytes)

module _ (frames : List Frame) (frame : Frame) (gate : ℕ) (at_gate : gate + 1 ≡ length (file_spelling frames)) where
  -- the file with a whole frame behind the gate, which is closed, and the next one
  abbrev pub staged : List ℕ
  staged = file_spelling frames ++ ((lead_of frames ++ frame_spelling frame) ++ 0 ∷ [])

  staged-split : staged ≡ open_spelling frames ++ 0 ∷ ((lead_of frames ++ frame_spelling frame) ++ 0 ∷ [])
  staged-split = ap (λ (l : List ℕ). l ++ ((lead_of frames ++ frame_spelling frame) ++ 0 ∷ [])) (file-open frames) ∙ append_assoc (open_spelling frames) (0 ∷ []) ((lead_of frames ++ frame_spelling frame) ++ 0 ∷ [])

  gate-is : length (open_spelling frames) ≡ gate
  gate-is = omega (arith, length-file frames)

  front : take gate staged ≡ open_spelling frames
  front = ap (λ (l : List ℕ). take gate l) staged-split ∙ take_at (open_spelling frames) (0 ∷ ((lead_of frames ++ frame_spelling frame) ++ 0 ∷ [])) gate gate-is

  back : drop (gate + 1) staged ≡ (lead_of frames ++ frame_spelling frame) ++ 0 ∷ []
  back = drop_at (file_spelling frames) ((lead_of frames ++ frame_spelling frame) ++ 0 ∷ []) (gate + 1) (sym at_gate)

  -- with the gate open that is the file of one frame more
  pub opened-is : open_spelling frames ++ 1 ∷ ((lead_of frames ++ frame_spelling frame) ++ 0 ∷ []) ≡ file_spelling (frames ++ frame ∷ [])
  opened-is =
      sym (append_assoc (open_spelling frames) (1 ∷ (lead_of frames ++ frame_spelling frame)) (0 ∷ []))
      ∙ ap (λ (l : List ℕ). l ++ 0 ∷ []) (sym (open-more frames frame))
      ∙ sym (file-open (frames ++ frame ∷ []))

  -- the write of the open gate
  pub gate-written : overwritten staged gate (1 ∷ []) ≡ file_spelling (frames ++ frame ∷ [])
  gate-written =
      ap (λ (l : List ℕ). l ++ (1 ∷ []) ++ drop (gate + 1) staged) front
      ∙ ap (λ (l : List ℕ). open_spelling frames ++ (1 ∷ []) ++ l) back
      ∙ append_assoc (open_spelling frames) (1 ∷ []) ((lead_of frames ++ frame_spelling frame) ++ 0 ∷ [])
      ∙ opened-is

  -- where it is torn the gate is open or it isn't
  pub gate-torn : (bytes : List ℕ) → AreFrames frames → AreFrames (frames ++ frame ∷ []) → Torn gate 1 staged bytes → CountsOneOf frames (frames ++ frame ∷ []) bytes
  gate-torn bytes are are_more torn =
      let now : ℕ = get_or bytes gate 0 in
      let long : gate + 1 ≤ length staged = omega (arith, length-append (file_spelling frames) ((lead_of frames ++ frame_spelling frame) ++ 0 ∷ [])) in
      let rest : drop gate bytes ≡ now ∷ ((lead_of frames ++ frame_spelling frame) ++ 0 ∷ []) =
      drop_more bytes gate 0 (omega (arith, torn.no_shorter)) ∙ ap (λ (l : List ℕ). now ∷ l) (torn.after ∙ back) in
      let whole : bytes ≡ open_spelling frames ++ now ∷ ((lead_of frames ++ frame_spelling frame) ++ 0 ∷ []) =
      sym (take-append-drop gate bytes) ∙ ap (λ (l : List ℕ). l ++ drop gate bytes) (torn.before ∙ front) ∙ ap (λ (l : List ℕ). open_spelling frames ++ l) rest in
      subst (CountsOneOf frames (frames ++ frame ∷ [])) (sym whole) (elim (cases_eq now 1) [
        | inl is_open ↦ inr (subst (λ g. CountsFrames (frames ++ frame ∷ []) (open_spelling frames ++ g ∷ ((lead_of frames ++ frame_spelling frame) ++ 0 ∷ []))) (sym is_open)
            (subst (CountsFrames (frames ++ frame ∷ [])) (sym opened-is) (counts-start (frames ++ frame ∷ []) (file_spelling (frames ++ frame ∷ [])) are_more (take_all _ _ (omega arith)))))
        | inr shut ↦ inl (counts-closed frames now ((lead_of frames ++ frame_spelling frame) ++ 0 ∷ []) are shut)
      ])

-- how the end is written

pub length-ending : (versioned : Bool) (moment : ℕ) → length (ending versioned moment) ≡ (if versioned then 0 else 1) + 10
length-ending true moment = omega (arith, length-append (spelling (end moment)) (0 ∷ []), length-spelling (end moment))
length-ending false moment = omega (arith, length-append (spelling (end moment)) (0 ∷ []), length-spelling (end moment))

ending-due : (frames : List Frame) (records : List Item) (moment : ℕ) → ending (is_versioned frames records) moment ≡ due_version frames records ++ (spelling (end moment) ++ 0 ∷ [])
ending-due [] [] moment = refl
ending-due [] (item ∷ items) moment = refl
ending-due (frame ∷ frames) records moment = refl

pub length-due : (frames : List Frame) (records : List Item) → length (due_version frames records) ≡ (if is_versioned frames records then 0 else 1)
length-due [] [] = refl
length-due [] (item ∷ items) = refl
length-due (frame ∷ frames) records = refl

-- behind the file stands a whole frame once its end is written
pub written-ending : (frames : List Frame) (records : List Item) (moment : ℕ)
    → written frames records ++ ending (is_versioned frames records) moment ≡ file_spelling frames ++ ((lead_of frames ++ frame_spelling (record { records = records; moment = moment })) ++ 0 ∷ [])
written-ending frames records moment =
    let tail : List ℕ = spelling (end moment) ++ 0 ∷ [] in
    ap (λ (l : List ℕ). written frames records ++ l) (ending-due frames records moment)
    ∙ append_assoc (file_spelling frames) (unsealed frames records) (due_version frames records ++ tail)
    ∙ ap (λ (l : List ℕ). file_spelling frames ++ l) (sym (append_assoc (unsealed frames records) (due_version frames records) tail) ∙ unsealed-end frames records moment)

-- the end begins below 2^32 where the file is that short
pub next_place-below : (frames : List Frame) (records : List Item) → length (written frames records) < 2 ^ 32 → next_place frames records < 2 ^ 32
next_place-below [] [] below = omega arith
next_place-below [] (item ∷ items) below = omega (arith, next_place-is [] (item ∷ items), length-append (written [] (item ∷ items)) [])
next_place-below (frame ∷ frames) records below = omega (arith, next_place-is (frame ∷ frames) records, length-append (written (frame ∷ frames) records) [])

-- with no record unsealed the file is at rest
pub written-none : (frames : List Frame) → written frames [] ≡ file_spelling frames
written-none [] = refl
written-none (frame ∷ frames) = append-nil (file_spelling (frame ∷ frames))

pub length-staged : (frames : List Frame) (frame : Frame) → length (file_spelling frames ++ ((lead_of frames ++ frame_spelling frame) ++ 0 ∷ [])) ≡ length (file_spelling (frames ++ frame ∷ []))
length-staged frames frame =
    let body : List ℕ = lead_of frames ++ frame_spelling frame in
    let more : length (open_spelling (frames ++ frame ∷ [])) ≡ length (open_spelling frames) + 1 + length body = ap length (open-more frames frame) ∙ length-append (open_spelling frames) (1 ∷ body) ∙ omega arith in
    omega (arith, more, length-file frames, length-file (frames ++ frame ∷ []), length-append (file_spelling frames) (body ++ 0 ∷ []), length-append body (0 ∷ []))
