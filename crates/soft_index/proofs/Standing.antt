-- What a store stands for after a seal, a rotation or a change.
use Rattle.std.proofs.Common.{◌≡◌, ◌⊎◌, ⊎_elim, inl, inr, ℕ, ◌+◌, ◌≤◌, ◌<◌, true, false, Bool, List, [], ◌∷◌, ◌++◌, Option, Some, None, Contains, IsSome, refl, sym, ◌∙◌, ap, subst, arith}
use Rattle.std.proofs.lemmas.List.{append-nil}
use Rattle.std.proofs.lemmas.List.Elements.{Contains-append_left, Contains-push_cases}
use Rattle.cache_model.proofs.Grammar.{counts-file}
use Rattle.cache_model.specs.Files.{Image, file_in}
use Rattle.cache_model.specs.Items.{Item, end}
use Rattle.cache_model.specs.DataFiles.{Frame, CountsFrames, IsUndamaged, placed_frames, file_spelling}
use Rattle.cache_model.specs.Images.{log_name, IsCounted, key_of, sequence_of}
use Rattle.cache_disk.specs.State.{HostState, Moves, SameBut}
use Rattle.cache_disk.specs.Calls.{OnFile, AllLeft, HasFile}
use Rattle.cache_disk.proofs.Runs.{left_still, weaker}
use Rattle.data_file.specs.Appending.{sealed, next_place, written}
use Rattle.data_file.proofs.Bytes.{written-none}
use Rattle.data_file.proofs.Frame.{placed_of, placed-sealed}
use Rattle.append_log.specs.declared.log_files.LogFiles.{LogFiles}
use Rattle.append_log.specs.Current.{files_of, store_of}
use Rattle.append_log.specs.Standing.{IsClosedIn, waits}
use Rattle.append_log.specs.Calls.{OnFiles, SameBeside}
use Rattle.append_log.proofs.Holding.{none_waits, next_most}
use Rattle.compactor.specs.Counting.{Counts, CountSame}
use Rattle.compactor.specs.Indexing.{AreIndexed}
use Rattle.compactor.proofs.Rows.{reading_once, rows_read}
use Rattle.compactor.proofs.RowsSame.{indexed_same}
use Rattle.soft_index.proofs.There.{there_by}
use Rattle.store_trait.specs.Meaning.{read_in}
use Rattle.store_trait.specs.Keeping.{SameContent}
use Rattle.soft_index.specs.declared.log_store.LogStore.{LogStore}
use Rattle.soft_index.specs.Counted.{AreCounted}
use Rattle.soft_index.specs.Store.{closed_frames, HasReading, Holds, HoldsLog, SameOthers, IsNamed, LogStands, content_of, main_files, next_of, number, waiting, writer}
use Rattle.soft_index.specs.Laws.{cases_file, reading-same, holds-there}
use Rattle.soft_index.proofs.Counting.{counted-within, counted-there, undamaged-counted}
use Rattle.soft_index.proofs.Images.{above_more, mark_more, other_name}

-- what counts, once what waits is sealed: the end of the frame besides

module _ (file : ℕ) (frames : List Frame) (records : List Item) (moment : ℕ) (files : Image) where
  all_sealed : placed_of (sealed frames records moment) [] ≡ placed_of frames records ++ (next_place frames records, end moment) ∷ []
  all_sealed = append-nil (placed_frames 2 (sealed frames records moment)) ∙ placed-sealed frames records moment

  sealed_kept : (n at : ℕ) (item : Item) → Holds file (placed_of frames records) files n at item → Holds file (placed_of (sealed frames records moment) []) files n at item
  sealed_kept n at item (inl here) =
      inl (
        here.0,
        subst (λ (l : List (ℕ × Item)). Contains l (at, item)) (sym all_sealed) (Contains-append_left (placed_of frames records) ((next_place frames records, end moment) ∷ []) (at, item) here.1),
      )
  sealed_kept n at item (inr other) = inr other

  sealed_only : (n at : ℕ) (item : Item) → Holds file (placed_of (sealed frames records moment) []) files n at item → Holds file (placed_of frames records) files n at item ⊎ (item ≡ end moment)
  sealed_only n at item (inl here) =
      ⊎_elim
      (λ was. inl (inl (here.0, was)))
      (λ is. inr (ap (λ (p : ℕ × Item). p.1) (sym is)))
      (Contains-push_cases (placed_of frames records) (next_place frames records, end moment) (at, item) (subst (λ (l : List (ℕ × Item)). Contains l (at, item)) all_sealed here.1))
  sealed_only n at item (inr other) = inl (inr other)

  -- where a frame is ended, or nothing waits
  pub ended_kept : (u : Bool) → (u ≡ false → records ≡ []) → (n at : ℕ) (item : Item) → Holds file (placed_of frames records) files n at item → Holds file (placed_of (closed_frames u frames records moment) []) files n at item
  ended_kept true none n at item holds = sealed_kept n at item holds
  ended_kept false none n at item holds = subst (λ (l : List Item). Holds file (placed_of frames l) files n at item) (none refl) holds

  pub ended_only : (u : Bool) → (u ≡ false → records ≡ []) → (n at : ℕ) (item : Item) → Holds file (placed_of (closed_frames u frames records moment) []) files n at item → Holds file (placed_of frames records) files n at item ⊎ (item ≡ end moment)
  ended_only true none n at item holds = sealed_only n at item holds
  ended_only false none n at item holds = inl (subst (λ (l : List Item). Holds file (placed_of frames l) files n at item) (sym (none refl)) holds)

-- where nothing waits there is no record
pub rests_none : (u : Bool) (records : List Item) → u ≡ waits records → u ≡ false → records ≡ []
rests_none u records is rests = none_waits records (sym is ∙ rests)

-- what the parts stand for

-- the parts stand for the same records
pub indexed_by : {counts more : Counts} (T : LogStore) → CountSame counts more → AreIndexed counts T.parts → AreIndexed more T.parts
indexed_by {counts} {more} T same indexed = indexed_same counts more T.parts.table T.parts.tree T.parts.requests.waiting same indexed

-- what they read of the files that the log holds
pub content_by : (T : LogStore) (b : HostState) (fs : List Frame) (rs : List Item) → HoldsLog (main_files T) b fs rs → IsNamed 0 (writer T) (number T)
    → AreIndexed (Holds (number T) (placed_of fs rs) b.files) T.parts → (key : List ℕ) → HasReading (Holds (number T) (placed_of fs rs) b.files) key (read_in (content_of T b.files) key)
content_by T b fs rs log named indexed =
    rows_read (Holds (number T) (placed_of fs rs) b.files) b.files T.parts.table T.parts.tree T.parts.requests.waiting indexed (there_by T b fs rs log named)

-- a store that stands for the same records as another reads the same
pub content_same : (S T : LogStore) (a b : HostState) (frames fs : List Frame) (records rs : List Item) → LogStands S a frames records → LogStands T b fs rs
    → CountSame (Holds (number S) (placed_of frames records) a.files) (Holds (number T) (placed_of fs rs) b.files)
    → SameContent (content_of S a.files) (content_of T b.files)
content_same S T a b frames fs records rs stands now same key =
    reading_once (Holds (number T) (placed_of fs rs) b.files) b.files key (read_in (content_of T b.files) key) (read_in (content_of S a.files) key) (there_by T b fs rs now.log now.named) (now.content key)
    (reading-same (Holds (number S) (placed_of frames records) a.files) (Holds (number T) (placed_of fs rs) b.files) key (read_in (content_of S a.files) key)
    (λ n at item of_key holds. same.kept n at item key holds of_key) (λ n at item of_key holds. same.only n at item key holds of_key) (stands.content key))

-- a call on the current file

module _ (S T : LogStore) (a b : HostState) (frames : List Frame) (records : List Item) (P : List ℕ → Type 0)
    (stands : LogStands S a frames records)
    (file : number T ≡ number S)
    (moves : Moves a b (OnFile (log_name (number S)) P))
    (same : SameBut (log_name (number S)) a.files b.files) where
  others_after : SameOthers (number S) a.files b.files
  others_after n other = same (log_name n) (other_name (number S) n other)

  others_before : SameOthers (number S) b.files a.files
  others_before n other = sym (others_after n other)

  images_after : AllLeft b (λ image. SameOthers (number S) b.files image)
  images_after =
      left_still a b (OnFile (log_name (number S)) P) (λ image. SameOthers (number S) b.files image) moves
      (λ image left n other. stands.others image left n other ∙ sym (others_after n other))
      (λ d m is step n other. step.others (log_name n) (other_name (number S) n other) ∙ is n other)

  stands_after : (fs : List Frame) (rs : List Item)
      → store_of (files_of T.parts.log) ≡ 0 → HoldsLog (main_files T) b fs rs → IsNamed 0 (writer T) (number T)
      → AreIndexed (Holds (number T) (placed_of fs rs) b.files) T.parts
      → AreCounted (record { number = number T; items = placed_of fs rs; files = b.files }) T.parts
      → ((n at : ℕ) (item : Item) (key : List ℕ) → Holds (number S) (placed_of fs rs) a.files n at item → key_of item ≡ Some key → sequence_of item < next_of T)
      → ((n at m : ℕ) → Holds (number S) (placed_of fs rs) a.files n at (end m) → m ≤ T.latest)
      → LogStands T b fs rs
  stands_after fs rs main log named indexed counted above mark = record {
    main = main;
    log = log;
    named = named;
    others = subst (λ (f : ℕ). AllLeft b (λ image. SameOthers f b.files image)) (sym file) images_after;
    sound = λ n bytes other there. let apart = λ (is : n ≡ number S). other (is ∙ sym file) in stands.sound n bytes apart (sym (others_after n apart) ∙ there);
    indexed = indexed;
    content = content_by T b fs rs log named indexed;
    counted = counted;
    above = λ n at item key counts.
        above n at item key (holds-there (number S) (placed_of fs rs) b.files a.files others_before n at item (subst (λ (f : ℕ). Holds f (placed_of fs rs) b.files n at item) file counts));
    mark = λ n at m counts.
        mark n at m (holds-there (number S) (placed_of fs rs) b.files a.files others_before n at (end m) (subst (λ (f : ℕ). Holds f (placed_of fs rs) b.files n at (end m)) file counts));
  }

  -- what counts goes along with the files
  holds_after : (items : List (ℕ × Item)) (n at : ℕ) (item : Item) → Holds (number S) items a.files n at item → Holds (number T) items b.files n at item
  holds_after items n at item holds = subst (λ (f : ℕ). Holds f items b.files n at item) (sym file) (holds-there (number S) items a.files b.files others_after n at item holds)

  holds_before : (items : List (ℕ × Item)) (n at : ℕ) (item : Item) → Holds (number T) items b.files n at item → Holds (number S) items a.files n at item
  holds_before items n at item holds = holds-there (number S) items b.files a.files others_before n at item (subst (λ (f : ℕ). Holds f items b.files n at item) file holds)

  pub same_records : CountSame (Holds (number S) (placed_of frames records) a.files) (Holds (number T) (placed_of frames records) b.files)
  same_records = record {
    kept = λ n at item key holds of_key. holds_after (placed_of frames records) n at item holds;
    only = λ n at item key holds of_key. holds_before (placed_of frames records) n at item holds;
  }

  -- the same frames and records
  pub stands_same : store_of (files_of T.parts.log) ≡ 0 → HoldsLog (main_files T) b frames records → IsNamed 0 (writer T) (number T) → AreIndexed (Holds (number S) (placed_of frames records) a.files) T.parts
      → AreCounted (record { number = number T; items = placed_of frames records; files = b.files }) T.parts → next_of T ≡ next_of S → S.latest ≤ T.latest → LogStands T b frames records
  stands_same main log named indexed counted next late =
      stands_after frames records main log named (indexed_by T same_records indexed) counted
      (λ n at item key counted of_key. omega (arith, stands.above n at item key counted of_key, next))
      (λ n at m counted. omega (arith, stands.mark n at m counted, late))

  -- one record more
  pub stands_appended : (one : Item) → sequence_of one < next_of T → ((m : ℕ) → end m ≡ one → ⊥)
      → store_of (files_of T.parts.log) ≡ 0 → HoldsLog (main_files T) b frames (records ++ one ∷ []) → IsNamed 0 (writer T) (number T)
      → AreIndexed (Holds (number T) (placed_of frames (records ++ one ∷ [])) b.files) T.parts
      → AreCounted (record { number = number T; items = placed_of frames (records ++ one ∷ []); files = b.files }) T.parts → next_of S ≤ next_of T → S.latest ≤ T.latest
      → LogStands T b frames (records ++ one ∷ [])
  stands_appended one below no_end main log named indexed counted next late =
      stands_after frames (records ++ one ∷ []) main log named indexed counted
      (above_more (number S) frames records a.files one (next_of T) below (λ n at item key holds of_key. omega (arith, stands.above n at item key holds of_key, next)))
      (mark_more (number S) frames records a.files one T.latest no_end (λ n at m holds. omega (arith, stands.mark n at m holds, late)))

  -- a frame is ended, or nothing waits

  module _ (moment : ℕ) (u : Bool) (none : u ≡ false → records ≡ []) where
    abbrev ended : List Frame
    ended = closed_frames u frames records moment

    kept_here : (n at : ℕ) (item : Item) → Holds (number S) (placed_of frames records) a.files n at item → Holds (number S) (placed_of ended []) a.files n at item
    kept_here = ended_kept (number S) frames records moment a.files u none

    only_here : (n at : ℕ) (item : Item) → Holds (number S) (placed_of ended []) a.files n at item → Holds (number S) (placed_of frames records) a.files n at item ⊎ (item ≡ end moment)
    only_here = ended_only (number S) frames records moment a.files u none

    pub ended_records : CountSame (Holds (number S) (placed_of frames records) a.files) (Holds (number T) (placed_of ended []) b.files)
    ended_records = record {
      kept = λ n at item key holds of_key. holds_after (placed_of ended []) n at item (kept_here n at item holds);
      only = λ n at item key holds of_key.
          ⊎_elim (λ was. was) (λ is. let no : None ≡ Some key = ap key_of (sym is) ∙ of_key in cc) (only_here n at item (holds_before (placed_of ended []) n at item holds));
    }

    pub stands_ended : store_of (files_of T.parts.log) ≡ 0 → HoldsLog (main_files T) b ended [] → IsNamed 0 (writer T) (number T)
        → AreIndexed (Holds (number S) (placed_of frames records) a.files) T.parts
        → AreCounted (record { number = number T; items = placed_of ended []; files = b.files }) T.parts → next_of T ≡ next_of S → S.latest ≤ moment → T.latest ≡ moment
        → LogStands T b ended []
    stands_ended main log named indexed counted next late latest =
        stands_after ended [] main log named (indexed_by T ended_records indexed) counted
        (λ n at item key counted of_key. ⊎_elim (λ was. omega (arith, stands.above n at item key was of_key, next)) (λ is. let no : None ≡ Some key = ap key_of (sym is) ∙ of_key in cc) (only_here n at item counted))
        (λ n at m counted. ⊎_elim (λ was. omega (arith, stands.mark n at m was, late, latest)) (λ is. let one : m ≡ moment = cc in omega (arith, one, latest)) (only_here n at (end m) counted))

  -- what waits is sealed

  module _ (moment : ℕ) where
    pub sealed_records : CountSame (Holds (number S) (placed_of frames records) a.files) (Holds (number T) (placed_of (closed_frames (waiting S) frames records moment) []) b.files)
    sealed_records = ended_records moment (waiting S) (rests_none (waiting S) records stands.log.1.pending)

    pub stands_sealed : store_of (files_of T.parts.log) ≡ 0 → HoldsLog (main_files T) b (closed_frames (waiting S) frames records moment) [] → IsNamed 0 (writer T) (number T)
        → AreIndexed (Holds (number S) (placed_of frames records) a.files) T.parts
        → AreCounted (record { number = number T; items = placed_of (closed_frames (waiting S) frames records moment) []; files = b.files }) T.parts → next_of T ≡ next_of S → S.latest ≤ moment → T.latest ≡ moment
        → LogStands T b (closed_frames (waiting S) frames records moment) []
    stands_sealed = stands_ended moment (waiting S) (rests_none (waiting S) records stands.log.1.pending)

-- a call that closes the current file

-- no step of it changes another file
pub beside_moves : (files : LogFiles) (a b : HostState) (over : Bool) (P : List ℕ → Type 0) → Moves a b (OnFiles files over P) → Moves a b (SameBeside files over)
beside_moves files a b over P moves = weaker a b (OnFiles files over P) (SameBeside files over) moves (λ d c left step. step.others)

module _ (S T : LogStore) (a b : HostState) (frames : List Frame) (records : List Item) (moment : ℕ)
    (stands : LogStands S a frames records)
    (file : number T ≡ number S + 1)
    (moves : Moves a b (SameBeside (main_files S) true))
    (same : SameBeside (main_files S) true a.files b.files)
    (reads : file_in b.files (log_name (number S)) ≡ Some (written (closed_frames (waiting S) frames records moment) []))
    (closed : IsClosedIn 0 b (record { number = number S; frames = closed_frames (waiting S) frames records moment })) where
  abbrev more : List Frame
  more = closed_frames (waiting S) frames records moment

  counts : CountsFrames more (written more [])
  counts = subst (λ (l : List ℕ). CountsFrames more l) (sym (written-none more)) (counts-file more closed.in_grammar)

  has : HasFile (log_name (number S)) (CountsFrames more) b.files
  has = record { bytes = written more []; there = reads; file = counts }

  all : placed_of more [] ≡ placed_frames 2 more
  all = append-nil (placed_frames 2 more)

  -- no file had the next number
  none : (n : ℕ) → n ≡ number T → file_in a.files (log_name n) ≡ None
  none n is = stands.log.1.beyond n (omega (arith, is, file, next_most (writer S) (number S)))

  pub rotated_file : (n : ℕ) → (n ≡ number S → ⊥) → (n ≡ number T → ⊥) → file_in b.files (log_name n) ≡ file_in a.files (log_name n)
  rotated_file n one other = same (log_name n) (other_name (number S) n one) (λ over. other_name (number S + 1) n (λ is. other (is ∙ sym file)))

  pub rotated_kept : (n at : ℕ) (item : Item) → Holds (number S) (placed_of frames records) a.files n at item → Holds (number T) (placed_of [] []) b.files n at item
  rotated_kept n at item holds = from (ended_kept (number S) frames records moment a.files (waiting S) (rests_none (waiting S) records stands.log.1.pending) n at item holds)
    where
      from : Holds (number S) (placed_of more []) a.files n at item → Holds (number T) (placed_of [] []) b.files n at item
      from (inl here) =
          inr (
            λ is. omega (arith, is, here.0, file),
            subst (λ (k : ℕ). IsCounted b.files k at item) (sym here.0)
                (counted-there (number S) at item more b.files has (subst (λ (l : List (ℕ × Item)). Contains l (at, item)) all here.1)),
          )
      from (inr other) =
          let apart : n ≡ number T → ⊥ = (λ is. let no : None ≡ Some other.1.bytes = sym (none n is) ∙ other.1.there in cc) in
          inr (apart, record { bytes = other.1.bytes; there = rotated_file n other.0 apart ∙ other.1.there; counted = other.1.counted })

  only : (n at : ℕ) (item : Item) → Holds (number T) (placed_of [] []) b.files n at item → Holds (number S) (placed_of frames records) a.files n at item ⊎ (item ≡ end moment)
  only n at item (inl here) = absurd (omega (arith, here.1.1))
  only n at item (inr other) = ⊎_elim
      (λ is.
      ended_only (number S) frames records moment a.files (waiting S) (rests_none (waiting S) records stands.log.1.pending) n at item
      (inl (is, subst (λ (l : List (ℕ × Item)). Contains l (at, item)) (sym all) (counted-within (number S) at item more b.files (inr has) (subst (λ (k : ℕ). IsCounted b.files k at item) is other.1)))))
      (λ apart. inl (inr (apart, record { bytes = other.1.bytes; there = sym (rotated_file n apart other.0) ∙ other.1.there; counted = other.1.counted })))
      (cases_file n (number S))

  images : AllLeft b (λ image. SameOthers (number T) b.files image)
  images image left n other = ⊎_elim
      (λ is. subst (λ (k : ℕ). file_in image (log_name k) ≡ file_in b.files (log_name k)) (sym is) (closed.stays there image left ∙ sym known))
      (λ apart.
      left_still a b (SameBeside (main_files S) true) (λ c. file_in c (log_name n) ≡ file_in b.files (log_name n)) moves
      (λ c was. stands.others c was n apart ∙ sym (rotated_file n apart other))
      (λ d m was step. step (log_name n) (other_name (number S) n apart) (λ over. other_name (number S + 1) n (λ is. other (is ∙ sym file))) ∙ was)
      image left)
      (cases_file n (number S))
    where
      known : file_in b.files (log_name (number S)) ≡ Some (file_spelling more)
      known = reads ∙ ap (λ (l : List ℕ). Some l) (written-none more)

      there : IsSome (file_in b.files (log_name (number S)))
      there = subst (λ (found : Option (List ℕ)). IsSome found) (sym known) refl

  sound : (n : ℕ) (bytes : List ℕ) → (n ≡ number T → ⊥) → file_in b.files (log_name n) ≡ Some bytes → IsUndamaged bytes
  sound n bytes other is = ⊎_elim
      (λ here.
      let both : Some (written more []) ≡ Some bytes = sym reads ∙ ap (λ (k : ℕ). file_in b.files (log_name k)) (sym here) ∙ is in
      let one : written more [] ≡ bytes = cc in
      subst (λ (l : List ℕ). IsUndamaged l) one (undamaged-counted more (written more []) counts))
      (λ apart. stands.sound n bytes apart (sym (rotated_file n apart other) ∙ is))
      (cases_file n (number S))

  pub rotated_records : CountSame (Holds (number S) (placed_of frames records) a.files) (Holds (number T) (placed_of [] []) b.files)
  rotated_records = record {
    kept = λ n at item key holds of_key. rotated_kept n at item holds;
    only = λ n at item key holds of_key. ⊎_elim (λ was. was) (λ is. let no : None ≡ Some key = ap key_of (sym is) ∙ of_key in cc) (only n at item holds);
  }

  before_above : (n at : ℕ) (item : Item) (key : List ℕ) → Holds (number T) (placed_of [] []) b.files n at item → key_of item ≡ Some key → sequence_of item < next_of S
  before_above n at item key counted of_key =
      ⊎_elim (λ was. stands.above n at item key was of_key) (λ is. let no : None ≡ Some key = ap key_of (sym is) ∙ of_key in cc) (only n at item counted)

  pub before_mark : S.latest ≤ moment → (n at m : ℕ) → Holds (number T) (placed_of [] []) b.files n at (end m) → m ≤ moment
  before_mark late n at m counted =
      ⊎_elim (λ was. omega (arith, stands.mark n at m was, late)) (λ is. let one : m ≡ moment = cc in omega (arith, one)) (only n at (end m) counted)

  -- the next one holds these, or isn't made yet
  pub stands_closed_to : (fs : List Frame) (rs : List Item)
      → store_of (files_of T.parts.log) ≡ 0 → HoldsLog (main_files T) b fs rs → IsNamed 0 (writer T) (number T)
      → AreIndexed (Holds (number T) (placed_of fs rs) b.files) T.parts
      → AreCounted (record { number = number T; items = placed_of fs rs; files = b.files }) T.parts
      → ((n at : ℕ) (item : Item) (key : List ℕ) → Holds (number T) (placed_of fs rs) b.files n at item → key_of item ≡ Some key → sequence_of item < next_of T)
      → ((n at m : ℕ) → Holds (number T) (placed_of fs rs) b.files n at (end m) → m ≤ T.latest)
      → LogStands T b fs rs
  stands_closed_to fs rs main log named indexed counted above mark = record {
    main = main;
    log = log;
    named = named;
    others = images;
    sound = sound;
    indexed = indexed;
    content = content_by T b fs rs log named indexed;
    counted = counted;
    above = above;
    mark = mark;
  }

  -- the next one isn't made yet
  pub stands_rotated : store_of (files_of T.parts.log) ≡ 0 → HoldsLog (main_files T) b [] [] → IsNamed 0 (writer T) (number T)
      → AreIndexed (Holds (number S) (placed_of frames records) a.files) T.parts → AreCounted (record { number = number T; items = placed_of [] []; files = b.files }) T.parts → next_of T ≡ next_of S → S.latest ≤ moment → T.latest ≡ moment
      → LogStands T b [] []
  stands_rotated main log named indexed counted next late latest =
      stands_closed_to [] [] main log named (indexed_by T rotated_records indexed) counted
      (λ n at item key counts of_key. omega (arith, before_above n at item key counts of_key, next))
      (λ n at m counts. omega (arith, before_mark late n at m counts, latest))

  -- the next one holds a record
  pub stands_behind : (one : Item) → sequence_of one < next_of T → ((m : ℕ) → end m ≡ one → ⊥)
      → store_of (files_of T.parts.log) ≡ 0 → HoldsLog (main_files T) b [] (one ∷ []) → IsNamed 0 (writer T) (number T)
      → AreIndexed (Holds (number T) (placed_of [] (one ∷ [])) b.files) T.parts
      → AreCounted (record { number = number T; items = placed_of [] (one ∷ []); files = b.files }) T.parts → next_of S ≤ next_of T → S.latest ≤ moment → T.latest ≡ moment
      → LogStands T b [] (one ∷ [])
  stands_behind one below no_end main log named indexed counted next late latest =
      stands_closed_to [] (one ∷ []) main log named indexed counted
      (above_more (number T) [] [] b.files one (next_of T) below (λ n at item key holds of_key. omega (arith, before_above n at item key holds of_key, next)))
      (λ n at m counts. omega (arith, mark_more (number T) [] [] b.files one moment no_end (before_mark late) n at m counts, latest))
