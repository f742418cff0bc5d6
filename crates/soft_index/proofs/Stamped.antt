-- What a stamp of the log is to the store: in the current file, and in the next one where that is closed first.
use Rattle.std.proofs.Common.{◌≡◌, ◌⊎◌, ⊎_elim, inl, inr, ℕ, ◌+◌, ◌≤◌, true, false, Bool, List, [], ◌∷◌, ◌++◌, Option, Some, None, Contains, is_some, refl, sym, ◌∙◌, ap, subst, arith}
use Rattle.std.specs.Prelude.{if◌then◌else◌}
use Rattle.std.proofs.lemmas.List.{append-nil}
use Rattle.cache_model.proofs.Grammar.{counts-file}
use Rattle.cache_model.specs.Files.{Image, file_in}
use Rattle.cache_model.specs.Items.{Item, end}
use Rattle.cache_model.specs.DataFiles.{Frame, CountsFrames, file_spelling, placed_frames}
use Rattle.cache_model.specs.Images.{log_name, IsCounted, key_of}
use Rattle.cache_disk.specs.State.{HostState, Moves, SameBut}
use Rattle.cache_disk.specs.Calls.{OnFile}
use Rattle.cache_disk.proofs.Runs.{weaker}
use Rattle.data_file.specs.declared.appender.Appender.{Appender}
use Rattle.data_file.specs.Appending.{CountsOneOf, sealed, written}
use Rattle.data_file.proofs.Frame.{placed_of}
use Rattle.append_log.specs.declared.log_files.LogFiles.{LogFiles}
use Rattle.append_log.specs.Current.{IsUsable as IsUsableLog, files_of, is_full, is_stamped, stamp_closes, store_of, tail_by, tail_of, current_by}
use Rattle.append_log.specs.Standing.{Closed, IsClosedIn, Stands, last_moment}
use Rattle.append_log.specs.Calls.{IsStampedBy, SameBeside, stamped_tail}
use Rattle.append_log.proofs.Holding.{next_most, sealed_reads}
use Rattle.append_log.proofs.Stamped.{counts_end, full_rests, full_there}
use Rattle.file_stats.specs.Figures.{Figures}
use Rattle.compactor.specs.Counting.{CountSame, HasReading}
use Rattle.compactor.specs.Indexing.{AreIndexed}
use Rattle.store_trait.specs.Meaning.{read_in}
use Rattle.soft_index.specs.declared.log_store.LogStore.{LogStore}
use Rattle.soft_index.specs.Counted.{AreCounted, CountsWritten}
use Rattle.soft_index.specs.Growing.{GrowsTo}
use Rattle.soft_index.specs.Store.{Holds, HoldsLog, IsFileOf, IsNamed, LogStands, SameOthers, closed_frames, content_of, main_files, next_of, number, waiting, writer}
use Rattle.soft_index.specs.Laws.{reading-same, sound_of}
use Rattle.soft_index.proofs.Changes.{SameParts, parts_indexed}
use Rattle.soft_index.proofs.Counting.{items-counted}
use Rattle.soft_index.proofs.Growing.{closed_within, grows_closed_to, grows_here, zero_same}
use Rattle.soft_index.proofs.Images.{IsAsBefore, IsNewImage, file_since, other_name, same_beside, sealed_image, whole_image}
use Rattle.soft_index.proofs.Standing.{before_mark, ended_kept, ended_only, ended_records, indexed_by, rotated_file, rotated_kept, rotated_records, stands_closed_to, stands_ended}
use Rattle.soft_index.proofs.Turning.{closed_last, named_main, to_main}
use Rattle.soft_index.proofs.Written.{counted_closed, counted_on, ended_live, ended_more}

-- images

-- Where nothing waits, each image of a frame in the next file counts what one did before, or reads as the content.
pub since_next : (S : LogStore) (a : HostState) (frames : List Frame) (records : List Item) (moment : ℕ) → LogStands S a frames records → records ≡ []
    → (d c : Image) → a.left a.turn d → OnFile (log_name (number S + 1)) (CountsOneOf [] (sealed [] [] moment)) d c → IsAsBefore a c ⊎ IsNewImage (content_of S a.files) moment c
since_next S a frames records moment stands none =
    file_since a (number S + 1) [] moment (content_of S a.files) (CountsOneOf [] (sealed [] [] moment)) (CountsFrames (sealed [] [] moment))
    (λ d left. inl (refl, absent d left))
    (λ bytes counts. counts)
    (λ d c bytes left same there counts.
    sealed_image (number S + 1) [] [] moment d c (same_beside (number S + 1) d c same) (record { bytes = bytes; there = there; file = counts }) (content_of S a.files) (reads d left)
    (λ n other apart is. sound_of S a frames records stands d left n other is))
  where
    absent : (d : Image) → a.left a.turn d → file_in d (log_name (number S + 1)) ≡ None
    absent d left = stands.log.1.absent (number S + 1) (next_most (writer S) (number S)) d left

    apart : (d : Image) → a.left a.turn d → (n at : ℕ) (item : Item) → IsCounted d n at item → n ≡ number S + 1 → ⊥
    apart d left n at item counted is =
        let no : None ≡ Some counted.bytes = sym (absent d left) ∙ ap (λ (k : ℕ). file_in d (log_name k)) (sym is) ∙ counted.there in
        cc

    only : (d : Image) (n at : ℕ) (item : Item) → Holds (number S + 1) [] d n at item → IsCounted d n at item
    only d n at item (inl here) = absurd (omega (arith, here.1.1))
    only d n at item (inr other) = other.1

    reads : (d : Image) → a.left a.turn d → (key : List ℕ) → HasReading (Holds (number S + 1) [] d) key (read_in (content_of S a.files) key)
    reads d left key =
        reading-same (IsCounted d) (Holds (number S + 1) [] d) key (read_in (content_of S a.files) key)
        (λ n at item of_key counted. inr (apart d left n at item counted, counted))
        (λ n at item of_key holds. only d n at item holds)
        (whole_image S a frames (subst (λ (l : List Item). LogStands S a frames l) none stands) d left key)

-- what is held

-- What a store holds has grown by a stamp, and the same records count.
pub record HasStamped (S T : LogStore) (a b : HostState) (frames : List Frame) (records : List Item) : Type 0 where
  pub fs : List Frame
  pub holds : LogStands T b fs []
  pub grows : GrowsTo S T a.files b.files frames fs records []
  pub same : CountSame (Holds (number S) (placed_of frames records) a.files) (Holds (number T) (placed_of fs []) b.files)

module _ (S T : LogStore) (a b : HostState) (frames : List Frame) (records : List Item) (moment : ℕ) (old : Figures)
    (stands : LogStands S a frames records)
    (late : S.latest ≤ moment) (latest : T.latest ≡ moment)
    (ready : IsUsableLog (files_of S.parts.log)) (usable : IsUsableLog (files_of T.parts.log)) (main : store_of (files_of T.parts.log) ≡ 0)
    (next : next_of T ≡ next_of S)
    (alike : SameParts S T) (rows : old.rows ≡ S.parts.stats.rows) (room : 1 ≤ old.spare)
    (counts : CountsWritten (tail_of (files_of S.parts.log)) (tail_of (files_of T.parts.log)) old T.parts.stats) where
  named : IsNamed 0 (writer T) (number T)
  named = named_main (files_of T.parts.log) main usable

  indexed : AreIndexed (Holds (number S) (placed_of frames records) a.files) T.parts
  indexed = parts_indexed S T alike (record { number = number S; items = placed_of frames records; files = a.files }) stands.indexed

  -- the frame is ended in the current file, or ended there with the moment before
  module _ (u : Bool) (none : u ≡ false → records ≡ [])
      (file : number T ≡ number S)
      (moves : Moves a b (OnFile (log_name (number S)) (CountsOneOf frames (sealed frames records moment))))
      (files : SameBut (log_name (number S)) a.files b.files)
      (there : is_some (writer T) ≡ true)
      (now : Stands (files_of T.parts.log) b (record { closed = stands.log.0; frames = closed_frames u frames records moment; records = [] })) where
    abbrev ended : List Frame
    ended = closed_frames u frames records moment

    log_here : HoldsLog (main_files T) b ended []
    log_here = (stands.log.0, to_main (files_of T.parts.log) b (record { closed = stands.log.0; frames = ended; records = [] }) main now)

    same_here : CountSame (Holds (number S) (placed_of frames records) a.files) (Holds (number T) (placed_of ended []) b.files)
    same_here = ended_records S T a b frames records (CountsOneOf frames (sealed frames records moment)) stands file moves files moment u none

    others : SameOthers (number S) a.files b.files
    others n other = files (log_name n) (other_name (number S) n other)

    counted_here : AreCounted (record { number = number T; items = placed_of ended []; files = b.files }) T.parts
    counted_here =
        counted_on S T a b frames ended records [] old stands log_here named rows alike.1 counts file files (λ some. there) (λ absent some. room)
        (ended_more u frames records moment none) (ended_live S.parts.tree (number S) u frames records moment none)

    pub stamped_here : HasStamped S T a b frames records
    stamped_here = record {
      fs = ended;
      holds = stands_ended S T a b frames records (CountsOneOf frames (sealed frames records moment)) stands file moves files moment u none main log_here named indexed counted_here next late latest;
      grows = grows_here S T a.files b.files file others frames ended records [] (zero_same S a.files b.files ready.some others) same_here.kept (closed_within u frames records moment);
      same = same_here;
    }

  -- the current file, in which nothing waits, is closed, and an empty frame is ended in the next one
  module _ (some : is_some (writer S) ≡ true) (rests : waiting S ≡ false) (none : records ≡ [])
      (file : number T ≡ number S + 1)
      (moves : Moves a b (OnFile (log_name (number S + 1)) (CountsOneOf [] (sealed [] [] moment))))
      (files : SameBut (log_name (number S + 1)) a.files b.files)
      (now : Stands (files_of T.parts.log) b (record { closed = stands.log.0 ++ (record { number = number S; frames = frames }) ∷ []; frames = sealed [] [] moment; records = [] })) where
    abbrev empty : List Frame
    empty = sealed [] [] moment

    abbrev one : Closed
    one = record { number = number S; frames = frames }

    abbrev log_next : HoldsLog (main_files T) b empty []
    log_next = (stands.log.0 ++ one ∷ [], to_main (files_of T.parts.log) b (record { closed = stands.log.0 ++ one ∷ []; frames = empty; records = [] }) main now)

    as_closed : closed_frames (waiting S) frames records moment ≡ frames
    as_closed = ap (λ (u : Bool). closed_frames u frames records moment) rests

    reads : file_in b.files (log_name (number S)) ≡ Some (written (closed_frames (waiting S) frames records moment) [])
    reads =
        files (log_name (number S)) (other_name (number S + 1) (number S) (λ is. omega (arith, is)))
        ∙ sealed_reads 0 (writer S) (number S) a frames stands.named some (subst (λ (l : List Item). IsFileOf 0 (writer S) (number S) a frames l) none stands.log.1.current)
        ∙ ap (λ (l : List Frame). Some (written l [])) (sym as_closed)

    closed : IsClosedIn 0 b (record { number = number S; frames = closed_frames (waiting S) frames records moment })
    closed = subst (λ (l : List Frame). IsClosedIn 0 b (record { number = number S; frames = l })) (sym as_closed) (closed_last 0 b stands.log.0 one log_next.1.closed)

    beside_all : Moves a b (SameBeside (main_files S) true)
    beside_all =
        weaker a b (OnFile (log_name (number S + 1)) (CountsOneOf [] (sealed [] [] moment))) (SameBeside (main_files S) true) moves
        (λ d c left step name apart behind. step.others name (behind refl))

    beside : SameBeside (main_files S) true a.files b.files
    beside name apart behind = files name (behind refl)

    back : CountSame (Holds (number S) (placed_of frames records) a.files) (Holds (number T) (placed_of [] []) b.files)
    back = rotated_records S T a b frames records moment stands file beside_all beside reads closed

    ends_only : (n at : ℕ) (item : Item) → Holds (number T) (placed_of empty []) b.files n at item → Holds (number T) (placed_of [] []) b.files n at item ⊎ (item ≡ end moment)
    ends_only = ended_only (number T) [] [] moment b.files true (λ no. refl)

    same_next : CountSame (Holds (number S) (placed_of frames records) a.files) (Holds (number T) (placed_of empty []) b.files)
    same_next = record {
      kept = λ n at item key holds of_key. ended_kept (number T) [] [] moment b.files true (λ no. refl) n at item (back.kept n at item key holds of_key);
      only = λ n at item key holds of_key.
          ⊎_elim (λ was. back.only n at item key was of_key) (λ is. let no : None ≡ Some key = ap key_of (sym is) ∙ of_key in cc) (ends_only n at item holds);
    }

    counted_next : AreCounted (record { number = number T; items = placed_of empty []; files = b.files }) T.parts
    counted_next =
        counted_closed S T a b frames empty records [] old stands log_next named rows alike.1 counts moment file beside reads closed ready some (λ there. room)
        (ended_live S.parts.tree (number T) true [] [] moment (λ no. refl))

    mark_next : (n at m : ℕ) → Holds (number T) (placed_of empty []) b.files n at (end m) → m ≤ T.latest
    mark_next n at m holds =
        ⊎_elim
        (λ was. let before = before_mark S T a b frames records moment stands file beside_all beside reads closed late n at m was in omega (arith, before, latest))
        (λ is. let one : m ≡ moment = cc in omega (arith, one, latest))
        (ends_only n at (end m) holds)

    pub stamped_next : HasStamped S T a b frames records
    stamped_next = record {
      fs = empty;
      holds = stands_closed_to S T a b frames records moment stands file beside_all beside reads closed empty [] main log_next named (indexed_by T same_next indexed) counted_next
          (λ n at item key holds of_key. let was = stands.above n at item key (same_next.only n at item key holds of_key) of_key in omega (arith, was, next)) mark_next;
      grows = grows_closed_to S T a b frames empty records [] stands ready.some file (rotated_file S T a b frames records moment stands file beside_all beside reads closed) (rotated_kept S T a b frames records moment stands file beside_all beside reads closed);
      same = same_next;
    }

-- which of them it is

-- the current file is closed only where it is there and nothing in it waits
full_of : (idle full : Bool) → (if idle then false else full) ≡ true → full ≡ true
full_of true full is = cc
full_of false full is = is

pub closes_some : (F : LogFiles) (moment : ℕ) → stamp_closes F moment ≡ true → (is_some F.log ≡ true) × (F.unsealed ≡ false)
closes_some F moment is =
    let full = full_of (is_stamped F moment) (is_full F.log F.unsealed F.file_size) is in
    (full_there F.log F.unsealed F.file_size full, full_rests F.log F.unsealed F.file_size full)

-- there is a current file after a stamp
pub stamped_current : (tail : Option (ℕ × ℕ × Bool)) (idle over : Bool) (n : ℕ) → (k : ℕ) × (current_by (stamped_tail idle over n tail) ≡ Some k)
stamped_current None idle over n = (n, refl)
stamped_current (Some tail) true over n = (tail.0, refl)
stamped_current (Some tail) false true n = (n + 1, refl)
stamped_current (Some tail) false false n = (tail.0, refl)

writer_there : (log : Option Appender) (n k : ℕ) (u : Bool) (tail : Option (ℕ × ℕ × Bool)) → tail_by log n u ≡ tail → current_by tail ≡ Some k → is_some log ≡ true
writer_there None n k u tail is current = let no : None ≡ Some k = ap current_by is ∙ current in cc
writer_there (Some log) n k u tail is current = refl

pub stamped_there : (idle over : Bool) (moment : ℕ) (S T : LogStore) → IsStampedBy idle over moment (files_of S.parts.log) (files_of T.parts.log) → is_some (writer T) ≡ true
stamped_there idle over moment S T is =
    let now = stamped_current (tail_of (files_of S.parts.log)) idle over (number S) in
    writer_there (writer T) (number T) now.0 (waiting T) (stamped_tail idle over (number S) (tail_of (files_of S.parts.log))) is.tail now.1

-- the end of the last frame is among those of the current file
pub end_in : (log : Option Appender) (n : ℕ) (b : HostState) (fs : List Frame) (moment : ℕ) → is_some log ≡ true → IsFileOf 0 log n b fs [] → last_moment fs ≡ Some moment → (at : ℕ) × Contains (placed_of fs []) (at, end moment)
end_in None n b fs moment there is last = cc
end_in (Some log) n b fs moment there is last =
    let counts = counts-file fs is.in_grammar in
    let found = counts_end fs moment (file_spelling fs) last counts in
    (found.0, subst (λ (l : List (ℕ × Item)). Contains l (found.0, end moment)) (items-counted fs (file_spelling fs) counts ∙ sym (append-nil (placed_frames 2 fs))) found.1)
