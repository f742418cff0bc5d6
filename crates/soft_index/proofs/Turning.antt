-- What the log's own calls are to the store: a seal, a rotation and a put.
use Rattle.std.proofs.Common.{◌≡◌, ◌⊎◌, inl, inr, ℕ, ◌+◌, ◌≤◌, true, false, Bool, List, [], ◌∷◌, ◌++◌, Option, Some, None, IsSome, is_some, refl, sym, ◌∙◌, ap, subst, arith}
use Rattle.std.specs.Prelude.{Result, Ok, IsErrOf, length}
use Rattle.cache_model.specs.declared.faults.StoreFault.{StoreFault}
use Rattle.cache_model.specs.declared.faults.StoreFault.TheVariants as fault
use Rattle.cache_model.specs.declared.faults.Spent.{Spent}
use Rattle.cache_model.specs.declared.faults.Damage.{Damage}
use Rattle.cache_model.specs.declared.replies.Turned.{Turned}
use Rattle.cache_model.specs.declared.replies.Turned.TheVariants.{Done, Idle}
use Rattle.cache_model.specs.declared.commands.StepKind.TheVariants.{Rotate}
use Rattle.cache_model.specs.Files.{Image, file_in, is_name}
use Rattle.cache_model.specs.Items.{Item}
use Rattle.cache_model.specs.DataFiles.{Frame, CountsFrames}
use Rattle.cache_model.specs.Images.{log_name}
use Rattle.cache_disk.specs.State.{HostState}
use Rattle.cache_disk.specs.Calls.{OnFile}
use Rattle.data_file.specs.declared.appender.Appender.{Appender}
use Rattle.data_file.specs.Appending.{sealed, CountsOneOf}
use Rattle.data_file.proofs.Frame.{placed_of}
use Rattle.temporary_table.specs.Queue.{Queue}
use Rattle.append_log.specs.declared.log_files.LogFiles.{LogFiles}
use Rattle.append_log.specs.Current.{IsUsable as IsUsableLog, current_by, file_behind, file_of, files_of, number_of, writer_of, tail_by, tail_of, store_of}
use Rattle.append_log.specs.Standing.{Closed, Held, Stands, IsClosedIn, AreClosedIn, turned_held}
use Rattle.append_log.specs.Calls.{CountsIf, IsTurned, Seals, TakesNone, sealed_tail}
use Rattle.append_log.proofs.Steps.{counts_now as log_counts, is_named, on_closed}
use Rattle.append_log.proofs.Holding.{next_most, some_next}
use Rattle.store_trait.specs.Meaning.{Content, Reading, StoreFacts, StoreState}
use Rattle.store_trait.specs.Keeping.{IsKept, Leaves, SameContent, SameStore}
use Rattle.store_trait.specs.Calls.{Acts, Plainly, Stepped}
use Rattle.store_trait.proofs.Runs.{keeps_then, leaves_then, opens_then, store_trans}
use Rattle.cache_disk.proofs.Runs.{Silent-trans}
use Rattle.cache_model.specs.declared.files.FileName.{FileName}
use Rattle.file_stats.specs.Figures.{Figures}
use Rattle.soft_index.specs.declared.log_store.LogStore.{LogStore}
use Rattle.soft_index.specs.Counted.{CountsWritten}
use Rattle.compactor.specs.Counting.{CountSame}
use Rattle.soft_index.specs.Store.{Holds, HoldsLog, IsNamed, LogStands, Rotates, SameOthers, closed_frames, content_of, current_of, is_spent, log_facts, log_means, main_files, next_file, number, row_of, waiting, writer}
use Rattle.soft_index.proofs.Images.{IsAsBefore, IsNewImage, call_acts, leaves_others, other_name, same_beside, sealed_image, step_since}
use Rattle.soft_index.proofs.Changes.{SameParts, parts_indexed}
use Rattle.soft_index.specs.Growing.{HasGrown}
use Rattle.soft_index.proofs.Growing.{grows_closed, grows_here, zero_same}
use Rattle.soft_index.proofs.Standing.{beside_moves, content_same, rotated_file, rotated_kept, rotated_records, same_records, stands_same, stands_rotated}
use Rattle.soft_index.proofs.Written.{counted_closed, counted_on}

-- the main store's log

pub to_main : (F : LogFiles) (a : HostState) (held : Held) → F.store ≡ 0 → Stands F a held → Stands (record F { store = 0 }) a held
to_main F a held main stands = subst (λ (s : ℕ). Stands (record F { store = s }) a held) main stands

pub from_main : (F : LogFiles) (a : HostState) (held : Held) → F.store ≡ 0 → Stands (record F { store = 0 }) a held → Stands F a held
from_main F a held main stands = subst (λ (s : ℕ). Stands (record F { store = s }) a held) (sym main) stands

pub seals_main : {R : Type 0} (F G : LogFiles) (a b : HostState) (moment : ℕ) (held : Held) (after : R → Held) (result : Result R StoreFault) → F.store ≡ 0 → Seals moment held after F G a b result → Seals moment held after (record F { store = 0 }) G a b result
seals_main F G a b moment held after result main told = subst (λ (s : ℕ). Seals moment held after (record F { store = s }) G a b result) main told

pub named_main : (G : LogFiles) → G.store ≡ 0 → IsUsableLog G → IsNamed 0 G.log G.file
named_main G main usable = subst (λ (s : ℕ). IsNamed s G.log G.file) main (is_named G.store G.log G.file G.unsealed usable.log)

-- images

pub closed_cases : (u : Bool) (frames : List Frame) (records : List Item) (moment : ℕ) (bytes : List ℕ) → CountsOneOf frames (closed_frames u frames records moment) bytes → CountsFrames frames bytes ⊎ CountsFrames (sealed frames records moment) bytes
closed_cases true frames records moment bytes counts = counts
closed_cases false frames records moment bytes (inl counts) = inl counts
closed_cases false frames records moment bytes (inr counts) = inl counts

-- an image that counts the frame as it stands
pub seal_image : (S : LogStore) (a : HostState) (frames : List Frame) (records : List Item) (moment : ℕ) → LogStands S a frames records
    → (image : Image) (bytes : List ℕ) → SameOthers (number S) a.files image → file_in image (log_name (number S)) ≡ Some bytes → CountsFrames (sealed frames records moment) bytes
    → IsNewImage (content_of S a.files) moment image
seal_image S a frames records moment stands image bytes same there counts =
    sealed_image (number S) frames records moment a.files image (same_beside (number S) a.files image same) (record { bytes = bytes; there = there; file = counts }) (content_of S a.files) stands.content stands.sound

-- each image of a seal counts what one did before, or reads as the content
pub since_seal : (S : LogStore) (a : HostState) (frames : List Frame) (records : List Item) (moment : ℕ) → LogStands S a frames records
    → (d c : Image) → a.left a.turn d → OnFile (log_name (number S)) (CountsOneOf frames (closed_frames (waiting S) frames records moment)) d c → IsAsBefore a c ⊎ IsNewImage (content_of S a.files) moment c
since_seal S a frames records moment stands =
    step_since S a frames records moment (content_of S a.files) (CountsOneOf frames (closed_frames (waiting S) frames records moment)) (CountsFrames (sealed frames records moment)) stands
    (closed_cases (waiting S) frames records moment) (seal_image S a frames records moment stands)

-- a call that seals
pub sealing_acts : {R : Type 0} (S T : LogStore) (a b : HostState) (frames : List Frame) (records : List Item) (moment : ℕ) (closed : List Closed) (after : R → Held) (G : LogFiles) (result : Result R StoreFault)
    → LogStands S a frames records
    → S.parts.spoilt ≡ false → S.latest ≤ moment → T.latest ≡ moment
    → Seals moment (record { closed = closed; frames = frames; records = records }) after (main_files S) G a b result
    → (T.parts.spoilt ≡ false → SameContent (content_of S a.files) (content_of T b.files))
    → (T.parts.spoilt ≡ false → (fs : List Frame) × (rs : List Item) × LogStands T b fs rs)
    → ((d : Damage) → IsErrOf result (fault.Damaged d) → ⊥)
    → ((s : Spent) → IsErrOf result (fault.Spent s) → ⊥)
    → (IsErrOf result fault.Memory → T.parts.spoilt ≡ false → (log_facts T).parts ≡ (log_facts S).parts)
    → Acts (log_facts S) (log_facts T) (log_means S a) (log_means T b) a b moment (content_of S a.files) result
sealing_acts S T a b frames records moment closed after G result stands sound late latest told content standing damaged spent parts =
    call_acts S T a b frames records moment (content_of S a.files) (OnFile (log_name (number S)) (CountsOneOf frames (closed_frames (waiting S) frames records moment)))
    stands told.images (since_seal S a frames records moment stands) sound late latest (λ unspoilt. inl (content unspoilt))
    result (leaves_others (number S) a b (CountsOneOf frames (closed_frames (waiting S) frames records moment)) told.files told.images) told.silent standing damaged (λ s err. absurd (spent s err))
    (λ err unspoilt. (content unspoilt, inl (parts err unspoilt)))

-- parts

pub current_tail : (log : Option Appender) (file : ℕ) (unsealed : Bool) → current_of log file ≡ current_by (tail_by log file unsealed)
current_tail None file unsealed = refl
current_tail (Some log) file unsealed = refl

pub sealed_current : (tail : Option (ℕ × ℕ × Bool)) → current_by (sealed_tail tail) ≡ current_by tail
sealed_current None = refl
sealed_current (Some tail) = refl

pub parts_of : (S : LogStore) → (log_facts S).parts ≡ row_of (length S.parts.requests.waiting) (current_by (tail_of (files_of S.parts.log)))
parts_of S = ap (λ (c : Option ℕ). row_of (length S.parts.requests.waiting) c) (current_tail (writer S) (number S) (waiting S))

-- as many requests wait as before
pub row_waits : (S T : LogStore) (current : Option ℕ) → T.parts.requests ≡ S.parts.requests → row_of (length T.parts.requests.waiting) current ≡ row_of (length S.parts.requests.waiting) current
row_waits S T current same = ap (λ (q : Queue). row_of (length q.waiting) current) same

pub sealed_parts : (S T : LogStore) → T.parts.requests ≡ S.parts.requests → tail_of (files_of T.parts.log) ≡ sealed_tail (tail_of (files_of S.parts.log)) → (log_facts T).parts ≡ (log_facts S).parts
sealed_parts S T same tail =
    parts_of T
    ∙ ap (λ (c : Option ℕ). row_of (length T.parts.requests.waiting) c) (ap current_by tail ∙ sealed_current (tail_of (files_of S.parts.log)))
    ∙ row_waits S T (current_by (tail_of (files_of S.parts.log))) same
    ∙ sym (parts_of S)

-- a rotation

some_current : (log : Option Appender) (file : ℕ) (unsealed : Bool) → IsSome (tail_by log file unsealed) → (is_some log ≡ true) × (current_by (tail_by log file unsealed) ≡ Some file)
some_current None file unsealed there = cc
some_current (Some log) file unsealed there = (refl, refl)

none_next : (log : Option Appender) (file : ℕ) (unsealed : Bool) → tail_by log file unsealed ≡ None → next_file log file ≡ file
none_next None file unsealed is = refl
none_next (Some log) file unsealed is = cc

-- where there is no current file no room is wanted
no_writer : (log : Option Appender) (file : ℕ) (unsealed : Bool) (figures : Figures) → tail_by log file unsealed ≡ None → is_some log ≡ true → 1 ≤ figures.spare
no_writer None file unsealed figures is some = let no : false ≡ true = some in cc
no_writer (Some log) file unsealed figures is some = cc

pub closed_last : (store : ℕ) (b : HostState) (files : List Closed) (one : Closed) → AreClosedIn store b (files ++ one ∷ []) → IsClosedIn store b one
closed_last store b [] one all = all.0
closed_last store b (file ∷ files) one all = closed_last store b files one all.1

pub turned_rows : (turned : Turned) (moment : ℕ) (S T : LogStore) → T.parts.requests ≡ S.parts.requests → IsTurned moment turned (files_of S.parts.log) (files_of T.parts.log) → Rotates turned (log_facts S).parts (log_facts T).parts
turned_rows Idle moment S T same is = (
  length S.parts.requests.waiting,
  parts_of S ∙ ap (λ (c : Option ℕ). row_of (length S.parts.requests.waiting) c) (ap current_by is.0),
  ap (λ (f : LogFiles). row_of (length T.parts.requests.waiting) (current_of (writer_of f) (number_of f))) is.1 ∙ row_waits S T (current_of (writer S) (number S)) same,
)
turned_rows Done moment S T same is = (
  length S.parts.requests.waiting,
  number S,
  parts_of S ∙ ap (λ (c : Option ℕ). row_of (length S.parts.requests.waiting) c) (some_current (writer S) (number S) (waiting S) is.0).1,
  parts_of T ∙ ap (λ (c : Option ℕ). row_of (length T.parts.requests.waiting) c) (ap current_by is.1) ∙ row_waits S T None same,
)

-- What a store holds after a rotation has grown from what it held, and the same records count.
record HasTurned (S T : LogStore) (a b : HostState) (frames : List Frame) (records : List Item) : Type 0 where
  grown : HasGrown S T a.files b frames records
  same : CountSame (Holds (number S) (placed_of frames records) a.files) (Holds (number T) (placed_of grown.fs grown.rs) b.files)

turned_holds : (turned : Turned) (S T : LogStore) (a b : HostState) (frames : List Frame) (records : List Item) (moment : ℕ)
    → (stands : LogStands S a frames records)
    → S.latest ≤ moment → T.latest ≡ moment
    → IsUsableLog (files_of S.parts.log) → IsUsableLog (files_of T.parts.log) → store_of (files_of T.parts.log) ≡ 0
    → TakesNone (files_of S.parts.log) (files_of T.parts.log)
    → IsTurned moment turned (files_of S.parts.log) (files_of T.parts.log)
    → Seals moment (record { closed = stands.log.0; frames = frames; records = records }) (λ t. turned_held t (waiting S) (number S) moment (record { closed = stands.log.0; frames = frames; records = records })) (main_files S) (files_of T.parts.log) a b (Ok turned)
    → SameParts S T
    → CountsWritten (tail_of (files_of S.parts.log)) (tail_of (files_of T.parts.log)) S.parts.stats T.parts.stats
    → HasTurned S T a b frames records
turned_holds Idle S T a b frames records moment stands late latest ready usable main takes is told same counts =
    let held : Held = record { closed = stands.log.0; frames = frames; records = records } in
    let log : HoldsLog (main_files T) b frames records = (stands.log.0, to_main (files_of T.parts.log) b held main told.stands) in
    let named = named_main (files_of T.parts.log) main usable in
    let writers : writer T ≡ writer S = ap writer_of is.1 in
    let P = CountsOneOf frames (closed_frames (waiting S) frames records moment) in
    let file : number T ≡ number S = ap number_of is.1 in
    let others : SameOthers (number S) a.files b.files = (λ n other. told.files (log_name n) (other_name (number S) n other)) in
    let count = same_records S T a b frames records P stands file told.images told.files in
    record {
      grown = record {
        fs = frames;
        rs = records;
        holds = stands_same S T a b frames records P stands file told.images told.files main
            log named
            (parts_indexed S T same (record { number = number S; items = placed_of frames records; files = a.files }) stands.indexed)
            (counted_on S T a b frames frames records records S.parts.stats stands log named refl same.1 counts file told.files
            (λ some. ap (λ (l : Option Appender). is_some l) writers ∙ some) (λ none some. let no : false ≡ true = sym none ∙ sym (ap (λ (l : Option Appender). is_some l) writers) ∙ some in cc) (omega arith) refl)
            takes.0 (omega (arith, late, latest));
        grows = grows_here S T a.files b.files file others frames frames records records (zero_same S a.files b.files ready.some others) count.kept (λ at item within. within);
      };
      same = count;
    }
turned_holds Done S T a b frames records moment stands late latest ready usable main takes is told same counts =
    let held : Held = record { closed = stands.log.0; frames = frames; records = records } in
    let more = closed_frames (waiting S) frames records moment in
    let one : Closed = record { number = number S; frames = more } in
    let some = some_current (writer S) (number S) (waiting S) is.0 in
    let file : number T ≡ number S + 1 = sym (none_next (writer T) (number T) (waiting T) is.1) ∙ takes.1 ∙ some_next (writer S) (number S) some.0 in
    let last = subst (λ (s : ℕ). IsClosedIn s b one) main (closed_last (store_of (files_of T.parts.log)) b stands.log.0 one told.stands.closed) in
    let moves = on_closed (main_files S) a frames more (stands.log.1.absent (number S + 1) (next_most (writer S) (number S))) (log_counts 0 (writer S) (number S) a frames records stands.named stands.log.1.current) b told.images in
    let only = beside_moves (main_files S) a b true (CountsIf true frames more) moves in
    let beside = λ (name : FileName) (apart : is_name (file_of (main_files S)) name ≡ false) (behind : true ≡ true → is_name (file_behind (main_files S)) name ≡ false). told.files name apart in
    let log : HoldsLog (main_files T) b [] [] = (stands.log.0 ++ one ∷ [], to_main (files_of T.parts.log) b (turned_held Done (waiting S) (number S) moment held) main told.stands) in
    let named = named_main (files_of T.parts.log) main usable in
    let reads = told.reads some.0 in
    record {
      grown = record {
        fs = [];
        rs = [];
        holds = stands_rotated S T a b frames records moment stands file only beside reads last main
            log named
            (parts_indexed S T same (record { number = number S; items = placed_of frames records; files = a.files }) stands.indexed)
            (counted_closed S T a b frames [] records [] S.parts.stats stands log named refl same.1 counts moment file beside reads last ready some.0 (no_writer (writer T) (number T) (waiting T) S.parts.stats is.1) refl)
            takes.0 late latest;
        grows = grows_closed S T a b frames records [] stands ready.some file (rotated_file S T a b frames records moment stands file only beside reads last) (rotated_kept S T a b frames records moment stands file only beside reads last);
      };
      same = rotated_records S T a b frames records moment stands file only beside reads last;
    }

pub turned_grows : (turned : Turned) (S T : LogStore) (a b : HostState) (frames : List Frame) (records : List Item) (moment : ℕ)
    → (stands : LogStands S a frames records)
    → S.latest ≤ moment → T.latest ≡ moment
    → IsUsableLog (files_of S.parts.log) → IsUsableLog (files_of T.parts.log) → store_of (files_of T.parts.log) ≡ 0
    → TakesNone (files_of S.parts.log) (files_of T.parts.log)
    → IsTurned moment turned (files_of S.parts.log) (files_of T.parts.log)
    → Seals moment (record { closed = stands.log.0; frames = frames; records = records }) (λ t. turned_held t (waiting S) (number S) moment (record { closed = stands.log.0; frames = frames; records = records })) (main_files S) (files_of T.parts.log) a b (Ok turned)
    → SameParts S T
    → CountsWritten (tail_of (files_of S.parts.log)) (tail_of (files_of T.parts.log)) S.parts.stats T.parts.stats
    → HasGrown S T a.files b frames records
turned_grows turned S T a b frames records moment stands late latest ready usable main takes is told same counts =
    (turned_holds turned S T a b frames records moment stands late latest ready usable main takes is told same counts).grown

pub turned_content : (turned : Turned) (S T : LogStore) (a b : HostState) (frames : List Frame) (records : List Item) (moment : ℕ)
    → (stands : LogStands S a frames records)
    → S.latest ≤ moment → T.latest ≡ moment
    → IsUsableLog (files_of S.parts.log) → IsUsableLog (files_of T.parts.log) → store_of (files_of T.parts.log) ≡ 0
    → TakesNone (files_of S.parts.log) (files_of T.parts.log)
    → IsTurned moment turned (files_of S.parts.log) (files_of T.parts.log)
    → Seals moment (record { closed = stands.log.0; frames = frames; records = records }) (λ t. turned_held t (waiting S) (number S) moment (record { closed = stands.log.0; frames = frames; records = records })) (main_files S) (files_of T.parts.log) a b (Ok turned)
    → SameParts S T
    → CountsWritten (tail_of (files_of S.parts.log)) (tail_of (files_of T.parts.log)) S.parts.stats T.parts.stats
    → SameContent (content_of S a.files) (content_of T b.files)
turned_content turned S T a b frames records moment stands late latest ready usable main takes is told same counts =
    let now = turned_holds turned S T a b frames records moment stands late latest ready usable main takes is told same counts in
    content_same S T a b frames now.grown.fs records now.grown.rs stands now.grown.holds now.same

pub turned_told : (turned : Turned) (S T : LogStore) (a b : HostState) (frames : List Frame) (records : List Item) (moment : ℕ)
    → (stands : LogStands S a frames records)
    → S.parts.spoilt ≡ false → S.latest ≤ moment → T.latest ≡ moment
    → IsUsableLog (files_of S.parts.log) → IsUsableLog (files_of T.parts.log) → store_of (files_of T.parts.log) ≡ 0
    → TakesNone (files_of S.parts.log) (files_of T.parts.log)
    → IsTurned moment turned (files_of S.parts.log) (files_of T.parts.log)
    → Seals moment (record { closed = stands.log.0; frames = frames; records = records }) (λ t. turned_held t (waiting S) (number S) moment (record { closed = stands.log.0; frames = frames; records = records })) (main_files S) (files_of T.parts.log) a b (Ok turned)
    → SameParts S T
    → CountsWritten (tail_of (files_of S.parts.log)) (tail_of (files_of T.parts.log)) S.parts.stats T.parts.stats
    → Stepped Rotate (log_facts S) (log_facts T) (log_means S a) (log_means T b) a b moment (Ok turned)
turned_told turned S T a b frames records moment stands sound late latest ready usable main takes is told same counts =
    let held : Held = record { closed = stands.log.0; frames = frames; records = records } in
    let now = turned_holds turned S T a b frames records moment stands late latest ready usable main takes is told same counts in
    let content = turned_content turned S T a b frames records moment stands late latest ready usable main takes is told same counts in
    record {
      acts = sealing_acts S T a b frames records moment stands.log.0 (λ (t : Turned). turned_held t (waiting S) (number S) moment held) (files_of T.parts.log) (Ok turned) stands sound late latest told (λ unspoilt. content)
          (λ unspoilt. (now.grown.fs, now.grown.rs, now.grown.holds))
          (λ d err. cc) (λ s err. cc) (λ err. cc);
      content = λ key. inl (content key);
      marks = λ key r m may. inl (content key);
      parts = turned_rows turned moment S T same.2 is;
    }

-- the same call, where the store is spoilt after it
pub acts_spoilt : {R : Type 0} (S N T : LogStore) (a b : HostState) (moment : ℕ) (wanted : Content) (result : Result R StoreFault)
    → T.parts.spoilt ≡ true
    → ((s : Spent) → is_spent N s → is_spent T s)
    → Acts (log_facts S) (log_facts N) (log_means S a) (log_means N b) a b moment wanted result
    → Acts (log_facts S) (log_facts T) (log_means S a) (log_means T b) a b moment wanted result
acts_spoilt S N T a b moment wanted result spoilt spent acts = record {
  stands = λ sound. let no : true ≡ false = sym spoilt ∙ sound in cc;
  others = acts.others;
  silent = acts.silent;
  keeps = record {
    past = λ t key r m before may. acts.keeps.past t key r m before (back t key r m may);
    since = λ t key r m after until may. acts.keeps.since t key r m after until (back t key r m may);
    past_whole = λ t c m before may. acts.keeps.past_whole t c m before (back_whole t c m may);
    since_whole = λ ordered t c m after until may. acts.keeps.since_whole ordered t c m after until (back_whole t c m may);
  };
  opens = record { past = acts.opens.past; since = acts.opens.since };
  sound = λ is. is;
  undamaged = acts.undamaged;
  spent = λ s err. spent s (acts.spent s err);
  refused = λ err sound. let no : true ≡ false = sym spoilt ∙ sound in cc;
  room = λ err sound. let no : true ≡ false = sym spoilt ∙ sound in cc;
}
  where
    back : (t : ℕ) (key : List ℕ) (r : Reading) (m : ℕ) → (log_means T b).may t key r m → (log_means N b).may t key r m
    back t key r m (inl pair) = inl pair
    back t key r m (inr here) = let no : true ≡ false = sym spoilt ∙ here.0 in cc

    back_whole : (t : ℕ) (c : Content) (m : ℕ) → (log_means T b).whole t c m → (log_means N b).whole t c m
    back_whole t c m (inl pair) = inl pair
    back_whole t c m (inr here) = let no : true ≡ false = sym spoilt ∙ here.0 in cc

-- two calls, one after the other
pub acts_both : {T U : Type 0} (f g h : StoreFacts) (s t u : StoreState) (a b c : HostState) (moment : ℕ) (w v : Content) (one : Result T StoreFault) (two : Result U StoreFault)
    → SameStore f g
    → Acts f g s t a b moment w one
    → Acts g h t u b c moment v two
    → IsKept f moment w v
    → (IsErrOf two fault.Memory → h.spoilt ≡ false → IsKept f moment s.content u.content)
    → (IsErrOf two fault.Memory → h.spoilt ≡ false → f.room f.parts h.parts)
    → Acts f h s u a c moment w two
acts_both f g h s t u a b c moment w v one two same first second wanted refused room = record {
  stands = second.stands;
  others = leaves_then f.owns false a b c first.others (subst (λ (owns : FileName → Bool). Leaves owns false b c) same.owns second.others);
  silent = Silent-trans a b c first.others.images.later second.others.images.later first.silent second.silent;
  keeps = keeps_then f g a.turn b.turn c.turn moment s t u w v same first.others.images.later first.keeps second.keeps wanted;
  opens = opens_then a.turn b.turn c.turn s t u first.others.images.later first.sound first.opens second.opens;
  sound = λ is. second.sound (first.sound is);
  undamaged = λ is. second.undamaged (first.sound is);
  spent = second.spent;
  refused = refused;
  room = room;
}

-- what two calls say whatever the host tells, one after the other, is what the second one says
pub plainly_then : {T U : Type 0} (f g h : StoreFacts) (moment : ℕ) (one : Result T StoreFault) (two : Result U StoreFault) → Plainly f g moment one → Plainly g h moment two → Plainly f h moment two
plainly_then f g h moment one two first second = record {
  same = store_trans f g h first.same second.same;
  usable = second.usable;
  unspoilt = second.unspoilt;
  spoilt = second.spoilt;
  late = second.late;
  sequence = second.sequence;
  files = second.files;
}
