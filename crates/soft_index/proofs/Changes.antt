-- What calls leave of a store, and how its numbers and parts go on.
use Rattle.std.proofs.Common.{◌≡◌, inl, inr, ℕ, ◌+◌, ◌-◌, ◌^◌, ◌≤◌, ◌<◌, false, Bool, List, [], Contains, Option, Some, None, IsSome, All, zero, suc, refl, sym, ◌∙◌, ap, subst, arith}
use Rattle.std.specs.Prelude.{◌↔◌, length, Result, IsErrOf}
use Rattle.std.specs.List.Sorted.{IsStrictlyIncreasing}
use Rattle.cache_model.specs.declared.files.FileCount.{FileCount}
use Rattle.cache_model.specs.declared.faults.StoreFault.{StoreFault}
use Rattle.cache_model.specs.declared.faults.StoreFault.TheVariants as fault
use Rattle.cache_model.specs.declared.faults.Spent.{Spent}
use Rattle.cache_model.specs.declared.faults.Damage.{Damage}
use Rattle.cache_model.specs.declared.commands.StepKind.{StepKind}
use Rattle.cache_model.specs.declared.commands.StepKind.TheVariants.{Index, Flush, Compact, Evict, Reap, Rotate}
use Rattle.cache_model.specs.declared.replies.Turned.TheVariants.{Idle}
use Rattle.cache_model.specs.Files.{Image, bytes_in, file_in}
use Rattle.cache_model.specs.Items.{Item}
use Rattle.cache_model.specs.DataFiles.{Frame, CountsFrames}
use Rattle.cache_model.specs.Images.{log_name}
use Rattle.cache_disk.specs.State.{HostState, Moves, SameBut}
use Rattle.cache_disk.specs.State as disk
use Rattle.cache_disk.specs.Calls.{OnFile}
use Rattle.cache_disk.proofs.Runs.{Stands-moves, Stands-silent, SameBut-files}
use Rattle.data_file.specs.declared.appender.Appender.{Appender}
use Rattle.append_log.specs.declared.log_files.LogFiles.{LogFiles}
use Rattle.append_log.specs.Current.{files_of, is_spoilt_log, store_of, next_file_of, number_of, next_seq_of, tail_by, writer_of}
use Rattle.append_log.specs.Fetching.{with_spoilt}
use Rattle.append_log.proofs.Holding.{holds_still}
use Rattle.temporary_table.specs.declared.requests.Request.{Request}
use Rattle.temporary_table.specs.Places.{Places}
use Rattle.temporary_table.specs.Queue.{Queue}
use Rattle.tree_index.specs.Index.{Index as Tree}
use Rattle.file_stats.specs.Figures.{numbers_of}
use Rattle.compactor.specs.declared.parts.Parts.{Parts}
use Rattle.compactor.specs.Counting.{Kept, counts_in}
use Rattle.compactor.specs.Figuring.{IsFigured}
use Rattle.compactor.specs.Indexing.{AreIndexed, IsIndexed}
use Rattle.compactor.specs.Rows.{rows_of}
use Rattle.compactor.proofs.Rows.{rows_same}
use Rattle.data_file.proofs.Frame.{placed_of}
use Rattle.store_trait.specs.Meaning.{Content, Row, read_in}
use Rattle.store_trait.specs.Keeping.{Keeps, Leaves, SameContent}
use Rattle.store_trait.specs.Calls.{Acts, IsNumbered, DrawsNone}
use Rattle.soft_index.specs.declared.log_store.LogStore.{LogStore}
use Rattle.soft_index.specs.Counted.{AreCounted}
use Rattle.soft_index.specs.Laws.{counted_files}
use Rattle.soft_index.specs.Store.{HoldsLog, IsNamed, LogStands, StepsBy, content_of, current_of, is_spent, log_facts, log_means, main_files, next_file, next_of, number, owns_file, row_of, waiting, writer}
use Rattle.soft_index.proofs.Images.{call_acts, call_keeps}
use Rattle.soft_index.proofs.Standing.{stands_same}

-- A store goes on as it was between two moments, its latest moment and what waits for its index aside.
pub record IsAsWas (S T : LogStore) (before after : Image) : Type 0 where
  pub files : files_of T.parts.log ≡ files_of S.parts.log
  pub indexed : (kept : Kept) → AreIndexed (counts_in kept) S.parts → AreIndexed (counts_in kept) T.parts
  pub content : SameContent (content_of S before) (content_of T after)
  pub counted : (kept : Kept) → AreCounted kept S.parts → AreCounted kept T.parts

-- the parts are the same
abbrev pub SameParts : LogStore → LogStore → Type 0
SameParts S T = (T.parts.table ≡ S.parts.table) × (T.parts.tree ≡ S.parts.tree) × (T.parts.requests ≡ S.parts.requests)

pub parts_indexed : (S T : LogStore) → SameParts S T → (kept : Kept) → AreIndexed (counts_in kept) S.parts → AreIndexed (counts_in kept) T.parts
parts_indexed S T same kept indexed =
    subst (λ (r : Queue). IsIndexed (counts_in kept) T.parts.table T.parts.tree r.waiting) (sym same.2)
    (subst (λ (i : Tree). IsIndexed (counts_in kept) T.parts.table i S.parts.requests.waiting) (sym same.1)
    (subst (λ (p : Places). IsIndexed (counts_in kept) p S.parts.tree S.parts.requests.waiting) (sym same.0) indexed))

pub parts_content : (S T : LogStore) (before after : Image) → SameParts S T → ((n : ℕ) → file_in after (log_name n) ≡ file_in before (log_name n)) → SameContent (content_of S before) (content_of T after)
parts_content S T before after same files key =
    ap (λ (c : Content). read_in c key)
    (ap (λ (p : Places). rows_of after p T.parts.tree) same.0 ∙ ap (λ (i : Tree). rows_of after S.parts.table i) same.1 ∙ rows_same before after S.parts.table S.parts.tree files)

-- the statistics are the same where the rows and the index are
pub parts_counted : (old new : Parts) → new.stats.rows ≡ old.stats.rows → new.tree ≡ old.tree → (kept : Kept) → AreCounted kept old → AreCounted kept new
parts_counted old new rows tree kept counted = record {
  ascend = subst (λ (l : List FileCount). IsStrictlyIncreasing (numbers_of l)) (sym rows) counted.ascend;
  each = λ n. subst (λ (l : List FileCount). Contains (numbers_of l) n ↔ IsSome (file_in kept.files (log_name n))) (sym rows) (counted.each n);
  sizes = subst (λ (l : List FileCount). All (λ row. row.size ≡ length (bytes_in kept.files (log_name row.number))) l) (sym rows) counted.sizes;
  live = record {
    rows = subst (λ (l : List FileCount). All (IsFigured kept new.tree) l) (sym rows) (subst (λ (i : Tree). All (IsFigured kept i) old.stats.rows) (sym tree) counted.live.rows);
    apart = counted.live.apart;
    listed = λ n at item key counts of_key. subst (λ (l : List FileCount). Contains (numbers_of l) n) (sym rows) (counted.live.listed n at item key counts of_key);
  };
}

pub as_was : (S T : LogStore) (before after : Image) → files_of T.parts.log ≡ files_of S.parts.log → SameParts S T → T.parts.stats.rows ≡ S.parts.stats.rows → ((n : ℕ) → file_in after (log_name n) ≡ file_in before (log_name n)) → IsAsWas S T before after
as_was S T before after files same rows images = record {
  files = files;
  indexed = parts_indexed S T same;
  content = parts_content S T before after same images;
  counted = parts_counted S.parts T.parts rows same.1;
}

-- they are those of the same files, as what writes them goes on
pub still_counted : (S T : LogStore) (a b : HostState) (frames : List Frame) (records : List Item) → number T ≡ number S → ((n : ℕ) → file_in b.files (log_name n) ≡ file_in a.files (log_name n))
    → AreCounted (record { number = number S; items = placed_of frames records; files = a.files }) T.parts → AreCounted (record { number = number T; items = placed_of frames records; files = b.files }) T.parts
still_counted S T a b frames records file same counted =
    subst (λ (n : ℕ). AreCounted (record { number = n; items = placed_of frames records; files = b.files }) T.parts) (sym file) (counted_files (number S) (placed_of frames records) a.files b.files T.parts same counted)

pub same_rows : (S T : LogStore) → files_of T.parts.log ≡ files_of S.parts.log → T.parts.requests.waiting ≡ S.parts.requests.waiting → (log_facts T).parts ≡ (log_facts S).parts
same_rows S T files waiting =
    ap (λ (f : LogFiles). row_of (length T.parts.requests.waiting) (current_of (writer_of f) (number_of f))) files
    ∙ ap (λ (w : List Request). row_of (length w) (current_of (writer S) (number S))) waiting

-- what it stands for after a call that changed nothing
pub still_stands : (S T : LogStore) (a b : HostState) (frames : List Frame) (records : List Item) → LogStands S a frames records → IsAsWas S T a.files b.files → S.latest ≤ T.latest → disk.Stands a b → LogStands T b frames records
still_stands S T a b frames records stands kept late still =
    stands_same S T a b frames records (CountsFrames frames) stands (ap number_of kept.files)
    (Stands-moves a b (OnFile (log_name (number S)) (CountsFrames frames)) still) (SameBut-files (log_name (number S)) a.files b.files still.files)
    (ap store_of kept.files ∙ stands.main)
    (subst (λ (f : LogFiles). HoldsLog (record f { store = 0 }) b frames records) (sym kept.files)
    (stands.log.0, holds_still (main_files S) (main_files S).spoilt a b (record { closed = stands.log.0; frames = frames; records = records }) still stands.log.1))
    (subst (λ (f : LogFiles). IsNamed 0 (writer_of f) (number_of f)) (sym kept.files) stands.named)
    (kept.indexed (record { number = number S; items = placed_of frames records; files = a.files }) stands.indexed)
    (still_counted S T a b frames records (ap number_of kept.files) (λ n. still.files (log_name n)) (kept.counted (record { number = number S; items = placed_of frames records; files = a.files }) stands.counted))
    (ap next_seq_of kept.files) late

pub still_leaves : (a b : HostState) → disk.Stands a b → Leaves owns_file false a b
still_leaves a b still = record { files = λ name other. still.files name; images = Stands-moves a b _ still }

-- a call that changed nothing
pub still_acts : {R : Type 0} (S T : LogStore) (a b : HostState) (moment : ℕ) (wanted : Content) (frames : List Frame) (records : List Item) (result : Result R StoreFault)
    → LogStands S a frames records
    → S.parts.spoilt ≡ false → S.latest ≤ moment → T.latest ≡ moment
    → IsAsWas S T a.files b.files
    → disk.Stands a b
    → ((d : Damage) → IsErrOf result (fault.Damaged d) → ⊥)
    → ((s : Spent) → IsErrOf result (fault.Spent s) → is_spent T s)
    → (IsErrOf result fault.Memory → T.parts.spoilt ≡ false → T.parts.requests.waiting ≡ S.parts.requests.waiting)
    → Acts (log_facts S) (log_facts T) (log_means S a) (log_means T b) a b moment wanted result
still_acts S T a b moment wanted frames records result stands sound late latest kept still damaged spent waiting =
    call_acts S T a b frames records moment wanted (λ d c. ⊥) stands (Stands-moves a b (λ d c. ⊥) still) (λ d c left none. absurd none) sound late latest (λ unspoilt. inr kept.content)
    result (still_leaves a b still) (Stands-silent a b still)
    (λ unspoilt. (frames, records, still_stands S T a b frames records stands kept (omega (arith, late, latest)) still))
    damaged spent
    (λ err unspoilt. (kept.content, inl (same_rows S T kept.files (waiting err unspoilt))))

pub still_keeps : (S T : LogStore) (a b : HostState) (moment : ℕ) (frames : List Frame) (records : List Item)
    → LogStands S a frames records
    → S.parts.spoilt ≡ false → S.latest ≤ moment → T.latest ≡ moment
    → IsAsWas S T a.files b.files
    → disk.Stands a b
    → Keeps (log_facts S) a.turn b.turn moment (log_means S a) (log_means T b) (content_of S a.files)
still_keeps S T a b moment frames records stands sound late latest kept still =
    call_keeps S T a b frames records moment (content_of S a.files) (λ d c. ⊥) stands (Stands-moves a b (λ d c. ⊥) still) (λ d c left none. absurd none) sound late latest (λ unspoilt. inl kept.content)

-- numbers

pub numbered : (count : ℕ) (S T : LogStore) → next_of T ≡ next_of S + count → number S ≤ number T → (1 ≤ count → (next_of T ≤ 2 ^ 62) × (number S < 2 ^ 32 - 1)) → IsNumbered count (log_facts S).numbers (log_facts T).numbers
numbered count S T next file within = (record { sequence = next_of T; file = number T }, refl, record { sequence = next; file = file; within = within })

pub draws_none : (S T : LogStore) → next_of T ≡ next_of S → next_file (writer T) (number T) ≡ next_file (writer S) (number S) → number S ≤ number T → DrawsNone (log_facts S) (log_facts T)
draws_none S T next made file = record {
  drawn = omega (arith, next);
  made = omega (arith, made);
  numbers = numbered 0 S T (omega (arith, next)) file (λ some. absurd (omega (arith, some)));
}

pub draws_as_was : (S T : LogStore) (before after : Image) → IsAsWas S T before after → DrawsNone (log_facts S) (log_facts T)
draws_as_was S T before after kept = draws_none S T (ap next_seq_of kept.files) (ap next_file_of kept.files) (omega (arith, ap number_of kept.files))

-- a log that may be spoilt now, and is else as it was, goes on with the same numbers
pub draws_spoilt : (S T : LogStore) → files_of T.parts.log ≡ with_spoilt (files_of S.parts.log) (is_spoilt_log (files_of T.parts.log)) → DrawsNone (log_facts S) (log_facts T)
draws_spoilt S T same = draws_none S T (ap next_seq_of same) (ap next_file_of same) (omega (arith, ap number_of same))

-- where nothing is pending in its row
pub flushed_row : (queued : ℕ) (current : Option ℕ) → All (λ (row : Row). row.pending ≡ []) (row_of queued current)
flushed_row queued current zero d within = refl
flushed_row queued current (suc k) d within = absurd (omega (arith, within))

-- a step of another kind than Index and Rotate moves nothing
pub idle_step : (kind : StepKind) (rows : List Row) → (kind ≡ Rotate → ⊥) → (kind ≡ Index → ⊥) → StepsBy kind Idle rows rows
idle_step Index rows other another = absurd (another refl)
idle_step Flush rows other another = (refl, refl)
idle_step Compact rows other another = (refl, refl)
idle_step Evict rows other another = (refl, refl)
idle_step Reap rows other another = (refl, refl)
idle_step Rotate rows other another = absurd (other refl)

-- where changes are synced at once nothing waits after one
pub current_by_tail : (log : Option Appender) (file : ℕ) (unsealed : Bool) (tail : ℕ × ℕ × Bool) → tail_by log file unsealed ≡ Some tail → current_of log file ≡ Some tail.0
current_by_tail None file unsealed tail is = cc
current_by_tail (Some log) file unsealed tail is = let same : (file, log.size, unsealed) ≡ tail = cc in ap (λ (t : ℕ × ℕ × Bool). Some t.0) same

pub no_current : (log : Option Appender) (file : ℕ) (unsealed : Bool) → tail_by log file unsealed ≡ None → current_of log file ≡ None
no_current None file unsealed is = refl
no_current (Some log) file unsealed is = cc
