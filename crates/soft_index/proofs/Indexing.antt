-- What an index step is to the store.
use Rattle.std.proofs.Common.{None, ◌≡◌, inl, inr, ℕ, ◌+◌, ◌≤◌, ◌<◌, false, List, [], ◌∷◌, Option, Some, refl, sym, ◌∙◌, ap, subst, arith}
use Rattle.std.specs.Prelude.{Result, Ok, Err, IsErrOf, length}
use Rattle.cache_model.specs.declared.faults.StoreFault.{StoreFault}
use Rattle.cache_model.specs.declared.faults.StoreFault.TheVariants as fault
use Rattle.cache_model.specs.declared.faults.Spent.{Spent}
use Rattle.cache_model.specs.declared.replies.Turned.{Turned}
use Rattle.cache_model.specs.declared.replies.Turned.TheVariants.{Done, Idle}
use Rattle.cache_model.specs.declared.commands.StepKind.TheVariants.{Index}
use Rattle.cache_model.specs.Items.{Item}
use Rattle.cache_model.specs.DataFiles.{Frame, CountsFrames}
use Rattle.cache_model.specs.Images.{log_name}
use Rattle.cache_disk.specs.State.{HostState}
use Rattle.cache_disk.specs.State as disk
use Rattle.cache_disk.specs.Calls.{OnFile}
use Rattle.cache_disk.proofs.Runs.{Stands-moves, Stands-silent, SameBut-files}
use Rattle.data_file.proofs.Frame.{placed_of}
use Rattle.append_log.specs.declared.log_files.LogFiles.{LogFiles}
use Rattle.append_log.specs.Current.{files_of, number_of, next_seq_of, store_of, writer_of}
use Rattle.append_log.proofs.Holding.{holds_still}
use Rattle.temporary_table.specs.declared.requests.Request.{Request}
use Rattle.compactor.specs.Counting.{AreThere}
use Rattle.compactor.specs.Indexing.{AreIndexed}
use Rattle.compactor.specs.Stepping.{KeepsIndex, Pops, StepsIndex}
use Rattle.store_trait.specs.Meaning.{Content, Row, StoreFacts, StoreState}
use Rattle.store_trait.specs.Keeping.{SameContent}
use Rattle.store_trait.specs.Calls.{Acts, Stepped}
use Rattle.soft_index.specs.declared.log_store.LogStore.{LogStore}
use Rattle.soft_index.specs.Counted.{AreCounted}
use Rattle.soft_index.specs.Store.{Holds, HoldsLog, Indexes, IsNamed, LogStands, MakesRoom, Queues, content_of, current_of, log_facts, log_means, main_files, number, row_of, writer}
use Rattle.soft_index.proofs.Changes.{same_rows, still_counted, still_leaves}
use Rattle.soft_index.proofs.Images.{call_acts}
use Rattle.soft_index.proofs.Standing.{content_same, same_records, stands_same}
use Rattle.soft_index.proofs.There.{there_by}

-- the store stands for the same after it
pub indexed_stands : (S T : LogStore) (a b : HostState) (frames : List Frame) (records : List Item) → LogStands S a frames records → files_of T.parts.log ≡ files_of S.parts.log
    → (AreIndexed (Holds (number S) (placed_of frames records) a.files) S.parts → AreThere (Holds (number S) (placed_of frames records) a.files) a.files → AreIndexed (Holds (number S) (placed_of frames records) a.files) T.parts)
    → AreCounted (record { number = number S; items = placed_of frames records; files = a.files }) T.parts
    → disk.Stands a b → S.latest ≤ T.latest → LogStands T b frames records
indexed_stands S T a b frames records stands files indexed counted still late =
    stands_same S T a b frames records (CountsFrames frames) stands (ap number_of files)
    (Stands-moves a b (OnFile (log_name (number S)) (CountsFrames frames)) still) (SameBut-files (log_name (number S)) a.files b.files still.files)
    (ap store_of files ∙ stands.main)
    (subst (λ (f : LogFiles). HoldsLog (record f { store = 0 }) b frames records) (sym files)
    (stands.log.0, holds_still (main_files S) (main_files S).spoilt a b (record { closed = stands.log.0; frames = frames; records = records }) still stands.log.1))
    (subst (λ (f : LogFiles). IsNamed 0 (writer_of f) (number_of f)) (sym files) stands.named)
    (indexed stands.indexed (there_by S a frames records stands.log stands.named)) (still_counted S T a b frames records (ap number_of files) (λ n. still.files (log_name n)) counted) (ap next_seq_of files) late

-- and reads the same
pub indexed_content : (S T : LogStore) (a b : HostState) (frames : List Frame) (records : List Item) → (stands : LogStands S a frames records) → LogStands T b frames records → files_of T.parts.log ≡ files_of S.parts.log → disk.Stands a b
    → SameContent (content_of S a.files) (content_of T b.files)
indexed_content S T a b frames records stands now files still =
    content_same S T a b frames frames records records stands now
    (same_records S T a b frames records (CountsFrames frames) stands (ap number_of files) (Stands-moves a b (OnFile (log_name (number S)) (CountsFrames frames)) still) (SameBut-files (log_name (number S)) a.files b.files still.files))

popped_rows : (turned : Turned) (current : Option ℕ) (old new : List Request) → Pops turned old new → Indexes turned (row_of (length old) current) (row_of (length new) current)
popped_rows Done current old new popped =
    (length new, current, ap (λ (l : List Request). row_of (length l) current) popped.1 ∙ ap (λ (n : ℕ). row_of n current) (omega arith), refl)
popped_rows Idle current old new popped =
    (current, ap (λ (l : List Request). row_of (length l) current) popped.0, ap (λ (l : List Request). row_of (length l) current) popped.1 ∙ sym (ap (λ (l : List Request). row_of (length l) current) popped.0))

-- how it moves the parts
pub index_rows : (turned : Turned) (S T : LogStore) → files_of T.parts.log ≡ files_of S.parts.log → Pops turned S.parts.requests.waiting T.parts.requests.waiting → Indexes turned (log_facts S).parts (log_facts T).parts
index_rows turned S T files popped =
    subst (λ (f : LogFiles). Indexes turned (log_facts S).parts (row_of (length T.parts.requests.waiting) (current_of (writer_of f) (number_of f)))) (sym files)
    (popped_rows turned (current_of (writer S) (number S)) S.parts.requests.waiting T.parts.requests.waiting popped)

-- what it is to the store, whatever it answers, and whatever is wanted behind it
pub index_acts : (S T : LogStore) (a b : HostState) (frames : List Frame) (records : List Item) (moment : ℕ) (wanted : Content) (result : Result Turned StoreFault)
    → LogStands S a frames records → S.parts.spoilt ≡ false → S.latest ≤ moment → T.latest ≡ moment
    → StepsIndex S.parts T.parts result
    → (AreIndexed (Holds (number S) (placed_of frames records) a.files) S.parts → AreThere (Holds (number S) (placed_of frames records) a.files) a.files → KeepsIndex (Holds (number S) (placed_of frames records) a.files) T.parts result)
    → (T.parts.spoilt ≡ false → AreCounted (record { number = number S; items = placed_of frames records; files = a.files }) T.parts)
    → ((s : Spent) → IsErrOf result (fault.Spent s) → ⊥)
    → disk.Stands a b
    → Acts (log_facts S) (log_facts T) (log_means S a) (log_means T b) a b moment wanted result
index_acts S T a b frames records moment wanted result stands sound late latest steps keeps counted unspent still =
    let there = there_by S a frames records stands.log stands.named in
    let now : T.parts.spoilt ≡ false → LogStands T b frames records =
    λ unspoilt. indexed_stands S T a b frames records stands (steps.log unspoilt) (λ indexed all. (keeps indexed all).indexed unspoilt) (counted unspoilt) still (omega (arith, late, latest))
    in
    let content : T.parts.spoilt ≡ false → SameContent (content_of S a.files) (content_of T b.files) = λ unspoilt. indexed_content S T a b frames records stands (now unspoilt) (steps.log unspoilt) still in
    call_acts S T a b frames records moment wanted (λ d c. ⊥) stands (Stands-moves a b (λ d c. ⊥) still) (λ d c left none. absurd none) sound late latest (λ unspoilt. inr (content unspoilt))
    result (still_leaves a b still) (Stands-silent a b still)
    (λ unspoilt. (frames, records, now unspoilt))
    (keeps stands.indexed there).undamaged (λ s err. absurd (unspent s err))
    (λ err unspoilt. (content unspoilt, inl (same_rows S T (steps.log unspoilt) (waited result steps err unspoilt))))
  where
    waited : (r : Result Turned StoreFault) → StepsIndex S.parts T.parts r → IsErrOf r fault.Memory → T.parts.spoilt ≡ false → T.parts.requests.waiting ≡ S.parts.requests.waiting
    waited (Ok turned) is err unspoilt = cc
    waited (Err f) is err unspoilt = is.waits unspoilt

pub index_told : (S T : LogStore) (a b : HostState) (frames : List Frame) (records : List Item) (moment : ℕ) (result : Result Turned StoreFault)
    → LogStands S a frames records → S.parts.spoilt ≡ false → S.latest ≤ moment → T.latest ≡ moment
    → StepsIndex S.parts T.parts result
    → (AreIndexed (Holds (number S) (placed_of frames records) a.files) S.parts → AreThere (Holds (number S) (placed_of frames records) a.files) a.files → KeepsIndex (Holds (number S) (placed_of frames records) a.files) T.parts result)
    → (T.parts.spoilt ≡ false → AreCounted (record { number = number S; items = placed_of frames records; files = a.files }) T.parts)
    → ((s : Spent) → IsErrOf result (fault.Spent s) → ⊥)
    → disk.Stands a b
    → Stepped Index (log_facts S) (log_facts T) (log_means S a) (log_means T b) a b moment result
index_told S T a b frames records moment (Ok turned) stands sound late latest steps keeps counted unspent still =
    let unspoilt = steps.unspoilt in
    let now = indexed_stands S T a b frames records stands (steps.log unspoilt) (λ indexed all. (keeps indexed all).indexed unspoilt) (counted unspoilt) still (omega (arith, late, latest)) in
    let content = indexed_content S T a b frames records stands now (steps.log unspoilt) still in
    record {
      acts = index_acts S T a b frames records moment (content_of S a.files) (Ok turned) stands sound late latest steps keeps counted unspent still;
      content = λ key. inl (content key);
      marks = λ key r m may. inl (content key);
      parts = index_rows turned S T (steps.log unspoilt) steps.popped;
    }
index_told S T a b frames records moment (Err f) stands sound late latest steps keeps counted unspent still = record {
  acts = index_acts S T a b frames records moment (content_of S a.files) (Err f) stands sound late latest steps keeps counted unspent still;
  content = tt;
  marks = tt;
  parts = tt;
}

-- a step at a full queue makes room
pub popped_room : (turned : Turned) (limit : ℕ) (old new : List Request) → 1 ≤ limit → length old ≤ limit → limit ≤ length old → Pops turned old new → length new < limit
popped_room Done limit old new some within full popped = omega (arith, within, ap (λ (l : List Request). length l) popped.1)
popped_room Idle limit old new some within full popped = omega (arith, some, full, ap (λ (l : List Request). length l) popped.0)

-- and moves the parts so
pub room_rows : (turned : Turned) (S T : LogStore) → files_of T.parts.log ≡ files_of S.parts.log → 1 ≤ S.parts.requests.limit → length S.parts.requests.waiting ≡ S.parts.requests.limit
    → Pops turned S.parts.requests.waiting T.parts.requests.waiting → MakesRoom S.parts.requests.limit (log_facts S).parts (log_facts T).parts
room_rows Idle S T files some full popped = absurd (omega (arith, some, full, ap (λ (l : List Request). length l) popped.0))
room_rows Done S T files some full popped =
    let one : length S.parts.requests.waiting ≡ length T.parts.requests.waiting + 1 = ap (λ (l : List Request). length l) popped.1 ∙ omega arith in
    inr (
      length T.parts.requests.waiting,
      current_of (writer S) (number S),
      sym full ∙ one,
      ap (λ (n : ℕ). row_of n (current_of (writer S) (number S))) one,
      ap (λ (f : LogFiles). row_of (length T.parts.requests.waiting) (current_of (writer_of f) (number_of f))) files,
    )

-- what a call is to the store goes by its faults alone
pub acts_alike : {T U : Type 0} (f g : StoreFacts) (old new : StoreState) (a b : HostState) (moment : ℕ) (wanted : Content) (one : Result T StoreFault) (two : Result U StoreFault)
    → ((e : StoreFault) → IsErrOf two e → IsErrOf one e) → Acts f g old new a b moment wanted one → Acts f g old new a b moment wanted two
acts_alike f g old new a b moment wanted one two same acts = record {
  stands = acts.stands;
  others = acts.others;
  silent = acts.silent;
  keeps = acts.keeps;
  opens = acts.opens;
  sound = acts.sound;
  undamaged = λ is d err. acts.undamaged is d (same (fault.Damaged d) err);
  spent = λ s err. acts.spent s (same (fault.Spent s) err);
  refused = λ err unspoilt. acts.refused (same fault.Memory err) unspoilt;
  room = λ err unspoilt. acts.room (same fault.Memory err) unspoilt;
}

pub fault_alike : {T U : Type 0} (f e : StoreFault) → IsErrOf {T = T} (Err f) e → IsErrOf {T = U} (Err f) e
fault_alike f e is = let same : f ≡ e = cc in ap (λ (x : StoreFault). Err x) same

-- equal parts have as much waiting
pub same_queued : (p q : ℕ) (c d : Option ℕ) → row_of p c ≡ row_of q d → p ≡ q
same_queued p q c d same = ap (λ (rows : List Row). first_queued rows) same
  where
    first_queued : List Row → ℕ
    first_queued [] = 0
    first_queued (row ∷ rows) = row.queued

-- and the same current file
pub same_current : (p q : ℕ) (c d : Option ℕ) → row_of p c ≡ row_of q d → c ≡ d
same_current p q c d same = ap (λ (rows : List Row). first_current rows) same
  where
    first_current : List Row → Option ℕ
    first_current [] = None
    first_current (row ∷ rows) = row.current

-- room, and then a change in it, move the parts as a change does
pub room_queues : (limit : ℕ) (a b c : List Row) → MakesRoom limit a b → Queues limit b c → Queues limit a c
room_queues limit a b c (inl same) queues = (queues.0, queues.1, queues.2, sym same ∙ queues.3, queues.4)
room_queues limit a b c (inr room) queues =
    let one : row_of room.0 room.1 ≡ row_of queues.0 queues.1 = sym room.4 ∙ queues.3 in
    let waits : room.0 ≡ queues.0 = same_queued room.0 queues.0 room.1 queues.1 one in
    (room.0 + 1, room.1, queues.2, room.3, queues.4 ∙ ap (λ (n : ℕ). row_of n (Some queues.2)) (omega (arith, waits, room.2)))

-- room, and then a refusal in it, move them as room does
pub room_refused : (limit waiting : ℕ) (current : Option ℕ) (a b c : List Row) → b ≡ row_of waiting current → waiting < limit → MakesRoom limit a b → MakesRoom limit b c → MakesRoom limit a c
room_refused limit waiting current a b c is room first (inl same) = subst (λ (r : List Row). MakesRoom limit a r) (sym same) first
room_refused limit waiting current a b c is room first (inr more) =
    absurd (omega (arith, room, more.2, same_queued waiting (more.0 + 1) current more.1 (sym is ∙ more.3)))
