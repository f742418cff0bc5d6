-- What is known while the counts of keys are lowered, and of the file of a compaction that is taken away.
use Rattle.std.proofs.Common.{◌≡◌, inl, inr, ℕ, ◌+◌, ◌≤◌, ◌<◌, false, true, List, [], ◌∷◌, length, refl, sym, ◌∙◌, ap, subst, arith}
use Rattle.std.specs.Prelude.{Ok, Option, Some, min}
use Rattle.std.proofs.lemmas.List.{length-append}
use Rattle.cache_model.specs.Items.{Item}
use Rattle.cache_model.specs.DataFiles.{Frame}
use Rattle.cache_model.specs.Files.{Image}
use Rattle.cache_disk.specs.State.{HostState}
use Rattle.cache_disk.specs.State as disk
use Rattle.cache_model.specs.Images.{log_name}
use Rattle.cache_disk.proofs.Runs.{Stands-same}
use Rattle.data_file.proofs.Frame.{placed_of}
use Rattle.append_log.specs.declared.log_files.LogFiles.{LogFiles}
use Rattle.append_log.specs.Current.{files_of, next_file, next_seq_of, number_of, writer_of}
use Rattle.temporary_table.specs.declared.requests.Request.{Request}
use Rattle.temporary_table.specs.declared.requests.Request.TheVariants.{Less}
use Rattle.temporary_table.specs.Queue.{Queue}
use Rattle.tree_index.specs.Index.{Index}
use Rattle.file_stats.specs.Figures.{Figures}
use Rattle.compactor.specs.Counting.{Kept}
use Rattle.compactor.specs.Stepping.{NotesLess}
use Rattle.store_trait.specs.Meaning.{StoreFacts}
use Rattle.store_trait.specs.Keeping.{SameStore}
use Rattle.store_trait.specs.Calls.{DrawsNone, IsNumbered, IsReady, Plainly}
use Rattle.store_trait.proofs.Runs.{store_same}
use Rattle.soft_index.specs.declared.log_store.LogStore.{LogStore}
use Rattle.soft_index.specs.declared.running.Run.{Run}
use Rattle.soft_index.specs.Running.{IsStill, RunStands}
use Rattle.soft_index.specs.Store.{LogStands, MakesRoom, Queues, log_facts, next_of, number, row_of, writer}
use Rattle.soft_index.specs.Taken.{MayBeTaken}
use Rattle.soft_index.proofs.Chaining.{still_acts_or}
use Rattle.soft_index.proofs.Changes.{as_was, draws_none, parts_counted, still_stands}
use Rattle.soft_index.proofs.Indexing.{indexed_content, indexed_stands, same_queued}
use Rattle.soft_index.proofs.RunTurns.{none_newest}
use Rattle.soft_index.proofs.Turning.{plainly_then}

-- the file of a compaction may be taken away, once the log was stamped
pub run_may : (run : Run) (S : LogStore) (files : Image) (frames : List Frame) (records : List Item) → RunStands run S files frames records → run.is_stamped ≡ true → MayBeTaken S files frames records run.file
run_may run S files frames records is stamped =
    let needless = (is.stamped stamped).1 in
    record {
      there = is.there;
      closed = is.closed;
      past = none_newest run S files frames records is (is.stamped stamped).0;
      outdone = λ key at item holds of_key.
          let by = needless.outdone key at item holds of_key in
          record { n = by.0; a = by.1; other = by.2; counted = by.3; of_key = by.4; elsewhere = by.5; newer = by.6 };
      stamped = record { n = needless.stamped; a = needless.at; moment = needless.moment; counted = needless.stamp; elsewhere = needless.elsewhere; latest = needless.latest };
    }

-- So many keys were passed: for each of them one request more waits, as far as the queue has room, and nothing was written.
pub record HasLowered (S T : LogStore) (moment count : ℕ) : Type 0 where
  pub plain : Plainly {T = Unit {0}} (log_facts S) (log_facts T) moment (Ok tt)
  pub draws : DrawsNone (log_facts S) (log_facts T)
  pub log : files_of T.parts.log ≡ files_of S.parts.log
  pub limit : T.parts.requests.limit ≡ S.parts.requests.limit
  pub queued : length T.parts.requests.waiting ≡ min count S.parts.requests.limit

-- a later moment changes no fact but that
pub latest_same : (S : LogStore) (moment : ℕ) → SameStore (log_facts S) (log_facts (record S { latest = moment }))
latest_same S moment =
    let same = store_same (log_facts S) in
    record { bits = same.bits; owns = same.owns; ordered = same.ordered; firm = same.firm; forgets = same.forgets; moves = same.moves; empties = same.empties; room = same.room; steps = same.steps; compacts = same.compacts; turns = same.turns; compacts_all = same.compacts_all; turns_all = same.turns_all; sweeps = same.sweeps; counts = same.counts }

-- before the first key
pub lowered_first : (S : LogStore) (moment : ℕ) → IsReady (log_facts S) moment → S.parts.requests.waiting ≡ [] → HasLowered S (record S { latest = moment }) moment 0
lowered_first S moment ready empty = record {
  plain = record { same = latest_same S moment; usable = λ unspoilt. ready.usable; unspoilt = ready.unspoilt; spoilt = tt; late = omega arith; sequence = λ n err. cc; files = λ n err. cc };
  draws = draws_none S (record S { latest = moment }) refl refl (omega arith);
  log = refl;
  limit = refl;
  queued = ap (λ (l : List Request). length l) empty ∙ omega arith;
}

-- a store is ready behind a call that answered Ok
pub ready_behind : {R : Type 0} (f g : StoreFacts) (moment : ℕ) (x : R) → IsReady f moment → Plainly {T = R} f g moment (Ok x) → IsReady g moment
ready_behind f g moment x ready plain = record { unspoilt = plain.unspoilt; usable = plain.usable plain.unspoilt; late = plain.late; moment_fits = ready.moment_fits }

-- what a call draws goes by the log alone
pub draws_behind : (S M T : LogStore) → files_of M.parts.log ≡ files_of S.parts.log → DrawsNone (log_facts M) (log_facts T) → DrawsNone (log_facts S) (log_facts T)
draws_behind S M T same draws = record {
  drawn = subst (λ (F : LogFiles). next_of T ≤ next_seq_of F) same draws.drawn;
  made = subst (λ (F : LogFiles). next_file (writer T) (number T) ≤ next_file (writer_of F) (number_of F)) same draws.made;
  numbers = subst (λ (F : LogFiles). IsNumbered 0 (Some (record { sequence = next_seq_of F; file = number_of F })) (log_facts T).numbers) same draws.numbers;
}

-- one key more
pub lowered_more : (S M T : LogStore) (moment count : ℕ) → HasLowered S M moment count → Plainly {T = Unit {0}} (log_facts M) (log_facts T) moment (Ok tt) → DrawsNone (log_facts M) (log_facts T)
    → files_of T.parts.log ≡ files_of M.parts.log → T.parts.requests.limit ≡ M.parts.requests.limit → length T.parts.requests.waiting ≡ min (length M.parts.requests.waiting + 1) M.parts.requests.limit
    → HasLowered S T moment (count + 1)
lowered_more S M T moment count before plain draws log limit queued = record {
  plain = plainly_then {T = Unit {0}} {U = Unit {0}} (log_facts S) (log_facts M) (log_facts T) moment (Ok tt) (Ok tt) before.plain plain;
  draws = draws_behind S M T before.log draws;
  log = log ∙ before.log;
  limit = limit ∙ before.limit;
  queued = more count S.parts.requests.limit (length M.parts.requests.waiting) M.parts.requests.limit before.queued before.limit queued;
}
  where
    more : (count limit waiting most : ℕ) → waiting ≡ min count limit → most ≡ limit → length T.parts.requests.waiting ≡ min (waiting + 1) most → length T.parts.requests.waiting ≡ min (count + 1) limit
    more count limit waiting most is same now = omega (arith, is, same, now)

-- that one record less of a key is to be counted waits, where there is room
module _ (S T : LogStore) (key : List ℕ) (notes : NotesLess key S.parts T.parts) where
  pub less_log : files_of T.parts.log ≡ files_of S.parts.log
  less_log = ap files_of notes.queues.log

  pub less_limit : T.parts.requests.limit ≡ S.parts.requests.limit
  less_limit = ap (λ (q : Queue). q.limit) notes.queues.queued

  pub less_waits : length T.parts.requests.waiting ≡ length S.parts.requests.waiting + 1
  less_waits = ap (λ (q : Queue). length q.waiting) notes.queues.queued ∙ length-append S.parts.requests.waiting (Less key ∷ [])

  pub less_plain : (moment : ℕ) → T.latest ≡ S.latest → T.sync_writes ≡ S.sync_writes → IsReady (log_facts S) moment → Plainly {T = Unit {0}} (log_facts S) (log_facts T) moment (Ok tt)
  less_plain moment latest sync ready = record {
    same = record {
      bits = ap (λ (t : Index). t.bits) notes.queues.tree;
      owns = refl;
      ordered = refl;
      firm = sync;
      forgets = λ k. (λ x. x, λ x. x);
      moves = λ c a b. (subst (λ (n : ℕ). Queues n a b) less_limit, subst (λ (n : ℕ). Queues n a b) (sym less_limit));
      empties = λ a b. (λ x. x, λ x. x);
      room = λ a b. (subst (λ (n : ℕ). MakesRoom n a b) less_limit, subst (λ (n : ℕ). MakesRoom n a b) (sym less_limit));
      steps = λ files kind turned a b. (λ x. x, λ x. x);
      compacts = λ files mid file turned turns a b. (λ x. x, λ x. x);
      turns = λ files mid file rows. refl;
      compacts_all = λ files mid turns a b. (λ z. z, λ z. z);
      turns_all = λ files mid rows turns. (λ z. z, λ z. z);
      sweeps = λ files image. (λ z. z, λ z. z);
      counts = λ files figures a b. (λ x. x, λ x. x);
    };
    usable = λ unspoilt. notes.usable ready.usable;
    unspoilt = notes.queues.spoilt ∙ ready.unspoilt;
    spoilt = tt;
    late = omega (arith, latest, ready.late);
    sequence = λ n err. cc;
    files = λ n err. cc;
  }

  pub less_still : (b : HostState) (frames : List Frame) (records : List Item) (moment : ℕ) → T.latest ≡ S.latest → S.latest ≡ moment → S.parts.spoilt ≡ false → LogStands S b frames records → IsStill {R = Unit {0}} S T b b frames records moment (Ok tt)
  less_still b frames records moment latest late sound stands =
      let kept : Kept = record { number = number S; items = placed_of frames records; files = b.files } in
      let now = indexed_stands S T b b frames records stands less_log (λ indexed there. notes.indexed kept indexed)
      (parts_counted S.parts T.parts (ap (λ (f : Figures). f.rows) notes.queues.stats) notes.queues.tree kept stands.counted) (Stands-same b) (omega (arith, latest)) in
      still_acts_or {R = Unit {0}} S T b b frames records moment (Ok tt) stands sound (omega (arith, late)) (latest ∙ late) (Stands-same b) now (indexed_content S T b b frames records stands now less_log (Stands-same b)) (λ d err. cc) (λ s err. cc)

-- how many requests wait behind room and one request more
pub waits_more : (limit old mid new : ℕ) (c d : Option ℕ) → MakesRoom limit (row_of old c) (row_of mid d) → mid < limit → new ≡ mid + 1 → new ≡ min (old + 1) limit
waits_more limit old mid new c d (inl same) room is = omega (arith, same_queued mid old d c same, room, is)
waits_more limit old mid new c d (inr (q, e, full, before, after)) room is = omega (arith, full, same_queued old (q + 1) c e before, same_queued mid q d e after, room, is)

-- behind a later moment alone nothing was written
pub later_still : (S : LogStore) (moment : ℕ) (a b : HostState) (frames : List Frame) (records : List Item) → LogStands S a frames records → S.parts.spoilt ≡ false → S.latest ≤ moment → disk.Stands a b
    → IsStill {R = Unit {0}} S (record S { latest = moment }) a b frames records moment (Ok tt)
later_still S moment a b frames records stands sound late still =
    let T : LogStore = record S { latest = moment } in
    let kept = as_was S T a.files b.files refl (refl, refl, refl) refl (λ n. still.files (log_name n)) in
    still_acts_or {R = Unit {0}} S T a b frames records moment (Ok tt) stands sound late refl still (still_stands S T a b frames records stands kept late still) kept.content (λ d err. cc) (λ s err. cc)
