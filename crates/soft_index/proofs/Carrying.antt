-- What the calls of a log are to a store that has a compaction under way, or none.
use Rattle.std.proofs.Common.{◌≡◌, ℕ, ◌+◌, ◌<◌, length, true, false, List, [], Option, Some, None, refl, sym, ◌∙◌, ap, subst, arith}
use Rattle.std.proofs.lemmas.List.{get_or-map, length-map}
use Rattle.std.specs.Prelude.{Result, Ok, Err, IfOk, OnOk, All, min}
use Rattle.cache_model.specs.declared.entries.Answer.{Answer}
use Rattle.cache_model.specs.declared.entries.Change.{Change}
use Rattle.cache_model.specs.declared.entries.Change.TheVariants.{Remove}
use Rattle.cache_model.specs.declared.commands.StepKind.{StepKind}
use Rattle.cache_model.specs.declared.commands.StepKind.TheVariants.{Index, Flush, Compact, Evict, Reap, Rotate}
use Rattle.cache_model.specs.declared.replies.Turned.{Turned}
use Rattle.cache_model.specs.declared.faults.StoreFault.{StoreFault}
use Rattle.cache_disk.specs.State.{HostState}
use Rattle.store_trait.specs.Meaning.{Content, Row, key_of}
use Rattle.store_trait.specs.Keeping.{IsOnly, IsSettled, SameStore}
use Rattle.store_trait.specs.Calls.{Acts, DrawsBy, DrawsNone, DrawsOne, Figured, Loaded, Plainly, Stepped, SyncedStore, Walked, Written}
use Rattle.soft_index.specs.declared.compacting.CompactingStore.{CompactingStore}
use Rattle.soft_index.specs.declared.log_store.LogStore.{LogStore}
use Rattle.soft_index.specs.Compacting.{ByRun, CompactsAll, CompactsFile, CountsBy, Run, row_under, with_run}
use Rattle.soft_index.specs.Growing.{Grows}
use Rattle.soft_index.specs.Running.{HoldsRun, MayGoOn, run_of}
use Rattle.soft_index.specs.RunLaws.{runs_on}
use Rattle.soft_index.specs.Steps.{StepsIn}
use Rattle.soft_index.specs.Store.{MakesRoom, Queues, StepsBy, log_facts, log_means, row_of}
use Rattle.soft_index.specs.Turns.{run_facts, run_means}
use Rattle.soft_index.proofs.Indexing.{same_queued}

-- a store that keeps its facts has as much room in its queue
pub limit_same : (L M : LogStore) → SameStore (log_facts L) (log_facts M) → M.parts.requests.limit ≡ L.parts.requests.limit
limit_same L M same =
    let n : ℕ = L.parts.requests.limit in
    let m : ℕ = M.parts.requests.limit in
    let q : ℕ = n + m in
    let is : Queues n (row_of q None) (row_of (min (q + 1) m) (Some 0)) = (same.moves (Remove []) (row_of q None) (row_of (min (q + 1) m) (Some 0))).0 (q, None, 0, refl, refl) in
    omega (arith, same_queued q is.0 None is.1 is.3, same_queued (min (q + 1) m) (min (is.0 + 1) n) (Some 0) (Some is.2) is.4)

-- parts of which nothing is pending, with a run
flushed_with : (run : Run) (rows : List Row) → All (λ (row : Row). row.pending ≡ []) rows → All (λ (row : Row). row.pending ≡ []) (with_run run rows)
flushed_with run rows all k d within =
    let less : k < length rows = omega (arith, within, length-map rows (row_under run)) in
    ap (λ (row : Row). row.pending) (get_or-map (row_under run) rows k d d less) ∙ all k d less

-- a store with this log
abbrev pub with_log : CompactingStore → LogStore → CompactingStore
with_log store log = record store { log = log }

-- Each call of the log leaves the run.
module _ (store : CompactingStore) (M : LogStore) where
  abbrev L : LogStore
  L = store.log

  abbrev T : CompactingStore
  T = with_log store M

  by_run : (moves : List Row → List Row → Type 0) (a b : List Row) → moves a b → ByRun moves (with_run (run_of store.run) a) (with_run (run_of store.run) b)
  by_run moves a b is = (run_of store.run, a, b, is, refl, refl)

  pub held_on : (a b : HostState) → Grows L M a b → HoldsRun store.run store.log a → HoldsRun store.run M b
  held_on a b grows held =
      let grown = grows held.frames held.records held.log in
      record { frames = grown.fs; records = grown.rs; log = grown.holds; runs = runs_on store.run L M a b held.frames held.records grown held.runs; zero = grown.grows.zero held.zero }

  pub same_run : SameStore (log_facts L) (log_facts M) → SameStore (run_facts store) (run_facts T)
  same_run same =
      let limit = limit_same L M same in
      record {
        bits = same.bits;
        owns = same.owns;
        ordered = same.ordered;
        firm = same.firm;
        forgets = same.forgets;
        moves = λ change a b. (subst (λ (n : ℕ). ByRun (Queues n) a b) limit, subst (λ (n : ℕ). ByRun (Queues n) a b) (sym limit));
        empties = same.empties;
        room = λ a b. (subst (λ (n : ℕ). ByRun (MakesRoom n) a b) limit, subst (λ (n : ℕ). ByRun (MakesRoom n) a b) (sym limit));
        steps = λ files kind turned a b. (subst (λ (n : ℕ). StepsIn n store.threshold files kind turned a b) limit, subst (λ (n : ℕ). StepsIn n store.threshold files kind turned a b) (sym limit));
        compacts = λ files mid file turned turns a b. (subst (λ (n : ℕ). CompactsFile n files mid file turned turns a b) limit, subst (λ (n : ℕ). CompactsFile n files mid file turned turns a b) (sym limit));
        turns = λ files mid file rows. refl;
        compacts_all = λ files mid turns a b. (subst (λ (n : ℕ). CompactsAll n files mid turns a b) limit, subst (λ (n : ℕ). CompactsAll n files mid turns a b) (sym limit));
        turns_all = λ files mid rows turns. (λ z. z, λ z. z);
        sweeps = λ files image. (λ z. z, λ z. z);
        counts = same.counts;
      }

  pub plain_on : {R : Type 0} (moment : ℕ) (result : Result R StoreFault) → MayGoOn store.run → Plainly (log_facts L) (log_facts M) moment result → Plainly (run_facts store) (run_facts T) moment result
  plain_on moment result may plain = record {
    same = same_run plain.same;
    usable = λ sound. (plain.usable sound, may);
    unspoilt = plain.unspoilt;
    spoilt = plain.spoilt;
    late = plain.late;
    sequence = plain.sequence;
    files = plain.files;
  }

  pub draws_on : DrawsNone (log_facts L) (log_facts M) → DrawsNone (run_facts store) (run_facts T)
  draws_on draws = record { drawn = draws.drawn; made = draws.made; numbers = draws.numbers }

  pub draws_one_on : {R : Type 0} (result : Result R StoreFault) → DrawsOne (log_facts L) (log_facts M) result → DrawsOne (run_facts store) (run_facts T) result
  draws_one_on result draws = record { drawn = draws.drawn; made = draws.made; numbers = draws.numbers; refused = λ err sound. draws_on (draws.refused err sound) }

  pub draws_by_on : (kind : StepKind) (result : Result Turned StoreFault) → (kind ≡ Compact → ⊥) → DrawsBy kind (log_facts L) (log_facts M) result → DrawsBy kind (run_facts store) (run_facts T) result
  draws_by_on Index result other draws = draws_on draws
  draws_by_on Flush result other draws = draws_on draws
  draws_by_on Compact result other draws = absurd (other refl)
  draws_by_on Evict result other draws = draws_on draws
  draws_by_on Reap result other draws = draws_on draws
  draws_by_on Rotate result other draws = draws_on draws

  module _ (a b : HostState) (moment : ℕ) (held : HoldsRun store.run store.log a) (grows : M.parts.spoilt ≡ false → Grows L M a b) where
    pub acts_on : {R : Type 0} (w : Content) (result : Result R StoreFault) → Acts (log_facts L) (log_facts M) (log_means L a) (log_means M b) a b moment w result
        → Acts (run_facts store) (run_facts T) (run_means store a) (run_means T b) a b moment w result
    acts_on w result acts = record {
      stands = λ sound. held_on a b (grows sound) held;
      others = acts.others;
      silent = acts.silent;
      keeps = record { past = acts.keeps.past; since = acts.keeps.since; past_whole = acts.keeps.past_whole; since_whole = acts.keeps.since_whole };
      opens = record { past = acts.opens.past; since = acts.opens.since };
      sound = acts.sound;
      undamaged = acts.undamaged;
      spent = acts.spent;
      refused = acts.refused;
      room = λ err sound. by_run (MakesRoom L.parts.requests.limit) (log_facts L).parts (log_facts M).parts (acts.room err sound);
    }

    -- parts that stay stay with the run
    same_parts : {R : Type 0} (result : Result R StoreFault) → OnOk result ((log_facts M).parts ≡ (log_facts L).parts) → OnOk result ((run_facts T).parts ≡ (run_facts store).parts)
    same_parts (Ok x) is = ap (λ (rows : List Row). with_run (run_of store.run) rows) is
    same_parts (Err f) is = tt

    pub loaded_on : (key : List ℕ) (result : Result Answer StoreFault) → Loaded key (log_facts L) (log_facts M) (log_means L a) (log_means M b) a b moment result
        → Loaded key (run_facts store) (run_facts T) (run_means store a) (run_means T b) a b moment result
    loaded_on key result is = record {
      acts = acts_on (log_means L a).content result is.acts;
      content = is.content;
      answer = is.answer;
      parts = same_parts result is.parts;
      most = is.most;
      fetched = is.fetched;
    }

    pub walked_on : (from : Option (List ℕ)) (result : Result (Option (List ℕ)) StoreFault) → Walked from (log_facts L) (log_facts M) (log_means L a) (log_means M b) a b moment result
        → Walked from (run_facts store) (run_facts T) (run_means store a) (run_means T b) a b moment result
    walked_on from result is = record { acts = acts_on (log_means L a).content result is.acts; content = is.content; next = is.next; parts = same_parts result is.parts }

    moved : {R : Type 0} (moves : List Row → List Row → Type 0) (result : Result R StoreFault) → OnOk result (moves (log_facts L).parts (log_facts M).parts) → OnOk result (ByRun moves (run_facts store).parts (run_facts T).parts)
    moved moves (Ok x) is = by_run moves (log_facts L).parts (log_facts M).parts is
    moved moves (Err f) is = tt

    pub written_on : (change : Change) (result : Result (Unit {0}) StoreFault) → Written change (log_facts L) (log_facts M) (log_means L a) (log_means M b) a b moment result
        → Written change (run_facts store) (run_facts T) (run_means store a) (run_means T b) a b moment result
    written_on change result is = record {
      acts = acts_on _ result is.acts;
      content = is.content;
      unchanged = is.unchanged;
      kept = λ err sound. let kept = is.kept err sound in record { past = kept.past; since = kept.since; past_whole = kept.past_whole; since_whole = kept.since_whole };
      quiet = is.quiet;
      firm = by result is.firm;
      parts = moved (Queues L.parts.requests.limit) result is.parts;
    }
      where
        by : (r : Result (Unit {0}) StoreFault) → ((log_facts L).firm ≡ true → OnOk r (IsOnly (log_facts M) (log_means M b) b.turn (key_of change))) → (run_facts store).firm ≡ true → OnOk r (IsOnly (run_facts T) (run_means T b) b.turn (key_of change))
        by (Ok done) firm on = firm on
        by (Err f) firm on = tt

    pub synced_on : (result : Result (Unit {0}) StoreFault) → SyncedStore (log_facts L) (log_facts M) (log_means L a) (log_means M b) a b moment result
        → SyncedStore (run_facts store) (run_facts T) (run_means store a) (run_means T b) a b moment result
    synced_on result is = record {
      acts = acts_on (log_means L a).content result is.acts;
      content = is.content;
      unchanged = is.unchanged;
      settled = settled result is.settled;
      parts = same_parts result is.parts;
      flushed = flushed result is.flushed;
    }
      where
        settled : (r : Result (Unit {0}) StoreFault) → OnOk r (IsSettled (log_facts M) (log_means M b) b.turn) → OnOk r (IsSettled (run_facts T) (run_means T b) b.turn)
        settled (Ok done) is = record { each = is.each; whole = is.whole }
        settled (Err f) is = tt

        flushed : (r : Result (Unit {0}) StoreFault) → OnOk r (All (λ (row : Row). row.pending ≡ []) (log_facts M).parts) → OnOk r (All (λ (row : Row). row.pending ≡ []) (run_facts T).parts)
        flushed (Ok done) all = flushed_with (run_of store.run) (log_facts M).parts all
        flushed (Err f) all = tt

    pub stepped_on : (kind : StepKind) (result : Result Turned StoreFault) → (kind ≡ Compact → ⊥) → Stepped kind (log_facts L) (log_facts M) (log_means L a) (log_means M b) a b moment result
        → Stepped kind (run_facts store) (run_facts T) (run_means store a) (run_means T b) a b moment result
    stepped_on kind result other is = record {
      acts = acts_on (log_means L a).content result is.acts;
      content = is.content;
      marks = is.marks;
      parts = by kind result other is.parts;
    }
      where
        by : (k : StepKind) (r : Result Turned StoreFault) → (k ≡ Compact → ⊥) → IfOk r (λ turned. StepsBy k turned (log_facts L).parts (log_facts M).parts) → IfOk r (λ turned. StepsIn L.parts.requests.limit store.threshold a.files k turned (run_facts store).parts (run_facts T).parts)
        by k (Err f) other is = tt
        by Index (Ok turned) other is = by_run (StepsBy Index turned) (log_facts L).parts (log_facts M).parts is
        by Flush (Ok turned) other is = by_run (StepsBy Flush turned) (log_facts L).parts (log_facts M).parts is
        by Compact (Ok turned) other is = absurd (other refl)
        by Evict (Ok turned) other is = by_run (StepsBy Evict turned) (log_facts L).parts (log_facts M).parts is
        by Reap (Ok turned) other is = by_run (StepsBy Reap turned) (log_facts L).parts (log_facts M).parts is
        by Rotate (Ok turned) other is = by_run (StepsBy Rotate turned) (log_facts L).parts (log_facts M).parts is

    pub figured_on : (result : Result (ℕ × ℕ × ℕ) StoreFault) → Figured (log_facts L) (log_facts M) (log_means L a) (log_means M b) a b moment result
        → Figured (run_facts store) (run_facts T) (run_means store a) (run_means T b) a b moment result
    figured_on result is = record {
      acts = acts_on (log_means L a).content result is.acts;
      content = is.content;
      marks = is.marks;
      parts = by result is.parts;
    }
      where
        -- a count of the log's parts says nothing of a run
        with : (figures : ℕ × ℕ × ℕ) → CountsBy a.files figures (log_facts L).parts (log_facts M).parts → CountsBy a.files figures (run_facts store).parts (run_facts T).parts
        with figures is = (is.0, is.1, run_of store.run, ap (λ (rows : List Row). with_run (run_of store.run) rows) is.3, is.4, ap (λ (rows : List Row). with_run (run_of store.run) rows) is.5)

        by : (r : Result (ℕ × ℕ × ℕ) StoreFault) → IfOk r (λ figures. CountsBy a.files figures (log_facts L).parts (log_facts M).parts) → IfOk r (λ figures. CountsBy a.files figures (run_facts store).parts (run_facts T).parts)
        by (Ok figures) is = with figures is
        by (Err f) is = tt
