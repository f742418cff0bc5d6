-- What a turn of a compaction is to the store.
use Rattle.std.proofs.Common.{◌≡◌, inl, ℕ, true, false, List, [], Option, Some, None, refl, sym, ◌∙◌, ap, subst}
use Rattle.std.specs.Prelude.{Result, Ok, Err, IfOk, OnOk, count_by, unwrap_or}
use Rattle.cache_model.specs.declared.commands.StepKind.TheVariants.{Compact}
use Rattle.cache_model.specs.declared.faults.StoreFault.{StoreFault}
use Rattle.cache_model.specs.declared.replies.Turned.{Turned}
use Rattle.cache_model.specs.declared.replies.Turned.TheVariants.{Done, Idle}
use Rattle.cache_model.specs.DataFiles.{counted_items}
use Rattle.cache_disk.specs.State.{HostState}
use Rattle.compactor.specs.Recounting.{counted_records, is_record}
use Rattle.store_trait.specs.Meaning.{Row}
use Rattle.store_trait.specs.Keeping.{SameStore}
use Rattle.store_trait.specs.Calls.{Acts, CompactedAll, CompactedFile, Plainly, Stepped}
use Rattle.store_trait.proofs.Runs.{kept_same}
use Rattle.soft_index.specs.declared.compacting.CompactingStore.{CompactingStore}
use Rattle.soft_index.specs.declared.log_store.LogStore.{LogStore}
use Rattle.soft_index.specs.declared.running.Run.{Run}
use Rattle.soft_index.specs.Compacting.{CompactsBy, with_run}
use Rattle.soft_index.specs.Running.{ActsOr, ActsRows, HasBegun, HoldsRun, MayGoOn, run_of, spoil}
use Rattle.soft_index.specs.Steps.{StepsIn}
use Rattle.soft_index.specs.Store.{content_of, log_facts}
use Rattle.soft_index.specs.Sweeping.{HasCompactedAll}
use Rattle.soft_index.specs.Turns.{HasCompacted, HasGoneOn, HasTurned, run_facts, run_means}
use Rattle.soft_index.proofs.Carrying.{limit_same, same_run}
use Rattle.soft_index.proofs.Chaining.{acts_chain, acts_err, acts_ok, content_chain}
use Rattle.soft_index.proofs.RunRows.{first_rows, turn_rows}

-- what a call of the log says whatever the host tells, with another compaction behind it
pub plain_turned : {R : Type 0} (S T : CompactingStore) (moment : ℕ) (result : Result R StoreFault) → T.threshold ≡ S.threshold → MayGoOn T.run → Plainly (log_facts S.log) (log_facts T.log) moment result
    → Plainly (run_facts S) (run_facts T) moment result
plain_turned S T moment result threshold may plain =
    let same = same_run S T.log plain.same in
    let n : ℕ = T.log.parts.requests.limit in
    record {
      same = record {
        bits = same.bits;
        owns = same.owns;
        ordered = same.ordered;
        firm = same.firm;
        forgets = same.forgets;
        moves = same.moves;
        empties = same.empties;
        room = same.room;
        steps = λ files kind turned a b. (
          λ is. (same.steps files kind turned a b).0 (subst (λ (t : ℕ). StepsIn n t files kind turned a b) threshold is),
          λ is. subst (λ (t : ℕ). StepsIn n t files kind turned a b) (sym threshold) ((same.steps files kind turned a b).1 is),
        );
        compacts = same.compacts;
        turns = same.turns;
        compacts_all = same.compacts_all;
        turns_all = same.turns_all;
        sweeps = same.sweeps;
        counts = same.counts;
      };
      usable = λ sound. (plain.usable sound, may);
      unspoilt = plain.unspoilt;
      spoilt = plain.spoilt;
      late = plain.late;
      sequence = plain.sequence;
      files = plain.files;
    }

-- a turn that is done, where it answers
if_done : (P : Turned → Type 0) (Q : Type 0) (result : Result Turned StoreFault) → (Q → P Done) → IfOk result (λ turned. turned ≡ Done) → OnOk result Q → IfOk result P
if_done P Q (Ok turned) to done is = subst P (sym done) (to is)
if_done P Q (Err f) to done is = tt

-- a turn of a compaction that was under way
pub turned_on : (S T : CompactingStore) (a b : HostState) (moment : ℕ) (run : Run) (taken : Option Run) (result : Result Turned StoreFault) → S.run ≡ Some run → IfOk result (λ turned. turned ≡ Done)
    → HasGoneOn run (record S { run = taken }) T a b moment result → HasTurned S T a b moment result
turned_on S T a b moment run taken result under done gone = record {
  acts = gone.acts;
  content = gone.content;
  held = gone.held;
  rows = if_done (λ turned. CompactsBy S.log.parts.requests.limit S.threshold a.files turned (run_facts S).parts (run_facts T).parts)
      (ActsRows S.log.parts.requests.limit (counted_records a.files run.file) run T.run (log_facts S.log).parts (log_facts T.log).parts) result by done gone.rows;
}
  where
    by : ActsRows S.log.parts.requests.limit (counted_records a.files run.file) run T.run (log_facts S.log).parts (log_facts T.log).parts
        → CompactsBy S.log.parts.requests.limit S.threshold a.files Done (run_facts S).parts (run_facts T).parts
    by rows =
        subst (λ (x : Option Run). CompactsBy S.log.parts.requests.limit S.threshold a.files Done (with_run (run_of x) (log_facts S.log).parts) (run_facts T).parts) (sym under)
        (turn_rows S.log.parts.requests.limit S.threshold (counted_records a.files run.file) a.files run T.run (log_facts S.log).parts (log_facts T.log).parts refl rows)

-- the first turn of a compaction
pub turned_first : (S : CompactingStore) (M : LogStore) (T : CompactingStore) (a b c : HostState) (moment : ℕ) (run : Run) (result : Result Turned StoreFault) → S.run ≡ None → SameStore (log_facts S.log) (log_facts M)
    → HasBegun S.threshold S.log M a b moment (Ok (Some run)) → IfOk result (λ turned. turned ≡ Done) → HasGoneOn run (record S { log = M }) T b c moment result → HasTurned S T a c moment result
turned_first S M T a b c moment run result none same begun done gone = record {
  acts = acts_chain {Q = Option Run} {R = Turned} S.log M T.log a b c moment (Some run) result same begun.content begun.acts gone.acts;
  content = content_chain {R = Turned} (content_of S.log a.files) (content_of M b.files) (content_of T.log c.files) result begun.content gone.content;
  held = gone.held;
  rows = if_done (λ turned. CompactsBy S.log.parts.requests.limit S.threshold a.files turned (run_facts S).parts (run_facts T).parts)
      (ActsRows M.parts.requests.limit (counted_records b.files run.file) run T.run (log_facts M).parts (log_facts T.log).parts) result by done gone.rows;
}
  where
    counted : counted_records b.files run.file ≡ counted_records a.files run.file
    counted = ap (λ (f : Option (List ℕ)). count_by (λ one. is_record one.1) (counted_items (unwrap_or f []))) (begun.files run.file)

    by : ActsRows M.parts.requests.limit (counted_records b.files run.file) run T.run (log_facts M).parts (log_facts T.log).parts
        → CompactsBy S.log.parts.requests.limit S.threshold a.files Done (run_facts S).parts (run_facts T).parts
    by rows =
        let begins = begun.rows in
        subst (λ (x : Option Run). CompactsBy S.log.parts.requests.limit S.threshold a.files Done (with_run (run_of x) (log_facts S.log).parts) (run_facts T).parts) (sym none)
        (first_rows S.log.parts.requests.limit S.threshold (counted_records b.files run.file) begins.0 begins.1 a.files run T.run (log_facts S.log).parts (log_facts T.log).parts counted begins.4 begins.5 begins.2
        (subst (λ (l : List Row). ActsRows S.log.parts.requests.limit (counted_records b.files run.file) run T.run l (log_facts T.log).parts) begins.3
        (subst (λ (n : ℕ). ActsRows n (counted_records b.files run.file) run T.run (log_facts M).parts (log_facts T.log).parts) (limit_same S.log M same) rows)))

-- a turn without a candidate
pub turned_idle : (S : CompactingStore) (M : LogStore) (a b : HostState) (moment : ℕ) → S.run ≡ None → HasBegun S.threshold S.log M a b moment (Ok None) → HasTurned S (record S { log = M }) a b moment (Ok Idle)
turned_idle S M a b moment none begun =
    let rows = begun.rows in
    record {
      acts = acts_ok {Q = Option Run} {R = Turned} S.log M a b moment None Idle begun.acts;
      content = begun.content;
      held = subst (λ (x : Option Run). HoldsRun x M b) (sym none) begun.held;
      rows = (
        rows.0,
        rows.1,
        ap (λ (x : Option Run). with_run (run_of x) (log_facts S.log).parts) none ∙ ap (λ (l : List Row). with_run None l) rows.2,
        rows.4,
        ap (λ (x : Option Run). with_run (run_of x) (log_facts M).parts) none ∙ ap (λ (l : List Row). with_run None l) rows.3,
      );
    }

-- a turn whose beginning failed
pub turned_failed : (S T : CompactingStore) (a b : HostState) (moment : ℕ) (f : StoreFault) → HasBegun S.threshold S.log T.log a b moment (Err f) → HasTurned S T a b moment (Err f)
turned_failed S T a b moment f begun = record { acts = acts_err {Q = Option Run} {R = Turned} S.log T.log a b moment f begun.acts; content = tt; held = tt; rows = tt }

-- as a call of the store
pub run_acts : {R : Type 0} (S T : CompactingStore) (a b : HostState) (moment : ℕ) (x : R) → HoldsRun T.run T.log b → ActsOr {R = R} S.log T.log a b moment (Ok x)
    → Acts {T = R} (run_facts S) (run_facts T) (run_means S a) (run_means T b) a b moment (content_of S.log a.files) (Ok x)
run_acts S T a b moment x held acts = record {
  stands = λ sound. held;
  others = acts.others;
  silent = acts.silent;
  keeps = record { past = acts.keeps.past; since = acts.keeps.since; past_whole = acts.keeps.past_whole; since_whole = acts.keeps.since_whole };
  opens = record { past = acts.opens.past; since = acts.opens.since };
  sound = acts.sound;
  undamaged = acts.undamaged;
  spent = acts.spent;
  refused = λ err sound. cc;
  room = λ err sound. cc;
}

pub run_acts_fault : {R : Type 0} (S T : CompactingStore) (a b : HostState) (moment : ℕ) (f : StoreFault) → ActsOr {R = R} S.log T.log a b moment (Err f)
    → Acts {T = R} (run_facts S) (run_facts (record T { log = spoil T.log })) (run_means S a) (run_means (record T { log = spoil T.log }) b) a b moment (content_of S.log a.files) (Err f)
run_acts_fault S T a b moment f acts = record {
  stands = λ sound. let no : true ≡ false = sound in cc;
  others = acts.others;
  silent = acts.silent;
  keeps = record { past = acts.keeps.past; since = acts.keeps.since; past_whole = acts.keeps.past_whole; since_whole = acts.keeps.since_whole };
  opens = record { past = acts.opens.past; since = acts.opens.since };
  sound = acts.sound;
  undamaged = acts.undamaged;
  spent = acts.spent;
  refused = λ err sound. let no : true ≡ false = sound in cc;
  room = λ err sound. let no : true ≡ false = sound in cc;
}

pub stepped_turn : (S T : CompactingStore) (a b : HostState) (moment : ℕ) (turned : Turned) → HasTurned S T a b moment (Ok turned)
    → Stepped Compact (run_facts S) (run_facts T) (run_means S a) (run_means T b) a b moment (Ok turned)
stepped_turn S T a b moment turned is = record {
  acts = run_acts {R = Turned} S T a b moment turned is.held is.acts;
  content = kept_same (run_facts S) moment (content_of S.log a.files) (content_of T.log b.files) is.content;
  marks = λ key r m may. inl (is.content key);
  parts = is.rows;
}

pub stepped_fault : (S T : CompactingStore) (a b : HostState) (moment : ℕ) (f : StoreFault) → HasTurned S T a b moment (Err f)
    → Stepped Compact (run_facts S) (run_facts (record T { log = spoil T.log })) (run_means S a) (run_means (record T { log = spoil T.log }) b) a b moment (Err f)
stepped_fault S T a b moment f is = record { acts = run_acts_fault {R = Turned} S T a b moment f is.acts; content = tt; marks = tt; parts = tt }

pub compacted_file : (file : ℕ) (S T : CompactingStore) (a b : HostState) (moment : ℕ) (turned : Turned) → HasCompacted file S T a b moment (Ok turned)
    → CompactedFile file (run_facts S) (run_facts T) (run_means S a) (run_means T b) a b moment (Ok turned)
compacted_file file S T a b moment turned is = record {
  acts = run_acts {R = Turned} S T a b moment turned is.held is.acts;
  content = kept_same (run_facts S) moment (content_of S.log a.files) (content_of T.log b.files) is.content;
  marks = λ key r m may. inl (is.content key);
  made = is.made;
  parts = is.parts;
}

pub compacted_fault : (file : ℕ) (S T : CompactingStore) (a b : HostState) (moment : ℕ) (f : StoreFault) → HasCompacted file S T a b moment (Err f)
    → CompactedFile file (run_facts S) (run_facts (record T { log = spoil T.log })) (run_means S a) (run_means (record T { log = spoil T.log }) b) a b moment (Err f)
compacted_fault file S T a b moment f is = record { acts = run_acts_fault {R = Turned} S T a b moment f is.acts; content = tt; marks = tt; made = is.made; parts = tt }

pub compacted_all : (S T : CompactingStore) (a b : HostState) (moment : ℕ) → HasCompactedAll S T a b moment (Ok tt) → CompactedAll (run_facts S) (run_facts T) (run_means S a) (run_means T b) a b moment (Ok tt)
compacted_all S T a b moment is = record {
  acts = run_acts {R = Unit {0}} S T a b moment tt is.held is.acts;
  content = kept_same (run_facts S) moment (content_of S.log a.files) (content_of T.log b.files) is.content;
  marks = λ key r m may. inl (is.content key);
  made = is.made;
  parts = is.parts;
  swept = is.swept;
}

pub compacted_all_fault : (S T : CompactingStore) (a b : HostState) (moment : ℕ) (f : StoreFault) → HasCompactedAll S T a b moment (Err f)
    → CompactedAll (run_facts S) (run_facts (record T { log = spoil T.log })) (run_means S a) (run_means (record T { log = spoil T.log }) b) a b moment (Err f)
compacted_all_fault S T a b moment f is = record { acts = run_acts_fault {R = Unit {0}} S T a b moment f is.acts; content = tt; marks = tt; made = is.made; parts = tt; swept = tt }
