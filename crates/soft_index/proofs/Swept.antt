-- How runs go over closed files, one by one.
use Rattle.std.proofs.Common.{◌≡◌, ◌⊎◌, ⊎_elim, inl, inr, ℕ, zero, suc, ◌+◌, ◌≤◌, ◌<◌, false, List, [], ◌∷◌, ◌++◌, length, min, Contains, Option, Some, None, IsSome, refl, sym, ◌∙◌, ap, subst, arith}
use Rattle.std.specs.Prelude.{Ok, Err}
use Rattle.std.specs.List.Sorted.{IsStrictlyIncreasing}
use Rattle.std.proofs.lemmas.List.{append-nil}
use Rattle.std.proofs.lemmas.List.Sums.{sum_by-append, sum_by-cons, sum_by_push}
use Rattle.std.proofs.lemmas.List.Kept.{AllPairs-from_increasing}
use Rattle.std.proofs.lemmas.List.Elements.{All-contains, Contains-append_left, Contains-append_right, Contains-push_cases}
use Rattle.std.specs.Prelude.{All, AllPairs}
use Rattle.cache_model.specs.declared.faults.StoreFault.{StoreFault}
use Rattle.cache_model.specs.declared.replies.Turned.{Turned}
use Rattle.cache_model.specs.declared.replies.Turned.TheVariants.{Done, Idle}
use Rattle.cache_model.specs.Files.{Image, file_in}
use Rattle.cache_model.specs.Images.{log_name}
use Rattle.cache_disk.specs.State.{HostState}
use Rattle.cache_disk.proofs.Runs.{Stands-same}
use Rattle.compactor.specs.Recounting.{IsClosedFile, counted_records}
use Rattle.data_file.specs.declared.appender.Appender.{Appender}
use Rattle.store_trait.specs.Keeping.{SameStore}
use Rattle.soft_index.specs.declared.compacting.CompactingStore.{CompactingStore}
use Rattle.soft_index.specs.declared.log_store.LogStore.{LogStore}
use Rattle.soft_index.specs.declared.running.Run.{Run}
use Rattle.soft_index.specs.Compacting.{IsCurrentAfter, turns_over, waiting_behind}
use Rattle.soft_index.specs.Running.{HoldsRun}
use Rattle.soft_index.specs.Store.{current_of, log_facts, number, row_of, writer}
use Rattle.soft_index.specs.Sweeping.{AreToSweep, HasRunOver, HasSwept, RunsOver}
use Rattle.soft_index.proofs.Acting.{held_later}
use Rattle.soft_index.proofs.Carrying.{limit_same}
use Rattle.soft_index.proofs.Chaining.{acts_chain, acts_err, acts_ok}
use Rattle.soft_index.proofs.Ending.{counted_same}
use Rattle.soft_index.proofs.Indexing.{same_current}
use Rattle.soft_index.proofs.Lowered.{later_still}

-- one file more

turns_push : (files : Image) (done : List ℕ) (n : ℕ) → turns_over files (done ++ n ∷ []) ≡ turns_over files done + (counted_records files n + 2)
turns_push files done n = sum_by_push (λ k. counted_records files k + 2) done n

turns_within : (files : Image) (done : List ℕ) (n : ℕ) (rest : List ℕ) → turns_over files done + (counted_records files n + 2) ≤ turns_over files (done ++ n ∷ rest)
turns_within files done n rest =
    let each = λ (k : ℕ). counted_records files k + 2 in
    let split : turns_over files (done ++ n ∷ rest) ≡ turns_over files done + ((counted_records files n + 2) + turns_over files rest)
    = sum_by-append each done (n ∷ rest) ∙ ap (λ (m : ℕ). turns_over files done + m) (sum_by-cons each n rest) in
    omega (arith, split)

waiting_push : (limit : ℕ) (files : Image) (queued : ℕ) (done : List ℕ) (n : ℕ) → waiting_behind limit files queued (done ++ n ∷ []) ≡ min (counted_records files n) limit
waiting_push limit files queued [] n = refl
waiting_push limit files queued (m ∷ done) n = waiting_push limit files (min (counted_records files m) limit) done n

current_push : (done : List ℕ) (n : ℕ) (current now : Option ℕ) → IsSome now → IsCurrentAfter (done ++ n ∷ []) current now
current_push [] n current now some = some
current_push (m ∷ done) n current now some = some

contains_push : (done : List ℕ) (n m : ℕ) → Contains (done ++ n ∷ []) m → Contains done m ⊎ (m ≡ n)
contains_push done n m within = ⊎_elim inl (λ same. inr (sym same)) (Contains-push_cases done n m within)

contains_here : (done : List ℕ) (n : ℕ) (rest : List ℕ) → Contains (done ++ n ∷ rest) n
contains_here done n rest = Contains-append_right done (n ∷ rest) n (0, omega arith, refl)

-- each number of a rising list stands once
stands_once : (done : List ℕ) (n : ℕ) (rest : List ℕ) → AllPairs (λ x y. x < y) (done ++ n ∷ rest) → Contains done n → ⊥
stands_once [] n rest pairs within = omega (arith, within.1)
stands_once (m ∷ done) n rest pairs within =
    let head : All (λ y. m < y) (done ++ n ∷ rest) = λ k d l. pairs 0 (suc k) d (omega arith) (omega arith) in
    let less : m < n = All-contains (λ y. m < y) (done ++ n ∷ rest) n head (contains_here done n rest) in
    ⊎_elim (λ is. omega (arith, is, less)) (λ later. stands_once done n rest (λ i j d lt l. pairs (suc i) (suc j) d (omega arith) (omega arith)) later) (first_or_later m done n within)
  where
    first_or_later : (m : ℕ) (done : List ℕ) (n : ℕ) → Contains (m ∷ done) n → (m ≡ n) ⊎ Contains done n
    first_or_later m done n (zero, less, is) = inl is
    first_or_later m done n (suc k, less, is) = inr (k, omega arith, is)

-- the current file isn't one below it
apart_current : (log : Option Appender) (file n : ℕ) → n < file → current_of log file ≡ Some n → ⊥
apart_current None file n less is = cc
apart_current (Some log) file n less is = let same : file ≡ n = cc in absurd (omega (arith, same, less))

-- before the first file
pub swept_none : (S : CompactingStore) (a : HostState) (moment : ℕ) → S.log.parts.spoilt ≡ false → S.log.latest ≤ moment → S.run ≡ None → HoldsRun S.run S.log a
    → HasSwept [] S (record S { log = record S.log { latest = moment } }) a a moment (Ok tt)
swept_none S a moment sound late none held =
    let still = later_still S.log moment a a held.frames held.records held.log sound late (Stands-same a) in
    record {
      acts = still.acts;
      content = still.content;
      held = subst (λ (r : Option Run). HoldsRun r (record S.log { latest = moment }) a) none (held_later S.run S.log moment a a late (Stands-same a) held);
      made = omega arith;
      later = omega arith;
      gone = λ n within. absurd (omega (arith, within.1));
      others = λ n less apart. refl;
      rows = (length S.log.parts.requests.waiting, current_of (writer S.log) (number S.log), current_of (writer S.log) (number S.log), refl, refl, refl);
    }

-- Runs went over some files, and then one more run took place.
module _ (done : List ℕ) (n : ℕ) (S X T : CompactingStore) (a c d : HostState) (moment : ℕ) (swept : HasSwept done S X a c moment (Ok tt)) (same : SameStore (log_facts S.log) (log_facts X.log)) (less : n < number S.log) (other : Contains done n → ⊥) where
  stays : file_in c.files (log_name n) ≡ file_in a.files (log_name n)
  stays = swept.others n less other

  count : counted_records c.files n ≡ counted_records a.files n
  count = counted_same a.files c.files n stays

  -- it failed
  pub swept_failed : (rest : List ℕ) (f : StoreFault) → HasRunOver n X T c d moment (Err f) → HasSwept (done ++ n ∷ rest) S T a d moment (Err f)
  swept_failed rest f over = record {
    acts = acts_err {Q = Turned} {R = Unit {0}} S.log T.log a d moment f (acts_chain {Q = Unit {0}} {R = Turned} S.log X.log T.log a c d moment tt (Err f) same swept.content swept.acts over.acts);
    content = tt;
    held = tt;
    made = omega (arith, swept.made, over.made, count, turns_within a.files done n rest);
    later = tt;
    gone = tt;
    others = tt;
    rows = tt;
  }

  module _ (there : IsSome (file_in a.files (log_name n))) where
    closed : (queued : ℕ) (current : Option ℕ) → (log_facts X.log).parts ≡ row_of queued current → IsClosedFile c.files current n
    closed queued current rows = (
      subst (λ (f : Option (List ℕ)). IsSome f) (sym stays) there,
      λ is.
          apart_current (writer X.log) (number X.log) n (omega (arith, less, swept.later))
          (same_current (length X.log.parts.requests.waiting) queued (current_of (writer X.log) (number X.log)) current rows ∙ is),
    )

    done_rows : RunsOver X.log.parts.requests.limit c.files n Done (log_facts X.log).parts (log_facts T.log).parts
        → (now : Option ℕ) × IsSome now × ((log_facts T.log).parts ≡ row_of (min (counted_records a.files n) S.log.parts.requests.limit) now)
    done_rows (queued, current, now, before, is, some, after) =
        (now, some, after ∙ ap (λ (q : ℕ). row_of q now) (ap (λ (k : ℕ). min k X.log.parts.requests.limit) count ∙ ap (λ (k : ℕ). min (counted_records a.files n) k) (limit_same S.log X.log same)))

    -- it was done
    pub swept_more : (turned : Turned) → ((m : ℕ) → Contains done m → m < number S.log) → HasRunOver n X T c d moment (Ok turned) → HasSwept (done ++ n ∷ []) S T a d moment (Ok tt)
    swept_more Idle lower over = let rows = over.rows in absurd (rows.3 (closed rows.0 rows.1 rows.2))
    swept_more Done lower over =
        let rows = done_rows over.rows in
        record {
          acts = acts_ok {Q = Turned} {R = Unit {0}} S.log T.log a d moment Done tt (acts_chain {Q = Unit {0}} {R = Turned} S.log X.log T.log a c d moment tt (Ok Done) same swept.content swept.acts over.acts);
          content = λ key. over.content key ∙ swept.content key;
          held = over.held;
          made = omega (arith, swept.made, over.made, count, turns_push a.files done n);
          later = omega (arith, swept.later, over.files.later);
          gone = λ m within.
              ⊎_elim
              (λ before. over.files.below m (omega (arith, lower m before, swept.later)) (λ is. other (subst (λ (k : ℕ). Contains done k) is before)) ∙ swept.gone m before)
              (λ is. subst (λ (k : ℕ). file_in d.files (log_name k) ≡ None) (sym is) over.gone)
              (contains_push done n m within);
          others = λ m below apart.
              over.files.below m (omega (arith, below, swept.later)) (λ is. apart (subst (λ (k : ℕ). Contains (done ++ n ∷ []) k) (sym is) (contains_here done n []))) ∙ swept.others m below (λ within. apart (Contains-append_left done (n ∷ []) m within));
          rows = (
            swept.rows.0,
            swept.rows.1,
            rows.0,
            swept.rows.3,
            current_push done n swept.rows.1 rows.0 rows.1,
            rows.2 ∙ ap (λ (q : ℕ). row_of q rows.0) (sym (waiting_push S.log.parts.requests.limit a.files swept.rows.0 done n)),
          );
        }

-- what holds of the next file, and of those before it
pub record NextSwept (done : List ℕ) (n : ℕ) (S : LogStore) (files : Image) : Type 0 where
  pub less : n < number S
  pub there : IsSome (file_in files (log_name n))
  pub other : Contains done n → ⊥
  pub lower : (m : ℕ) → Contains done m → m < number S

pub next_swept : (all done : List ℕ) (n : ℕ) (rest : List ℕ) (S : LogStore) (files : Image) → AreToSweep all S files → all ≡ done ++ n ∷ rest → NextSwept done n S files
next_swept all done n rest S files to split =
    let here : Contains all n = subst (λ (l : List ℕ). Contains l n) (sym split) (contains_here done n rest) in
    record {
      less = to.closed n here;
      there = to.there n here;
      other = stands_once done n rest (AllPairs-from_increasing (done ++ n ∷ rest) (subst (λ (l : List ℕ). IsStrictlyIncreasing l) split to.ascend));
      lower = λ m within. to.closed m (subst (λ (l : List ℕ). Contains l m) (sym split) (Contains-append_left done (n ∷ rest) m within));
    }

-- runs went over all of them
pub swept_ended : (all done rest : List ℕ) (S X : CompactingStore) (a c : HostState) (moment : ℕ) → all ≡ done ++ rest → rest ≡ [] → HasSwept done S X a c moment (Ok tt) → HasSwept all S X a c moment (Ok tt)
swept_ended all done rest S X a c moment split empty swept = subst (λ (l : List ℕ). HasSwept l S X a c moment (Ok tt)) (sym (split ∙ ap (λ (l : List ℕ). done ++ l) empty ∙ append-nil done)) swept
