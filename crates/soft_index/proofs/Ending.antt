-- How a compaction that is under way comes to its end.
use Rattle.std.proofs.Common.{◌≡◌, ◌⊎◌, ⊎_elim, inl, inr, ℕ, ◌+◌, ◌-◌, ◌≤◌, ◌<◌, false, List, [], min, Option, Some, None, IsSome, refl, sym, ◌∙◌, ap, subst, arith}
use Rattle.std.specs.Prelude.{Ok, Err, count_by, unwrap_or}
use Rattle.cache_model.specs.declared.faults.StoreFault.{StoreFault}
use Rattle.cache_model.specs.declared.replies.Turned.{Turned}
use Rattle.cache_model.specs.Files.{Image, file_in}
use Rattle.cache_model.specs.DataFiles.{counted_items}
use Rattle.cache_model.specs.Images.{log_name}
use Rattle.cache_disk.specs.State.{HostState}
use Rattle.cache_disk.proofs.Runs.{Stands-same}
use Rattle.compactor.specs.Recounting.{counted_records, is_record}
use Rattle.store_trait.specs.Meaning.{Row}
use Rattle.store_trait.specs.Keeping.{SameContent, SameStore}
use Rattle.soft_index.specs.declared.compacting.CompactingStore.{CompactingStore}
use Rattle.soft_index.specs.declared.running.Run.{Run}
use Rattle.soft_index.specs.Compacting.{TakesAction, turns_left}
use Rattle.soft_index.specs.Copied.{MakesFile}
use Rattle.soft_index.specs.Running.{ActsOr, ActsRows, HoldsRun, IsApart, KeepsFile, KeepsFiles, file_of, run_of, turns_done}
use Rattle.soft_index.specs.Store.{content_of, log_facts, row_of}
use Rattle.soft_index.specs.Turns.{EndsRows, HasEnded, HasGoneOn, IsGone, MakesUpTo}
use Rattle.soft_index.proofs.Acting.{held_later}
use Rattle.soft_index.proofs.Carrying.{limit_same}
use Rattle.soft_index.proofs.Chaining.{acts_chain, acts_err, acts_ok}
use Rattle.soft_index.proofs.Indexing.{same_current}
use Rattle.soft_index.proofs.Lowered.{later_still}
use Rattle.soft_index.proofs.RunRows.{done_within}

-- how many records a file has goes by its bytes
pub counted_same : (files later : Image) (file : ℕ) → file_in later (log_name file) ≡ file_in files (log_name file) → counted_records later file ≡ counted_records files file
counted_same files later file same = ap (λ (f : Option (List ℕ)). count_by (λ one. is_record one.1) (counted_items (unwrap_or f []))) same

-- A compaction of a file with so many records goes on behind so many turns: at its first turn the current file is as it was,
-- and behind the stamp there is one.
pub record GoesOn (count first done : ℕ) (current now : Option ℕ) : Type 0 where
  pub within : done ≤ count + 1
  pub current_is : ((done ≡ first) × (now ≡ current)) ⊎ ((first < done) × (done ≡ count + 1 → IsSome now))

-- how the parts of the log went from where a compaction was to where it is, or has ended
abbrev pub GoesTo : ℕ → Image → Image → Option Run → Option Run → List Row → List Row → Type 0
GoesTo limit files later None None rows next = next ≡ rows
GoesTo limit files later None (Some x) rows next = ⊥
GoesTo limit files later (Some run) None rows next = EndsRows limit files (Some run) rows next
GoesTo limit files later (Some run) (Some x) rows next =
    (x.file ≡ run.file) × (counted_records later run.file ≡ counted_records files run.file)
    × (queued : ℕ) × (current : Option ℕ) × (waiting : ℕ) × (now : Option ℕ) × (rows ≡ row_of queued current) × (next ≡ row_of waiting now)
    × GoesOn (counted_records files run.file) (turns_done run) (turns_done x) current now

-- the file of a compaction that goes on has as many records as before
abbrev pub KeepsCount : Run → Option Run → Image → Image → Type 0
KeepsCount x None later after = Unit {0}
KeepsCount x (Some y) later after = counted_records after x.file ≡ counted_records later x.file

-- A compaction went on by so many turns.
pub record HasGone (S X : CompactingStore) (a c : HostState) (moment : ℕ) : Type 0 where
  pub acts : ActsOr {R = Unit {0}} S.log X.log a c moment (Ok tt)
  pub content : SameContent (content_of S.log a.files) (content_of X.log c.files)
  pub held : HoldsRun X.run X.log c
  pub turns : ℕ
  pub made : MakesUpTo turns S.log X.log
  pub left : turns + turns_left c.files (run_of X.run) ≡ turns_left a.files (run_of S.run)
  pub goes : GoesTo S.log.parts.requests.limit a.files c.files S.run X.run (log_facts S.log).parts (log_facts X.log).parts
  pub files : KeepsFiles (file_of S.run) S.log X.log a.files c.files
  pub gone : X.run ≡ None → IsGone S.run c.files

-- where there is none, nothing has to be gone
none_gone : (run : Option Run) (files : Image) → run ≡ None → IsGone run files
none_gone None files none = tt
none_gone (Some run) files none = cc

-- a compaction goes on over its file
apart_on : (limit : ℕ) (files later : Image) (s : Option Run) (x : Run) (rows mid : List Row) → GoesTo limit files later s (Some x) rows mid → (n : ℕ) → IsApart (file_of s) n → n ≡ x.file → ⊥
apart_on limit files later None x rows mid goes n apart = absurd goes
apart_on limit files later (Some run) x rows mid goes n apart = λ is. apart (is ∙ goes.0)

-- behind its last turn that is gone
gone_on : (limit : ℕ) (files later after : Image) (s : Option Run) (x : Run) (rows mid : List Row) → GoesTo limit files later s (Some x) rows mid → file_in after (log_name x.file) ≡ None → IsGone s after
gone_on limit files later after None x rows mid goes none = tt
gone_on limit files later after (Some run) x rows mid goes none = subst (λ (n : ℕ). file_in after (log_name n) ≡ None) goes.0 none

-- by none
starts : (limit : ℕ) (files : Image) (run : Option Run) (queued : ℕ) (current : Option ℕ) → ((one : Run) → run ≡ Some one → turns_done one ≤ counted_records files one.file + 1) → GoesTo limit files files run run (row_of queued current) (row_of queued current)
starts limit files None queued current within = refl
starts limit files (Some run) queued current within = (refl, refl, queued, current, queued, current, refl, refl, record { within = within run refl; current_is = inl (refl, refl) })

pub gone_none : (S : CompactingStore) (a : HostState) (moment : ℕ) → S.log.parts.spoilt ≡ false → S.log.latest ≤ moment → HoldsRun S.run S.log a → HasGone S (record S { log = record S.log { latest = moment } }) a a moment
gone_none S a moment sound late held =
    let still = later_still S.log moment a a held.frames held.records held.log sound late (Stands-same a) in
    record {
      acts = still.acts;
      content = still.content;
      held = held_later S.run S.log moment a a late (Stands-same a) held;
      turns = 0;
      made = omega arith;
      left = omega arith;
      goes = starts S.log.parts.requests.limit a.files S.run _ _ (within S.run held);
      files = record { later = omega arith; below = λ n less apart. refl };
      gone = none_gone S.run a.files;
    }
  where
    within : (run : Option Run) → HoldsRun run S.log a → (one : Run) → run ≡ Some one → turns_done one ≤ counted_records a.files one.file + 1
    within None held one is = cc
    within (Some run) held one is =
        let same : run ≡ one = cc in
        subst (λ (r : Run). turns_done r ≤ counted_records a.files r.file + 1) same (done_within run S.log a.files held.frames held.records held.runs)

-- what stays of the file where a compaction goes on
keeps_count : (x : Run) (next : Option Run) (c d : HostState) → KeepsFile x next c d → KeepsCount x next c.files d.files
keeps_count x None c d keeps = tt
keeps_count x (Some y) c d keeps = counted_same c.files d.files x.file keeps

-- by one turn more, of the last action,
goes_end : (limit : ℕ) (files later after : Image) (run x : Run) (rows mid new : List Row) → GoesTo limit files later (Some run) (Some x) rows mid → ActsRows limit (counted_records later x.file) x None mid new
    → EndsRows limit files (Some run) rows new × (1 ≡ counted_records later x.file + 2 - turns_done x)
goes_end limit files later after run x rows mid new (file, same, queued, current, waiting, now, is_rows, is_mid, on) (w, c, l, n, mid_is, new_is, action) = by action
  where
    count : counted_records later x.file ≡ counted_records files run.file
    count = ap (λ (k : ℕ). counted_records later k) file ∙ same

    now_is : c ≡ now
    now_is = same_current w waiting c now (sym mid_is ∙ is_mid)

    by : TakesAction limit x.file (counted_records later x.file) (turns_done x) w c l n None → EndsRows limit files (Some run) rows new × (1 ≡ counted_records later x.file + 2 - turns_done x)
    by (inl looks) = cc
    by (inr (inl marks)) = cc
    by (inr (inr (done, waits, stays, none))) = (
      (
        queued,
        current,
        n,
        is_rows,
        new_is ∙ ap (λ (k : ℕ). row_of k n) (waits ∙ ap (λ (k : ℕ). min k limit) count),
        first on.current_is,
        behind on.current_is,
      ),
      omega (arith, done),
    )
      where
        last : turns_done x ≡ counted_records files run.file + 1
        last = omega (arith, done, count)

        first : ((turns_done x ≡ turns_done run) × (now ≡ current)) ⊎ ((turns_done run < turns_done x) × (turns_done x ≡ counted_records files run.file + 1 → IsSome now)) → turns_done run ≤ counted_records files run.file + 1
        first (inl at) = omega (arith, at.0, last)
        first (inr beyond) = omega (arith, beyond.0, last)

        behind : ((turns_done x ≡ turns_done run) × (now ≡ current)) ⊎ ((turns_done run < turns_done x) × (turns_done x ≡ counted_records files run.file + 1 → IsSome now))
            → IsSome n ⊎ ((turns_done run ≡ counted_records files run.file + 1) × (n ≡ current))
        behind (inl at) = inr (omega (arith, at.0, last), stays ∙ now_is ∙ at.1)
        behind (inr beyond) = inl (subst (λ (o : Option ℕ). IsSome o) (sym (stays ∙ now_is)) (beyond.1 last))

-- and of one behind which it goes on
goes_further : (limit : ℕ) (files later after : Image) (run x y : Run) (rows mid new : List Row) → GoesTo limit files later (Some run) (Some x) rows mid → ActsRows limit (counted_records later x.file) x (Some y) mid new
    → counted_records after x.file ≡ counted_records later x.file
    → GoesTo limit files after (Some run) (Some y) rows new × (1 + (counted_records after y.file + 2 - turns_done y) ≡ counted_records later x.file + 2 - turns_done x)
goes_further limit files later after run x y rows mid new (file, same, queued, current, waiting, now, is_rows, is_mid, on) (w, c, l, n, mid_is, new_is, action) kept = by action
  where
    count : counted_records later x.file ≡ counted_records files run.file
    count = ap (λ (k : ℕ). counted_records later k) file ∙ same

    further : ◌≡◌ {A = Option (ℕ × ℕ)} (Some (y.file, turns_done y)) (Some (x.file, turns_done x + 1)) → turns_done x ≤ counted_records later x.file → (turns_done x ≡ counted_records later x.file → IsSome n)
        → GoesTo limit files after (Some run) (Some y) rows new × (1 + (counted_records after y.file + 2 - turns_done y) ≡ counted_records later x.file + 2 - turns_done x)
    further goes within some =
        let new_run : ℕ × ℕ = (y.file, turns_done y) in
        let old_run : ℕ × ℕ = (x.file, turns_done x + 1) in
        let pair : new_run ≡ old_run = cc in
        let file_is : y.file ≡ x.file = ap (λ (p : ℕ × ℕ). p.0) pair in
        let done_is : turns_done y ≡ turns_done x + 1 = ap (λ (p : ℕ × ℕ). p.1) pair in
        let first : turns_done run ≤ turns_done x = ⊎_elim (λ at. omega (arith, at.0)) (λ beyond. omega (arith, beyond.0)) on.current_is in
        let count_is : counted_records after y.file ≡ counted_records later x.file = ap (λ (k : ℕ). counted_records after k) file_is ∙ kept in (
          (
            file_is ∙ file,
            ap (λ (k : ℕ). counted_records after k) (sym file) ∙ kept ∙ count,
            queued,
            current,
            l,
            n,
            is_rows,
            new_is,
            record { within = omega (arith, done_is, within, count); current_is = inr (omega (arith, done_is, first), λ last. some (omega (arith, last, done_is, count))) },
          ),
          omega (arith, count_is, done_is, within),
        )

    by : TakesAction limit x.file (counted_records later x.file) (turns_done x) w c l n (Some (y.file, turns_done y))
        → GoesTo limit files after (Some run) (Some y) rows new × (1 + (counted_records after y.file + 2 - turns_done y) ≡ counted_records later x.file + 2 - turns_done x)
    by (inl (less, looks, goes)) = further goes (omega (arith, less)) (λ all. absurd (omega (arith, less, all)))
    by (inr (inl (all, waits, some, goes))) = further goes (omega (arith, all)) (λ is. some)
    by (inr (inr ends)) = cc

-- each turn is one of those that are left
pub goes_step : (limit : ℕ) (files later after : Image) (s : Option Run) (x : Run) (next : Option Run) (rows mid new : List Row) → GoesTo limit files later s (Some x) rows mid → ActsRows limit (counted_records later x.file) x next mid new
    → KeepsCount x next later after
    → GoesTo limit files after s next rows new × (1 + turns_left after (run_of next) ≡ turns_left later (run_of (Some x)))
goes_step limit files later after None x next rows mid new goes acts keeps = absurd goes
goes_step limit files later after (Some run) x None rows mid new goes acts keeps = let end = goes_end limit files later after run x rows mid new goes acts in (end.0, omega (arith, end.1))
goes_step limit files later after (Some run) x (Some y) rows mid new goes acts keeps = goes_further limit files later after run x y rows mid new goes acts keeps

-- and one is left
left_some : (limit : ℕ) (files later : Image) (s : Option Run) (x : Run) (rows mid : List Row) → GoesTo limit files later s (Some x) rows mid → 1 ≤ turns_left later (run_of (Some x))
left_some limit files later None x rows mid goes = absurd goes
left_some limit files later (Some run) x rows mid (file, same, queued, current, waiting, now, is_rows, is_mid, on) =
    let count : counted_records later x.file ≡ counted_records files run.file = ap (λ (k : ℕ). counted_records later k) file ∙ same in
    omega (arith, count, on.within)

-- where it has ended
goes_ended : (limit : ℕ) (files later : Image) (s : Option Run) (rows new : List Row) → GoesTo limit files later s None rows new → EndsRows limit files s rows new
goes_ended limit files later None rows new goes = goes
goes_ended limit files later (Some run) rows new goes = goes

module _ (S X : CompactingStore) (a c : HostState) (moment : ℕ) (gone : HasGone S X a c moment) (same : SameStore (log_facts S.log) (log_facts X.log)) where
  module _ (T : CompactingStore) (d : HostState) (x : Run) (taken : Option Run) (under : X.run ≡ Some x) where
    before : GoesTo S.log.parts.requests.limit a.files c.files S.run (Some x) (log_facts S.log).parts (log_facts X.log).parts
    before = subst (λ (r : Option Run). GoesTo S.log.parts.requests.limit a.files c.files S.run r (log_facts S.log).parts (log_facts X.log).parts) under gone.goes

    left : gone.turns + turns_left c.files (run_of (Some x)) ≡ turns_left a.files (run_of S.run)
    left = subst (λ (r : Option Run). gone.turns + turns_left c.files (run_of r) ≡ turns_left a.files (run_of S.run)) under gone.left

    pub gone_more : (turned : Turned) → MakesFile {R = Turned} X.log T.log (Ok turned) → HasGoneOn x (record X { run = taken }) T c d moment (Ok turned) → HasGone S T a d moment
    gone_more turned makes on =
        let rows = subst (λ (n : ℕ). ActsRows n (counted_records c.files x.file) x T.run (log_facts X.log).parts (log_facts T.log).parts) (limit_same S.log X.log same) on.rows in
        let step = goes_step S.log.parts.requests.limit a.files c.files d.files S.run x T.run (log_facts S.log).parts (log_facts X.log).parts (log_facts T.log).parts before rows (keeps_count x T.run c d on.stays) in
        record {
          acts = acts_ok {Q = Turned} {R = Unit {0}} S.log T.log a d moment turned tt (acts_chain {Q = Unit {0}} {R = Turned} S.log X.log T.log a c d moment tt (Ok turned) same gone.content gone.acts on.acts);
          content = λ key. on.content key ∙ gone.content key;
          held = on.held;
          turns = gone.turns + 1;
          made = omega (arith, gone.made, makes.made);
          left = omega (arith, left, step.1);
          goes = step.0;
          files = record {
            later = omega (arith, gone.files.later, on.files.later);
            below = λ n less apart.
                on.files.below n (omega (arith, less, gone.files.later)) (apart_on S.log.parts.requests.limit a.files c.files S.run x (log_facts S.log).parts (log_facts X.log).parts before n apart) ∙ gone.files.below n less apart;
          };
          gone = λ none.
              gone_on S.log.parts.requests.limit a.files c.files d.files S.run x (log_facts S.log).parts (log_facts X.log).parts before (subst (λ (r : Option Run). KeepsFile x r c d) none on.stays);
        }

    pub gone_failed : (f : StoreFault) → MakesFile {R = Turned} X.log T.log (Err f) → HasGoneOn x (record X { run = taken }) T c d moment (Err f) → HasEnded S T a d moment (Err f)
    gone_failed f makes on = record {
      acts = acts_err {Q = Turned} {R = Unit {0}} S.log T.log a d moment f (acts_chain {Q = Unit {0}} {R = Turned} S.log X.log T.log a c d moment tt (Err f) same gone.content gone.acts on.acts);
      content = tt;
      held = tt;
      made = omega (arith, gone.made, makes.made, left, left_some S.log.parts.requests.limit a.files c.files S.run x (log_facts S.log).parts (log_facts X.log).parts before);
      files = tt;
      gone = tt;
      rows = tt;
    }

  pub gone_ended : X.run ≡ None → HasEnded S X a c moment (Ok tt)
  gone_ended none = record {
    acts = gone.acts;
    content = gone.content;
    held = subst (λ (r : Option Run). HoldsRun r X.log c) none gone.held;
    made = omega (arith, gone.made, subst (λ (r : Option Run). gone.turns + turns_left c.files (run_of r) ≡ turns_left a.files (run_of S.run)) none gone.left);
    files = gone.files;
    gone = gone.gone none;
    rows = goes_ended S.log.parts.requests.limit a.files c.files S.run (log_facts S.log).parts (log_facts X.log).parts
        (subst (λ (r : Option Run). GoesTo S.log.parts.requests.limit a.files c.files S.run r (log_facts S.log).parts (log_facts X.log).parts) none gone.goes);
  }
