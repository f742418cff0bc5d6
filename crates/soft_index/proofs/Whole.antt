-- What it is to the store that a file is compacted whole.
use Rattle.std.proofs.Common.{◌≡◌, ℕ, ◌+◌, List, length, min, Option, Some, None, refl, sym, ◌∙◌, ap, subst, arith}
use Rattle.std.specs.Prelude.{Result, Ok, Err, IfOk, OnOk}
use Rattle.cache_model.specs.declared.faults.StoreFault.{StoreFault}
use Rattle.cache_model.specs.declared.replies.Turned.{Turned}
use Rattle.cache_model.specs.declared.replies.Turned.TheVariants.{Done, Idle}
use Rattle.cache_model.specs.Files.{Image}
use Rattle.cache_disk.specs.State.{HostState}
use Rattle.compactor.specs.Recounting.{counted_records}
use Rattle.store_trait.specs.Meaning.{Row}
use Rattle.store_trait.specs.Keeping.{SameStore}
use Rattle.store_trait.specs.Calls.{MayHaveRead}
use Rattle.soft_index.specs.declared.compacting.CompactingStore.{CompactingStore}
use Rattle.soft_index.specs.declared.running.Run.{Run}
use Rattle.soft_index.specs.Compacting.{CompactsFile, IsCurrentBehind, turns_left, with_run}
use Rattle.soft_index.specs.Running.{ActsOr, HoldsRun, run_of}
use Rattle.soft_index.specs.Store.{content_of, current_of, log_facts, number, row_of, writer}
use Rattle.soft_index.specs.Sweeping.{HasRunOver, RunsOver, turns_by}
use Rattle.soft_index.specs.Turns.{CompactedIn, EndsRows, HasCompacted, HasEnded, MakesUpTo, run_facts}
use Rattle.soft_index.proofs.Carrying.{limit_same}
use Rattle.soft_index.proofs.Chaining.{acts_chain, acts_err, content_chain}
use Rattle.soft_index.proofs.Indexing.{same_current}

-- the current file behind the end of a compaction
pub behind_by : (limit : ℕ) (files : Image) (s : Option Run) (q w : ℕ) (c n : Option ℕ) → EndsRows limit files s (row_of q c) (row_of w n) → IsCurrentBehind files (run_of s) c n
behind_by limit files None q w c n ends = same_current w q n c ends
behind_by limit files (Some run) q w c n (queued, current, now, rows, next, within, behind) =
    let was : current ≡ c = same_current queued q current c (sym rows) in
    let is : now ≡ n = same_current (min (counted_records files run.file) limit) w now n (sym next) in
    subst (λ (o : Option ℕ). IsCurrentBehind files (run_of (Some run)) o n) was (subst (λ (o : Option ℕ). IsCurrentBehind files (run_of (Some run)) current o) is behind)

-- the end of the compaction that was under way failed
pub whole_refused : (file : ℕ) (S X : CompactingStore) (a b : HostState) (moment : ℕ) (f : StoreFault) → b.left b.turn b.files → HasEnded S X a b moment (Err f) → HasCompacted file S X a b moment (Err f)
whole_refused file S X a b moment f now ended = record {
  acts = acts_err {Q = Unit {0}} {R = Turned} S.log X.log a b moment f ended.acts;
  content = tt;
  held = tt;
  made = (b.files, (b.turn, ended.acts.others.images.later, omega arith, now), omega (arith, ended.made));
  parts = tt;
}

-- how a run over a file moves the parts, behind the end of one that was under way
whole_rows : (limit : ℕ) (files mid : Image) (file : ℕ) (S X T : CompactingStore) (turned : Turned) → T.run ≡ None → IsCurrentBehind files (run_of S.run) (current_of (writer S.log) (number S.log)) (current_of (writer X.log) (number X.log))
    → RunsOver limit mid file turned (log_facts X.log).parts (log_facts T.log).parts
    → CompactsFile limit files mid file turned (turns_left files (run_of S.run) + turns_by mid file turned) (run_facts S).parts (run_facts T).parts
whole_rows limit files mid file S X T Done none behind (queued, current, now, before, closed, some, after) =
    let then : current_of (writer X.log) (number X.log) ≡ current = same_current (length X.log.parts.requests.waiting) queued (current_of (writer X.log) (number X.log)) current before in (
      length S.log.parts.requests.waiting,
      current_of (writer S.log) (number S.log),
      run_of S.run,
      current,
      now,
      refl,
      subst (λ (o : Option ℕ). IsCurrentBehind files (run_of S.run) (current_of (writer S.log) (number S.log)) o) then behind,
      closed,
      refl,
      some,
      ap (λ (r : Option Run). with_run (run_of r) (log_facts T.log).parts) none ∙ ap (λ (l : List Row). with_run None l) after,
    )
whole_rows limit files mid file S X T Idle none behind (queued, current, before, other, after) =
    let then : current_of (writer X.log) (number X.log) ≡ current = same_current (length X.log.parts.requests.waiting) queued (current_of (writer X.log) (number X.log)) current before in (
      length S.log.parts.requests.waiting,
      current_of (writer S.log) (number S.log),
      run_of S.run,
      current,
      refl,
      subst (λ (o : Option ℕ). IsCurrentBehind files (run_of S.run) (current_of (writer S.log) (number S.log)) o) then behind,
      other,
      omega arith,
      ap (λ (r : Option Run). with_run (run_of r) (log_facts T.log).parts) none ∙ ap (λ (l : List Row). with_run None l) after,
    )

-- The compaction that was under way had ended, and a run over a file took place or failed.
module _ (file : ℕ) (S X T : CompactingStore) (a b c : HostState) (moment : ℕ) (now : b.left b.turn b.files) (ended : HasEnded S X a b moment (Ok tt)) (same : SameStore (log_facts S.log) (log_facts X.log)) where
  behind : IsCurrentBehind a.files (run_of S.run) (current_of (writer S.log) (number S.log)) (current_of (writer X.log) (number X.log))
  behind = behind_by S.log.parts.requests.limit a.files S.run (length S.log.parts.requests.waiting) (length X.log.parts.requests.waiting) (current_of (writer S.log) (number S.log)) (current_of (writer X.log) (number X.log)) ended.rows

  pub whole_over : (result : Result Turned StoreFault) → OnOk result (T.run ≡ None) → HasRunOver file X T b c moment result → HasCompacted file S T a c moment result
  whole_over result none over = record {
    acts = acts;
    content = content_chain {R = Turned} (content_of S.log a.files) (content_of X.log b.files) (content_of T.log c.files) result ended.content over.content;
    held = held result none over.held;
    made = (b.files, read, omega (arith, ended.made, over.made));
    parts = parts result none over.turns over.rows;
  }
    where
      acts : ActsOr S.log T.log a c moment result
      acts = acts_chain {Q = Unit {0}} {R = Turned} S.log X.log T.log a b c moment tt result same ended.content ended.acts over.acts

      read : MayHaveRead a c b.files
      read = (b.turn, ended.acts.others.images.later, over.acts.others.images.later, over.acts.others.images.kept b.turn b.files (omega arith) now)

      held : (r : Result Turned StoreFault) → OnOk r (T.run ≡ None) → OnOk r (HoldsRun None T.log c) → OnOk r (HoldsRun T.run T.log c)
      held (Ok turned) none is = subst (λ (run : Option Run). HoldsRun run T.log c) (sym none) is
      held (Err f) none is = tt

      parts : (r : Result Turned StoreFault) → OnOk r (T.run ≡ None) → IfOk r (λ turned. MakesUpTo (turns_by b.files file turned) X.log T.log)
          → IfOk r (λ turned. RunsOver X.log.parts.requests.limit b.files file turned (log_facts X.log).parts (log_facts T.log).parts) → IfOk r (CompactedIn file S T a c)
      parts (Ok turned) none made rows = (
        b.files,
        turns_left a.files (run_of S.run) + turns_by b.files file turned,
        read,
        whole_rows S.log.parts.requests.limit a.files b.files file S X T turned none behind
            (subst (λ (n : ℕ). RunsOver n b.files file turned (log_facts X.log).parts (log_facts T.log).parts) (limit_same S.log X.log same) rows),
        omega (arith, ended.made, made),
      )
      parts (Err f) none made rows = tt
