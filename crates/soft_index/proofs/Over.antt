-- What it is to the store that a run over a closed file takes all its turns.
use Rattle.std.proofs.Common.{◌≡◌, ⊎_elim, ℕ, ◌+◌, min, Option, Some, None, IsSome, ◌∙◌, ap, subst, arith}
use Rattle.std.specs.Prelude.{Ok, Err}
use Rattle.cache_model.specs.declared.faults.StoreFault.{StoreFault}
use Rattle.cache_model.specs.declared.replies.Turned.{Turned}
use Rattle.cache_model.specs.declared.replies.Turned.TheVariants.{Done, Idle}
use Rattle.cache_model.specs.Files.{file_in}
use Rattle.cache_model.specs.Images.{log_name}
use Rattle.cache_disk.specs.State.{HostState}
use Rattle.compactor.specs.Recounting.{counted_records}
use Rattle.store_trait.specs.Keeping.{SameStore}
use Rattle.store_trait.specs.Calls.{DrawsNone}
use Rattle.soft_index.specs.declared.compacting.CompactingStore.{CompactingStore}
use Rattle.soft_index.specs.declared.log_store.LogStore.{LogStore}
use Rattle.soft_index.specs.declared.running.Run.{Run}
use Rattle.soft_index.specs.Compacting.{turns_left}
use Rattle.soft_index.specs.Running.{HasBegunOver, run_of}
use Rattle.soft_index.specs.Store.{log_facts, number, row_of}
use Rattle.soft_index.specs.Sweeping.{HasRunOver}
use Rattle.soft_index.specs.Turns.{HasEnded}
use Rattle.soft_index.proofs.Carrying.{limit_same}
use Rattle.soft_index.proofs.Chaining.{acts_chain, acts_err, acts_ok}
use Rattle.soft_index.proofs.Ending.{counted_same}

module _ (file : ℕ) (X : CompactingStore) (M : LogStore) (b c : HostState) (moment : ℕ) (draws : DrawsNone (log_facts X.log) (log_facts M)) where
  -- where it began failed
  pub over_begun_failed : (f : StoreFault) → HasBegunOver file X.log M b c moment (Err f) → HasRunOver file X (record X { log = M }) b c moment (Err f)
  over_begun_failed f over = record {
    acts = acts_err {Q = Option Run} {R = Turned} X.log M b c moment f over.acts;
    content = tt;
    held = tt;
    made = omega (arith, draws.made);
    files = tt;
    gone = tt;
    turns = tt;
    rows = tt;
  }

  -- the file isn't a closed one
  pub over_idle : number M ≡ number X.log → HasBegunOver file X.log M b c moment (Ok None) → HasRunOver file X (record X { log = M }) b c moment (Ok Idle)
  over_idle numbers over = record {
    acts = acts_ok {Q = Option Run} {R = Turned} X.log M b c moment None Idle over.acts;
    content = over.content;
    held = over.held;
    made = omega (arith, draws.made);
    files = record { later = omega (arith, numbers); below = λ n less apart. over.still.files (log_name n) };
    gone = tt;
    turns = omega (arith, draws.made);
    rows = (over.rows.0, over.rows.1, over.rows.2, over.rows.4, over.rows.3);
  }

  module _ (run : Run) (T : CompactingStore) (d : HostState) (numbers : number M ≡ number X.log) (over : HasBegunOver file X.log M b c moment (Ok (Some run))) (same : SameStore (log_facts X.log) (log_facts M)) where
    count : counted_records c.files file ≡ counted_records b.files file
    count = counted_same b.files c.files file (over.still.files (log_name file))

    run_count : counted_records c.files run.file ≡ counted_records c.files file
    run_count = ap (λ (n : ℕ). counted_records c.files n) over.rows.5

    all : turns_left c.files (run_of (Some run)) ≡ counted_records b.files file + 2
    all = omega (arith, over.rows.6, run_count, count)

    -- its turns failed
    pub over_failed : (f : StoreFault) → HasEnded (record X { log = M; run = Some run }) T c d moment (Err f) → HasRunOver file X T b d moment (Err f)
    over_failed f last = record {
      acts = acts_err {Q = Unit {0}} {R = Turned} X.log T.log b d moment f (acts_chain {Q = Option Run} {R = Unit {0}} X.log M T.log b c d moment (Some run) (Err f) same over.content over.acts last.acts);
      content = tt;
      held = tt;
      made = omega (arith, draws.made, last.made, all);
      files = tt;
      gone = tt;
      turns = tt;
      rows = tt;
    }

    -- all its turns were taken
    pub over_done : HasEnded (record X { log = M; run = Some run }) T c d moment (Ok tt) → HasRunOver file X T b d moment (Ok Done)
    over_done last = record {
      acts = acts_ok {Q = Unit {0}} {R = Turned} X.log T.log b d moment tt Done (acts_chain {Q = Option Run} {R = Unit {0}} X.log M T.log b c d moment (Some run) (Ok tt) same over.content over.acts last.acts);
      content = λ key. last.content key ∙ over.content key;
      held = last.held;
      made = omega (arith, draws.made, last.made, all);
      files = record {
        later = omega (arith, numbers, last.files.later);
        below = λ n less apart. last.files.below n (omega (arith, numbers, less)) (λ is. apart (is ∙ over.rows.5)) ∙ over.still.files (log_name n);
      };
      gone = subst (λ (n : ℕ). file_in d.files (log_name n) ≡ None) over.rows.5 last.gone;
      turns = omega (arith, draws.made, last.made, all);
      rows = (
        over.rows.0,
        over.rows.1,
        last.rows.2,
        over.rows.2,
        over.rows.4,
        some,
        last.rows.4 ∙ ap (λ (q : ℕ). row_of q last.rows.2) (ap (λ (n : ℕ). min n M.parts.requests.limit) (run_count ∙ count) ∙ ap (λ (n : ℕ). min (counted_records b.files file) n) (limit_same X.log M same)),
      );
    }
      where
        some : IsSome last.rows.2
        some = ⊎_elim (λ is. is) (λ first. absurd (omega (arith, first.0, over.rows.6))) last.rows.6
