-- What a count of the files is to the store.
use Rattle.std.proofs.Common.{◌≡◌, inl, inr, ℕ, ◌≤◌, true, false, List, [], length, None, refl, sym, ap, ◌∙◌, arith}
use Rattle.std.specs.Prelude.{Result, Ok, Err, IsErrOf}
use Rattle.cache_model.specs.declared.faults.StoreFault.{StoreFault}
use Rattle.cache_model.specs.declared.faults.StoreFault.TheVariants as fault
use Rattle.cache_model.specs.declared.faults.Spent.{Spent}
use Rattle.cache_model.specs.declared.faults.Damage.{Damage}
use Rattle.cache_model.specs.Items.{Item}
use Rattle.cache_model.specs.DataFiles.{Frame}
use Rattle.cache_disk.specs.State.{HostState}
use Rattle.cache_disk.specs.State as disk
use Rattle.cache_disk.proofs.Runs.{Stands-moves, Stands-silent}
use Rattle.append_log.specs.declared.log_files.LogFiles.{LogFiles}
use Rattle.append_log.specs.Current.{files_of, number_of, writer_of}
use Rattle.data_file.proofs.Frame.{placed_of}
use Rattle.temporary_table.specs.declared.requests.Request.{Request}
use Rattle.compactor.specs.Counting.{Kept, counts_in}
use Rattle.compactor.specs.Indexing.{AreIndexed}
use Rattle.compactor.specs.Recounting.{totals_of}
use Rattle.store_trait.specs.Keeping.{SameContent}
use Rattle.store_trait.specs.Calls.{Acts, Figured}
use Rattle.soft_index.specs.declared.log_store.LogStore.{LogStore}
use Rattle.soft_index.specs.Counted.{AreCounted}
use Rattle.soft_index.specs.Store.{LogStands, content_of, current_of, log_facts, log_means, number, row_of, writer}
use Rattle.soft_index.proofs.Changes.{still_leaves}
use Rattle.soft_index.proofs.Images.{call_acts}
use Rattle.soft_index.proofs.Indexing.{indexed_content, indexed_stands}
use Rattle.soft_index.proofs.Recounted.{recounted, rows_recounted}
use Rattle.soft_index.proofs.There.{there_by}

-- The index was told of requests, all or some of them, and nothing else was done. Where it failed, the store is spoilt.
module _ (S T : LogStore) (a b : HostState) (frames : List Frame) (records : List Item) (moment : ℕ)
    (stands : LogStands S a frames records)
    (sound : S.parts.spoilt ≡ false) (late : S.latest ≤ moment) (latest : T.latest ≡ moment)
    (still : disk.Stands a b) where
  abbrev kept : Kept
  kept = record { number = number S; items = placed_of frames records; files = a.files }

  emptied_acts : {R : Type 0} (result : Result R StoreFault)
      → (T.parts.spoilt ≡ false → LogStands T b frames records) → (T.parts.spoilt ≡ false → SameContent (content_of S a.files) (content_of T b.files))
      → ((d : Damage) → IsErrOf result (fault.Damaged d) → ⊥) → ((s : Spent) → IsErrOf result (fault.Spent s) → ⊥)
      → (IsErrOf result fault.Memory → T.parts.spoilt ≡ false → ⊥)
      → Acts (log_facts S) (log_facts T) (log_means S a) (log_means T b) a b moment (content_of S a.files) result
  emptied_acts result now content damaged unspent refused =
      call_acts S T a b frames records moment (content_of S a.files) (λ d c. ⊥) stands (Stands-moves a b (λ d c. ⊥) still) (λ d c left none. absurd none) sound late latest (λ unspoilt. inr (content unspoilt))
      result (still_leaves a b still) (Stands-silent a b still)
      (λ unspoilt. (frames, records, now unspoilt))
      damaged (λ s err. absurd (unspent s err)) (λ err unspoilt. absurd (refused err unspoilt))

  -- the files are counted, once nothing waits
  pub figured : (figures : ℕ × ℕ × ℕ) → files_of T.parts.log ≡ files_of S.parts.log
      → AreIndexed (counts_in kept) T.parts → AreCounted kept T.parts → T.parts.requests.waiting ≡ []
      → figures ≡ totals_of T.parts.stats.rows
      → Figured (log_facts S) (log_facts T) (log_means S a) (log_means T b) a b moment (Ok figures)
  figured figures files indexed counted empty totals =
      let now : LogStands T b frames records = indexed_stands S T a b frames records stands files (λ is there. indexed) counted still (omega (arith, late, latest)) in
      let content = indexed_content S T a b frames records stands now files still in
      let there = there_by S a frames records stands.log stands.named in
      let rows = rows_recounted kept a.files T.parts.table T.parts.tree T.parts.requests.waiting indexed there empty T.parts refl counted in
      record {
        acts = emptied_acts (Ok figures) (λ unspoilt. now) (λ unspoilt. content) (λ d err. cc) (λ s err. cc) (λ err. cc);
        content = λ key. inl (content key);
        marks = λ key r m may. inl (content key);
        parts = (
          length S.parts.requests.waiting,
          current_of (writer S) (number S),
          None,
          refl,
          (T.parts.stats.rows, recounted S a frames records T.parts.stats.rows stands rows, totals),
          ap (λ (f : LogFiles). row_of (length T.parts.requests.waiting) (current_of (writer_of f) (number_of f))) files
              ∙ ap (λ (w : List Request). row_of (length w) (current_of (writer S) (number S))) empty,
        );
      }

  -- or they aren't
  pub figures_failed : (f : StoreFault) → T.parts.spoilt ≡ true → ((d : Damage) → IsErrOf {T = ℕ × ℕ × ℕ} (Err f) (fault.Damaged d) → ⊥) → ((s : Spent) → IsErrOf {T = ℕ × ℕ × ℕ} (Err f) (fault.Spent s) → ⊥)
      → Figured (log_facts S) (log_facts T) (log_means S a) (log_means T b) a b moment (Err f)
  figures_failed f spoilt damaged unspent = record {
    acts = emptied_acts (Err f) (λ unspoilt. let no : true ≡ false = sym spoilt ∙ unspoilt in cc) (λ unspoilt. let no : true ≡ false = sym spoilt ∙ unspoilt in cc) damaged unspent
        (λ err unspoilt. let no : true ≡ false = sym spoilt ∙ unspoilt in cc);
    content = tt;
    marks = tt;
    parts = tt;
  }
