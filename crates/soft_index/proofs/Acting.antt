-- What an action of a compaction is to the store.
use Rattle.std.proofs.Common.{◌≡◌, ℕ, ◌≤◌, true, false, List, [], ◌∷◌, length, min, Option, Some, None, IsSome, refl, sym, ◌∙◌, ap, subst, arith}
use Rattle.std.specs.Prelude.{Result, Ok, Err, IfOk, OnOk, MatchOption, count_by, unwrap_or}
use Rattle.cache_model.specs.declared.faults.StoreFault.{StoreFault}
use Rattle.cache_model.specs.declared.files.FileName.{FileName}
use Rattle.cache_model.specs.Files.{bytes_in, file_in}
use Rattle.cache_model.specs.DataFiles.{counted_items}
use Rattle.cache_model.specs.Images.{log_name}
use Rattle.cache_disk.specs.State.{HostState}
use Rattle.cache_disk.specs.State as disk
use Rattle.append_log.specs.declared.log_files.LogFiles.{LogFiles}
use Rattle.append_log.specs.Current.{files_of, next_file, next_file_of, number_of, writer_of}
use Rattle.record_format.specs.Meaning.{own_item}
use Rattle.data_file.specs.declared.scan.Scan.{Scan}
use Rattle.data_file.specs.declared.scan.Scanned.{Scanned}
use Rattle.data_file.specs.Scanning.{IsScanOf, scanned_name}
use Rattle.compactor.specs.Passing.{IsSoundRest, Passes, records_left}
use Rattle.compactor.specs.Recounting.{counted_records, is_record}
use Rattle.store_trait.specs.Keeping.{SameStore}
use Rattle.store_trait.proofs.Runs.{store_trans}
use Rattle.soft_index.specs.declared.log_store.LogStore.{LogStore}
use Rattle.soft_index.specs.declared.running.Run.{Run}
use Rattle.soft_index.specs.RunLaws.{runs_on}
use Rattle.soft_index.specs.Running.{ActsOr, ActsRows, HasActed, HasRead, HoldsRun, IsStill, KeepsFile, KeepsFiles}
use Rattle.soft_index.specs.Store.{content_of, current_of, log_facts, number, row_of, writer}
use Rattle.soft_index.specs.Taken.{IsTakenIn}
use Rattle.soft_index.proofs.Carrying.{limit_same}
use Rattle.soft_index.proofs.Chaining.{acts_chain, acts_ok, content_chain}
use Rattle.soft_index.proofs.Changes.{as_was, still_stands}
use Rattle.soft_index.proofs.Growing.{grows_still}
use Rattle.soft_index.proofs.Images.{other_name}
use Rattle.soft_index.proofs.Indexing.{same_current}
use Rattle.soft_index.proofs.Lowered.{later_still, latest_same}
use Rattle.soft_index.proofs.RunRows.{reclaimed_rows}

-- a compaction stands on where nothing was written and the moment is later
pub held_later : (run : Option Run) (S : LogStore) (moment : ℕ) (a b : HostState) → S.latest ≤ moment → disk.Stands a b → HoldsRun run S a → HoldsRun run (record S { latest = moment }) b
held_later run S moment a b late still held =
    let T : LogStore = record S { latest = moment } in
    let kept = as_was S T a.files b.files refl (refl, refl, refl) refl (λ n. still.files (log_name n)) in
    let holds = still_stands S T a b held.frames held.records held.log kept late still in
    let grown = grows_still S T a b held.frames held.records refl still holds in
    record { frames = held.frames; records = held.records; log = holds; runs = runs_on run S T a b held.frames held.records grown held.runs; zero = still.files (log_name 0) ∙ held.zero }

-- an action that failed
pub acted_failed : (run : Run) (S T : LogStore) (a b : HostState) (moment : ℕ) (f : StoreFault) → ActsOr {R = Option Run} S T a b moment (Err f) → HasActed run S T a b moment (Err f)
acted_failed run S T a b moment f acts = record { acts = acts; content = tt; held = tt; stays = tt; files = tt; rows = tt }

-- an action behind a read
pub acted_later : (run : Run) (S T : LogStore) (a b c : HostState) (moment : ℕ) (result : Result (Option Run) StoreFault) → S.parts.spoilt ≡ false → S.latest ≤ moment → disk.Stands a b → HoldsRun (Some run) S a
    → HasActed run (record S { latest = moment }) T b c moment result → HasActed run S T a c moment result
acted_later run S T a b c moment result sound late still held acted =
    let M : LogStore = record S { latest = moment } in
    let before = later_still S moment a b held.frames held.records held.log sound late still in
    record {
      acts = acts_chain {Q = Unit {0}} S M T a b c moment tt result (latest_same S moment) before.content before.acts acted.acts;
      content = content_chain (content_of S a.files) (content_of M b.files) (content_of T c.files) result before.content acted.content;
      held = acted.held;
      stays = kept result acted.stays;
      files = on result acted.files;
      rows = by result acted.rows;
    }
  where
    same : counted_records b.files run.file ≡ counted_records a.files run.file
    same = ap (λ (f : Option (List ℕ)). count_by (λ one. is_record one.1) (counted_items (unwrap_or f []))) (still.files (log_name run.file))

    kept : (r : Result (Option Run) StoreFault) → IfOk r (λ next. KeepsFile run next b c) → IfOk r (λ next. KeepsFile run next a c)
    kept (Ok None) is = is
    kept (Ok (Some next)) is = is ∙ still.files (log_name run.file)
    kept (Err f) is = tt

    on : (r : Result (Option Run) StoreFault) → OnOk r (KeepsFiles (Some run.file) (record S { latest = moment }) T b.files c.files) → OnOk r (KeepsFiles (Some run.file) S T a.files c.files)
    on (Ok next) is = record { later = is.later; below = λ n less apart. is.below n less apart ∙ still.files (log_name n) }
    on (Err f) is = tt

    by : (r : Result (Option Run) StoreFault) → IfOk r (λ next. ActsRows S.parts.requests.limit (counted_records b.files run.file) run next (log_facts S).parts (log_facts T).parts)
        → IfOk r (λ next. ActsRows S.parts.requests.limit (counted_records a.files run.file) run next (log_facts S).parts (log_facts T).parts)
    by (Ok next) rows = subst (λ (n : ℕ). ActsRows S.parts.requests.limit n run next (log_facts S).parts (log_facts T).parts) same rows
    by (Err f) rows = tt

-- the current file goes by the log
pub current_by_files : (S T : LogStore) → files_of T.parts.log ≡ files_of S.parts.log → current_of (writer T) (number T) ≡ current_of (writer S) (number S)
current_by_files S T files = ap (λ (F : LogFiles). current_of (writer_of F) (number_of F)) files

-- and so does the number of the next file
pub next_by_files : (S T : LogStore) → files_of T.parts.log ≡ files_of S.parts.log → next_file (writer T) (number T) ≡ next_file_of (files_of S.parts.log)
next_by_files S T files = ap (λ (F : LogFiles). next_file (writer_of F) (number_of F)) files

-- The queue was emptied, the file taken away, and the counts of its keys lowered.
pub reclaimed : (run : Run) (S M N T : LogStore) (a b c d : HostState) (moment : ℕ) → (held : HoldsRun (Some run) S a) → run.is_stamped ≡ true
    → SameStore (log_facts S) (log_facts M) → files_of M.parts.log ≡ files_of S.parts.log → disk.Stands a b → IsStill {R = Unit {0}} S M a b held.frames held.records moment (Ok tt)
    → SameStore (log_facts M) (log_facts N) → (log_facts N).parts ≡ (log_facts M).parts → IsTakenIn {R = Unit {0}} M N b c held.frames held.records run.file moment (Ok tt)
    → files_of T.parts.log ≡ files_of N.parts.log → length T.parts.requests.waiting ≡ min (length run.looked.items) N.parts.requests.limit → disk.Stands c d → IsStill {R = Unit {0}} N T c d held.frames held.records moment (Ok tt)
    → HasActed run S T a d moment (Ok None)
reclaimed run S M N T a b c d moment held stamped same first_log first_still first same_taken rows taken last_log queued last_still last = record {
  acts = acts_ok {Q = Unit {0}} {R = Option Run} S T a d moment tt None
      (acts_chain {Q = Unit {0}} {R = Unit {0}} S M T a b d moment tt (Ok tt) same first.content first.acts
      (acts_chain {Q = Unit {0}} {R = Unit {0}} M N T b c d moment tt (Ok tt) same_taken taken.content taken.acts last.acts));
  content = content_chain {R = Option Run} (content_of S a.files) (content_of M b.files) (content_of T d.files) (Ok None) first.content
      (content_chain {R = Option Run} (content_of M b.files) (content_of N c.files) (content_of T d.files) (Ok None) taken.content last.content);
  held = record { frames = held.frames; records = held.records; log = last.kept; runs = tt; zero = zero };
  stays = last_still.files (log_name run.file) ∙ taken.gone;
  files = record {
    later = omega (arith, ap (λ (F : LogFiles). number_of F) last_log, ap (λ (F : LogFiles). number_of F) first_log, taken.current);
    below = λ n less apart. last_still.files (log_name n) ∙ taken.others (log_name n) (other_name run.file n apart) ∙ first_still.files (log_name n);
  };
  rows = reclaimed_rows S.parts.requests.limit run S a.files held.frames held.records (length S.parts.requests.waiting) (length T.parts.requests.waiting) (current_of (writer S) (number S)) (log_facts T).parts held.runs stamped
      (queued ∙ ap (λ (n : ℕ). min (length run.looked.items) n) limits) (ap (λ (c : Option ℕ). row_of (length T.parts.requests.waiting) c) current);
}
  where
    limits : N.parts.requests.limit ≡ S.parts.requests.limit
    limits = limit_same S N (store_trans (log_facts S) (log_facts M) (log_facts N) same same_taken)

    current : current_of (writer T) (number T) ≡ current_of (writer S) (number S)
    current =
        current_by_files N T last_log
        ∙ same_current (length N.parts.requests.waiting) (length M.parts.requests.waiting) (current_of (writer N) (number N)) (current_of (writer M) (number M)) rows
        ∙ current_by_files S M first_log

    nonzero : 0 ≡ run.file → ⊥
    nonzero is =
        let some = subst (λ (n : ℕ). IsSome (file_in a.files (log_name n))) (sym is) held.runs.there in
        let no : false ≡ true = subst (λ (f : Option (List ℕ)). IsSome f) held.zero some in
        cc

    zero : file_in d.files (log_name 0) ≡ None
    zero = last_still.files (log_name 0) ∙ taken.others (log_name 0) (other_name run.file 0 nonzero) ∙ first_still.files (log_name 0) ∙ held.zero

-- nothing that a compaction has still to look at is damaged
pub read_sound : (was : Run) (a : HostState) → scanned_name was.scan ≡ log_name was.file → was.is_stamped ≡ false → {S : LogStore} → HoldsRun (Some was) S a → IsSoundRest was.scan (bytes_in a.files (scanned_name was.scan))
read_sound was a named unstamped held = subst (λ (name : FileName). IsSoundRest was.scan (bytes_in a.files name)) (sym named) (held.runs.reads unstamped).rest

-- the records that a compaction has still to look at are read on from, where its file reads as before
pub read_on : (was : Run) (scan : Scan) (a b : HostState) (found : Option Scanned) → scanned_name was.scan ≡ log_name was.file → was.is_stamped ≡ false → {S : LogStore} → HoldsRun (Some was) S a
    → Passes was.scan scan a b (Ok found)
    → HasRead was (record was { scan = scan }) b.files
    × MatchOption found (records_left was.scan (bytes_in b.files (log_name was.file)) ≡ [])
    (λ one. records_left was.scan (bytes_in b.files (log_name was.file)) ≡ (one.place.at, own_item one.item) ∷ records_left scan (bytes_in b.files (log_name was.file)))
read_on was scan a b found named unstamped held passes = (
  record {
    file = refl;
    looked = refl;
    unstamped = unstamped;
    still = unstamped;
    scans = at (λ bytes. IsScanOf scan bytes) passes.scans;
    rest = at (λ bytes. IsSoundRest scan bytes) (passes.sound sound);
  },
  at (λ bytes. MatchOption found (records_left was.scan bytes ≡ []) (λ one. records_left was.scan bytes ≡ (one.place.at, own_item one.item) ∷ records_left scan bytes)) passes.given,
)
  where
    same : bytes_in b.files (log_name was.file) ≡ bytes_in a.files (log_name was.file)
    same = ap (λ (f : Option (List ℕ)). unwrap_or f []) (passes.stands.files (log_name was.file))

    at : (P : List ℕ → Type 0) → P (bytes_in a.files (scanned_name was.scan)) → P (bytes_in b.files (log_name was.file))
    at P here = subst P (sym same) (subst (λ (name : FileName). P (bytes_in a.files name)) named here)

    sound : IsSoundRest was.scan (bytes_in a.files (scanned_name was.scan))
    sound = read_sound was a named unstamped held
