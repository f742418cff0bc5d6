-- What a store stands for that has a compaction under way, or none.
use Rattle.std.specs.Prelude.{◌≡◌, ℕ, ◌+◌, ◌≤◌, min, List, [], ◌∷◌, Option, Some, None, Result, IfOk, OnOk}
use Rattle.cache_model.specs.declared.faults.StoreFault.{StoreFault}
use Rattle.cache_model.specs.declared.replies.Turned.{Turned}
use Rattle.cache_model.specs.declared.replies.Turned.TheVariants.{Idle}
use Rattle.cache_model.specs.Files.{Image, file_in}
use Rattle.cache_model.specs.Images.{log_name}
use Rattle.cache_disk.specs.State.{HostState}
use Rattle.compactor.specs.Recounting.{counted_records}
use Rattle.store_trait.specs.Meaning.{Row, StoreFacts, StoreState}
use Rattle.store_trait.specs.Keeping.{SameContent}
use Rattle.soft_index.specs.declared.compacting.CompactingStore.{CompactingStore}
use Rattle.store_trait.specs.Calls.{MayHaveRead}
use Rattle.soft_index.specs.Compacting.{ByRun, CompactsAll, CompactsBy, CompactsFile, IsCurrentBehind, IsSwept, TurnsAll, turns_left, with_run}
use Rattle.soft_index.specs.Copied.{MakesFile}
use Rattle.soft_index.specs.declared.running.Run.{Run}
use Rattle.soft_index.specs.Running.{ActsOr, ActsRows, HoldsRun, KeepsFile, KeepsFiles, MayGoOn, file_of, run_of, turns_done}
use Rattle.soft_index.specs.Steps.{StepsIn}
use Rattle.soft_index.specs.Store.{IsUsable, MakesRoom, Queues, content_of, log_facts, log_means, next_file, next_of, number, row_of, writer}
use Rattle.soft_index.specs.declared.log_store.LogStore.{LogStore}

-- how many turns the compaction of a file takes at the most, behind one that is under way
abbrev pub turns_for : Image → Image → ℕ → List Row → ℕ
turns_for files mid file [] = 0
turns_for files mid file (row ∷ rows) = turns_left files row.run + (counted_records mid file + 2)

-- what is known of it whatever the host tells: its parts have the run
abbrev pub run_facts : CompactingStore → StoreFacts
run_facts store = record (log_facts store.log) {
  usable = IsUsable store.log × MayGoOn store.run;
  parts = with_run (run_of store.run) (log_facts store.log).parts;
  moves = λ change a b. ByRun (Queues store.log.parts.requests.limit) a b;
  room = λ a b. ByRun (MakesRoom store.log.parts.requests.limit) a b;
  steps = λ files kind turned a b. StepsIn store.log.parts.requests.limit store.threshold files kind turned a b;
  compacts = λ files mid file turned turns a b. CompactsFile store.log.parts.requests.limit files mid file turned turns a b;
  turns = turns_for;
  compacts_all = λ files mid turns a b. CompactsAll store.log.parts.requests.limit files mid turns a b;
  turns_all = TurnsAll;
  sweeps = IsSwept;
}

-- what it stands for on a host that tells its contents: what its log does, and it holds the run
abbrev pub run_means : CompactingStore → HostState → StoreState
run_means store state = record (log_means store.log state) { stands = HoldsRun store.run store.log state }

-- An action of a compaction was taken: the content stays, and the store has the compaction that goes on, or none.
pub record HasGoneOn (run : Run) (S T : CompactingStore) (a b : HostState) (moment : ℕ) (result : Result Turned StoreFault) : Type 0 where
  pub acts : ActsOr S.log T.log a b moment result
  pub content : OnOk result (SameContent (content_of S.log a.files) (content_of T.log b.files))
  pub held : OnOk result (HoldsRun T.run T.log b)
  pub stays : OnOk result (KeepsFile run T.run a b)
  pub files : OnOk result (KeepsFiles (Some run.file) S.log T.log a.files b.files)
  pub rows : OnOk result (ActsRows S.log.parts.requests.limit (counted_records a.files run.file) run T.run (log_facts S.log).parts (log_facts T.log).parts)

-- A turn of a compaction was taken: the content stays, and the parts moved by it.
pub record HasTurned (S T : CompactingStore) (a b : HostState) (moment : ℕ) (result : Result Turned StoreFault) : Type 0 where
  pub acts : ActsOr S.log T.log a b moment result
  pub content : OnOk result (SameContent (content_of S.log a.files) (content_of T.log b.files))
  pub held : OnOk result (HoldsRun T.run T.log b)
  pub rows : IfOk result (λ turned. CompactsBy S.log.parts.requests.limit S.threshold a.files turned (run_facts S).parts (run_facts T).parts)

-- It takes no sequence number, and makes one file at the most, and none where it is idle.
pub record TurnMakes (S T : LogStore) (result : Result Turned StoreFault) : Type 0 where
  pub makes : MakesFile S T result
  pub idle : IfOk result (λ turned. turned ≡ Idle → next_file (writer T) (number T) ≤ next_file (writer S) (number S))

-- No sequence number is taken. Files may be made.
pub record TakesNoNumber {R : Type 0} (S T : LogStore) (result : Result R StoreFault) : Type 0 where
  pub next : next_of T ≡ next_of S
  pub file : OnOk result (number S ≤ number T)

-- How the end of a compaction that is under way moves the parts of the log: behind its last turn as many requests wait as
-- its file has records, as far as the queue has room.
abbrev pub EndsRows : ℕ → Image → Option Run → List Row → List Row → Type 0
EndsRows limit files None a b = b ≡ a
EndsRows limit files (Some run) a b =
    (queued : ℕ) × (current : Option ℕ) × (now : Option ℕ) × (a ≡ row_of queued current) × (b ≡ row_of (min (counted_records files run.file) limit) now)
    × (turns_done run ≤ counted_records files run.file + 1) × IsCurrentBehind files (run_of (Some run)) current now

-- how many files the end of a compaction makes at the most
abbrev pub MakesUpTo : ℕ → LogStore → LogStore → Type 0
MakesUpTo turns S T = next_file (writer T) (number T) ≤ next_file (writer S) (number S) + turns

-- the file of a compaction is gone
abbrev pub IsGone : Option Run → Image → Type 0
IsGone None files = Unit {0}
IsGone (Some run) files = file_in files (log_name run.file) ≡ None

-- The compaction that was under way has ended: the content stays, and it took all its turns.
pub record HasEnded (S T : CompactingStore) (a b : HostState) (moment : ℕ) (result : Result (Unit {0}) StoreFault) : Type 0 where
  pub acts : ActsOr S.log T.log a b moment result
  pub content : OnOk result (SameContent (content_of S.log a.files) (content_of T.log b.files))
  pub held : OnOk result (HoldsRun None T.log b)
  pub made : MakesUpTo (turns_left a.files (run_of S.run)) S.log T.log
  pub files : OnOk result (KeepsFiles (file_of S.run) S.log T.log a.files b.files)
  pub gone : OnOk result (IsGone S.run b.files)
  pub rows : OnOk result (EndsRows S.log.parts.requests.limit a.files S.run (log_facts S.log).parts (log_facts T.log).parts)

-- how the compaction of a file moved the parts, and how many files it made at the most
abbrev pub CompactedIn : ℕ → CompactingStore → CompactingStore → HostState → HostState → Turned → Type 0
CompactedIn file S T a b turned =
    (mid : Image) × (turns : ℕ) × MayHaveRead a b mid × CompactsFile S.log.parts.requests.limit a.files mid file turned turns (run_facts S).parts (run_facts T).parts × MakesUpTo turns S.log T.log

-- A file was compacted, behind the compaction that was under way: the content stays.
pub record HasCompacted (file : ℕ) (S T : CompactingStore) (a b : HostState) (moment : ℕ) (result : Result Turned StoreFault) : Type 0 where
  pub acts : ActsOr S.log T.log a b moment result
  pub content : OnOk result (SameContent (content_of S.log a.files) (content_of T.log b.files))
  pub held : OnOk result (HoldsRun T.run T.log b)
  pub made : (mid : Image) × MayHaveRead a b mid × MakesUpTo (turns_for a.files mid file (run_facts S).parts) S.log T.log
  pub parts : IfOk result (CompactedIn file S T a b)
