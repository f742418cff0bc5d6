-- What it is to a store that closed files are compacted whole, one by one or all of them.
use Rattle.std.specs.Prelude.{◌≡◌, ℕ, ◌+◌, ◌<◌, ◌≤◌, min, List, Contains, Option, Some, None, IsSome, Result, IfOk, OnOk}
use Rattle.std.specs.List.Sorted.{IsStrictlyIncreasing}
use Rattle.cache_model.specs.declared.faults.StoreFault.{StoreFault}
use Rattle.cache_model.specs.declared.replies.Turned.{Turned}
use Rattle.cache_model.specs.declared.replies.Turned.TheVariants.{Done, Idle}
use Rattle.cache_model.specs.Files.{Image, file_in}
use Rattle.cache_model.specs.Images.{log_name}
use Rattle.cache_disk.specs.State.{HostState}
use Rattle.cache_disk.specs.Calls.{AllLeft}
use Rattle.compactor.specs.Recounting.{IsClosedFile, counted_records}
use Rattle.store_trait.specs.Meaning.{Row}
use Rattle.store_trait.specs.Keeping.{SameContent}
use Rattle.store_trait.specs.Calls.{MayHaveRead}
use Rattle.soft_index.specs.declared.compacting.CompactingStore.{CompactingStore}
use Rattle.soft_index.specs.declared.log_store.LogStore.{LogStore}
use Rattle.soft_index.specs.Compacting.{CompactsAll, IsCurrentAfter, IsSwept, TurnsAll, turns_over, waiting_behind}
use Rattle.soft_index.specs.Running.{ActsOr, HoldsRun, KeepsFiles}
use Rattle.soft_index.specs.Store.{content_of, log_facts, number, row_of}
use Rattle.soft_index.specs.Turns.{MakesUpTo, run_facts}

-- How a run over a file moves the parts of the log, behind which as many requests wait as the file has records. It is idle
-- where the file isn't a closed one, and then the queue is emptied all the same.
abbrev pub RunsOver : ℕ → Image → ℕ → Turned → List Row → List Row → Type 0
RunsOver limit files file Done a b = (queued : ℕ) × (current : Option ℕ) × (now : Option ℕ) × (a ≡ row_of queued current) × IsClosedFile files current file × IsSome now × (b ≡ row_of (min (counted_records files file) limit) now)
RunsOver limit files file Idle a b = (queued : ℕ) × (current : Option ℕ) × (a ≡ row_of queued current) × (IsClosedFile files current file → ⊥) × (b ≡ row_of 0 current)

-- how many turns a run over a file takes
abbrev pub turns_by : Image → ℕ → Turned → ℕ
turns_by files file Done = counted_records files file + 2
turns_by files file Idle = 0

-- where the run was done its file is gone
abbrev pub IsGoneBy : ℕ → Image → Turned → Type 0
IsGoneBy file files Done = file_in files (log_name file) ≡ None
IsGoneBy file files Idle = Unit {0}

-- A run over a file took all its turns, or was idle: the content stays, and none is under way.
pub record HasRunOver (file : ℕ) (S T : CompactingStore) (a b : HostState) (moment : ℕ) (result : Result Turned StoreFault) : Type 0 where
  pub acts : ActsOr S.log T.log a b moment result
  pub content : OnOk result (SameContent (content_of S.log a.files) (content_of T.log b.files))
  pub held : OnOk result (HoldsRun None T.log b)
  pub made : MakesUpTo (counted_records a.files file + 2) S.log T.log
  pub files : OnOk result (KeepsFiles (Some file) S.log T.log a.files b.files)
  pub gone : IfOk result (IsGoneBy file b.files)
  pub turns : IfOk result (λ turned. MakesUpTo (turns_by a.files file turned) S.log T.log)
  pub rows : IfOk result (λ turned. RunsOver S.log.parts.requests.limit a.files file turned (log_facts S.log).parts (log_facts T.log).parts)

-- Runs may go over these files: each is there, below the current one, and stands once.
pub record AreToSweep (numbers : List ℕ) (S : LogStore) (files : Image) : Type 0 where
  pub ascend : IsStrictlyIncreasing numbers
  pub there : (n : ℕ) → Contains numbers n → IsSome (file_in files (log_name n))
  pub closed : (n : ℕ) → Contains numbers n → n < number S

-- how runs over files move the parts of the log
abbrev pub SweepsRows : ℕ → Image → List ℕ → List Row → List Row → Type 0
SweepsRows limit files numbers a b =
    (queued : ℕ) × (current : Option ℕ) × (now : Option ℕ) × (a ≡ row_of queued current) × IsCurrentAfter numbers current now × (b ≡ row_of (waiting_behind limit files queued numbers) now)

-- Runs went over these files, one by one: the content stays, the files are gone, and none is made in their place.
pub record HasSwept (numbers : List ℕ) (S T : CompactingStore) (a b : HostState) (moment : ℕ) (result : Result (Unit {0}) StoreFault) : Type 0 where
  pub acts : ActsOr S.log T.log a b moment result
  pub content : OnOk result (SameContent (content_of S.log a.files) (content_of T.log b.files))
  pub held : OnOk result (HoldsRun None T.log b)
  pub made : MakesUpTo (turns_over a.files numbers) S.log T.log
  pub later : OnOk result (number S.log ≤ number T.log)
  pub gone : OnOk result ((n : ℕ) → Contains numbers n → file_in b.files (log_name n) ≡ None)
  pub others : OnOk result ((n : ℕ) → n < number S.log → (Contains numbers n → ⊥) → file_in b.files (log_name n) ≡ file_in a.files (log_name n))
  pub rows : OnOk result (SweepsRows S.log.parts.requests.limit a.files numbers (log_facts S.log).parts (log_facts T.log).parts)

-- All files were compacted: the content stays, and none that was there is in any image that a crash may leave.
pub record HasCompactedAll (S T : CompactingStore) (a b : HostState) (moment : ℕ) (result : Result (Unit {0}) StoreFault) : Type 0 where
  pub acts : ActsOr S.log T.log a b moment result
  pub content : OnOk result (SameContent (content_of S.log a.files) (content_of T.log b.files))
  pub held : OnOk result (HoldsRun T.run T.log b)
  pub made : (mid : Image) × (turns : ℕ) × MayHaveRead a b mid × TurnsAll a.files mid (run_facts S).parts turns × MakesUpTo turns S.log T.log
  pub parts : OnOk result ((mid : Image) × (turns : ℕ) × MayHaveRead a b mid × CompactsAll S.log.parts.requests.limit a.files mid turns (run_facts S).parts (run_facts T).parts × MakesUpTo turns S.log T.log)
  pub swept : OnOk result (AllLeft b (IsSwept a.files))
