-- A compaction that is under way, and what its turns do to what a store holds.
use Rattle.std.specs.Prelude.{◌≡◌, ◌⊎◌, ℕ, ◌+◌, ◌≤◌, ◌<◌, true, false, List, [], ◌++◌, Contains, filter, length, map, Option, Some, None, IsSome, Result, Ok, Err, IfOk, OnOk, if◌then◌else◌}
use Rattle.cache_model.specs.declared.faults.StoreFault.{StoreFault}
use Rattle.cache_model.specs.Files.{Image, IsFileName, bytes_in, file_in}
use Rattle.cache_model.specs.Items.{Item, end}
use Rattle.cache_model.specs.DataFiles.{Frame, counted_items, found_in}
use Rattle.cache_model.specs.Images.{IsNoNewer, key_of, log_name, sequence_of}
use Rattle.cache_disk.specs.State.{HostState, Stands}
use Rattle.data_file.proofs.Frame.{placed_of}
use Rattle.data_file.specs.declared.scan.Scan.{Scan}
use Rattle.data_file.specs.Scanning.{IsScanOf, is_spoilt, left_of, rest_of, scanned_name}
use Rattle.compactor.specs.Counting.{Counts, IsNewestBy}
use Rattle.compactor.specs.Passing.{IsSoundRest, records_left}
use Rattle.compactor.specs.Recounting.{IsCandidateOf, IsClosedFile, counted_records, is_record}
use Rattle.store_trait.specs.Meaning.{Row}
use Rattle.store_trait.specs.Keeping.{SameContent}
use Rattle.store_trait.specs.Calls.{Acts}
use Rattle.soft_index.specs.declared.running.Run.{Run}
use Rattle.soft_index.specs.declared.log_store.LogStore.{LogStore}
use Rattle.soft_index.specs.Compacting.{TakesAction}
use Rattle.soft_index.specs.Compacting as parts
use Rattle.soft_index.specs.Growing.{HasGrown}
use Rattle.soft_index.specs.Store.{Holds, LogStands, Queues, content_of, log_facts, log_means, number, row_of}

-- how many turns were done: one for each record that was looked at, and one for the stamp
abbrev pub turns_done : Run → ℕ
turns_done run = length run.looked.items + (if run.is_stamped then 1 else 0)

-- the compaction, as the parts of a store name it
abbrev pub run_of : Option Run → parts.Run
run_of None = None
run_of (Some run) = Some (run.file, turns_done run)

-- It may go on.
pub record IsUsableRun (run : Run) : Type 0 where
  pub sound : is_spoilt run.scan ≡ false
  pub scans : scanned_name run.scan ≡ log_name run.file
  pub name : IsFileName (log_name run.file)

-- where there is one it may go on
abbrev pub MayGoOn : Option Run → Type 0
MayGoOn None = Unit {0}
MayGoOn (Some run) = IsUsableRun run

-- how many actions of a compaction are left at the most, whatever the host tells
abbrev pub due_of : Option Run → ℕ
due_of None = 0
due_of (Some run) = 1 + (if run.is_stamped then 0 else 1 + left_of run.scan)

-- It was begun over a file.
pub record IsBegun (file : ℕ) (run : Run) : Type 0 where
  pub usable : IsUsableRun run
  pub file_is : run.file ≡ file
  pub none : run.looked.items ≡ []
  pub unstamped : run.is_stamped ≡ false

-- a file isn't there, or it is there and a compaction has all of it to read
abbrev pub BeginsOn : Image → ℕ → Option Run → Type 0
BeginsOn files file None = file_in files (log_name file) ≡ None
BeginsOn files file (Some run) =
    IsSome (file_in files (log_name file)) × IsScanOf run.scan (bytes_in files (log_name file)) × (rest_of run.scan (bytes_in files (log_name file)) ≡ found_in (bytes_in files (log_name file)))

-- a record in a file is outdone: another file has one of its key that is no older
abbrev pub IsOutdoneIn : Counts → List ℕ → ℕ → ℕ → Item → Type 0
IsOutdoneIn counts key file at item =
    (n : ℕ) × (a : ℕ) × (other : Item) × counts n a other × (key_of other ≡ Some key) × (n ≡ file → ⊥) × IsNoNewer (sequence_of item, file, at) (sequence_of other, n, a)

-- The file could go: of what counts, each record in it is outdone, and another file has a frame whose moment is no earlier
-- than that of each frame in it.
pub record IsNeedless (counts : Counts) (file : ℕ) : Type 0 where
  pub outdone : (key : List ℕ) (at : ℕ) (item : Item) → counts file at item → key_of item ≡ Some key → IsOutdoneIn counts key file at item
  pub stamped : ℕ
  pub at : ℕ
  pub moment : ℕ
  pub stamp : counts stamped at (end moment)
  pub elsewhere : stamped ≡ file → ⊥
  pub latest : (a m : ℕ) → counts file a (end m) → m ≤ moment

-- the records of a data file, each with its offset
abbrev pub records_of : Image → ℕ → List (ℕ × Item)
records_of files file = filter (λ one. is_record one.1) (counted_items (bytes_in files (log_name file)))

-- A scan goes on over a data file, behind these records.
pub record ReadsOn (scan : Scan) (files : Image) (file : ℕ) (read : List (ℕ × Item)) : Type 0 where
  pub scans : IsScanOf scan (bytes_in files (log_name file))
  pub rest : IsSoundRest scan (bytes_in files (log_name file))
  pub records_are : records_of files file ≡ read ++ records_left scan (bytes_in files (log_name file))

-- A compaction of a file of a store that holds these: the file is a closed one, and no record of it that was looked at is
-- its key's newest. The scan goes on behind these. Once the log was stamped all were looked at, and of what is sealed the
-- file could go.
pub record RunStands (run : Run) (S : LogStore) (files : Image) (frames : List Frame) (records : List Item) : Type 0 where
  pub there : IsSome (file_in files (log_name run.file))
  pub closed : run.file ≡ number S → ⊥
  pub looked : List (ℕ × Item)
  pub keys : map (λ one. key_of one.1) looked ≡ map (λ key. Some key) run.looked.items
  pub passed : (key : List ℕ) (at : ℕ) (item : Item) → Contains looked (at, item) → IsNewestBy (Holds (number S) (placed_of frames records) files) key run.file at item → ⊥
  pub reads : run.is_stamped ≡ false → ReadsOn run.scan files run.file looked
  pub stamped : run.is_stamped ≡ true → (records_of files run.file ≡ looked) × IsNeedless (Holds (number S) (placed_of frames []) files) run.file

-- A compaction before its next record is read, and after: its scan has gone on.
pub record HasRead (was now : Run) (files : Image) : Type 0 where
  pub file : now.file ≡ was.file
  pub looked : now.looked.items ≡ was.looked.items
  pub unstamped : was.is_stamped ≡ false
  pub still : now.is_stamped ≡ false
  pub scans : IsScanOf now.scan (bytes_in files (log_name was.file))
  pub rest : IsSoundRest now.scan (bytes_in files (log_name was.file))

-- where there is a compaction, it is one of the store
abbrev pub RunsOn : Option Run → LogStore → Image → List Frame → List Item → Type 0
RunsOn None S files frames records = Unit {0}
RunsOn (Some run) S files frames records = RunStands run S files frames records

-- a store that may be used no more
abbrev pub spoil : LogStore → LogStore
spoil store = record store { parts = record store.parts { spoilt = true } }

-- the store behind a call: after a fault it may be used no more
abbrev pub behind : {R : Type 0} → Result R StoreFault → LogStore → LogStore
behind (Ok x) store = store
behind (Err f) store = spoil store

-- what a call is to the store that keeps the content, where each fault of it spoils the store
abbrev pub ActsOr : {R : Type 0} → LogStore → LogStore → HostState → HostState → ℕ → Result R StoreFault → Type 0
ActsOr S T a b moment result = Acts (log_facts S) (log_facts (behind result T)) (log_means S a) (log_means (behind result T) b) a b moment (content_of S a.files) result

-- A call wrote nothing: the content stays, and what the store held it holds.
pub record IsStill {R : Type 0} (S T : LogStore) (a b : HostState) (frames : List Frame) (records : List Item) (moment : ℕ) (result : Result R StoreFault) : Type 0 where
  pub acts : ActsOr S T a b moment result
  pub content : OnOk result (SameContent (content_of S a.files) (content_of T b.files))
  pub kept : OnOk result (LogStands T b frames records)

-- A record of the compacted file was looked at: the content stays, and of what the store holds then the record isn't its
-- key's newest.
pub record HasLooked {R : Type 0} (S T : LogStore) (a b : HostState) (frames : List Frame) (records : List Item) (moment file at : ℕ) (item : Item) (result : Result R StoreFault) : Type 0 where
  pub acts : ActsOr S T a b moment result
  pub content : OnOk result (SameContent (content_of S a.files) (content_of T b.files))
  pub passed : OnOk result ((grown : HasGrown S T a.files b frames records) × ((key : List ℕ) → IsNewestBy (Holds (number T) (placed_of grown.fs grown.rs) b.files) key file at item → ⊥))

-- how it moves the parts: not at all, or as a change does
abbrev pub LooksRows : ℕ → List Row → List Row → Type 0
LooksRows limit a b = (b ≡ a) ⊎ Queues limit a b

-- what a store holds, with a compaction that goes on or with none; there is no file with the number 0
pub record HoldsRun (run : Option Run) (S : LogStore) (state : HostState) : Type 0 where
  pub frames : List Frame
  pub records : List Item
  pub log : LogStands S state frames records
  pub runs : RunsOn run S state.files frames records
  pub zero : file_in state.files (log_name 0) ≡ None

-- how an action of a compaction moves the parts of the log, of a file with so many records
abbrev pub ActsRows : ℕ → ℕ → Run → Option Run → List Row → List Row → Type 0
ActsRows limit count run next a b =
    (waiting : ℕ) × (current : Option ℕ) × (left : ℕ) × (now : Option ℕ) × (a ≡ row_of waiting current) × (b ≡ row_of left now) × TakesAction limit run.file count (turns_done run) waiting current left now (run_of next)

-- the file of a compaction that goes on stays as it reads, and that of one that has ended is gone
abbrev pub KeepsFile : Run → Option Run → HostState → HostState → Type 0
KeepsFile run None a b = file_in b.files (log_name run.file) ≡ None
KeepsFile run (Some next) a b = file_in b.files (log_name run.file) ≡ file_in a.files (log_name run.file)

-- a number other than that of a compaction's file
abbrev pub IsApart : Option ℕ → ℕ → Type 0
IsApart None n = Unit {0}
IsApart (Some file) n = n ≡ file → ⊥

-- the file of a compaction, where there is one
abbrev pub file_of : Option Run → Option ℕ
file_of None = None
file_of (Some run) = Some run.file

-- Each file below the current one stays as it reads, but for that of a compaction, and no file is made there.
pub record KeepsFiles (file : Option ℕ) (S T : LogStore) (before after : Image) : Type 0 where
  pub later : number S ≤ number T
  pub below : (n : ℕ) → n < number S → IsApart file n → file_in after (log_name n) ≡ file_in before (log_name n)

-- An action of a compaction: the content stays, and the compaction goes on as it says, or has ended.
pub record HasActed (run : Run) (S T : LogStore) (a b : HostState) (moment : ℕ) (result : Result (Option Run) StoreFault) : Type 0 where
  pub acts : ActsOr S T a b moment result
  pub content : OnOk result (SameContent (content_of S a.files) (content_of T b.files))
  pub held : IfOk result (λ next. HoldsRun next T b)
  pub stays : IfOk result (λ next. KeepsFile run next a b)
  pub files : OnOk result (KeepsFiles (Some run.file) S T a.files b.files)
  pub rows : IfOk result (λ next. ActsRows S.parts.requests.limit (counted_records a.files run.file) run next (log_facts S).parts (log_facts T).parts)

-- how the beginning of a compaction of a file moves the parts of the log: the queue is emptied, and the file is a closed one,
-- or there is no compaction
abbrev pub BeginsOverRows : Image → ℕ → Option Run → List Row → List Row → Type 0
BeginsOverRows files file None a b = (queued : ℕ) × (current : Option ℕ) × (a ≡ row_of queued current) × (b ≡ row_of 0 current) × (IsClosedFile files current file → ⊥)
BeginsOverRows files file (Some run) a b = (queued : ℕ) × (current : Option ℕ) × (a ≡ row_of queued current) × (b ≡ row_of 0 current) × IsClosedFile files current file × (run.file ≡ file) × (turns_done run ≡ 0)

-- how the beginning of a compaction moves the parts of the log: the queue is emptied, and the file is the candidate, or there
-- is none
abbrev pub BeginsRows : ℕ → Image → Option Run → List Row → List Row → Type 0
BeginsRows threshold files None a b = (queued : ℕ) × (current : Option ℕ) × (a ≡ row_of queued current) × (b ≡ row_of 0 current) × IsCandidateOf files current threshold None
BeginsRows threshold files (Some run) a b = (queued : ℕ) × (current : Option ℕ) × (a ≡ row_of queued current) × (b ≡ row_of 0 current) × IsCandidateOf files current threshold (Some run.file) × (turns_done run ≡ 0)

-- A compaction of the candidate was begun, or there is no candidate. Nothing was written.
pub record HasBegun (threshold : ℕ) (S T : LogStore) (a b : HostState) (moment : ℕ) (result : Result (Option Run) StoreFault) : Type 0 where
  pub acts : ActsOr S T a b moment result
  pub content : OnOk result (SameContent (content_of S a.files) (content_of T b.files))
  pub held : IfOk result (λ next. HoldsRun next T b)
  pub files : (n : ℕ) → file_in b.files (log_name n) ≡ file_in a.files (log_name n)
  pub rows : IfOk result (λ next. BeginsRows threshold a.files next (log_facts S).parts (log_facts T).parts)

-- A compaction of a file was begun, or it isn't a closed one. Nothing was written.
pub record HasBegunOver (file : ℕ) (S T : LogStore) (a b : HostState) (moment : ℕ) (result : Result (Option Run) StoreFault) : Type 0 where
  pub acts : ActsOr S T a b moment result
  pub content : OnOk result (SameContent (content_of S a.files) (content_of T b.files))
  pub held : IfOk result (λ next. HoldsRun next T b)
  pub still : Stands a b
  pub rows : IfOk result (λ next. BeginsOverRows a.files file next (log_facts S).parts (log_facts T).parts)
