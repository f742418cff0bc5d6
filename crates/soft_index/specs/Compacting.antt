-- How compaction and counting move the parts of the store.
use Rattle.std.specs.Prelude.{◌≡◌, ◌⊎◌, ◌↔◌, ℕ, ◌+◌, ◌-◌, ◌<◌, min, List, [], ◌∷◌, map, sum_by, Contains, Option, Some, None, IsSome}
use Rattle.std.specs.List.Sorted.{IsStrictlyIncreasing}
use Rattle.cache_model.specs.declared.replies.Turned.{Turned}
use Rattle.cache_model.specs.declared.replies.Turned.TheVariants.{Done, Idle}
use Rattle.cache_model.specs.Files.{Image, file_in}
use Rattle.cache_model.specs.Images.{log_name}
use Rattle.compactor.specs.Recounting.{IsCandidateOf, IsRecount, IsClosedFile, counted_records}
use Rattle.store_trait.specs.Meaning.{Row}

-- the file under compaction and the turns done, where there is one
abbrev pub Run : Type 0
Run = Option (ℕ × ℕ)

-- the parts of the store: how many requests wait for the index, the current file, and the run
abbrev pub row_with : ℕ → Option ℕ → Run → List Row
row_with queued current run = record { queued = queued; pending = []; current = current; run = run } ∷ []

-- one part, with this run
abbrev pub row_under : Run → Row → Row
row_under run row = record row { run = run }

-- the parts, with this run
abbrev pub with_run : Run → List Row → List Row
with_run run rows = map (row_under run) rows

-- a call moves the parts so, and leaves the run
abbrev pub ByRun : (List Row → List Row → Type 0) → List Row → List Row → Type 0
ByRun moves a b = (run : Run) × (x : List Row) × (y : List Row) × moves x y × (a ≡ with_run run x) × (b ≡ with_run run y)

-- The run that a turn goes on with, and how many requests wait then: the one under way, or a new one on the candidate, for
-- which the queue is emptied.
abbrev pub GoesOnWith : ℕ → Image → ℕ → Option ℕ → Run → ℕ → ℕ → ℕ → Type 0
GoesOnWith threshold files queued current None number done waiting = IsCandidateOf files current threshold (Some number) × (done ≡ 0) × (waiting ≡ 0)
GoesOnWith threshold files queued current (Some run) number done waiting = (run.0 ≡ number) × (run.1 ≡ done) × (waiting ≡ queued)

-- a record is looked at: it is passed over, or copied, which queues one request more and writes to the current file
abbrev pub LooksAt : ℕ → ℕ → Option ℕ → ℕ → Option ℕ → Type 0
LooksAt limit waiting current queued now = ((queued ≡ waiting) × (now ≡ current)) ⊎ ((queued ≡ min (waiting + 1) limit) × IsSome now)

-- How one action of a run moves the parts, of a file with so many records, behind so many turns: a record is looked at; or
-- behind the last one the log is stamped; or the file is taken away, and one request for each of its records is queued.
abbrev pub TakesAction : ℕ → ℕ → ℕ → ℕ → ℕ → Option ℕ → ℕ → Option ℕ → Run → Type 0
TakesAction limit number records done waiting current queued now run =
    ((done < records) × LooksAt limit waiting current queued now × (run ≡ Some (number, done + 1)))
    ⊎ (((done ≡ records) × (queued ≡ waiting) × IsSome now × (run ≡ Some (number, done + 1)))
    ⊎ ((done ≡ records + 1) × (queued ≡ min records limit) × (now ≡ current) × (run ≡ None)))

-- A turn of a compaction took one action.
pub record TakesTurn (limit threshold : ℕ) (files : Image) (a b : List Row) : Type 0 where
  pub queued : ℕ
  pub current : Option ℕ
  pub run : Run
  pub before : a ≡ row_with queued current run
  pub number : ℕ
  pub done : ℕ
  pub waiting : ℕ
  pub goes_on : GoesOnWith threshold files queued current run number done waiting
  pub left : ℕ
  pub now : Option ℕ
  pub next : Run
  pub after : b ≡ row_with left now next
  pub action : TakesAction limit number (counted_records files number) done waiting current left now next

-- how a turn of a compaction moves the parts: idle exactly where no run is under way and there is no candidate, and then
-- the queue is emptied all the same
abbrev pub CompactsBy : ℕ → ℕ → Image → Turned → List Row → List Row → Type 0
CompactsBy limit threshold files Done a b = TakesTurn limit threshold files a b
CompactsBy limit threshold files Idle a b = (queued : ℕ) × (current : Option ℕ) × (a ≡ row_with queued current None) × IsCandidateOf files current threshold None × (b ≡ row_with 0 current None)

-- how many turns end a run that is under way
abbrev pub turns_left : Image → Run → ℕ
turns_left files None = 0
turns_left files (Some run) = counted_records files run.0 + 2 - run.1

-- the current file behind the turns that end a run: there is one, unless the file alone was left to be taken away
abbrev pub IsCurrentBehind : Image → Run → Option ℕ → Option ℕ → Type 0
IsCurrentBehind files None current now = now ≡ current
IsCurrentBehind files (Some run) current now = IsSome now ⊎ ((run.1 ≡ counted_records files run.0 + 1) × (now ≡ current))

-- How the compaction of one file moves the parts, in so many turns: it ends a run that is under way, behind which the files
-- read so, and empties the queue. It is idle exactly where the file isn't a closed one then; else it takes all turns of a
-- run over it.
abbrev pub CompactsFile : ℕ → Image → Image → ℕ → Turned → ℕ → List Row → List Row → Type 0
CompactsFile limit files mid file Done turns a b =
    (queued : ℕ) × (current : Option ℕ) × (run : Run) × (then : Option ℕ) × (now : Option ℕ) × (a ≡ row_with queued current run) × IsCurrentBehind files run current then × IsClosedFile mid then file
    × (turns ≡ turns_left files run + (counted_records mid file + 2)) × IsSome now × (b ≡ row_with (min (counted_records mid file) limit) now None)
CompactsFile limit files mid file Idle turns a b =
    (queued : ℕ) × (current : Option ℕ) × (run : Run) × (then : Option ℕ) × (a ≡ row_with queued current run) × IsCurrentBehind files run current then × (IsClosedFile mid then file → ⊥)
    × (turns ≡ turns_left files run) × (b ≡ row_with 0 then None)

-- the numbers of the data files
pub record AreDataFiles (files : Image) (numbers : List ℕ) : Type 0 where
  pub ascend : IsStrictlyIncreasing numbers
  pub each : (n : ℕ) → (Contains numbers n ↔ IsSome (file_in files (log_name n)))

-- how many turns runs over these files take
abbrev pub turns_over : Image → List ℕ → ℕ
turns_over files numbers = sum_by (λ n. counted_records files n + 2) numbers

-- how many requests wait behind runs over these files, where so many wait before: as many as the last one has records
abbrev pub waiting_behind : ℕ → Image → ℕ → List ℕ → ℕ
waiting_behind limit files queued [] = queued
waiting_behind limit files queued (number ∷ numbers) = waiting_behind limit files (min (counted_records files number) limit) numbers

-- the current file behind runs over these files: there is one, unless there was no run
abbrev pub IsCurrentAfter : List ℕ → Option ℕ → Option ℕ → Type 0
IsCurrentAfter [] current now = now ≡ current
IsCurrentAfter (number ∷ numbers) current now = IsSome now

-- the run that is under way in some parts
abbrev pub run_in : List Row → Run
run_in [] = None
run_in (row ∷ rows) = row.run

-- how many turns the compaction of all files takes: those that end a run that is under way, and those of a run over each
-- file that is there once that has ended and the current file is closed
abbrev pub TurnsAll : Image → Image → List Row → ℕ → Type 0
TurnsAll files mid rows turns = (numbers : List ℕ) × AreDataFiles mid numbers × (turns ≡ turns_left files (run_in rows) + turns_over mid numbers)

-- How the compaction of all files moves the parts, in so many turns: it ends a run that is under way, closes the current
-- file, behind which the files read so, empties the queue, and takes all turns of a run over each file.
abbrev pub CompactsAll : ℕ → Image → Image → ℕ → List Row → List Row → Type 0
CompactsAll limit files mid turns a b =
    (queued : ℕ) × (current : Option ℕ) × (run : Run) × (numbers : List ℕ) × (now : Option ℕ) × (a ≡ row_with queued current run) × AreDataFiles mid numbers
    × (turns ≡ turns_left files run + turns_over mid numbers) × IsCurrentAfter numbers None now × (b ≡ row_with (waiting_behind limit mid 0 numbers) now None)

-- what the compaction of all files leaves: no file is in the image that was there before
abbrev pub IsSwept : Image → Image → Type 0
IsSwept files image = (n : ℕ) → IsSome (file_in files (log_name n)) → file_in image (log_name n) ≡ None

-- how counting moves the parts: the queue is emptied, and the figures are those of a recount
abbrev pub CountsBy : Image → ℕ × ℕ × ℕ → List Row → List Row → Type 0
CountsBy files figures a b = (queued : ℕ) × (current : Option ℕ) × (run : Run) × (a ≡ row_with queued current run) × IsRecount files current figures × (b ≡ row_with 0 current run)
