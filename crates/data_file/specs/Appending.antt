-- What an appender stands for: the frames that are sealed in its file, and the records written behind them.
use Rattle.std.specs.Prelude.{◌≡◌, ◌⊎◌, ℕ, ◌+◌, Bool, true, false, List, [], ◌∷◌, ◌++◌, length, take, flat_map, All, None, Some, if◌then◌else◌}
use Rattle.cache_model.specs.declared.faults.StoreFault.{StoreFault}
use Rattle.cache_model.specs.declared.faults.StoreFault.TheVariants.{Failed, Memory, Spent, Damaged}
use Rattle.cache_model.specs.declared.files.FileName.{FileName}
use Rattle.cache_model.specs.Files.{file_in}
use Rattle.cache_model.specs.Items.{Item, end, IsRecord, spelling}
use Rattle.cache_model.specs.DataFiles.{Frame, file_spelling, AreFrames, CountsFrames}
use Rattle.cache_disk.specs.State.{HostState}
use Rattle.cache_disk.specs.Calls.{AllLeft, HasFile}
use Rattle.data_file.specs.declared.appender.Appender.{Appender}

-- the file that it writes
abbrev pub name_of : Appender → FileName
name_of appender = appender.name

-- the bytes of that file
abbrev pub size_of : Appender → ℕ
size_of appender = appender.size

-- it may be used no more
abbrev pub is_spoilt : Appender → Bool
is_spoilt appender = appender.spoilt

-- how many bytes are due before the next item: the version byte, where it isn't in the file yet
abbrev pub due_bytes : Appender → ℕ
due_bytes appender = if appender.versioned then 0 else 1

-- An appender of a file that has nothing but its closed gate.
pub record IsNewAppender (name : FileName) (appender : Appender) : Type 0 where
  pub named : name_of appender ≡ name
  pub size : size_of appender ≡ 1
  pub due : due_bytes appender ≡ 1
  pub sound : is_spoilt appender ≡ false

-- The file was created: it is empty, and every image has it empty or doesn't have it.
pub record IsFresh (name : FileName) (state : HostState) : Type 0 where
  pub reads : file_in state.files name ≡ Some []
  pub images : AllLeft state (λ image. (file_in image name ≡ None) ⊎ (file_in image name ≡ Some []))

-- the spelling of one record
abbrev pub IsRecordSpelling : List ℕ → Type 0
IsRecordSpelling bytes = (item : Item) × IsRecord item × (bytes ≡ spelling item)

-- what stands behind the last gate, which is closed: the records of the frame in the making, in a first frame behind
-- the version byte
abbrev pub unsealed : List Frame → List Item → List ℕ
unsealed [] [] = []
unsealed [] (item ∷ items) = 1 ∷ flat_map spelling (item ∷ items)
unsealed (frame ∷ frames) items = flat_map spelling items

-- the whole file
abbrev pub written : List Frame → List Item → List ℕ
written frames records = file_spelling frames ++ unsealed frames records

-- where the first record of the frame in the making stands, or is to stand
abbrev pub frame_start : List Frame → ℕ
frame_start [] = 2
frame_start (frame ∷ frames) = length (file_spelling (frame ∷ frames))

-- where the next item stands
abbrev pub next_place : List Frame → List Item → ℕ
next_place frames records = frame_start frames + length (flat_map spelling records)

-- whether the version byte is in the file
abbrev pub is_versioned : List Frame → List Item → Bool
is_versioned [] [] = false
is_versioned [] (item ∷ items) = true
is_versioned (frame ∷ frames) items = true

-- what ends a frame: its end and the next gate, which is closed; in an empty first frame the version byte before them
abbrev pub ending : Bool → ℕ → List ℕ
ending true moment = spelling (end moment) ++ 0 ∷ []
ending false moment = 1 ∷ (spelling (end moment) ++ 0 ∷ [])

-- the bytes begin with these
abbrev pub StartsWith : List ℕ → List ℕ → Type 0
StartsWith front bytes = take (length front) bytes ≡ front

-- The file as it reads is the sealed frames and the records behind them, and in every image that a crash may leave the
-- sealed frames and the closed gate behind them stand.
pub record StandsFor (appender : Appender) (state : HostState) (frames : List Frame) (records : List Item) : Type 0 where
  pub in_grammar : AreFrames frames
  pub are_records : All IsRecord records
  pub reads : file_in state.files appender.name ≡ Some (written frames records)
  pub size : appender.size ≡ length (written frames records)
  pub gate : appender.gate + 1 ≡ length (file_spelling frames)
  pub versioned : appender.versioned ≡ is_versioned frames records
  pub images : AllLeft state (λ image. HasFile appender.name (StartsWith (file_spelling frames)) image)

-- it stands for some frames and records
abbrev pub IsStanding : Appender → HostState → Type 0
IsStanding appender state = (frames : List Frame) × (records : List Item) × StandsFor appender state frames records

-- every image that a crash may leave has the file as it reads
abbrev pub IsSettled : FileName → HostState → Type 0
IsSettled name state = AllLeft state (λ image. file_in image name ≡ file_in state.files name)

-- the frames and one more
abbrev pub sealed : List Frame → List Item → ℕ → List Frame
sealed frames items moment = frames ++ (record { records = items; moment = moment } ∷ [])

-- the file counts the frames, with the one in the making or without
abbrev pub CountsOneOf : List Frame → List Frame → List ℕ → Type 0
CountsOneOf before after bytes = CountsFrames before bytes ⊎ CountsFrames after bytes

-- a fault of the host, and no other one
abbrev pub IsHostly : StoreFault → Type 0
IsHostly Failed = Unit {0}
IsHostly Memory = Unit {0}
IsHostly (Spent s) = ⊥
IsHostly (Damaged d) = ⊥
