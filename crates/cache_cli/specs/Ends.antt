-- How a run ends: what it said by then, by its status.
use Rattle.std.specs.Prelude.{◌≡◌, ◌⊎◌, ℕ, ◌+◌, ◌-◌, ◌^◌, ◌<◌, ◌≤◌, true, false, List, [], ◌∷◌, ◌++◌, length, None, sum_by}
use Rattle.cache_model.specs.declared.commands.Command.{Command}
use Rattle.cache_model.specs.declared.commands.Command.TheVariants.{CompactFile, CompactAll}
use Rattle.cache_model.specs.declared.entries.Change.{Change}
use Rattle.cache_model.specs.declared.faults.Damage.{Damage}
use Rattle.cache_model.specs.declared.replies.Status.{Status}
use Rattle.cache_model.specs.declared.replies.Status.TheVariants as status
use Rattle.cache_model.specs.Files.{Image}
use Rattle.cache_model.specs.Lines.{Lacks, lines_of, units_of, units_of_length}
use Rattle.cache_disk.specs.State.{HostState, SameFiles}
use Rattle.cache_disk.specs.Calls.{and_then_said}
use Rattle.store_trait.specs.Meaning.{Numbers}
use Rattle.cache_script.specs.Damages.{damage_line}
use Rattle.rebuild.specs.Listing.{IsFirstDamageOf}
use Rattle.cache_session.specs.Turns.{files_by}
use Rattle.cache_cli.specs.Foreign.{IsForeign}
use Rattle.cache_cli.specs.Fitting.{IsLog}
use Rattle.soft_index.specs.Compacting.{TurnsAll}
use Rattle.soft_index.specs.Turns.{turns_for}
use Rattle.cache_cli.specs.Parts.{Parts, rows_of, no_parts}
use Rattle.cache_cli.specs.Pump.{files_by_steps, PartsThrough}
use Rattle.cache_cli.specs.Talk.{Course, Talk, HasRead, IsTalk, text_of, done_in, is_over, next_command, asked_in}

-- where there are changes, their numbers and those of their files are within their ends
abbrev pub IsWithin : Numbers → ℕ → Type 0
IsWithin first count = 1 ≤ count → (first.sequence + count ≤ 2 ^ 62) × (first.file < 2 ^ 32 - 1)

-- What was said is a talk, whose changes have their numbers: these lines of the script are left.
pub record Says (course : Course) (to : HostState) (left : List (List ℕ)) (talk : Talk) : Type 0 where
  pub is_talk : IsTalk (HasRead course to) talk course left
  pub said : to.said to.turn ≡ and_then_said course.said (text_of talk)
  pub log : List Change
  pub is_log : IsLog talk.opening (done_in talk) log
  pub within : IsWithin talk.first (length log)

-- A run answered each line of the script and its end, or each line up to one that ends the talk. No more units were taken
-- than one run takes, and fewer where the end was met.
pub record EndsWhole (course : Course) (to : HostState) : Type 0 where
  pub talk : Talk
  pub left : List (List ℕ)
  pub says : Says course to left talk
  pub over : is_over talk ≡ true
  pub units : units_of talk.answered ≤ 2 ^ 32
  pub fewer : talk.ended ≡ true → units_of talk.answered < 2 ^ 32

-- A run answered the first lines of the script.
pub record EndsEarly (course : Course) (to : HostState) : Type 0 where
  pub talk : Talk
  pub left : List (List ℕ)
  pub says : Says course to left talk
  pub going : is_over talk ≡ false

-- What was said by a turn is a talk, and from then on nothing is told of what was said.
pub record EndsUnsaid (course : Course) (to : HostState) : Type 0 where
  pub turn : ℕ
  pub talk : Talk
  pub left : List (List ℕ)
  pub is_talk : IsTalk (HasRead course to) talk course left
  pub said : to.said turn ≡ and_then_said course.said (text_of talk)
  pub before : turn < to.turn
  pub lost : (t : ℕ) → turn < t → t ≤ to.turn → to.said t ≡ None

-- So many turns are taken at the most for commands that compact one file, where the files read so when that begins, and so once
-- the compaction that is under way has ended.
pub record TurnsForFile (read : Image → Type 0) (parts : Parts) (commands : List Command) (turns : ℕ) : Type 0 where
  pub file : ℕ
  pub asked : commands ≡ CompactFile file ∷ []
  pub files : Image
  pub is_read : read files
  pub mid : Image
  pub mid_is_read : read mid
  pub all : turns ≡ turns_for files mid file (rows_of parts)

-- So many turns are taken at the most for commands that compact all files, where the files read so when that begins, and so once
-- the compaction that is under way has ended and all files are closed.
pub record TurnsForAll (read : Image → Type 0) (parts : Parts) (commands : List Command) (turns : ℕ) : Type 0 where
  pub asked : commands ≡ CompactAll ∷ []
  pub files : Image
  pub is_read : read files
  pub mid : Image
  pub mid_is_read : read mid
  pub all : TurnsAll files mid (rows_of parts) turns

-- so many turns are taken for these commands at the most: none, or those of the compaction of one file or of all files
abbrev pub TurnsInHand : (Image → Type 0) → Parts → List Command → ℕ → Type 0
TurnsInHand read parts commands turns = (turns ≡ 0) ⊎ (TurnsForFile read parts commands turns ⊎ TurnsForAll read parts commands turns)

-- So many turns are taken for lines that compact files: those that the parts count that the answers and so many background
-- steps came to, and those for the command in hand.
pub record TakesTurns (course : Course) (to : HostState) (left : List (List ℕ)) (talk : Talk) (turns : ℕ) : Type 0 where
  pub taken : ℕ
  pub parts : Parts
  pub moved : PartsThrough (HasRead course to) course.pace 0 0 talk.opening talk.answered talk.responses no_parts taken parts
  pub in_hand : ℕ
  pub takes : TurnsInHand (HasRead course to) parts (next_command left) in_hand
  pub all : turns ≡ parts.turned + in_hand

-- A run ended at a command or a background step for which a number is at its end: the next sequence number, or that of a
-- file that has to be made. The numbers at the opening and the changes of the commands up to this one add up to no less; a
-- turn of a compaction counts as a change for the file that it may make, also among the background steps, and also where a
-- line compacts files.
pub record EndsSpent (course : Course) (to : HostState) : Type 0 where
  pub talk : Talk
  pub left : List (List ℕ)
  pub says : Says course to left talk
  pub going : is_over talk ≡ false
  pub log : List Change
  pub is_log : IsLog talk.opening (done_in talk ++ next_command left) log
  pub turns : ℕ
  pub takes : TakesTurns course to left talk turns
  pub spent : (2 ^ 62 ≤ talk.first.sequence + length log)
      ⊎ (2 ^ 32 - 1 ≤ talk.first.file + length log + sum_by files_by (done_in talk ++ next_command left) + files_by_steps (asked_in course talk) + turns)

-- A run took as many units of its script as it may, with a part of the line in hand.
pub record EndsTaken (course : Course) (to : HostState) : Type 0 where
  pub talk : Talk
  pub part : List ℕ
  pub rest : List ℕ
  pub says : Says course to (lines_of (part ++ rest)) talk
  pub going : is_over talk ≡ false
  pub lacks : Lacks 10 part
  pub units : 2 ^ 32 ≤ units_of talk.answered + units_of_length (length part)

-- nothing was said
abbrev pub IsSilent : Course → HostState → Type 0
IsSilent course to = to.said to.turn ≡ course.said

-- nothing was said, or the first lines of the script were answered
abbrev pub IsCutShort : Course → HostState → Type 0
IsCutShort course to = IsSilent course to ⊎ EndsEarly course to

-- Nothing was said by a turn, and from then on nothing is told of what was said.
pub record EndsUnopened (course : Course) (to : HostState) : Type 0 where
  pub turn : ℕ
  pub said : to.said turn ≡ course.said
  pub before : turn < to.turn
  pub lost : (t : ℕ) → turn < t → t ≤ to.turn → to.said t ≡ None

-- A run said where the directory is damaged first, and nothing else. It changed no file.
pub record EndsDamaged (course : Course) (to : HostState) : Type 0 where
  pub damage : Damage
  pub first : IsFirstDamageOf course.files damage
  pub files : SameFiles course.files to.files
  pub said : to.said to.turn ≡ and_then_said course.said (damage_line damage)

-- nothing was said, and the files are as they were
abbrev pub IsUnused : Course → HostState → Type 0
IsUnused course to = IsSilent course to × SameFiles course.files to.files

-- What a run with good words and with settings said, by its status. It never ends with Settings then.
abbrev pub Ends : Status → Course → HostState → Type 0
Ends status.Done course to = EndsWhole course to
Ends status.Usage course to = IsForeign course.files × IsUnused course to
Ends status.Settings course to = ⊥
Ends status.Damaged course to = EndsDamaged course to
Ends status.DiskFailed course to = IsCutShort course to
Ends status.ScriptFailed course to = EndsEarly course to
Ends status.SayFailed course to = EndsUnopened course to ⊎ EndsUnsaid course to
Ends status.NoMemory course to = IsCutShort course to
Ends status.Spent course to = EndsSpent course to
Ends status.LinesSpent course to = EndsTaken course to

-- what a run ends with where the directory has an index or a base file
abbrev pub EndsForeign : Status → Type 0
EndsForeign ended = (ended ≡ status.Usage) ⊎ ((ended ≡ status.DiskFailed) ⊎ (ended ≡ status.NoMemory))

-- what a run ends with where its directory has no settings: what is in the settings file is none, or it can't be read
abbrev pub EndsUnset : Status → Type 0
EndsUnset ended = (ended ≡ status.Settings) ⊎ ((ended ≡ status.DiskFailed) ⊎ (ended ≡ status.NoMemory))

-- what a run ends with where a data file is damaged
abbrev pub EndsRefused : Status → Type 0
EndsRefused ended = (ended ≡ status.Damaged) ⊎ ((ended ≡ status.DiskFailed) ⊎ ((ended ≡ status.SayFailed) ⊎ (ended ≡ status.NoMemory)))
