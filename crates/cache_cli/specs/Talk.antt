-- A talk: what a run says, and what a crash may leave at each turn of it.
use Rattle.std.specs.Prelude.{◌≡◌, ◌⊎◌, ◌||◌, Bool, true, false, ℕ, ◌≤◌, List, [], ◌∷◌, ◌++◌, take, length, Option, Some, None}
use Rattle.std.specs.List.{list_any}
use Rattle.cache_model.specs.declared.entries.Change.{Change}
use Rattle.cache_model.specs.declared.commands.Command.{Command}
use Rattle.cache_model.specs.declared.commands.Command.TheVariants.{Stop}
use Rattle.cache_model.specs.Files.{Image}
use Rattle.cache_model.specs.Plain.{Plain, plain_after_all}
use Rattle.cache_model.specs.Lines.{LineMeaning, asks, refuses, meaning_of}
use Rattle.cache_model.specs.Replies.{Response, opened_line, response_lines, stopped_line}
use Rattle.cache_model.specs.Transcript.{IsTranscript, commands_done, ends_talk}
use Rattle.cache_model.specs.Images.{IsSound, SameRecords}
use Rattle.cache_model.specs.Numbers.{Opens, IsNextSequence, IsNextFile}
use Rattle.cache_model.specs.Prefix.{FitsPrefix}
use Rattle.cache_disk.specs.State.{HostState}
use Rattle.cache_disk.specs.Calls.{and_then_said}
use Rattle.store_trait.specs.Meaning.{Numbers}
use Rattle.cache_session.specs.Changing.{of_key}
use Rattle.cache_cli.specs.Fitting.{promised_of, IsLog}
use Rattle.cache_cli.specs.Parts.{Pace, Parts, no_parts}
use Rattle.cache_cli.specs.Pump.{steps_asked, PartsThrough}

-- What a run is about: the turn at which it began, the files as they read and what was said by then, the moment that was
-- given, the lines of the script, whether each change is synced before it is answered, and how the store works beside its
-- answers.
pub record Course : Type 0 where
  pub since : ℕ
  pub files : Image
  pub said : Option (List ℕ)
  pub given : ℕ
  pub lines : List (List ℕ)
  pub synced : Bool
  pub pace : Pace

-- A talk: the plain map at the opening, the numbers of the first change, the lines that were answered so far, their
-- answers, and whether the end of the script was answered.
pub record Talk : Type 0 where
  pub opening : Plain
  pub first : Numbers
  pub answered : List (List ℕ)
  pub responses : List Response
  pub ended : Bool

-- the end of the script counts as a line `stop`
abbrev pub end_commands : Bool → List Command
end_commands true = Stop ∷ []
end_commands false = []

-- the commands that were done so far
abbrev pub done_in : Talk → List Command
done_in talk = commands_done talk.answered talk.responses ++ end_commands talk.ended

-- the plain map after them
abbrev pub plain_of : Talk → Plain
plain_of talk = plain_after_all talk.opening (done_in talk)

-- the answer to the end of the script
abbrev pub end_text : Bool → List ℕ
end_text true = stopped_line
end_text false = []

-- what is said by then: the line that the session begins with, and the answers
abbrev pub text_of : Talk → List ℕ
text_of talk = opened_line talk.opening.moment ++ response_lines talk.responses ++ end_text talk.ended

-- whether the talk is over: the end of the script was answered, or a line whose answer ends it
abbrev pub is_over : Talk → Bool
is_over talk = talk.ended || list_any ends_talk talk.responses

-- how many background steps follow the answers so far
abbrev pub asked_in : Course → Talk → ℕ
asked_in course talk = steps_asked course.pace.pump talk.responses

-- files may have read so within a run: a crash might have left them at one of its turns, up to that of this host
abbrev pub HasRead : Course → HostState → Image → Type 0
HasRead course to files = (t : ℕ) × (course.since ≤ t) × (t ≤ to.turn) × to.left t files

-- A talk is one about a course: it opens with what the files say and goes on with their next numbers, and answers the
-- first lines as one plain map does, and those on the store itself by its parts, which the answers and the background
-- steps between them move, and by files that read so. These lines are left.
pub record IsTalk (read : Image → Type 0) (talk : Talk) (course : Course) (left : List (List ℕ)) : Type 0 where
  pub opens : Opens course.files course.given talk.opening
  pub first : IsNextSequence course.files talk.first.sequence
  pub file : IsNextFile course.files talk.first.file
  pub split : course.lines ≡ talk.answered ++ left
  pub answers : IsTranscript [] talk.opening talk.answered talk.responses
  pub parts : (taken : ℕ) × (parts : Parts) × PartsThrough read course.pace 0 0 talk.opening talk.answered talk.responses no_parts taken parts
  pub whole : talk.ended ≡ true → (left ≡ []) × (list_any ends_talk talk.responses ≡ false)

-- the command that a line asks for, where it asks for one
abbrev pub asked_by : LineMeaning → List Command
asked_by (asks command) = command ∷ []
asked_by (refuses refusal) = []

-- the command of the first of these lines; their end counts as `stop`
abbrev pub next_command : List (List ℕ) → List Command
next_command [] = Stop ∷ []
next_command (line ∷ lines) = asked_by (meaning_of line)

-- the command in hand, where the talk isn't over
abbrev pub hand_of : Bool → List (List ℕ) → List Command
hand_of true left = []
hand_of false left = next_command left

-- What was said is a talk, and every key of the image reads as after a prefix of its own changes by the commands that
-- were done and the one in hand, which holds every change that an answer promised.
pub record FitsTalk (course : Course) (to : HostState) (said : List ℕ) (image : Image) : Type 0 where
  pub talk : Talk
  pub left : List (List ℕ)
  pub is_talk : IsTalk (HasRead course to) talk course left
  pub says : Some said ≡ and_then_said course.said (text_of talk)
  pub fits : (key : List ℕ) → FitsPrefix image talk.opening (done_in talk ++ hand_of (is_over talk) left) (promised_of course.synced talk.opening (done_in talk) key) key

-- What was said is a talk, and all keys of the image together read as after the first so many of all changes by the
-- commands that were done and the one in hand, in the order of the commands: each key as after those of them that are its
-- own, which hold every change of it that an answer promised.
pub record FitsTalkTogether (course : Course) (to : HostState) (said : List ℕ) (image : Image) : Type 0 where
  pub talk : Talk
  pub left : List (List ℕ)
  pub is_talk : IsTalk (HasRead course to) talk course left
  pub says : Some said ≡ and_then_said course.said (text_of talk)
  pub log : List Change
  pub is_log : IsLog talk.opening (done_in talk ++ hand_of (is_over talk) left) log
  pub count : ℕ
  pub within : count ≤ length log
  pub fits : (key : List ℕ) → (fit : FitsPrefix image talk.opening (done_in talk ++ hand_of (is_over talk) left) (promised_of course.synced talk.opening (done_in talk) key) key)
      × (fit.count ≡ length (of_key key (take count log)))

-- nothing was said yet, and the image has the records of one that a crash might have left when the call began
pub record IsUntouched (from : HostState) (said : Option (List ℕ)) (image : Image) : Type 0 where
  pub silent : said ≡ from.said from.turn
  pub before : Image
  pub left : from.left from.turn before
  pub same : SameRecords before image

-- what holds of an image that a crash may leave at a turn by which this was said; nothing of its keys is said where
-- saying failed
abbrev pub HoldsAtTurn : HostState → HostState → Course → Option (List ℕ) → Image → Type 0
HoldsAtTurn from to course None image = IsSound image
HoldsAtTurn from to course (Some said) image = IsSound image × (IsUntouched from (Some said) image ⊎ FitsTalk course to said image)

-- it holds at every turn of a run, from its first to its last
pub record HoldsThroughout (from to : HostState) (course : Course) : Type 0 where
  pub later : from.turn ≤ to.turn
  pub each : (t : ℕ) (image : Image) → from.turn ≤ t → t ≤ to.turn → to.left t image → HoldsAtTurn from to course (to.said t) image

-- the same of all keys together
abbrev pub HoldsTogetherAtTurn : HostState → HostState → Course → Option (List ℕ) → Image → Type 0
HoldsTogetherAtTurn from to course None image = IsSound image
HoldsTogetherAtTurn from to course (Some said) image = IsSound image × (IsUntouched from (Some said) image ⊎ FitsTalkTogether course to said image)

-- it holds of all keys together at every turn of a run, from its first to its last
pub record HoldsTogether (from to : HostState) (course : Course) : Type 0 where
  pub later : from.turn ≤ to.turn
  pub each : (t : ℕ) (image : Image) → from.turn ≤ t → t ≤ to.turn → to.left t image → HoldsTogetherAtTurn from to course (to.said t) image
