-- A run over the lines of its script.
use Rattle.std.specs.Prelude.{◌≡◌, ℕ, ◌+◌, Bool, true, false, List, Result, OnOk, IfOk, IfErr}
use Rattle.cache_model.specs.declared.replies.Status.{Status}
use Rattle.cache_model.specs.Lines.{lines_of, units_of}
use Rattle.cache_disk.specs.State.{HostState}
use Rattle.cache_script.specs.declared.line_reader.LineReader.{LineReader}
use Rattle.cache_script.specs.LineReader.{unread, units_taken}
use Rattle.cache_cli.specs.declared.pump.Pump.{Pump}
use Rattle.cache_cli.specs.Pump.{background_step}
use Rattle.cache_cli.specs.Talk.{Course, Talk, asked_in}
use Rattle.cache_cli.specs.Ends.{EndsWhole}
use Rattle.cache_cli.specs.Run.{View, HoldsSince, IsPumping, IsTalking, EndsBy}

-- A session talks, with what is left of the script unread, and so many units were taken as its answered lines have.
pub record IsTalkingOn (from : HostState) (course : Course) (ordered : Bool) (talk : Talk) (now : View) (reader : LineReader) (rest : List ℕ) : Type 0 where
  pub talking : IsTalking from course ordered (lines_of (unread reader rest)) talk now
  pub units : units_taken reader ≡ units_of talk.answered

-- The same where the background steps behind the last answer are due, and so many were taken before.
pub record HasAnswered (from : HostState) (course : Course) (ordered : Bool) (talk : Talk) (taken : ℕ) (now : View) (reader : LineReader) (rest : List ℕ) : Type 0 where
  pub pumping : IsPumping from course ordered (lines_of (unread reader rest)) talk taken now
  pub due : asked_in course talk ≡ taken + course.pace.pump
  pub units : units_taken reader ≡ units_of talk.answered

-- what an answer to the next line leaves: its background steps are due, or the run ended whole
abbrev pub AnswersOn : Bool → HostState → Course → Bool → ℕ → View → LineReader → List ℕ → Type 0
AnswersOn true from course ordered taken now reader rest = (talk : Talk) × HasAnswered from course ordered talk taken now reader rest
AnswersOn false from course ordered taken now reader rest = EndsWhole course now.host

-- The next line, or the end of the script, was answered, or the run ended.
pub record AnsweredNext (from : HostState) (course : Course) (ordered : Bool) (taken : ℕ) (now : View) (reader : LineReader) (rest : List ℕ) (result : Result Bool Status) : Type 0 where
  pub goes : IfOk result (λ more. AnswersOn more from course ordered taken now reader rest)
  pub ends : IfErr result (λ ended. EndsBy ended course now)
  pub holds : HoldsSince from course ordered now

-- The background steps go on behind so many: the one that comes next, and how many follow an answer.
pub record IsPaced (course : Course) (taken : ℕ) (pump : Pump) : Type 0 where
  pub next : pump.next ≡ background_step taken
  pub count : course.pace.pump ≡ pump.count

-- what a step that answered Ok leaves: the session talks on, or the run ended whole
abbrev pub StepsBy : Bool → HostState → Course → Bool → View → Pump → LineReader → List ℕ → Type 0
StepsBy true from course ordered now pump reader rest = (talk : Talk) × IsTalkingOn from course ordered talk now reader rest × IsPaced course (asked_in course talk) pump
StepsBy false from course ordered now pump reader rest = EndsWhole course now.host

-- The next line was answered and its background steps were taken, or the end of the script was answered, or the run ended.
pub record Stepped (from : HostState) (course : Course) (ordered : Bool) (now : View) (pump : Pump) (reader : LineReader) (rest : List ℕ) (result : Result Bool Status) : Type 0 where
  pub goes : IfOk result (λ more. StepsBy more from course ordered now pump reader rest)
  pub ends : IfErr result (λ ended. EndsBy ended course now)
  pub holds : HoldsSince from course ordered now

-- All lines up to the end of the talk were answered, or the run ended.
pub record Ran (from : HostState) (course : Course) (ordered : Bool) (now : View) (result : Result (Unit {0}) Status) : Type 0 where
  pub whole : OnOk result (EndsWhole course now.host)
  pub ends : IfErr result (λ ended. EndsBy ended course now)
  pub holds : HoldsSince from course ordered now
