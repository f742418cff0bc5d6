-- What a session and the reader of its script stand for within a run.
use Rattle.std.specs.Prelude.{◌≡◌, ◌⊎◌, ℕ, ◌+◌, ◌<◌, ◌≤◌, Bool, true, false, List, [], ◌∷◌, ◌++◌, length, Option, Some, None, Result, OnOk, IfOk, IfErr, IsTrue, sum_by}
use Rattle.cache_model.specs.declared.commands.Command.{Command}
use Rattle.cache_model.specs.declared.entries.Change.{Change}
use Rattle.cache_model.specs.declared.faults.Spent.{Spent}
use Rattle.cache_model.specs.declared.faults.Spent.TheVariants.{Files, Sequence}
use Rattle.cache_model.specs.declared.replies.Status.{Status}
use Rattle.cache_model.specs.declared.replies.Status.TheVariants as status
use Rattle.cache_model.specs.declared.replies.Reply.{Reply}
use Rattle.cache_model.specs.Replies.{Response, replies}
use Rattle.cache_model.specs.Transcript.{IsReply, may_be_refused}
use Rattle.cache_model.specs.Files.{Image}
use Rattle.cache_model.specs.Plain.{Plain, plain_after, plain_reply}
use Rattle.cache_disk.specs.State.{HostState}
use Rattle.cache_disk.specs.Calls.{and_then_said}
use Rattle.store_trait.specs.Meaning.{Reading, Content, StoreFacts, StoreState}
use Rattle.store_trait.specs.Keeping.{IsOnly, Leaves}
use Rattle.store_trait.specs.Calls.{IsNumbered}
use Rattle.cache_session.specs.Changing.{Shows}
use Rattle.cache_session.specs.declared.session.Session.{Session}
use Rattle.cache_session.specs.Turns.{store_of, moment_of, promises, files_by, IsContentAfter}
use Rattle.cache_cli.specs.Fitting.{IsLog, IsOpening, ReadsPrefix, ReadsCut}
use Rattle.cache_cli.specs.Parts.{RowsMove, RoomMoves, CommandMoves, FollowsParts}
use Rattle.cache_cli.specs.Pump.{files_by_steps, HasMoved}
use Rattle.cache_cli.specs.Standing.{Standing}
use Rattle.cache_cli.specs.Talk.{Course, Talk, HasRead, IsTalk, plain_of, done_in, text_of, is_over, hand_of, next_command, asked_in}
use Rattle.cache_cli.specs.Ends.{Says, TakesTurns, EndsEarly, EndsUnsaid, EndsTaken}

-- the same talk by other words of it: the same opening, and these lines and answers
abbrev pub with_words : Talk → List (List ℕ) → List Response → Bool → Talk
with_words talk answered responses ended = record { opening = talk.opening; first = talk.first; answered = answered; responses = responses; ended = ended }

-- A session over a store on a host, as a run sees it.
pub record View : Type 1 where
  pub facts : StoreFacts
  pub store : StoreState
  pub host : HostState
  pub moment : ℕ

abbrev pub view : StoreFacts → StoreState → HostState → ℕ → View
view facts store host moment = record { facts = facts; store = store; host = host; moment = moment }

-- the view of a session, by what its store has as facts and as meaning
abbrev pub view_by : {S : Type 0} → (S → StoreFacts) → (S → HostState → StoreState) → Session S → HostState → View
view_by facts means session host = view (facts (store_of session)) (means (store_of session) host) host (moment_of session)

-- On a later host what a crash might leave at a turn by then stays so.
pub record IsLater (old new : HostState) : Type 0 where
  pub later : old.turn ≤ new.turn
  pub kept : (t : ℕ) (files : Image) → t ≤ old.turn → old.left t files → new.left t files

-- What was said by a turn is a talk, and all that a crash may leave then fits it.
pub record TellsAt (course : Course) (ordered : Bool) (now : View) (t : ℕ) (said : List ℕ) : Type 0 where
  pub talk : Talk
  pub left : List (List ℕ)
  pub is_talk : IsTalk (HasRead course now.host) talk course left
  pub says : Some said ≡ and_then_said course.said (text_of talk)
  pub fits : (key : List ℕ) (r : Reading) (mark : ℕ) → now.store.may t key r mark
      → ReadsPrefix course.synced talk.opening (done_in talk) (hand_of (is_over talk) left) key r mark
  pub cut : ordered ≡ true → (c : Content) (mark : ℕ) → now.store.whole t c mark
      → ReadsCut course.synced talk.opening (done_in talk) (hand_of (is_over talk) left) c mark

-- It holds at every turn since the store was opened, which was within the run, and each image opens. Other files than the
-- store's were left alone.
pub record HoldsSince (from : HostState) (course : Course) (ordered : Bool) (now : View) : Type 0 where
  pub since : course.since ≤ from.turn
  pub others : Leaves now.facts.owns false from now.host
  pub past : (t : ℕ) → t ≤ from.turn → now.host.said t ≡ from.said t
  pub each : (t : ℕ) (said : List ℕ) → from.turn < t → t ≤ now.host.turn → now.host.said t ≡ Some said → TellsAt course ordered now t said
  pub opens : (t : ℕ) → from.turn ≤ t → t ≤ now.host.turn → now.store.opens t

-- A session tells a talk, which is what was said by then: its store stands for the plain map after the talk's commands, its
-- numbers went on by their changes, and its parts moved by its answers and so many background steps. No more files were made
-- than there were changes and turns of compactions.
pub record IsTelling (from : HostState) (course : Course) (ordered : Bool) (left : List (List ℕ)) (talk : Talk) (taken : ℕ) (now : View) (said : Option (List ℕ)) : Type 0 where
  pub is_talk : IsTalk (HasRead course now.host) talk course left
  pub says : said ≡ and_then_said course.said (text_of talk)
  pub stands : now.store.stands
  pub sound : now.store.sound
  pub base : Content
  pub opening : IsOpening talk.opening base
  pub standing : Standing talk.opening (done_in talk) course.synced ordered now.facts base now.store now.host.turn
  pub moment : (plain_of talk).moment ≡ now.moment
  pub follows : FollowsParts course.pace now.facts
  pub turned : ℕ
  pub parts : HasMoved (HasRead course now.host) course.pace talk.opening talk.answered talk.responses taken turned now.facts.parts
  pub numbers : IsNumbered (length standing.log) (Some talk.first) now.facts.numbers
  pub drawn : now.facts.drawn ≤ talk.first.sequence + length standing.log
  pub made : now.facts.made ≤ talk.first.file + length standing.log + sum_by files_by (done_in talk) + files_by_steps taken + turned
  pub holds : HoldsSince from course ordered now

-- a session is busy with the background steps behind its last answer, of which so many were taken in all: its talk isn't over
abbrev pub IsPumping : HostState → Course → Bool → List (List ℕ) → Talk → ℕ → View → Type 0
IsPumping from course ordered left talk taken now = IsTelling from course ordered left talk taken now (now.host.said now.host.turn) × (is_over talk ≡ false)

-- a session talks: its talk isn't over, and all background steps behind its answers were taken
abbrev pub IsTalking : HostState → Course → Bool → List (List ℕ) → Talk → View → Type 0
IsTalking from course ordered left talk now = IsPumping from course ordered left talk (asked_in course talk) now

-- an answer is in hand: with these bytes said, what was said will be this talk
abbrev pub IsInHand : HostState → Course → Bool → List (List ℕ) → Talk → ℕ → List ℕ → View → Type 0
IsInHand from course ordered left talk taken bytes now = IsTelling from course ordered left talk taken now (and_then_said (now.host.said now.host.turn) bytes)

-- From a say on that failed nothing is told of what was said; before it is as it was.
pub record IsLost (before now : HostState) : Type 0 where
  pub later : before.turn < now.turn
  pub said : now.said before.turn ≡ before.said before.turn
  pub lost : (t : ℕ) → before.turn < t → t ≤ now.turn → now.said t ≡ None

-- what a say ends a run with: saying failed, or it wanted memory and nothing was said
abbrev pub EndsSaying : Status → HostState → HostState → Type 0
EndsSaying ended before now = ((ended ≡ status.SayFailed) × IsLost before now) ⊎ ((ended ≡ status.NoMemory) × (now.said now.turn ≡ before.said before.turn))

-- An answer in hand was said, and the session tells the talk with it, or the run ended.
pub record Told (from : HostState) (course : Course) (ordered : Bool) (left : List (List ℕ)) (talk : Talk) (taken : ℕ) (before now : View) (result : Result (Unit {0}) Status) : Type 0 where
  pub goes : OnOk result (IsTelling from course ordered left talk taken now (now.host.said now.host.turn))
  pub ends : IfErr result (λ ended. EndsSaying ended before.host now.host)
  pub later : IsLater before.host now.host
  pub holds : HoldsSince from course ordered now

-- A number is at its end for a change of the command in hand, or for a background step: the numbers at the opening, the
-- changes of the commands up to it, the background steps and the turns of compactions add up to no less.
pub record EndsAtSpent (course : Course) (now : View) : Type 0 where
  pub talk : Talk
  pub left : List (List ℕ)
  pub says : Says course now.host left talk
  pub going : is_over talk ≡ false
  pub log : List Change
  pub is_log : IsLog talk.opening (done_in talk ++ next_command left) log
  pub turns : ℕ
  pub takes : TakesTurns course now.host left talk turns
  pub number : Spent
  pub spent : now.store.spent number
  pub sequence : (n : ℕ) → number ≡ Sequence n → n ≤ talk.first.sequence + length log
  pub files : (n : ℕ) → number ≡ Files n → n ≤ talk.first.file + length log + sum_by files_by (done_in talk ++ next_command left) + files_by_steps (asked_in course talk) + turns

-- how a run ends while its lines are answered
abbrev pub EndsBy : Status → Course → View → Type 0
EndsBy status.Done course now = ⊥
EndsBy status.Usage course now = ⊥
EndsBy status.Settings course now = ⊥
EndsBy status.Damaged course now = ⊥
EndsBy status.DiskFailed course now = EndsEarly course now.host
EndsBy status.ScriptFailed course now = EndsEarly course now.host
EndsBy status.SayFailed course now = EndsUnsaid course now.host
EndsBy status.NoMemory course now = EndsEarly course now.host
EndsBy status.Spent course now = EndsAtSpent course now
EndsBy status.LinesSpent course now = EndsTaken course now.host

-- With these words of the talk, which have these commands more, its answer is in hand. So many turns were taken for the lines
-- that compact files.
abbrev pub TellsMore : HostState → Course → Bool → Talk → List Command → ℕ → View → Type 0
TellsMore from course ordered talk commands turned now =
    (left : List (List ℕ)) (said : Option (List ℕ)) (answered : List (List ℕ)) (responses : List Response) (ended : Bool)
    → done_in (with_words talk answered responses ended) ≡ done_in talk ++ commands
    → IsTalk (HasRead course now.host) (with_words talk answered responses ended) course left
    → HasMoved (HasRead course now.host) course.pace talk.opening answered responses (asked_in course talk) turned now.facts.parts
    → said ≡ and_then_said course.said (text_of (with_words talk answered responses ended))
    → IsTelling from course ordered left (with_words talk answered responses ended) (asked_in course talk) now said

-- what a command that was done, or refused for want of memory, leaves, where so many turns were taken before it for the lines
-- that compact files
abbrev pub DoesBy : Option Reply → HostState → Course → Bool → List (List ℕ) → Talk → Command → ℕ → View → View → Type 0
DoesBy (Some reply) from course ordered left talk command turned old now =
    (turns : ℕ) × IsReply command (plain_reply [] (plain_of talk) command) (replies reply) × TellsMore from course ordered talk (command ∷ []) (turned + turns) now
    × RowsMove course.pace.queue (λ a b. CommandMoves (HasRead course now.host) course.pace (plain_of talk) command reply a b × (b.turned ≡ a.turned + turns)) old.facts.parts now.facts.parts
DoesBy None from course ordered left talk command turned old now =
    IsTrue (may_be_refused command) × TellsMore from course ordered talk [] turned now × RowsMove course.pace.queue (RoomMoves course.pace.queue) old.facts.parts now.facts.parts

-- The command in hand was done, or refused for want of memory, or the run ended.
pub record Does (from : HostState) (course : Course) (ordered : Bool) (left : List (List ℕ)) (talk : Talk) (command : Command) (turned : ℕ) (old now : View) (result : Result (Option Reply) Status) : Type 0 where
  pub goes : IfOk result (λ reply. DoesBy reply from course ordered left talk command turned old now)
  pub silent : OnOk result (now.host.said now.host.turn ≡ old.host.said old.host.turn)
  pub later : OnOk result (IsLater old.host now.host)
  pub ends : IfErr result (λ ended. EndsBy ended course now)
  pub holds : HoldsSince from course ordered now

-- A session talks, and these lines were answered. So many background steps were taken, and all those behind the last answer
-- are due.
pub record TalksOn (from : HostState) (course : Course) (ordered : Bool) (left answered : List (List ℕ)) (taken : ℕ) (now : View) : Type 0 where
  pub talk : Talk
  pub pumping : IsPumping from course ordered left talk taken now
  pub due : asked_in course talk ≡ taken + course.pace.pump
  pub answers : talk.answered ≡ answered

-- The talk is over, with its end answered or not, and these lines were answered.
pub record IsFinished (course : Course) (answered : List (List ℕ)) (ended : Bool) (now : View) : Type 0 where
  pub talk : Talk
  pub left : List (List ℕ)
  pub says : Says course now.host left talk
  pub over : is_over talk ≡ true
  pub answers : talk.answered ≡ answered
  pub ends : talk.ended ≡ ended

-- what an answer leaves: the session talks on, or the talk is over
abbrev pub AnswersBy : Bool → HostState → Course → Bool → List (List ℕ) → List (List ℕ) → ℕ → View → Type 0
AnswersBy true from course ordered left answered taken now = TalksOn from course ordered left answered taken now
AnswersBy false from course ordered left answered taken now = IsFinished course answered false now

-- A line was answered, or the run ended. These lines are answered and left then, and so many background steps were taken.
pub record Answered (from : HostState) (course : Course) (ordered : Bool) (left answered : List (List ℕ)) (taken : ℕ) (now : View) (result : Result Bool Status) : Type 0 where
  pub goes : IfOk result (λ more. AnswersBy more from course ordered left answered taken now)
  pub ends : IfErr result (λ ended. EndsBy ended course now)
  pub holds : HoldsSince from course ordered now

-- A command was done: the content is that after its changes, it shows the plain map, and what the answer promises is
-- settled.
pub record IsDone (plain : Plain) (command : Command) (changes : List Change) (f g : StoreFacts) (old new : StoreState) (turn : ℕ) : Type 0 where
  pub content : IsContentAfter f plain.moment turn changes old new
  pub shows : Shows (plain_after plain command) new.content
  pub promised : (key : List ℕ) → promises f.firm plain command key ≡ true → IsOnly g new turn key

-- A line that is too long was refused, or the run ended.
pub record LongAnswered (from : HostState) (course : Course) (ordered : Bool) (left answered : List (List ℕ)) (taken : ℕ) (now : View) (result : Result (Unit {0}) Status) : Type 0 where
  pub goes : OnOk result (TalksOn from course ordered left answered taken now)
  pub ends : IfErr result (λ ended. EndsBy ended course now)
  pub holds : HoldsSince from course ordered now

-- The end of the script was answered, or the run ended.
pub record Closed (from : HostState) (course : Course) (ordered : Bool) (talk : Talk) (now : View) (result : Result (Unit {0}) Status) : Type 0 where
  pub over : OnOk result (IsFinished course talk.answered true now)
  pub ends : IfErr result (λ ended. EndsBy ended course now)
  pub holds : HoldsSince from course ordered now

-- Background steps were taken, so many in all by then, or the run ended.
pub record Pumped (from : HostState) (course : Course) (ordered : Bool) (left : List (List ℕ)) (talk : Talk) (taken : ℕ) (now : View) (result : Result (Unit {0}) Status) : Type 0 where
  pub goes : OnOk result (IsPumping from course ordered left talk taken now)
  pub ends : IfErr result (λ ended. EndsBy ended course now)
  pub holds : HoldsSince from course ordered now
