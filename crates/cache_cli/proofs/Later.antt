-- What was told of files that read so stays true where more files did, as on later hosts.
use Rattle.std.proofs.Common.{ℕ, zero, suc, ◌+◌, ◌≤◌, List, [], ◌∷◌, arith}
use Rattle.cache_model.specs.declared.commands.Command.{Command}
use Rattle.cache_model.specs.declared.commands.Command.TheVariants.{Step, Sync, Stop, Stats, CompactFile, CompactAll}
use Rattle.cache_model.specs.declared.commands.StepKind.{StepKind}
use Rattle.cache_model.specs.declared.commands.StepKind.TheVariants.{Compact}
use Rattle.cache_model.specs.declared.replies.Reply.{Reply}
use Rattle.cache_model.specs.declared.replies.Turned.{Turned}
use Rattle.cache_model.specs.Files.{Image}
use Rattle.cache_model.specs.Plain.{Plain}
use Rattle.cache_model.specs.Lines.{LineMeaning, asks, refuses, meaning_of}
use Rattle.cache_model.specs.Replies.{Response, replies, refused}
use Rattle.cache_model.specs.Transcript.{after_answer}
use Rattle.cache_disk.specs.State.{HostState, Moves}
use Rattle.store_trait.specs.Meaning.{Row}
use Rattle.store_trait.specs.Calls.{MayHaveRead}
use Rattle.cache_cli.specs.Parts.{Pace, Parts, ActorMoves, CommandMoves, AnswerMoves}
use Rattle.cache_cli.specs.Pump.{background_step, StepsMove, steps_behind, PartsThrough, HasMoved}
use Rattle.cache_cli.specs.Talk.{Course, Talk, HasRead, IsTalk}
use Rattle.cache_cli.specs.Run.{IsLater}

pub later_same : (a : HostState) → IsLater a a
later_same a = record { later = omega arith; kept = λ t files early left. left }

pub later_then : (a b c : HostState) → IsLater a b → IsLater b c → IsLater a c
later_then a b c ab bc = record { later = omega (arith, ab.later, bc.later); kept = λ t files early left. bc.kept t files (omega (arith, early, ab.later)) (ab.kept t files early left) }

pub later_by : (a b : HostState) (step : Image → Image → Type 0) → Moves a b step → IsLater a b
later_by a b step moves = record { later = moves.later; kept = moves.kept }

-- files that read so by then did so by later
pub read_later : (course : Course) (a b : HostState) → IsLater a b → (files : Image) → HasRead course a files → HasRead course b files
read_later course a b later files read = (read.0, read.1, omega (arith, read.2, later.later), later.kept read.0 files read.2 read.3)

-- the files as they read at a turn of a run did so by later
pub read_at : (course : Course) (a b : HostState) → course.since ≤ a.turn → a.left a.turn a.files → IsLater a b → HasRead course b a.files
read_at course a b since reads later = (a.turn, since, later.later, later.kept a.turn a.files (omega arith) reads)

-- and so did files that may have read so between two of its turns
pub read_between : (course : Course) (a b : HostState) → course.since ≤ a.turn → (files : Image) → MayHaveRead a b files → HasRead course b files
read_between course a b since files may = (may.0, omega (arith, since, may.1), may.2, may.3)

module _ (one two : Image → Type 0) (more : (files : Image) → one files → two files) where
  pub actor_more : (pace : Pace) (kind : StepKind) (turned : Turned) (a b : Parts) → ActorMoves one pace kind turned a b → ActorMoves two pace kind turned a b
  actor_more pace Compact turned a b moves = (moves.0, more moves.0 moves.1, moves.2, moves.3)
  actor_more pace kind turned a b moves = moves

  command_more : (pace : Pace) (plain : Plain) (command : Command) (reply : Reply) (a b : Parts) → CommandMoves one pace plain command reply a b → CommandMoves two pace plain command reply a b
  command_more pace plain (Step kind) reply a b moves = (moves.0, moves.1, actor_more pace kind moves.0 a b moves.2)
  command_more pace plain Stats reply a b moves = record { files = moves.files; is_read = more moves.files moves.is_read; figures = moves.figures; reply = moves.reply; counts = moves.counts; turned = moves.turned }
  command_more pace plain (CompactFile file) reply a b moves = record {
    files = moves.files;
    is_read = more moves.files moves.is_read;
    mid = moves.mid;
    mid_is_read = more moves.mid moves.mid_is_read;
    turned = moves.turned;
    reply = moves.reply;
    turns = moves.turns;
    compacts = moves.compacts;
    took = moves.took;
  }
  command_more pace plain CompactAll reply a b moves = record {
    files = moves.files;
    is_read = more moves.files moves.is_read;
    mid = moves.mid;
    mid_is_read = more moves.mid moves.mid_is_read;
    turns = moves.turns;
    compacts = moves.compacts;
    took = moves.took;
  }
  command_more pace plain Sync reply a b moves = moves
  command_more pace plain Stop reply a b moves = moves
  command_more pace plain command reply a b moves = moves

  answer_more : (pace : Pace) (plain : Plain) (meaning : LineMeaning) (response : Response) (a b : Parts) → AnswerMoves one pace plain meaning response a b → AnswerMoves two pace plain meaning response a b
  answer_more pace plain (refuses refusal) response a b moves = moves
  answer_more pace plain (asks command) (refused refusal) a b moves = moves
  answer_more pace plain (asks command) (replies reply) a b moves = command_more pace plain command reply a b moves

  steps_more : (pace : Pace) (first count : ℕ) (a b : Parts) → StepsMove one pace first count a b → StepsMove two pace first count a b
  steps_more pace first zero a b is = is
  steps_more pace first (suc count) a b is = (is.0, is.1, steps_more pace first count a is.0 is.2, actor_more pace (background_step (first + count)) is.1 is.0 b is.3)

  through_more : (pace : Pace) (taken due : ℕ) (plain : Plain) (lines : List (List ℕ)) (responses : List Response) (a : Parts) (all : ℕ) (b : Parts)
      → PartsThrough one pace taken due plain lines responses a all b → PartsThrough two pace taken due plain lines responses a all b
  through_more pace taken due plain [] [] a all b is = (is.0, is.1, is.2, steps_more pace taken is.0 a b is.3)
  through_more pace taken due plain [] (r ∷ responses) a all b is = absurd is
  through_more pace taken due plain (l ∷ lines) [] a all b is = absurd is
  through_more pace taken due plain (l ∷ lines) (r ∷ responses) a all b is = (
    is.0,
    is.1,
    steps_more pace taken due a is.0 is.2,
    answer_more pace plain (meaning_of l) r is.0 is.1 is.3,
    through_more pace (taken + due) (steps_behind pace.pump r) (after_answer plain (meaning_of l) r) lines responses is.1 all b is.4,
  )

  moved_more : (pace : Pace) (plain : Plain) (lines : List (List ℕ)) (responses : List Response) (taken turned : ℕ) (rows : List Row) → HasMoved one pace plain lines responses taken turned rows → HasMoved two pace plain lines responses taken turned rows
  moved_more pace plain lines responses taken turned rows moved = record {
    parts = moved.parts;
    is_rows = moved.is_rows;
    within = moved.within;
    counted = moved.counted;
    moved = through_more pace 0 0 plain lines responses _ taken moved.parts moved.moved;
  }

  talk_more : (talk : Talk) (course : Course) (left : List (List ℕ)) → IsTalk one talk course left → IsTalk two talk course left
  talk_more talk course left is = record {
    opens = is.opens;
    first = is.first;
    file = is.file;
    split = is.split;
    answers = is.answers;
    parts = (is.parts.0, is.parts.1, through_more course.pace 0 0 talk.opening talk.answered talk.responses _ is.parts.0 is.parts.1 is.parts.2);
    whole = is.whole;
  }

module _ (course : Course) (a b : HostState) (later : IsLater a b) where
  -- a talk is one still
  pub talk_later : (talk : Talk) (left : List (List ℕ)) → IsTalk (HasRead course a) talk course left → IsTalk (HasRead course b) talk course left
  talk_later talk left is = talk_more (HasRead course a) (HasRead course b) (read_later course a b later) talk course left is

  -- and parts were moved so still
  pub moved_later : (plain : Plain) (lines : List (List ℕ)) (responses : List Response) (taken turned : ℕ) (rows : List Row)
      → HasMoved (HasRead course a) course.pace plain lines responses taken turned rows → HasMoved (HasRead course b) course.pace plain lines responses taken turned rows
  moved_later plain lines responses taken turned rows moved = moved_more (HasRead course a) (HasRead course b) (read_later course a b later) course.pace plain lines responses taken turned rows moved
