-- What a turn of the session comes to in a run.
use Rattle.std.proofs.Common.{◌≡◌, Bool, true, false, List, [], ◌∷◌, ℕ, ◌+◌, ◌≤◌, length, Some, None, Ok, Err, refl, ◌∙◌, subst, arith}
use Rattle.std.specs.Prelude.{Result, ◌||◌, ◌&&◌, not}
use Rattle.std.proofs.lemmas.List.{append-nil}
use Rattle.cache_model.specs.declared.commands.Command.{Command}
use Rattle.cache_model.specs.declared.faults.StoreFault.{StoreFault}
use Rattle.cache_model.specs.declared.faults.StoreFault.TheVariants as fault
use Rattle.cache_model.specs.declared.replies.Reply.{Reply}
use Rattle.cache_model.specs.declared.replies.Status.{Status}
use Rattle.cache_model.specs.Plain.{moment_after}
use Rattle.cache_model.specs.Transcript.{may_be_refused}
use Rattle.cache_disk.specs.State.{HostState}
use Rattle.store_trait.specs.Keeping.{SameWhere, HoldsNow, SameStore}
use Rattle.cache_session.specs.Turns.{Turns, Goes, IsBuilt, files_by}
use Rattle.cache_cli.specs.Saying.{ended_by, IsNoDamage, is_memory}
use Rattle.cache_cli.specs.Talk.{Course, Talk, HasRead, done_in, plain_of, next_command, asked_in}
use Rattle.cache_cli.specs.Run.{View, IsLater, IsTalking, EndsBy, Does}
use Rattle.cache_cli.specs.Parts.{RowsMove, CommandMoves, FollowsParts}
use Rattle.cache_cli.proofs.Built.{reply_is}
use Rattle.cache_cli.proofs.Later.{later_by, read_at, read_between}
use Rattle.cache_cli.proofs.Moving.{follows_same, command_moves, room_moves}
use Rattle.cache_cli.proofs.Running.{command_holds, done_tells, kept_tells}
use Rattle.cache_cli.proofs.Ending.{quiet_end, ends_early, ends_spent, ends_by_fault}

pub second_false : (a b : Bool) → (a || b) ≡ false → b ≡ false
second_false true b h = cc
second_false false b h = h

-- a refusal is want of memory of a command that may be refused, in a session that can go on
pub refusal_is : (refusable spoilt : Bool) (x : StoreFault) → true ≡ (refusable && not spoilt && is_memory x) → (refusable ≡ true) × (spoilt ≡ false) × (x ≡ fault.Memory)
refusal_is true false fault.Memory is = (refl, refl, refl)
refusal_is true false fault.Failed is = cc
refusal_is true false (fault.Spent s) is = cc
refusal_is true false (fault.Damaged d) is = cc
refusal_is true true x is = cc
refusal_is false spoilt x is = cc

module _ (from : HostState) (course : Course) (ordered : Bool) (left : List (List ℕ)) (talk : Talk) (old new : View) (command : Command) (spoilt : Bool)
    (talking : IsTalking from course ordered left talk old)
    (hand : next_command left ≡ command ∷ [])
    (same : SameStore old.facts new.facts) where
  follows : FollowsParts course.pace new.facts
  follows = follows_same course.pace old.facts new.facts same talking.0.follows

  -- a turn leads to a later host
  later_turn : (result : Result Reply StoreFault) → Turns [] (plain_of talk) command old.facts new.facts spoilt old.store new.store old.host new.host result → IsLater old.host new.host
  later_turn result turn = later_by old.host new.host (SameWhere old.facts.owns false) turn.did.others.images

  -- a command was done
  pub does_ok : (reply : Reply) → IsBuilt command → old.host.left old.host.turn old.host.files → spoilt ≡ false → HoldsNow new.facts new.store new.host.turn → new.moment ≡ moment_after old.moment command
      → Turns [] (plain_of talk) command old.facts new.facts spoilt old.store new.store old.host new.host (Ok reply)
      → Does from course ordered left talk command talking.0.turned old new (Ok (Some reply))
  does_ok reply built reads unspoilt now moment turn = record {
    goes = (
      moves.0,
      reply_is command (plain_of talk) reply old.facts new.facts old.host new.host built turn.reply turn.store,
      λ next said answered responses ended done is_talk moved says.
          done_tells from course ordered left talk old new command spoilt talking hand same reply moves.0 next said answered responses ended turn unspoilt now moves.1 moment follows done is_talk moved says,
      moves.2,
    );
    silent = quiet_end old.host new.host turn.did.others.images.later turn.did.silent;
    later = later_turn (Ok reply) turn;
    ends = tt;
    holds = command_holds from course ordered left talk old new command spoilt talking hand same (Ok reply) turn;
  }
    where
      since : course.since ≤ old.host.turn
      since = omega (arith, talking.0.holds.since, talking.0.holds.others.images.later)

      -- how it moved the rows, and how many files it made at the most
      moves : (turns : ℕ) × (new.facts.made ≤ old.facts.made + length turn.changes + files_by command + turns)
          × RowsMove course.pace.queue (λ a b. CommandMoves (HasRead course new.host) course.pace (plain_of talk) command reply a b × (b.turned ≡ a.turned + turns)) old.facts.parts new.facts.parts
      moves =
          command_moves course.pace old.facts talking.0.follows new.facts old.host new.host (HasRead course new.host) (read_at course old.host new.host since reads (later_turn (Ok reply) turn)) (read_between course old.host new.host since)
          command (plain_of talk) turn.changes turn.order reply turn.did.parts turn.store turn.did.made

  -- a command was refused for want of memory
  pub does_refused : spoilt ≡ false → may_be_refused command ≡ true → new.moment ≡ old.moment
      → Turns [] (plain_of talk) command old.facts new.facts spoilt old.store new.store old.host new.host (Err fault.Memory)
      → Does from course ordered left talk command talking.0.turned old new (Ok None)
  does_refused unspoilt may moment turn =
      let kept = turn.did.refused refl unspoilt in
      let holds = command_holds from course ordered left talk old new command spoilt talking hand same (Err fault.Memory) turn in
      let asked = asked_in course talk in
      record {
        goes = (
          may,
          λ next said answered responses ended done is_talk moved says.
              kept_tells from course ordered left next talk asked asked old new (old.host.said old.host.turn) said answered responses ended 0 talking.0 same turn.did.others.images.later kept.keeps kept.content
              kept.numbers.numbers kept.numbers.drawn (omega (arith, kept.numbers.made)) (omega arith) (turn.did.stands unspoilt) (turn.did.sound talking.0.sound) moment follows holds
              (done ∙ append-nil (done_in talk)) is_talk moved says,
          room_moves course.pace old.facts talking.0.follows old.facts.parts new.facts.parts kept.parts,
        );
        silent = quiet_end old.host new.host turn.did.others.images.later turn.did.silent;
        later = later_turn (Err fault.Memory) turn;
        ends = tt;
        holds = holds;
      }

  -- a fault ended the run
  pub does_err : (x : StoreFault) (ended : Status) → EndsBy ended course new
      → Turns [] (plain_of talk) command old.facts new.facts spoilt old.store new.store old.host new.host (Err x)
      → Does from course ordered left talk command talking.0.turned old new (Err ended)
  does_err x ended ends turn = record {
    goes = tt;
    silent = tt;
    later = tt;
    ends = ends;
    holds = command_holds from course ordered left talk old new command spoilt talking hand same (Err x) turn;
  }

  -- the status of a fault that isn't damage
  pub does_fault : (x : StoreFault) (ended : Status) (broken : Bool) → old.host.left old.host.turn old.host.files → ended ≡ ended_by x → IsNoDamage x
      → Turns [] (plain_of talk) command old.facts new.facts spoilt old.store new.store old.host new.host (Err x)
      → Goes command old.facts new.facts old.moment new.moment broken (Err x)
      → EndsBy ended course new
  does_fault x ended broken reads is none turn goes = ends_by_fault course new x ended is none
      (ends_early from course ordered left talk (asked_in course talk) old new.host talking (quiet_end old.host new.host turn.did.others.images.later turn.did.silent) (later_turn (Err x) turn))
      (λ s same_fault. ends_spent from course ordered left talk old new command spoilt broken s talking hand reads
      (subst (λ (y : StoreFault). Turns [] (plain_of talk) command old.facts new.facts spoilt old.store new.store old.host new.host (Err y)) same_fault turn)
      (subst (λ (y : StoreFault). Goes command old.facts new.facts old.moment new.moment broken (Err y)) same_fault goes))
