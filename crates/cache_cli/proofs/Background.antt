-- What a background step comes to in a run.
use Rattle.std.proofs.Common.{◌≡◌, ℕ, suc, ◌+◌, ◌-◌, ◌≤◌, Bool, true, false, List, [], ◌∷◌, ◌++◌, length, Ok, Err, refl, sym, ◌∙◌, ap, subst, arith, length-append}
use Rattle.std.specs.Prelude.{Result, IsErr, IsErrAnd, IfErr, OnOk, if◌then◌else◌}
use Rattle.std.specs.Bool.{Decides}
use Rattle.std.specs.Str.{bytes_eq}
use Rattle.std.proofs.lemmas.Slice.Eq.{bytes_eq-Decides}
use Rattle.std.proofs.lemmas.List.{append-nil}
use Rattle.std.proofs.lemmas.List.Sums.{sum_by-append}
use Rattle.cache_model.specs.declared.commands.Command.TheVariants.{Step}
use Rattle.cache_model.specs.declared.commands.StepKind.{StepKind}
use Rattle.cache_model.specs.declared.entries.Change.{Change}
use Rattle.cache_model.specs.declared.faults.Spent.{Spent}
use Rattle.cache_model.specs.declared.faults.StoreFault.{StoreFault}
use Rattle.cache_model.specs.declared.faults.StoreFault.TheVariants as fault
use Rattle.cache_model.specs.declared.replies.Reply.{Reply}
use Rattle.cache_model.specs.declared.replies.Status.{Status}
use Rattle.cache_disk.specs.State.{HostState}
use Rattle.store_trait.specs.Meaning.{key_of, entry_of}
use Rattle.store_trait.specs.Keeping.{SameWhere, SameStore}
use Rattle.store_trait.specs.Calls.{IsNumbered}
use Rattle.cache_session.specs.Changing.{of_key}
use Rattle.cache_session.specs.Turns.{files_of, files_by, KeepsBy, IsContentAfter, Turns, Goes}
use Rattle.cache_cli.specs.Fitting.{IsLog}
use Rattle.cache_cli.specs.Parts.{ActorMoves, RowsMove}
use Rattle.cache_cli.specs.Pump.{background_step, files_by_steps}
use Rattle.cache_cli.specs.Saying.{ended_by, IsNoDamage}
use Rattle.cache_cli.specs.Talk.{Course, Talk, HasRead, done_in, plain_of, is_over, hand_of, next_command, asked_in}
use Rattle.cache_cli.specs.Run.{View, IsLater, IsPumping, HoldsSince, EndsAtSpent, EndsBy, Pumped}
use Rattle.cache_cli.proofs.Later.{later_by, read_at, talk_later, moved_later}
use Rattle.cache_cli.proofs.Logs.{log_on}
use Rattle.cache_cli.proofs.Moving.{follows_same, actor_moves}
use Rattle.cache_cli.proofs.Pumping.{has_stepped, files_later}
use Rattle.cache_cli.proofs.Running.{GoesOnTo, turn_holds, kept_tells}
use Rattle.cache_cli.proofs.Ending.{quiet_end, says_of, ends_early, ends_by_fault, takes_none}

-- a step makes no change
no_changes : (changes : List Change) → ((key : List ℕ) → of_key key changes ≡ []) → changes ≡ []
no_changes [] none = refl
no_changes (change ∷ changes) none = absurd (some (bytes_eq (key_of change) (key_of change)) (bytes_eq-Decides (key_of change) (key_of change)) (none (key_of change)))
  where
    some : (b : Bool) → Decides b (key_of change ≡ key_of change) → (if b then entry_of change ∷ of_key (key_of change) changes else of_key (key_of change) changes) ≡ [] → ⊥
    some true same is = cc
    some false same is = let never : false ≡ true = same.1 refl in cc

module _ (from : HostState) (course : Course) (ordered : Bool) (left : List (List ℕ)) (talk : Talk) (taken : ℕ) (old new : View) (kind : StepKind) (spoilt : Bool)
    (pumping : IsPumping from course ordered left talk taken old)
    (same : SameStore old.facts new.facts)
    (is : kind ≡ background_step taken)
    (room : suc taken ≤ asked_in course talk) where
  -- a log with the command in hand behind what was done
  on : GoesOnTo course left talk pumping.0.standing.log
  on = log_on talk.opening (done_in talk) (hand_of (is_over talk) left) pumping.0.standing.log pumping.0.standing.is_log

  module _ (result : Result Reply StoreFault) (turn : Turns [] (plain_of talk) (Step kind) old.facts new.facts spoilt old.store new.store old.host new.host result) where
    none : turn.changes ≡ []
    none = no_changes turn.changes turn.order

    pub step_holds : HoldsSince from course ordered new
    step_holds =
        let log : pumping.0.standing.log ≡ pumping.0.standing.log ++ turn.changes = sym (ap (λ (c : List Change). pumping.0.standing.log ++ c) none ∙ append-nil pumping.0.standing.log) in
        turn_holds from course ordered left talk taken old new (Step kind) spoilt result pumping same turn (subst (λ (l : List Change). GoesOnTo course left talk l) log on)

    later_turn : IsLater old.host new.host
    later_turn = later_by old.host new.host (SameWhere old.facts.owns false) turn.did.others.images

    said_still : new.host.said new.host.turn ≡ old.host.said old.host.turn
    said_still = quiet_end old.host new.host turn.did.others.images.later turn.did.silent

  -- it was taken
  pub step_taken : (reply : Reply) → old.host.left old.host.turn old.host.files → spoilt ≡ false → new.moment ≡ old.moment
      → Turns [] (plain_of talk) (Step kind) old.facts new.facts spoilt old.store new.store old.host new.host (Ok reply)
      → Pumped from course ordered left talk (suc taken) new (Ok tt)
  step_taken reply reads unspoilt moment turn =
      let so = pumping.0 in
      let nothing = none (Ok reply) turn in
      let holds = step_holds (Ok reply) turn in
      let follows = follows_same course.pace old.facts new.facts same so.follows in
      let later = later_turn (Ok reply) turn in
      let read = read_at course old.host new.host (omega (arith, so.holds.since, so.holds.others.images.later)) reads later in
      let moves = subst (λ (k : StepKind). RowsMove course.pace.queue (ActorMoves (HasRead course new.host) course.pace k turn.store.0) old.facts.parts new.facts.parts) is
      (actor_moves course.pace old.facts so.follows (HasRead course new.host) old.host.files read kind turn.store.0 old.facts.parts new.facts.parts turn.store.2) in
      let before = moved_later course old.host new.host later talk.opening talk.answered talk.responses taken so.turned old.facts.parts so.parts in
      let moved = has_stepped (HasRead course new.host) course.pace talk.opening talk.answered talk.responses taken old.facts.parts new.facts.parts so.turned before turn.store.0 room moves in
      record {
        goes = (
          kept_tells from course ordered left left talk taken (suc taken) old new (old.host.said old.host.turn) (new.host.said new.host.turn) talk.answered talk.responses talk.ended (files_of kind) so same turn.did.others.images.later
              (subst (λ (c : List Change). KeepsBy old.facts old.host.turn new.host.turn (plain_of talk).moment old.store new.store c) nothing turn.did.keeps)
              (subst (λ (c : List Change). IsContentAfter old.facts (plain_of talk).moment new.host.turn c old.store new.store) nothing turn.did.content)
              (subst (λ (c : List Change). IsNumbered (length c) old.facts.numbers new.facts.numbers) nothing turn.did.numbers)
              (omega (arith, turn.did.drawn, ap (λ (c : List Change). length c) nothing))
              (omega (arith, turn.did.made, ap (λ (c : List Change). length c) nothing))
              (ap (λ (k : StepKind). files_by_steps taken + files_of k) (sym is))
              (turn.did.stands unspoilt) (turn.did.sound so.sound) moment follows holds refl (talk_later course old.host new.host later talk left so.is_talk) moved (said_still (Ok reply) turn ∙ so.says),
          pumping.1,
        );
        ends = tt;
        holds = holds;
      }

  -- a number is at its end for it
  step_spent : (s : Spent) (broken : Bool) → Turns [] (plain_of talk) (Step kind) old.facts new.facts spoilt old.store new.store old.host new.host (Err (fault.Spent s))
      → Goes (Step kind) old.facts new.facts old.moment new.moment broken (Err (fault.Spent s))
      → EndsAtSpent course new
  step_spent s broken turn goes =
      let so = pumping.0 in
      let nothing = ap (λ (c : List Change). length c) (none (Err (fault.Spent s)) turn) in
      let log = so.standing.log ++ on.0 in
      let len = length-append so.standing.log on.0 in
      let asked = asked_in course talk in
      let all : suc taken + (asked - suc taken) ≡ asked = omega (arith, room) in
      let more : files_by_steps (suc taken) ≤ files_by_steps asked = omega (arith, files_later (suc taken) (asked - suc taken), ap files_by_steps all) in
      let step : files_by_steps (suc taken) ≡ files_by_steps taken + files_of kind = ap (λ (k : StepKind). files_by_steps taken + files_of k) (sym is) in
      record {
        talk = talk;
        left = left;
        says = says_of from course ordered left talk taken old (old.host.said old.host.turn) new.host so (said_still (Err (fault.Spent s)) turn) (later_turn (Err (fault.Spent s)) turn);
        going = pumping.1;
        log = log;
        is_log = subst (λ (b : Bool). IsLog talk.opening (done_in talk ++ hand_of b left) log) pumping.1 on.1;
        turns = so.turned;
        takes = takes_none course old.host new.host (later_turn (Err (fault.Spent s)) turn) left talk taken so.turned old.facts.parts so.parts;
        number = s;
        spent = turn.did.spent s refl;
        sequence = λ n at. omega (arith, goes.sequence n (ap (λ (x : Spent). Err (fault.Spent x)) at), turn.did.drawn, so.drawn, len, nothing);
        files = λ n at. omega (arith, goes.files n (ap (λ (x : Spent). Err (fault.Spent x)) at), turn.did.made, so.made, len, nothing, more, step, sum_by-append files_by (done_in talk) (next_command left));
      }

  -- it ended the run
  pub step_ended : (x : StoreFault) (ended : Status) (broken : Bool) → ended ≡ ended_by x → IsNoDamage x
      → Turns [] (plain_of talk) (Step kind) old.facts new.facts spoilt old.store new.store old.host new.host (Err x)
      → Goes (Step kind) old.facts new.facts old.moment new.moment broken (Err x)
      → Pumped from course ordered left talk (suc taken) new (Err ended)
  step_ended x ended broken at calm turn goes = record {
    goes = tt;
    ends = ends_by_fault course new x ended at calm (ends_early from course ordered left talk taken old new.host pumping (said_still (Err x) turn) (later_turn (Err x) turn))
        (λ s same_fault. step_spent s broken
        (subst (λ (y : StoreFault). Turns [] (plain_of talk) (Step kind) old.facts new.facts spoilt old.store new.store old.host new.host (Err y)) same_fault turn)
        (subst (λ (y : StoreFault). Goes (Step kind) old.facts new.facts old.moment new.moment broken (Err y)) same_fault goes));
    holds = step_holds (Err x) turn;
  }

-- what holds on Ok alone, and what holds of the error, where it is this one
none_done : (P : Type 0) (result : Result (Unit {0}) Status) → IsErr result → OnOk result P
none_done P (Ok done) is = cc
none_done P (Err status) is = tt

of_error : (P : Status → Type 0) (ended : Status) (result : Result (Unit {0}) Status) → IsErrAnd result (λ given. given ≡ ended) → P ended → IfErr result P
of_error P ended (Ok done) is holds = absurd is
of_error P ended (Err status) is holds = subst P (sym is) holds

-- the steps behind an answer ended with one of them
pub pumped_out : (from : HostState) (course : Course) (ordered : Bool) (left : List (List ℕ)) (talk : Talk) (taken : ℕ) (now : View) (ended : Status) (result : Result (Unit {0}) Status)
    → IsErr result × IsErrAnd result (λ given. given ≡ ended)
    → EndsBy ended course now → HoldsSince from course ordered now → Pumped from course ordered left talk taken now result
pumped_out from course ordered left talk taken now ended result is ends holds = record {
  goes = none_done (IsPumping from course ordered left talk taken now) result is.0;
  ends = of_error (λ status. EndsBy status course now) ended result is.1 ends;
  holds = holds;
}
