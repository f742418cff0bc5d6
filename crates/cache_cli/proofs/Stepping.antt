-- One step of a run: a line more, or the end of the script.
use Rattle.std.proofs.Common.{◌≡◌, ℕ, ◌+◌, ◌^◌, ◌<◌, Bool, true, false, List, [], ◌∷◌, ◌++◌, length, Result, Ok, Err, refl, sym, ◌∙◌, ap, subst, arith}
use Rattle.std.specs.Prelude.{sum_by, IsErr, IsErrAnd}
use Rattle.std.proofs.lemmas.List.Sums.{sum_by-append, sum_by-cons}
use Rattle.cache_model.specs.declared.replies.Status.{Status}
use Rattle.cache_model.specs.Lines.{lines_of, units_of, units_of_length}
use Rattle.cache_disk.specs.State.{HostState}
use Rattle.cache_script.specs.declared.line_reader.LineReader.{LineReader}
use Rattle.cache_script.specs.LineReader.{unread, units_taken, TakesLine, Exhausts}
use Rattle.cache_cli.specs.Talk.{Course, Talk, HasRead, IsTalk, asked_in}
use Rattle.cache_cli.specs.Ends.{EndsTaken}
use Rattle.cache_cli.specs.declared.pump.Pump.{Pump}
use Rattle.cache_cli.specs.Run.{View, HoldsSince, EndsBy, IsTalking, AnswersBy, Answered, LongAnswered, Closed, Pumped}
use Rattle.cache_cli.specs.Steps.{IsTalkingOn, HasAnswered, AnswersOn, AnsweredNext, IsPaced, Stepped, Ran}
use Rattle.cache_cli.proofs.Ending.{says_of}
use Rattle.cache_cli.proofs.Later.{later_same}

-- the units of one line more
units-append : (lines : List (List ℕ)) (line : List ℕ) → units_of (lines ++ line ∷ []) ≡ units_of lines + (1 + units_of_length (length line))
units-append lines line =
    let units_by : List ℕ → ℕ = λ (l : List ℕ). 1 + units_of_length (length l) in
    sum_by-append units_by lines (line ∷ []) ∙ ap (λ (n : ℕ). sum_by units_by lines + n) (sum_by-cons units_by line [] ∙ omega arith)

module _ (from : HostState) (course : Course) (ordered : Bool) (talk : Talk) (old new : View) (before after : LineReader) (rest_old rest_new : List ℕ) (line : List ℕ)
    (on : IsTalkingOn from course ordered talk old before rest_old)
    (takes : TakesLine line (unread before rest_old) (unread after rest_new) (units_taken before) (units_taken after)) where
  -- the line that was taken is in hand
  pub has_line : IsTalking from course ordered (line ∷ lines_of (unread after rest_new)) talk old
  has_line = subst (λ (left : List (List ℕ)). IsTalking from course ordered left talk old) takes.lines on.talking

  units_on : units_taken after ≡ units_of (talk.answered ++ line ∷ [])
  units_on = omega (arith, takes.counted, on.units, units-append talk.answered line)

  by_answer : (more : Bool) → AnswersBy more from course ordered (lines_of (unread after rest_new)) (talk.answered ++ line ∷ []) (asked_in course talk) new → AnswersOn more from course ordered (asked_in course talk) new after rest_new
  by_answer true talks = (talks.talk, record { pumping = talks.pumping; due = talks.due; units = units_on ∙ ap units_of (sym talks.answers) })
  by_answer false finished = record {
    talk = finished.talk;
    left = finished.left;
    says = finished.says;
    over = finished.over;
    units = omega (arith, units_is finished.talk.answered finished.answers, takes.within);
    fewer = λ ended. absurd (false_true (sym finished.ends ∙ ended));
  }
    where
      units_is : (answered : List (List ℕ)) → answered ≡ talk.answered ++ line ∷ [] → units_of answered ≡ units_taken after
      units_is answered is = ap units_of is ∙ sym units_on

      false_true : false ≡ true → ⊥
      false_true h = cc

  -- it was answered
  pub answered_line : (result : Result Bool Status) → Answered from course ordered (lines_of (unread after rest_new)) (talk.answered ++ line ∷ []) (asked_in course talk) new result
      → AnsweredNext from course ordered (asked_in course talk) new after rest_new result
  answered_line (Ok more) answered = record { goes = by_answer more answered.goes; ends = tt; holds = answered.holds }
  answered_line (Err ended) answered = record { goes = tt; ends = answered.ends; holds = answered.holds }

-- a line that is too long was refused, as an answer
pub long_goes : (from : HostState) (course : Course) (ordered : Bool) (left answered : List (List ℕ)) (taken : ℕ) (now : View) → LongAnswered from course ordered left answered taken now (Ok tt) → Answered from course ordered left answered taken now (Ok true)
long_goes from course ordered left answered taken now long = record { goes = long.goes; ends = tt; holds = long.holds }

pub long_ends : (from : HostState) (course : Course) (ordered : Bool) (left answered : List (List ℕ)) (taken : ℕ) (now : View) (ended : Status)
    → LongAnswered from course ordered left answered taken now (Err ended) → Answered from course ordered left answered taken now (Err ended)
long_ends from course ordered left answered taken now ended long = record { goes = tt; ends = long.ends; holds = long.holds }

-- the end of the script was answered
pub answered_end : (from : HostState) (course : Course) (ordered : Bool) (talk : Talk) (old new : View) (before after : LineReader) (rest_old rest_new : List ℕ)
    → IsTalkingOn from course ordered talk old before rest_old → units_taken before < 2 ^ 32
    → Closed from course ordered talk new (Ok tt) → AnsweredNext from course ordered (asked_in course talk) new after rest_new (Ok false)
answered_end from course ordered talk old new before after rest_old rest_new on few closed = record {
  goes = record {
    talk = closed.over.talk;
    left = closed.over.left;
    says = closed.over.says;
    over = closed.over.over;
    units = omega (arith, few, on.units, ap units_of closed.over.answers);
    fewer = λ ended. omega (arith, few, on.units, ap units_of closed.over.answers);
  };
  ends = tt;
  holds = closed.holds;
}

-- a run that took as many units as it may
pub ends_taken : (from : HostState) (course : Course) (ordered : Bool) (talk : Talk) (now : View) (reader : LineReader) (rest : List ℕ)
    → IsTalkingOn from course ordered talk now reader rest → Exhausts (unread reader rest) (units_taken reader)
    → EndsTaken course now.host
ends_taken from course ordered talk now reader rest on exhausts =
    let says = says_of from course ordered (lines_of (unread reader rest)) talk (asked_in course talk) now (now.host.said now.host.turn) now.host on.talking.0 refl (later_same now.host) in
    record {
      talk = talk;
      part = exhausts.line;
      rest = exhausts.rest;
      says = record {
        is_talk = subst (λ (input : List ℕ). IsTalk (HasRead course now.host) talk course (lines_of input)) exhausts.front says.is_talk;
        said = says.said;
        log = says.log;
        is_log = says.is_log;
        within = says.within;
      };
      going = on.talking.1;
      lacks = exhausts.lacks;
      units = omega (arith, exhausts.spent, on.units);
    }

-- the background steps behind the answer were taken
pub stepped_on : (from : HostState) (course : Course) (ordered : Bool) (talk : Talk) (taken : ℕ) (mid new : View) (pump : Pump) (reader : LineReader) (rest : List ℕ)
    → HasAnswered from course ordered talk taken mid reader rest
    → Pumped from course ordered (lines_of (unread reader rest)) talk (asked_in course talk) new (Ok tt)
    → IsPaced course (taken + course.pace.pump) pump
    → Stepped from course ordered new pump reader rest (Ok true)
stepped_on from course ordered talk taken mid new pump reader rest has pumped paced = record {
  goes = (talk, record { talking = pumped.goes; units = has.units }, subst (λ (n : ℕ). IsPaced course n pump) (sym has.due) paced);
  ends = tt;
  holds = pumped.holds;
}

-- a run that a step ended
pub ran_out : (from : HostState) (course : Course) (ordered : Bool) (now : View) (ended : Status) (result : Result (Unit {0}) Status)
    → IsErr result × IsErrAnd result (λ given. given ≡ ended)
    → EndsBy ended course now → HoldsSince from course ordered now → Ran from course ordered now result
ran_out from course ordered now ended (Ok done) is ends holds = cc
ran_out from course ordered now ended (Err status) is ends holds = record { whole = tt; ends = subst (λ (s : Status). EndsBy s course now) (sym is.1) ends; holds = holds }
