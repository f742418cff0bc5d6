-- How a run begins: a session was opened, and nothing was said.
use Rattle.std.proofs.Common.{◌≡◌, inl, inr, ℕ, Bool, false, List, [], ◌++◌, Option, Result, Ok, Err, refl, sym, ◌∙◌, ap, subst, arith}
use Rattle.std.specs.Prelude.{◌||◌}
use Rattle.std.specs.List.{list_any}
use Rattle.std.proofs.lemmas.List.{append-nil}
use Rattle.cache_model.specs.declared.replies.Status.{Status}
use Rattle.cache_model.specs.declared.replies.Status.TheVariants as status
use Rattle.cache_model.specs.Lines.{lines_of, units_of}
use Rattle.cache_model.specs.Replies.{Response, opened_line}
use Rattle.cache_model.specs.Transcript.{ends_talk}
use Rattle.cache_disk.specs.State.{HostState}
use Rattle.cache_disk.specs.Calls.{and_then_said}
use Rattle.store_trait.specs.Meaning.{read_in}
use Rattle.store_trait.specs.Keeping.{HoldsNow}
use Rattle.store_trait.proofs.Alike.{alike_same, alike_weaker}
use Rattle.cache_script.specs.declared.line_reader.LineReader.{LineReader}
use Rattle.cache_script.specs.LineReader.{IsNew, unread}
use Rattle.cache_cli.specs.Parts.{no_parts}
use Rattle.cache_cli.specs.Pump.{steps_asked}
use Rattle.cache_cli.specs.Talk.{Course, Talk, is_over}
use Rattle.cache_cli.specs.Run.{View, HoldsSince, IsTelling, IsInHand, Told}
use Rattle.cache_cli.specs.Steps.{IsTalkingOn, Ran}
use Rattle.cache_cli.specs.Opening.{first_talk, Begins, Finished}
use Rattle.cache_cli.proofs.Ending.{ends_early}
use Rattle.cache_cli.proofs.Later.{later_same}
use Rattle.cache_cli.proofs.Standing.{opening_same}

module _ (course : Course) (ordered : Bool) (now : View) (begins : Begins course ordered now) (holds : HoldsNow now.facts now.store now.host.turn) where
  -- nothing has happened since
  pub since_now : HoldsSince now.host course ordered now
  since_now = record {
    since = begins.since;
    others = record {
      files = λ name is. refl;
      images = record { later = omega arith; past = λ t c early left. left; kept = λ t c early left. left; now = λ t c after before left. absurd (omega (arith, after, before)) };
    };
    past = λ t early. refl;
    each = λ t said after before is. absurd (omega (arith, after, before));
    opens = λ t after before. let at : now.host.turn ≡ t = omega (arith, after, before) in subst (λ (x : ℕ). now.store.opens x) at (holds.opens begins.sound);
  }

  -- the line that the session begins with is in hand
  pub in_hand_opened : (bytes : List ℕ) → bytes ≡ opened_line now.moment → IsInHand now.host course ordered course.lines (first_talk begins.opening begins.first) 0 bytes now
  in_hand_opened bytes is = record {
    is_talk = begins.is_talk;
    says = ap (λ (s : Option (List ℕ)). and_then_said s bytes) begins.silent
        ∙ ap (λ (l : List ℕ). and_then_said course.said l) (is ∙ ap (λ (m : ℕ). opened_line m) (sym begins.moment) ∙ sym (append-nil (opened_line begins.opening.moment ++ []) ∙ append-nil (opened_line begins.opening.moment)));
    stands = begins.stands;
    sound = begins.sound;
    base = now.store.content;
    opening = begins.is_opening;
    standing = record {
      log = [];
      is_log = refl;
      kept = λ key. alike_same (Unit {0}) begins.opening.moment (read_in now.store.content key);
      at_marks = λ key r mark may. alike_same (Unit {0}) mark (read_in now.store.content key);
      shows = λ key. opening_same begins.opening now.store.content key begins.opening.moment begins.is_opening;
      each = λ key r mark may. record {
        count = 0;
        within = omega arith;
        holds = omega arith;
        alike = alike_weaker (now.facts.forgets key) (Unit {0}) mark r (read_in now.store.content key) (λ _. tt) (begins.settled key r mark may);
      };
      whole = λ orderly c mark may. record {
        count = 0;
        within = omega arith;
        holds = λ key. omega arith;
        alike = λ key. alike_weaker (now.facts.forgets key) (Unit {0}) mark (read_in c key) (read_in now.store.content key) (λ _. tt) (begins.settled key (read_in c key) mark (holds.fits c mark may key));
      };
      settled = λ firm key. begins.settled key;
      firm = begins.firm;
      is_ordered = begins.is_ordered;
    };
    moment = begins.moment;
    follows = begins.follows;
    turned = 0;
    parts = record { parts = no_parts; is_rows = begins.parts; within = omega arith; counted = refl; moved = (0, omega arith, omega arith, refl) };
    numbers = (begins.first, begins.numbers, record { sequence = omega arith; file = omega arith; within = λ some. absurd (omega (arith, some)) });
    drawn = omega (arith, begins.drawn);
    made = omega (arith, begins.made);
    holds = since_now;
  }

  -- no line could be said
  pub finished_unopened : Finished now.host course ordered now (Err status.NoMemory)
  finished_unopened = record { whole = tt; ends = inl (inr (refl, refl)); holds = since_now }

-- saying the first line ended the run
pub finished_unsaid : (course : Course) (ordered : Bool) (talk : Talk) (old now : View) (ended : Status)
    → Told old.host course ordered course.lines talk 0 old now (Err ended) → Finished old.host course ordered now (Err ended)
finished_unsaid course ordered talk old now ended told = record { whole = tt; ends = inl told.ends; holds = told.holds }

-- no line could be taken
pub finished_untaken : (from : HostState) (course : Course) (ordered : Bool) (talk : Talk) (old now : View)
    → (talk.ended ≡ false) → (talk.responses ≡ []) → Told from course ordered course.lines talk 0 old now (Ok tt) → Finished from course ordered now (Err status.NoMemory)
finished_untaken from course ordered talk old now going none told = record {
  whole = tt;
  ends = inr (ends_early from course ordered course.lines talk 0 now now.host (told.goes, over) refl (later_same now.host));
  holds = told.holds;
}
  where
    over : is_over talk ≡ false
    over = ap (λ (b : Bool). b || list_any ends_talk talk.responses) going ∙ ap (λ (l : List Response). list_any ends_talk l) none

-- a reader that has taken nothing talks on from the first line
pub talks_new : (from : HostState) (course : Course) (ordered : Bool) (talk : Talk) (now : View) (reader : LineReader) (rest : List ℕ)
    → course.lines ≡ lines_of rest
    → IsTelling from course ordered course.lines talk 0 now (now.host.said now.host.turn)
    → talk.ended ≡ false → talk.responses ≡ [] → talk.answered ≡ []
    → IsNew reader
    → IsTalkingOn from course ordered talk now reader rest
talks_new from course ordered talk now reader rest lines telling going none nothing new = record {
  talking = (
    subst (λ (taken : ℕ). IsTelling from course ordered (lines_of (unread reader rest)) talk taken now (now.host.said now.host.turn)) (sym (ap (λ (r : List Response). steps_asked course.pace.pump r) none))
        (subst (λ (left : List (List ℕ)). IsTelling from course ordered left talk 0 now (now.host.said now.host.turn)) (lines ∙ ap (λ (l : List ℕ). lines_of (l ++ rest)) (sym new.nothing)) telling),
    over,
  );
  units = new.none ∙ ap units_of (sym nothing);
}
  where
    over : is_over talk ≡ false
    over = ap (λ (b : Bool). b || list_any ends_talk talk.responses) going ∙ ap (λ (l : List Response). list_any ends_talk l) none

-- the script was answered, or the run ended
pub ran_finished : (from : HostState) (course : Course) (ordered : Bool) (now : View) (result : Result (Unit {0}) Status) → Ran from course ordered now result → Finished from course ordered now result
ran_finished from course ordered now (Ok done) ran = record { whole = ran.whole; ends = tt; holds = ran.holds }
ran_finished from course ordered now (Err ended) ran = record { whole = tt; ends = inr ran.ends; holds = ran.holds }
