-- A line more is answered.
use Rattle.std.proofs.Common.{◌≡◌, inl, inr, ℕ, ◌+◌, Bool, true, false, List, [], ◌∷◌, ◌++◌, Result, Ok, Err, Some, None, refl, sym, ◌∙◌, ap, subst, arith}
use Rattle.std.specs.Prelude.{◌||◌, not, if◌then◌else◌}
use Rattle.std.specs.List.{list_any}
use Rattle.std.proofs.lemmas.List.{append-nil}
use Rattle.std.proofs.lemmas.List.Folds.{list_any-append}
use Rattle.cache_model.specs.declared.commands.Command.{Command}
use Rattle.cache_model.specs.declared.commands.Command.TheVariants.{Stop}
use Rattle.cache_model.specs.declared.replies.Reply.{Reply}
use Rattle.cache_model.specs.declared.replies.Status.{Status}
use Rattle.cache_model.specs.Files.{Image}
use Rattle.cache_model.specs.Plain.{Plain, plain_after_all}
use Rattle.cache_model.specs.Lines.{LineMeaning, asks, refuses, meaning_of}
use Rattle.cache_model.specs.Replies.{Response, Refusal, replies, refused, memory, reply_text, refusal_text, response_text, line_of}
use Rattle.cache_model.specs.Transcript.{Answers, command_done, ends_talk}
use Rattle.cache_disk.specs.State.{HostState}
use Rattle.cache_disk.specs.Calls.{and_then_said}
use Rattle.store_trait.specs.Meaning.{Row}
use Rattle.cache_cli.specs.Parts.{Pace, Parts, AnswerMoves, RowsMove, RoomMoves}
use Rattle.cache_cli.specs.Pump.{HasMoved}
use Rattle.cache_cli.specs.Talk.{Course, Talk, HasRead, done_in, plain_of, is_over, asked_in}
use Rattle.cache_cli.specs.Run.{View, IsLater, TellsMore, DoesBy, IsTelling, IsTalking, IsInHand, Told, AnswersBy, Answered, LongAnswered, Closed}
use Rattle.cache_cli.proofs.Answering.{with_answer, with_end, not_ended, none_ends, done-going, done-append, talk-append, says-append, done-end, talk-end, says-end}
use Rattle.cache_cli.proofs.Pumping.{asked-append, has_answered, has_stayed}
use Rattle.cache_cli.proofs.Later.{later_same, later_then, talk_later, moved_later}
use Rattle.cache_cli.proofs.Moving.{rows_more, room_turned}
use Rattle.cache_cli.proofs.Running.{retell}
use Rattle.cache_cli.proofs.Ending.{says_of, ends_saying}

or_false : (b : Bool) → (b || false) ≡ b
or_false true = refl
or_false false = refl

-- a talk that wasn't over is over with an answer that ends it
pub over-append : (talk : Talk) (line : List ℕ) (response : Response) → is_over talk ≡ false → is_over (with_answer talk line response) ≡ ends_talk response
over-append talk line response going =
    ap (λ (b : Bool). b || list_any ends_talk (talk.responses ++ response ∷ [])) (not_ended talk going)
    ∙ list_any-append ends_talk talk.responses (response ∷ [])
    ∙ ap (λ (b : Bool). b || list_any ends_talk (response ∷ [])) (none_ends talk going)
    ∙ or_false (ends_talk response)

-- a refusal is in hand
none_done : (meaning : LineMeaning) (refusal : Refusal) → command_done meaning (refused refusal) ≡ []
none_done (asks command) refusal = refl
none_done (refuses other) refusal = refl

-- and leaves the rows
left_so : (read : Image → Type 0) (pace : Pace) (plain : Plain) (meaning : LineMeaning) (refusal : Refusal) (a : Parts) → AnswerMoves read pace plain meaning (refused refusal) a a
left_so read pace plain (asks command) refusal a = inl refl
left_so read pace plain (refuses other) refusal a = refl

-- the rows with one answer more, which took so many turns for a line that compacts files
moved-append : (read : Image → Type 0) (course : Course) (left : List (List ℕ)) (talk : Talk) (going : is_over talk ≡ false) (line : List ℕ) (response : Response) (rows next : List Row) (turned turns all : ℕ)
    → all ≡ turned + turns
    → HasMoved read course.pace talk.opening talk.answered talk.responses (asked_in course talk) turned rows
    → RowsMove course.pace.queue (λ a b. AnswerMoves read course.pace (plain_of talk) (meaning_of line) response a b × (b.turned ≡ a.turned + turns)) rows next
    → HasMoved read course.pace talk.opening (talk.answered ++ line ∷ []) (talk.responses ++ response ∷ []) (asked_in course talk) all next
moved-append read course left talk going line response rows next turned turns all sum moved moves =
    has_answered read course.pace talk.opening talk.answered talk.responses (asked_in course talk) rows next turned moved line response turns all sum refl
    (subst (λ (cs : List Command). RowsMove course.pace.queue (λ a b. AnswerMoves read course.pace (plain_after_all talk.opening cs) (meaning_of line) response a b × (b.turned ≡ a.turned + turns)) rows next) (done-going course left talk going) moves)

pub refusal_in_hand : (from : HostState) (course : Course) (ordered : Bool) (left : List (List ℕ)) (talk : Talk) (line : List ℕ) (refusal : Refusal) (now : View)
    → IsTalking from course ordered (line ∷ left) talk now
    → Answers [] (plain_of talk) (meaning_of line) (refused refusal)
    → IsInHand from course ordered left (with_answer talk line (refused refusal)) (asked_in course talk) (line_of (refusal_text refusal)) now
refusal_in_hand from course ordered left talk line refusal now talking answers =
    let response = refused refusal in
    let is = talking.0.is_talk in
    let rows = now.facts.parts in
    let read = HasRead course now.host in
    let moved = moved-append read course left talk talking.1 line response rows rows talking.0.turned 0 talking.0.turned (omega arith) talking.0.parts
    (λ a at within. (a, at, within, (left_so read course.pace (plain_of talk) (meaning_of line) refusal a, omega arith))) in
    retell from course ordered (line ∷ left) left talk (asked_in course talk) now (now.host.said now.host.turn) (and_then_said (now.host.said now.host.turn) (line_of (refusal_text refusal)))
    (talk.answered ++ line ∷ []) (talk.responses ++ response ∷ []) talk.ended talking.0
    (done-append course left talk talking.1 read line response is ∙ ap (λ (cs : List Command). done_in talk ++ cs) (none_done (meaning_of line) refusal) ∙ append-nil (done_in talk))
    (talk-append course left talk talking.1 read line response (asked_in course talk) talking.0.turned rows is answers moved) moved
    (says-append course left talk talking.1 line response (now.host.said now.host.turn) talking.0.says)

-- the answer of a turn is in hand
turned_in_hand : (from : HostState) (course : Course) (ordered : Bool) (left : List (List ℕ)) (talk : Talk) (line : List ℕ) (response : Response) (commands : List Command) (turns all : ℕ) (old now : View)
    → (talking : IsTalking from course ordered (line ∷ left) talk old)
    → all ≡ talking.0.turned + turns
    → Answers [] (plain_of talk) (meaning_of line) response
    → command_done (meaning_of line) response ≡ commands
    → now.host.said now.host.turn ≡ old.host.said old.host.turn
    → IsLater old.host now.host
    → TellsMore from course ordered talk commands all now
    → RowsMove course.pace.queue (λ a b. AnswerMoves (HasRead course now.host) course.pace (plain_of talk) (meaning_of line) response a b × (b.turned ≡ a.turned + turns)) old.facts.parts now.facts.parts
    → IsInHand from course ordered left (with_answer talk line response) (asked_in course talk) (line_of (response_text response)) now
turned_in_hand from course ordered left talk line response commands turns all old now talking sum answers done said later more moves =
    let read = HasRead course now.host in
    let is = talk_later course old.host now.host later talk (line ∷ left) talking.0.is_talk in
    let before = moved_later course old.host now.host later talk.opening talk.answered talk.responses (asked_in course talk) talking.0.turned old.facts.parts talking.0.parts in
    let moved = moved-append read course left talk talking.1 line response old.facts.parts now.facts.parts talking.0.turned turns all sum before moves in
    more left (and_then_said (now.host.said now.host.turn) (line_of (response_text response))) (talk.answered ++ line ∷ []) (talk.responses ++ response ∷ []) talk.ended
    (done-append course left talk talking.1 read line response is ∙ ap (λ (cs : List Command). done_in talk ++ cs) done)
    (talk-append course left talk talking.1 read line response (asked_in course talk) all now.facts.parts is answers moved) moved
    (says-append course left talk talking.1 line response (now.host.said now.host.turn) (said ∙ talking.0.says))

-- the reply of a command that was done is in hand
pub reply_in_hand : (from : HostState) (course : Course) (ordered : Bool) (left : List (List ℕ)) (talk : Talk) (line : List ℕ) (command : Command) (reply : Reply) (old now : View)
    → (talking : IsTalking from course ordered (line ∷ left) talk old)
    → meaning_of line ≡ asks command
    → now.host.said now.host.turn ≡ old.host.said old.host.turn
    → IsLater old.host now.host
    → DoesBy (Some reply) from course ordered (line ∷ left) talk command talking.0.turned old now
    → IsInHand from course ordered left (with_answer talk line (replies reply)) (asked_in course talk) (line_of (reply_text reply)) now
reply_in_hand from course ordered left talk line command reply old now talking asked said later did =
    turned_in_hand from course ordered left talk line (replies reply) (command ∷ []) did.0 (talking.0.turned + did.0) old now talking refl
    (subst (λ (m : LineMeaning). Answers [] (plain_of talk) m (replies reply)) (sym asked) (inl did.1)) (ap (λ (m : LineMeaning). command_done m (replies reply)) asked) said later did.2
    (subst (λ (m : LineMeaning). RowsMove course.pace.queue (λ a b. AnswerMoves (HasRead course now.host) course.pace (plain_of talk) m (replies reply) a b × (b.turned ≡ a.turned + did.0)) old.facts.parts now.facts.parts) (sym asked) did.3)

-- the refusal of a command for want of memory is in hand
pub memory_in_hand : (from : HostState) (course : Course) (ordered : Bool) (left : List (List ℕ)) (talk : Talk) (line : List ℕ) (command : Command) (old now : View)
    → (talking : IsTalking from course ordered (line ∷ left) talk old)
    → meaning_of line ≡ asks command
    → now.host.said now.host.turn ≡ old.host.said old.host.turn
    → IsLater old.host now.host
    → DoesBy None from course ordered (line ∷ left) talk command talking.0.turned old now
    → IsInHand from course ordered left (with_answer talk line (refused memory)) (asked_in course talk) (line_of (refusal_text memory)) now
memory_in_hand from course ordered left talk line command old now talking asked said later did =
    turned_in_hand from course ordered left talk line (refused memory) [] 0 talking.0.turned old now talking (omega arith)
    (subst (λ (m : LineMeaning). Answers [] (plain_of talk) m (refused memory)) (sym asked) (inr (refl, did.0))) (none_done (meaning_of line) memory) said later did.1
    (subst (λ (m : LineMeaning). RowsMove course.pace.queue (λ a b. AnswerMoves (HasRead course now.host) course.pace (plain_of talk) m (refused memory) a b × (b.turned ≡ a.turned + 0)) old.facts.parts now.facts.parts) (sym asked)
    (rows_more course.pace.queue (RoomMoves course.pace.queue) (λ a b. RoomMoves course.pace.queue a b × (b.turned ≡ a.turned + 0)) old.facts.parts now.facts.parts
    (λ a b moves. (moves, omega (arith, room_turned course.pace.queue a b moves))) did.2))

-- the answer to the end of the script is in hand
pub end_in_hand : (from : HostState) (course : Course) (ordered : Bool) (talk : Talk) (reply : Reply) (old now : View)
    → (talking : IsTalking from course ordered [] talk old)
    → now.host.said now.host.turn ≡ old.host.said old.host.turn
    → IsLater old.host now.host
    → DoesBy (Some reply) from course ordered [] talk Stop talking.0.turned old now
    → IsInHand from course ordered [] (with_end talk) (asked_in course talk) (line_of (reply_text reply)) now
end_in_hand from course ordered talk reply old now talking said later did =
    let read = HasRead course now.host in
    let before = moved_later course old.host now.host later talk.opening talk.answered talk.responses (asked_in course talk) talking.0.turned old.facts.parts talking.0.parts in
    did.2 [] (and_then_said (now.host.said now.host.turn) (line_of (reply_text reply))) talk.answered talk.responses true
    (done-end course [] talk talking.1)
    (talk-end course [] talk talking.1 read (talk_later course old.host now.host later talk [] talking.0.is_talk) refl)
    (has_stayed read course.pace talk.opening talk.answered talk.responses (asked_in course talk) old.facts.parts now.facts.parts talking.0.turned before did.0 did.3)
    (ap (λ (r : Response). and_then_said (now.host.said now.host.turn) (line_of (response_text r))) did.1 ∙ says-end course [] talk talking.1 (now.host.said now.host.turn) (said ∙ talking.0.says))

module _ (from : HostState) (course : Course) (ordered : Bool) (left : List (List ℕ)) (talk : Talk) (line : List ℕ) (response : Response) (going : is_over talk ≡ false) where
  negated : (b : Bool) → true ≡ not b → b ≡ false
  negated true h = h
  negated false h = refl

  negated_too : (b : Bool) → false ≡ not b → b ≡ true
  negated_too true h = refl
  negated_too false h = h

  -- an answer was said: the session talks on, or the talk is over
  pub said_by : (more : Bool) (now : View) → more ≡ not (ends_talk response) → IsTelling from course ordered left (with_answer talk line response) (asked_in course talk) now (now.host.said now.host.turn)
      → AnswersBy more from course ordered left (talk.answered ++ line ∷ []) (asked_in course talk) now
  said_by true now is telling =
      let goes = negated (ends_talk response) is in
      record {
        talk = with_answer talk line response;
        pumping = (telling, over-append talk line response going ∙ goes);
        due = asked-append course.pace.pump talk.responses response ∙ ap (λ (b : Bool). asked_in course talk + (if b then 0 else course.pace.pump)) goes;
        answers = refl;
      }
  said_by false now is telling = record {
    talk = with_answer talk line response;
    left = left;
    says = says_of from course ordered left (with_answer talk line response) (asked_in course talk) now (now.host.said now.host.turn) now.host telling refl (later_same now.host);
    over = over-append talk line response going ∙ negated_too (ends_talk response) is;
    answers = refl;
    ends = not_ended talk going;
  }

module _ (from : HostState) (course : Course) (ordered : Bool) (left : List (List ℕ)) (talk : Talk) (line : List ℕ) (response : Response) (old mid now : View)
    (talking : IsTalking from course ordered (line ∷ left) talk old) (same : mid.host.said mid.host.turn ≡ old.host.said old.host.turn) (later : IsLater old.host mid.host) where
  pub answered_ok : (more : Bool) → more ≡ not (ends_talk response) → Told from course ordered left (with_answer talk line response) (asked_in course talk) mid now (Ok tt)
      → Answered from course ordered left (talk.answered ++ line ∷ []) (asked_in course talk) now (Ok more)
  answered_ok more is told = record { goes = said_by from course ordered left talk line response talking.1 more now is told.goes; ends = tt; holds = told.holds }

  pub answered_err : (ended : Status) → Told from course ordered left (with_answer talk line response) (asked_in course talk) mid now (Err ended)
      → Answered from course ordered left (talk.answered ++ line ∷ []) (asked_in course talk) now (Err ended)
  answered_err ended told = record { goes = tt; ends = ends_saying from course ordered (line ∷ left) talk old now mid.host ended talking same (later_then old.host mid.host now.host later told.later) told.ends; holds = told.holds }

-- a line that is too long
pub long_answered : (from : HostState) (course : Course) (ordered : Bool) (left : List (List ℕ)) (talk : Talk) (line : List ℕ) (refusal : Refusal) (old now : View) (result : Result (Unit {0}) Status)
    → IsTalking from course ordered (line ∷ left) talk old
    → Told from course ordered left (with_answer talk line (refused refusal)) (asked_in course talk) old now result
    → LongAnswered from course ordered left (talk.answered ++ line ∷ []) (asked_in course talk) now result
long_answered from course ordered left talk line refusal old now (Ok done) talking told = record {
  goes = said_by from course ordered left talk line (refused refusal) talking.1 true now refl told.goes;
  ends = tt;
  holds = told.holds;
}
long_answered from course ordered left talk line refusal old now (Err ended) talking told = record {
  goes = tt;
  ends = ends_saying from course ordered (line ∷ left) talk old now old.host ended talking refl told.later told.ends;
  holds = told.holds;
}

-- the end of the script
pub closed : (from : HostState) (course : Course) (ordered : Bool) (talk : Talk) (old mid now : View) (result : Result (Unit {0}) Status)
    → IsTalking from course ordered [] talk old
    → mid.host.said mid.host.turn ≡ old.host.said old.host.turn
    → IsLater old.host mid.host
    → Told from course ordered [] (with_end talk) (asked_in course talk) mid now result
    → Closed from course ordered talk now result
closed from course ordered talk old mid now (Ok done) talking same later told = record {
  over = record {
    talk = with_end talk;
    left = [];
    says = says_of from course ordered [] (with_end talk) (asked_in course talk) now (now.host.said now.host.turn) now.host told.goes refl (later_same now.host);
    over = refl;
    answers = refl;
    ends = refl;
  };
  ends = tt;
  holds = told.holds;
}
closed from course ordered talk old mid now (Err ended) talking same later told = record {
  over = tt;
  ends = ends_saying from course ordered [] talk old now mid.host ended talking same (later_then old.host mid.host now.host later told.later) told.ends;
  holds = told.holds;
}
