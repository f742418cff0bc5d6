-- One answer more.
use Rattle.std.proofs.Common.{◌≡◌, ℕ, Bool, true, false, List, [], ◌∷◌, ◌++◌, Option, Some, None, refl, sym, ◌∙◌, ap, subst, append_assoc}
use Rattle.std.specs.Prelude.{◌||◌, IsTrue}
use Rattle.std.specs.List.{list_any}
use Rattle.std.proofs.lemmas.List.{append-nil}
use Rattle.cache_model.specs.declared.commands.Command.{Command}
use Rattle.cache_model.specs.declared.commands.Command.TheVariants.{Stop}
use Rattle.cache_model.specs.Files.{Image}
use Rattle.cache_model.specs.Plain.{Plain, plain_after_all}
use Rattle.cache_model.specs.Lines.{LineMeaning, asks, refuses, meaning_of}
use Rattle.cache_model.specs.Replies.{Response, replies, refused, opened_line, response_lines, response_text, line_of, stopped_line}
use Rattle.cache_model.specs.Transcript.{Answers, after_answer, IsTranscript, command_done, commands_done, ends_talk}
use Rattle.cache_model.proofs.Prefixes.{plain_after_all-append}
use Rattle.cache_disk.specs.Calls.{and_then_said}
use Rattle.store_trait.specs.Meaning.{Row}
use Rattle.cache_cli.specs.Pump.{HasMoved}
use Rattle.cache_cli.specs.Talk.{Course, Talk, IsTalk, end_commands, done_in, plain_of, text_of, end_text, is_over}

-- a talk with one answer more
abbrev pub with_answer : Talk → List ℕ → Response → Talk
with_answer talk line response = record {
  opening = talk.opening;
  first = talk.first;
  answered = talk.answered ++ line ∷ [];
  responses = talk.responses ++ response ∷ [];
  ended = talk.ended;
}

-- a talk whose end is answered
abbrev pub with_end : Talk → Talk
with_end talk = record {
  opening = talk.opening;
  first = talk.first;
  answered = talk.answered;
  responses = talk.responses;
  ended = true;
}

first_false : (a b : Bool) → (a || b) ≡ false → a ≡ false
first_false true b h = h
first_false false b h = refl

second_false : (a b : Bool) → (a || b) ≡ false → b ≡ false
second_false true b h = cc
second_false false b h = h

pub not_ended : (talk : Talk) → is_over talk ≡ false → talk.ended ≡ false
not_ended talk going = first_false talk.ended (list_any ends_talk talk.responses) going

pub none_ends : (talk : Talk) → is_over talk ≡ false → list_any ends_talk talk.responses ≡ false
none_ends talk going = second_false talk.ended (list_any ends_talk talk.responses) going

-- the commands of one answer more
commands_done-append : (publish : List ℕ) (plain : Plain) (lines : List (List ℕ)) (responses : List Response) (line : List ℕ) (response : Response) → IsTranscript publish plain lines responses
    → commands_done (lines ++ line ∷ []) (responses ++ response ∷ []) ≡ commands_done lines responses ++ command_done (meaning_of line) response
commands_done-append publish plain [] [] line response is = append-nil (command_done (meaning_of line) response)
commands_done-append publish plain [] (r ∷ responses) line response is = absurd is
commands_done-append publish plain (l ∷ lines) [] line response is = absurd is
commands_done-append publish plain (l ∷ lines) (r ∷ responses) line response is =
    ap (λ (cs : List Command). command_done (meaning_of l) r ++ cs) (commands_done-append publish (after_answer plain (meaning_of l) r) lines responses line response is.2)
    ∙ sym (append_assoc (command_done (meaning_of l) r) (commands_done lines responses) (command_done (meaning_of line) response))

-- what one answer makes of the plain map is what its command does
pub after-answer : (plain : Plain) (meaning : LineMeaning) (response : Response) → after_answer plain meaning response ≡ plain_after_all plain (command_done meaning response)
after-answer plain (refuses refusal) response = refl
after-answer plain (asks command) (replies reply) = refl
after-answer plain (asks command) (refused refusal) = refl

pub true_false : true ≡ false → ⊥
true_false h = cc

not_both : (b : Bool) → IsTrue b → b ≡ false → ⊥
not_both b is none = true_false (sym is ∙ none)

-- one answer more is a transcript where it answers the map that the others made, none of which ended the talk
transcript-append : (publish : List ℕ) (plain : Plain) (lines : List (List ℕ)) (responses : List Response) (line : List ℕ) (response : Response) → IsTranscript publish plain lines responses
    → list_any ends_talk responses ≡ false
    → Answers publish (plain_after_all plain (commands_done lines responses)) (meaning_of line) response
    → IsTranscript publish plain (lines ++ line ∷ []) (responses ++ response ∷ [])
transcript-append publish plain [] [] line response is going answers = (answers, λ last. refl, tt)
transcript-append publish plain [] (r ∷ responses) line response is going answers = absurd is
transcript-append publish plain (l ∷ lines) [] line response is going answers = absurd is
transcript-append publish plain (l ∷ lines) (r ∷ responses) line response is going answers =
    let next = after_answer plain (meaning_of l) r in
    let same : plain_after_all plain (command_done (meaning_of l) r ++ commands_done lines responses) ≡ plain_after_all next (commands_done lines responses) =
    plain_after_all-append plain (command_done (meaning_of l) r) (commands_done lines responses) ∙ ap (λ (p : Plain). plain_after_all p (commands_done lines responses)) (sym (after-answer plain (meaning_of l) r)) in (
      is.0,
      λ last. absurd (not_both (ends_talk r) last (first_false (ends_talk r) (list_any ends_talk responses) going)),
      transcript-append publish next lines responses line response is.2 (second_false (ends_talk r) (list_any ends_talk responses) going) (subst (λ (p : Plain). Answers publish p (meaning_of line) response) same answers),
    )

response_lines-append : (responses : List Response) (response : Response) → response_lines (responses ++ response ∷ []) ≡ response_lines responses ++ line_of (response_text response)
response_lines-append [] response = append-nil (line_of (response_text response))
response_lines-append (r ∷ responses) response =
    ap (λ (l : List ℕ). line_of (response_text r) ++ l) (response_lines-append responses response)
    ∙ sym (append_assoc (line_of (response_text r)) (response_lines responses) (line_of (response_text response)))

-- what is said with one answer more
text-append : (talk : Talk) (line : List ℕ) (response : Response) → talk.ended ≡ false → text_of (with_answer talk line response) ≡ text_of talk ++ line_of (response_text response)
text-append talk line response going =
    let opened = opened_line talk.opening.moment in
    let none : end_text talk.ended ≡ [] = ap end_text going in
    ap (λ (l : List ℕ). opened ++ response_lines (talk.responses ++ response ∷ []) ++ l) none
    ∙ append-nil (opened ++ response_lines (talk.responses ++ response ∷ []))
    ∙ ap (λ (l : List ℕ). opened ++ l) (response_lines-append talk.responses response)
    ∙ sym (append_assoc opened (response_lines talk.responses) (line_of (response_text response)))
    ∙ ap (λ (l : List ℕ). l ++ line_of (response_text response)) (sym (append-nil (opened ++ response_lines talk.responses)) ∙ sym (ap (λ (l : List ℕ). opened ++ response_lines talk.responses ++ l) none))

-- what is said with the end
text-end : (talk : Talk) → talk.ended ≡ false → text_of (with_end talk) ≡ text_of talk ++ stopped_line
text-end talk going =
    let front = opened_line talk.opening.moment ++ response_lines talk.responses in
    let none : text_of talk ≡ front = ap (λ (ended : Bool). front ++ end_text ended) going ∙ append-nil front in
    ap (λ (l : List ℕ). l ++ stopped_line) (sym none)

-- what is said in two parts
said-append : (said : Option (List ℕ)) (one two : List ℕ) → and_then_said (and_then_said said one) two ≡ and_then_said said (one ++ two)
said-append None one two = refl
said-append (Some said) one two = ap (λ (l : List ℕ). Some l) (append_assoc said one two)

module _ (course : Course) (left : List (List ℕ)) (talk : Talk) (going : is_over talk ≡ false) where
  -- the commands of its lines are all that were done
  pub done-going : done_in talk ≡ commands_done talk.answered talk.responses
  done-going = ap (λ (b : Bool). commands_done talk.answered talk.responses ++ end_commands b) (not_ended talk going) ∙ append-nil (commands_done talk.answered talk.responses)

  -- the commands of a talk with one answer more
  pub done-append : (read : Image → Type 0) (line : List ℕ) (response : Response) → IsTalk read talk course (line ∷ left) → done_in (with_answer talk line response) ≡ done_in talk ++ command_done (meaning_of line) response
  done-append read line response is =
      ap (λ (b : Bool). commands_done (talk.answered ++ line ∷ []) (talk.responses ++ response ∷ []) ++ end_commands b) (not_ended talk going)
      ∙ append-nil (commands_done (talk.answered ++ line ∷ []) (talk.responses ++ response ∷ []))
      ∙ commands_done-append [] talk.opening talk.answered talk.responses line response is.answers
      ∙ ap (λ (cs : List Command). cs ++ command_done (meaning_of line) response) (sym done-going)

  -- a talk with one answer more is about the lines that are left then
  pub talk-append : (read : Image → Type 0) (line : List ℕ) (response : Response) (taken turned : ℕ) (rows : List Row) → IsTalk read talk course (line ∷ left) → Answers [] (plain_of talk) (meaning_of line) response
      → HasMoved read course.pace talk.opening (talk.answered ++ line ∷ []) (talk.responses ++ response ∷ []) taken turned rows → IsTalk read (with_answer talk line response) course left
  talk-append read line response taken turned rows is answers moved = record {
    opens = is.opens;
    first = is.first;
    file = is.file;
    split = is.split ∙ sym (append_assoc talk.answered (line ∷ []) left);
    answers = transcript-append [] talk.opening talk.answered talk.responses line response is.answers (none_ends talk going)
        (subst (λ (cs : List Command). Answers [] (plain_after_all talk.opening cs) (meaning_of line) response) done-going answers);
    parts = (taken, moved.parts, moved.moved);
    whole = λ ended. absurd (never (sym (not_ended talk going) ∙ ended));
  }
    where
      never : false ≡ true → ⊥
      never h = cc

  -- what is said with one answer more
  pub says-append : (line : List ℕ) (response : Response) (said : Option (List ℕ)) → said ≡ and_then_said course.said (text_of talk)
      → and_then_said said (line_of (response_text response)) ≡ and_then_said course.said (text_of (with_answer talk line response))
  says-append line response said says =
      ap (λ (s : Option (List ℕ)). and_then_said s (line_of (response_text response))) says
      ∙ said-append course.said (text_of talk) (line_of (response_text response))
      ∙ ap (λ (l : List ℕ). and_then_said course.said l) (sym (text-append talk line response (not_ended talk going)))

  -- a talk whose end is answered
  pub done-end : done_in (with_end talk) ≡ done_in talk ++ Stop ∷ []
  done-end = ap (λ (cs : List Command). cs ++ Stop ∷ []) (sym done-going)

  pub talk-end : (read : Image → Type 0) → IsTalk read talk course left → left ≡ [] → IsTalk read (with_end talk) course []
  talk-end read is none = record {
    opens = is.opens;
    first = is.first;
    file = is.file;
    split = is.split ∙ ap (λ (l : List (List ℕ)). talk.answered ++ l) none;
    answers = is.answers;
    parts = is.parts;
    whole = λ ended. (refl, none_ends talk going);
  }

  pub says-end : (said : Option (List ℕ)) → said ≡ and_then_said course.said (text_of talk) → and_then_said said stopped_line ≡ and_then_said course.said (text_of (with_end talk))
  says-end said says =
      ap (λ (s : Option (List ℕ)). and_then_said s stopped_line) says
      ∙ said-append course.said (text_of talk) stopped_line
      ∙ ap (λ (l : List ℕ). and_then_said course.said l) (sym (text-end talk (not_ended talk going)))
