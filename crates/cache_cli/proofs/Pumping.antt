-- The parts of a store go on by one background step more, and by one answer more.
use Rattle.std.proofs.Common.{◌≡◌, ℕ, zero, suc, ◌+◌, ◌≤◌, List, [], ◌∷◌, ◌++◌, refl, sym, ◌∙◌, ap, subst, arith}
use Rattle.std.proofs.lemmas.List.Sums.{sum_by-cons, sum_by_push}
use Rattle.cache_model.specs.declared.replies.Turned.{Turned}
use Rattle.cache_model.specs.Files.{Image}
use Rattle.cache_model.specs.Plain.{Plain, plain_after_all}
use Rattle.cache_model.specs.Lines.{meaning_of}
use Rattle.cache_model.specs.Replies.{Response}
use Rattle.cache_model.specs.Transcript.{after_answer, command_done, commands_done}
use Rattle.cache_model.proofs.Prefixes.{plain_after_all-append}
use Rattle.store_trait.specs.Meaning.{Row}
use Rattle.cache_cli.specs.Parts.{Pace, Parts, RowsMove, ActorMoves, AnswerMoves, no_parts}
use Rattle.cache_cli.specs.Pump.{background_step, StepsMove, files_by_steps, steps_behind, steps_asked, PartsThrough, HasMoved}
use Rattle.cache_cli.proofs.Answering.{after-answer}
use Rattle.cache_cli.proofs.Moving.{actor_turned}

-- how many background steps follow one answer more
pub asked-append : (pump : ℕ) (responses : List Response) (response : Response) → steps_asked pump (responses ++ response ∷ []) ≡ steps_asked pump responses + steps_behind pump response
asked-append pump responses response = sum_by_push (steps_behind pump) responses response

-- one background step more
through_step : (read : Image → Type 0) (pace : Pace) (taken due : ℕ) (plain : Plain) (lines : List (List ℕ)) (responses : List Response) (a : Parts) (all : ℕ) (b c : Parts) (turned : Turned)
    → PartsThrough read pace taken due plain lines responses a all b
    → suc all ≤ taken + due + steps_asked pace.pump responses
    → ActorMoves read pace (background_step all) turned b c
    → PartsThrough read pace taken due plain lines responses a (suc all) c
through_step read pace taken due plain [] [] a all b c turned is room moves =
    (suc is.0, omega (arith, room, is.2), omega (arith, is.2), (b, turned, is.3, subst (λ (n : ℕ). ActorMoves read pace (background_step n) turned b c) is.2 moves))
through_step read pace taken due plain [] (r ∷ responses) a all b c turned is room moves = absurd is
through_step read pace taken due plain (l ∷ lines) [] a all b c turned is room moves = absurd is
through_step read pace taken due plain (l ∷ lines) (r ∷ responses) a all b c turned is room moves = (
  is.0,
  is.1,
  is.2,
  is.3,
  through_step read pace (taken + due) (steps_behind pace.pump r) (after_answer plain (meaning_of l) r) lines responses is.1 all b c turned is.4
      (omega (arith, room, sum_by-cons (steps_behind pace.pump) r responses)) moves,
)

-- one answer more
through_answer : (read : Image → Type 0) (pace : Pace) (taken due : ℕ) (plain : Plain) (lines : List (List ℕ)) (responses : List Response) (line : List ℕ) (response : Response) (a : Parts) (all : ℕ) (b c : Parts)
    → PartsThrough read pace taken due plain lines responses a all b
    → all ≡ taken + due + steps_asked pace.pump responses
    → AnswerMoves read pace (plain_after_all plain (commands_done lines responses)) (meaning_of line) response b c
    → PartsThrough read pace taken due plain (lines ++ line ∷ []) (responses ++ response ∷ []) a all c
through_answer read pace taken due plain [] [] line response a all b c is whole moves =
    let count : is.0 ≡ due = omega (arith, whole, is.2) in
    (b, c, subst (λ (n : ℕ). StepsMove read pace taken n a b) count is.3, moves, (0, omega arith, omega (arith, whole), refl))
through_answer read pace taken due plain [] (r ∷ responses) line response a all b c is whole moves = absurd is
through_answer read pace taken due plain (l ∷ lines) [] line response a all b c is whole moves = absurd is
through_answer read pace taken due plain (l ∷ lines) (r ∷ responses) line response a all b c is whole moves =
    let next = after_answer plain (meaning_of l) r in
    let same : plain_after_all plain (command_done (meaning_of l) r ++ commands_done lines responses) ≡ plain_after_all next (commands_done lines responses) =
    plain_after_all-append plain (command_done (meaning_of l) r) (commands_done lines responses) ∙ ap (λ (p : Plain). plain_after_all p (commands_done lines responses)) (sym (after-answer plain (meaning_of l) r)) in (
      is.0,
      is.1,
      is.2,
      is.3,
      through_answer read pace (taken + due) (steps_behind pace.pump r) next lines responses line response is.1 all b c is.4
          (omega (arith, whole, sum_by-cons (steps_behind pace.pump) r responses))
          (subst (λ (p : Plain). AnswerMoves read pace p (meaning_of line) response b c) same moves),
    )

module _ (read : Image → Type 0) (pace : Pace) (plain : Plain) (lines : List (List ℕ)) (responses : List Response) (taken : ℕ) (rows next : List Row)
    (turned : ℕ) (moved : HasMoved read pace plain lines responses taken turned rows) where
  -- the rows after one background step more
  pub has_stepped : (answer : Turned) → suc taken ≤ steps_asked pace.pump responses → RowsMove pace.queue (ActorMoves read pace (background_step taken) answer) rows next
      → HasMoved read pace plain lines responses (suc taken) turned next
  has_stepped answer room moves =
      let after = moves moved.parts moved.is_rows moved.within in
      record {
        parts = after.0;
        is_rows = after.1;
        within = after.2;
        counted = actor_turned read pace (background_step taken) answer moved.parts after.0 after.3 ∙ moved.counted;
        moved = through_step read pace 0 0 plain lines responses no_parts taken moved.parts after.0 answer moved.moved (omega (arith, room)) after.3;
      }

  -- the rows after one answer more
  pub has_answered : (line : List ℕ) (response : Response) (turns all : ℕ) → all ≡ turned + turns → taken ≡ steps_asked pace.pump responses
      → RowsMove pace.queue (λ a b. AnswerMoves read pace (plain_after_all plain (commands_done lines responses)) (meaning_of line) response a b × (b.turned ≡ a.turned + turns)) rows next
      → HasMoved read pace plain (lines ++ line ∷ []) (responses ++ response ∷ []) taken all next
  has_answered line response turns all sum whole moves =
      let after = moves moved.parts moved.is_rows moved.within in
      record {
        parts = after.0;
        is_rows = after.1;
        within = after.2;
        counted = omega (arith, after.3.1, moved.counted, sum);
        moved = through_answer read pace 0 0 plain lines responses line response no_parts taken moved.parts after.0 moved.moved (omega (arith, whole)) after.3.0;
      }

  -- rows that stay
  pub has_stayed : (turns : ℕ) → RowsMove pace.queue (λ a b. (b ≡ a) × (b.turned ≡ a.turned + turns)) rows next → HasMoved read pace plain lines responses taken (turned + turns) next
  has_stayed turns moves =
      let after = moves moved.parts moved.is_rows moved.within in
      record {
        parts = after.0;
        is_rows = after.1;
        within = after.2;
        counted = omega (arith, after.3.1, moved.counted);
        moved = subst (λ (p : Parts). PartsThrough read pace 0 0 plain lines responses no_parts taken p) (sym after.3.0) moved.moved;
      }

-- more background steps make no fewer files
pub files_later : (n k : ℕ) → files_by_steps n ≤ files_by_steps (n + k)
files_later n zero = let same : n ≡ n + 0 = omega arith in omega (arith, ap files_by_steps same)
files_later n (suc k) = let same : suc (n + k) ≡ n + suc k = omega arith in omega (arith, files_later n k, ap files_by_steps same)
