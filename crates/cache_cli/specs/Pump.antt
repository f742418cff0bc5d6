-- The background steps behind each answer of a talk, and how the answers and these steps move the parts of a store.
use Rattle.std.specs.Prelude.{◌≡◌, ℕ, zero, suc, ◌+◌, ◌≤◌, List, [], ◌∷◌, if◌then◌else◌, sum_by}
use Rattle.cache_model.specs.declared.commands.StepKind.{StepKind}
use Rattle.cache_model.specs.declared.commands.StepKind.TheVariants.{Index, Flush, Compact, Reap}
use Rattle.cache_model.specs.declared.replies.Turned.{Turned}
use Rattle.cache_model.specs.Files.{Image}
use Rattle.cache_model.specs.Plain.{Plain}
use Rattle.cache_model.specs.Lines.{meaning_of}
use Rattle.cache_model.specs.Replies.{Response}
use Rattle.cache_model.specs.Transcript.{after_answer, ends_talk}
use Rattle.store_trait.specs.Meaning.{Row}
use Rattle.cache_session.specs.Turns.{files_of}
use Rattle.cache_cli.specs.Parts.{Pace, Parts, rows_of, no_parts, ActorMoves, AnswerMoves}

-- the step that comes behind another, in the repeated order Index, Flush, Compact, Reap
abbrev pub step_behind : StepKind → StepKind
step_behind Index = Flush
step_behind Flush = Compact
step_behind Compact = Reap
step_behind kind = Index

-- the background step of a talk with this number, from 0 on
abbrev pub background_step : ℕ → StepKind
background_step zero = Index
background_step (suc number) = step_behind (background_step number)

-- how so many background steps move the parts, from the one with this number on, where these files read so
abbrev pub StepsMove : (Image → Type 0) → Pace → ℕ → ℕ → Parts → Parts → Type 0
StepsMove read pace first zero a b = b ≡ a
StepsMove read pace first (suc count) a b = (c : Parts) × (turned : Turned) × StepsMove read pace first count a c × ActorMoves read pace (background_step (first + count)) turned c b

-- how many files the first so many background steps make at the most
abbrev pub files_by_steps : ℕ → ℕ
files_by_steps zero = 0
files_by_steps (suc count) = files_by_steps count + files_of (background_step count)

-- how many background steps follow an answer: none behind one that ends the talk
abbrev pub steps_behind : ℕ → Response → ℕ
steps_behind pump response = if ends_talk response then 0 else pump

-- how many follow some answers
abbrev pub steps_asked : ℕ → List Response → ℕ
steps_asked pump responses = sum_by (steps_behind pump) responses

-- The answers to these lines move the parts, one after another, where these files read so. So many background steps were
-- taken before, and so many are due: these are taken before the next line, and behind it those that follow its answer are
-- due. In the end so many were taken in all; of those that are due then, some first ones.
abbrev pub PartsThrough : (Image → Type 0) → Pace → ℕ → ℕ → Plain → List (List ℕ) → List Response → Parts → ℕ → Parts → Type 0
PartsThrough read pace taken due plain [] [] a all b = (count : ℕ) × (count ≤ due) × (all ≡ taken + count) × StepsMove read pace taken count a b
PartsThrough read pace taken due plain [] (response ∷ responses) a all b = ⊥
PartsThrough read pace taken due plain (line ∷ lines) [] a all b = ⊥
PartsThrough read pace taken due plain (line ∷ lines) (response ∷ responses) a all b =
    (c : Parts) × (d : Parts) × StepsMove read pace taken due a c × AnswerMoves read pace plain (meaning_of line) response c d
    × PartsThrough read pace (taken + due) (steps_behind pace.pump response) (after_answer plain (meaning_of line) response) lines responses d all b

-- The rows of a store are those of parts that these answers and so many background steps came to from the opening on,
-- where these files read so. So many turns were taken for the lines that compact files.
pub record HasMoved (read : Image → Type 0) (pace : Pace) (plain : Plain) (lines : List (List ℕ)) (responses : List Response) (taken turned : ℕ) (rows : List Row) : Type 0 where
  pub parts : Parts
  pub is_rows : rows ≡ rows_of parts
  pub within : parts.queued ≤ pace.queue
  pub counted : parts.turned ≡ turned
  pub moved : PartsThrough read pace 0 0 plain lines responses no_parts taken parts
