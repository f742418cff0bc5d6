use Rattle.std.proofs.Common.{◌≡◌, ◌++◌, List, ℕ, codes, ◌∙◌, append_assoc}
use Rattle.std.proofs.lemmas.Result.{IfOk-weaker}
use Rattle.cache_model.specs.Replies.{line_of}
use Rattle.cache_script.proofs.replies.damaged_line.Goals as goal

-- the pieces of the line, one behind another
pieces : (file at kind : List ℕ) → codes "damaged " ++ (file ++ (codes " " ++ (at ++ (codes " " ++ (kind ++ codes "\n"))))) ≡ line_of (codes "damaged " ++ file ++ codes " " ++ at ++ codes " " ++ kind)
pieces file at kind = simp append_assoc

pub returns : goal.returns
returns c = λ named. IfOk-weaker c.format.result _ _ (λ line is. rw (← named, ← c.kind_word-kind.ensures) (is ∙ pieces _ _ _)) c.format.ensures.ok
