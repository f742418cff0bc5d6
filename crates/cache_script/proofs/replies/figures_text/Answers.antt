use Rattle.std.proofs.Common.{◌≡◌, ◌++◌, List, ℕ, codes, ◌∙◌, append_assoc}
use Rattle.std.proofs.lemmas.Result.{IfOk-weaker}
use Rattle.cache_script.proofs.replies.figures_text.Goals as goal

-- the pieces of the text, one behind another
pieces : (word file files byte bytes lives live wait pending hold held : List ℕ) → (word ++ file) ++ (files ++ (byte ++ (bytes ++ (lives ++ (live ++ (wait ++ (pending ++ (hold ++ held)))))))) ≡ word ++ (((((file ++ files) ++ (byte ++ bytes)) ++ (lives ++ live)) ++ (wait ++ pending)) ++ (hold ++ held))
pieces word file files byte bytes lives live wait pending hold held = simp append_assoc

pub returns : goal.returns
returns c =
    IfOk-weaker c.format.result _ _
    (λ text is. is ∙ pieces (codes "stats") (codes " files ") _ (codes " bytes ") _ (codes " live ") _ (codes " pending ") _ (codes " held ") _)
    c.format.ensures.ok
