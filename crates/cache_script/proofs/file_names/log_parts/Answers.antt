use Rattle.std.proofs.Common.{◌≡◌, ◌∙◌, sym, ◌++◌, ◌∷◌, codes}
use Rattle.std.specs.Fmt.{decimal}
use Rattle.std.proofs.lemmas.List.{append_cancel_right}
use Rattle.cache_script.proofs.NameTexts.{after_s-ends, cut_at_dash}
use Rattle.cache_script.proofs.file_names.log_parts.Goals as goal

pub returns-in_err-strip_suffix : goal.returns-in_err-strip_suffix
returns-in_err-strip_suffix c = λ store digits small is. absurd (c.in_err-strip_suffix.ensures.cases _ (is ∙ after_s-ends store digits))

pub returns : goal.returns
returns c = λ store digits small is.
    let text = c.in_ok-strip_suffix.field-0.now in
    let stripped = c.in_ok-strip_suffix.ensures.cases in
    let same : text ≡ decimal store ++ (45 ∷ digits) = stripped.2 ∙ append_cancel_right _ _ (codes ".log") (sym stripped.1.1 ∙ is ∙ after_s-ends store digits) in
    cut_at_dash store digits text c.split_once.result small same c.split_once.ensures.cases
