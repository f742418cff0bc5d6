use Rattle.std.proofs.Common.{ℕ, List, get_or, set, ap, sym, subst, ◌∙◌}
use Rattle.std.proofs.lemmas.List.{get_or_default}
use Rattle.file_stats.specs.Classes.{AreClassesOf, no_row}
use Rattle.file_stats.proofs.Kept.{classes-push}
use Rattle.file_stats.proofs.figures.class_new.Goals as goal

pub returns-then-place-rows-clause-classes : goal.returns-then-place-rows-clause-classes
returns-then-place-rows-clause-classes c =
    let row = get_or c.args.rows.now c.args.place no_row in
    subst (λ (cs : List ℕ). AreClassesOf c.args.rows.now cs) (sym (c.set.ensures ∙ ap (λ n. set c.args.classes.now c.args.place n) c.class_of.ensures))
    (classes-push c.args.rows.now c.args.classes.now c.args.place row c.if-place-rows.true c.requires.within.1 (get_or_default c.args.rows.now c.args.place no_row row c.requires.within.0) (c.requires.before c.if-place-rows.true))
