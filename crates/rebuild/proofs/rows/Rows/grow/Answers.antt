use Rattle.std.proofs.Common.{List, Some, ap, map, subst, sym, ◌∙◌}
use Rattle.cache_model.specs.declared.files.FileCount.{FileCount}
use Rattle.rebuild.specs.Rows.{IsPlaceOf, grown}
use Rattle.rebuild.proofs.RowLemmas.{counts-map, grown-change, grown-row, map-others}
use Rattle.rebuild.proofs.rows.Rows.grow.Goals as goal

pub returns-in-Some : goal.returns-in-Some
returns-in-Some c =
    let at = subst (λ (l : List FileCount). IsPlaceOf c.args.number l (Some c.in-Some.place)) (sym c.self.view_is) c.in-Some.ensures in
    grown-row c.args.number c.args.bytes c.self.inside.rows.items c.in-Some.place c.index.result.now c.grown_by.result c.self.invariant at c.index.ensures c.grown_by.ensures
    ∙ ap (λ (l : List FileCount). map (grown c.args.number c.args.bytes) l) c.self.view_is

pub invariant_of-self : goal.invariant_of-self
invariant_of-self c = rw (returns-in-Some c, ← c.self.view_is) (counts-map c.args.number (grown c.args.number c.args.bytes) (grown-change c.args.number c.args.bytes) c.self.inside.rows.items c.self.invariant)

pub returns-in_default : goal.returns-in_default
returns-in_default c = sym (map-others c.args.number (grown c.args.number c.args.bytes) (grown-change c.args.number c.args.bytes) c.args.self.now c.in_default.ensures)
