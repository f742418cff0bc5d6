use Rattle.std.proofs.Common.{◌≡◌, ◌<◌, List, Ok, length, ap, sym, subst, ◌∙◌, arith}
use Rattle.cache_model.specs.declared.files.FileCount.{FileCount}
use Rattle.file_stats.specs.Classes.{AreClassesOf}
use Rattle.file_stats.specs.Figures.{Figures, without}
use Rattle.file_stats.specs.Keeping.{IsPlaceOf}
use Rattle.file_stats.proofs.Kept.{kept-remove}
use Rattle.file_stats.proofs.RowLemmas.{none-removed, remove-row}
use Rattle.file_stats.proofs.figures.Stats.forget_file.Goals as goal

pub invariant_of-self : goal.invariant_of-self
invariant_of-self c =
    let rows : c.args.self.now.rows ≡ c.self.inside.rows.items = sym (ap (λ (f : Figures). f.rows) c.self.view_is) in
    let within = subst (λ (rs : List FileCount). c.in-Ok.place < length rs) rows c.in-Ok.ensures.0 in
    let classes = subst (λ (rs : List FileCount). AreClassesOf rs c.fill.new.self) (c.deref.ensures.value ∙ c.remove-row.ensures.items) c.fill.ensures.classes in
    rw (c.remove-row.ensures.items, c.from.ensures, c.from-in-Ok.ensures)
    (kept-remove c.self.inside.rows.items c.self.inside.rows.cap c.self.inside.classes c.self.inside.bytes c.self.inside.live c.self.invariant c.in-Ok.place _ c.fill.new.self c.remove-row.result
    within (omega (arith, c.remove-row.ensures.capacity)) c.remove-row.ensures.value c.fill.ensures.places classes)

pub returns-in-Ok-clause-rows : goal.returns-in-Ok-clause-rows
returns-in-Ok-clause-rows c =
    let rows : c.args.self.now.rows ≡ c.self.inside.rows.items = sym (ap (λ (f : Figures). f.rows) c.self.view_is) in
    let at = subst (λ (rs : List FileCount). IsPlaceOf c.args.file rs (Ok c.in-Ok.place)) rows c.in-Ok.ensures in
    c.remove-row.ensures.items ∙ remove-row c.args.file c.self.inside.rows.items c.in-Ok.place c.self.invariant.counts.ascend at ∙ ap (without c.args.file) (sym rows)

pub returns-in_default-clause-rows : goal.returns-in_default-clause-rows
returns-in_default-clause-rows c = sym (none-removed c.args.file c.args.self.now.rows c.in_default.field-0 c.in_default.ensures)
