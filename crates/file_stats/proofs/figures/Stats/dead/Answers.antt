use Rattle.std.proofs.Common.{◌≡◌, get_or, List, ap, set, subst, sym, ◌∙◌}
use Rattle.std.specs.List.Sorted.{IsStrictlyIncreasing}
use Rattle.cache_model.specs.declared.files.FileCount.{FileCount}
use Rattle.file_stats.specs.Figures.{Figures, numbers_of, shrunk_by}
use Rattle.file_stats.proofs.RowLemmas.{none-changed, set-changed}
use Rattle.file_stats.proofs.figures.Stats.dead.Goals as goal

pub returns-in-Ok : goal.returns-in-Ok
returns-in-Ok c =
    let rows : c.self.inside.rows.items ≡ c.args.self.now.rows = ap (λ (f : Figures). f.rows) c.self.view_is in
    let is = subst (λ (rs : List FileCount). c.index-row.result.now ≡ get_or rs c.in-Ok.place c.index-row.result.now) rows c.index-row.ensures in
    let up = subst (λ (rs : List FileCount). IsStrictlyIncreasing (numbers_of rs)) rows c.self.invariant.counts.ascend in
    c.replace.ensures ∙ ap (λ (rs : List FileCount). record c.args.self.now { rows = rs })
    (ap (λ (row : FileCount). set c.args.self.now.rows c.in-Ok.place row) c.shrunk_by.ensures ∙ set-changed c.args.file (shrunk_by c.args.bytes) c.args.self.now.rows c.in-Ok.place c.index-row.result.now up c.in-Ok.ensures is)

pub returns-in_default : goal.returns-in_default
returns-in_default c = ap (λ (rs : List FileCount). record c.args.self.now { rows = rs }) (sym (none-changed c.args.file (shrunk_by c.args.bytes) c.args.self.now.rows c.in_default.field-0 c.in_default.ensures))
