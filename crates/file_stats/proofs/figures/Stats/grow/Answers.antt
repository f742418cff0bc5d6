use Rattle.std.proofs.Common.{◌≡◌, ⊎_elim, ◌-◌, List, ap, get_or, set, subst, ◌∙◌, arith}
use Rattle.std.specs.Prelude.{insert}
use Rattle.std.specs.List.Sorted.{IsStrictlyIncreasing}
use Rattle.cache_model.specs.declared.files.FileCount.{FileCount}
use Rattle.file_stats.specs.Counts.{AreCounts}
use Rattle.file_stats.specs.Figures.{Figures, lengthened_by, new_row, numbers_of}
use Rattle.file_stats.proofs.RowLemmas.{counts-insert, insert-new, lacks-place, set-changed}
use Rattle.file_stats.proofs.figures.Stats.grow.Goals as goal

pub put_new-requires-clause-room : goal.put_new-requires-clause-room
put_new-requires-clause-room c = ⊎_elim (λ has. absurd (lacks-place c.args.file c.args.self.now.rows c.in-Err.place c.in-Err.ensures has)) (λ spare. spare) c.requires.room

pub put_new-requires-clause-counts : goal.put_new-requires-clause-counts
put_new-requires-clause-counts c =
    let counts = subst AreCounts (ap (λ (f : Figures). f.rows) c.self.view_is) c.self.invariant.counts in
    rw c.new_row.ensures (counts-insert (new_row c.args.file c.args.bytes) c.args.self.now.rows c.in-Err.place counts c.in-Err.ensures (omega arith))

pub returns-in-Ok-clause-had : goal.returns-in-Ok-clause-had
returns-in-Ok-clause-had c has =
    let rows : c.self.inside.rows.items ≡ c.args.self.now.rows = ap (λ (f : Figures). f.rows) c.self.view_is in
    let is = subst (λ (rs : List FileCount). c.index-row.result.now ≡ get_or rs c.in-Ok.place c.index-row.result.now) rows c.index-row.ensures in
    let up = subst (λ (rs : List FileCount). IsStrictlyIncreasing (numbers_of rs)) rows c.self.invariant.counts.ascend in
    c.replace.ensures ∙ ap (λ (rs : List FileCount). record c.args.self.now { rows = rs })
    (ap (λ (row : FileCount). set c.args.self.now.rows c.in-Ok.place row) c.lengthened_by.ensures ∙ set-changed c.args.file (lengthened_by c.args.bytes) c.args.self.now.rows c.in-Ok.place c.index-row.result.now up c.in-Ok.ensures is)

pub returns-in-Err-clause-had : goal.returns-in-Err-clause-had
returns-in-Err-clause-had c has = absurd (lacks-place c.args.file c.args.self.now.rows c.in-Err.place c.in-Err.ensures has)

pub returns-in-Err-clause-new : goal.returns-in-Err-clause-new
returns-in-Err-clause-new c lacks =
    c.put_new.ensures
    ∙ ap (λ (rs : List FileCount). let new : Figures = record { rows = rs; spare = c.args.self.now.spare - 1 } in new)
    (ap (λ (row : FileCount). insert c.args.self.now.rows c.in-Err.place row) c.new_row.ensures ∙ insert-new (new_row c.args.file c.args.bytes) c.args.self.now.rows c.in-Err.place c.in-Err.ensures)
