use Rattle.std.proofs.Common.{◌≡◌, ⊎_elim, ℕ, ◌-◌, ◌≤◌, List, Ok, Err, ap, get_or, map, set, subst, sym, ◌∙◌, arith}
use Rattle.std.specs.Prelude.{insert}
use Rattle.std.specs.List.Sorted.{IsStrictlyIncreasing}
use Rattle.cache_model.specs.declared.files.FileCount.{FileCount}
use Rattle.file_stats.specs.Counts.{AreCounts}
use Rattle.file_stats.specs.Figures.{Figures, new_row, numbers_of, raised, raised_by}
use Rattle.file_stats.proofs.RowLemmas.{counts-insert, has-place, insert-new, lacks-place, set-changed}
use Rattle.file_stats.proofs.figures.Stats.raise.Goals as goal

pub returns-in-Ok : goal.returns-in-Ok
returns-in-Ok c =
    let rows : c.self.inside.rows.items ≡ c.args.self.now.rows = ap (λ (f : Figures). f.rows) c.self.view_is in
    let is = subst (λ (rs : List FileCount). c.index-row.result.now ≡ get_or rs c.in-Ok.place c.index-row.result.now) rows c.index-row.ensures in
    let up = subst (λ (rs : List FileCount). IsStrictlyIncreasing (numbers_of rs)) rows c.self.invariant.counts.ascend in
    record {
      had = λ has. c.replace.ensures ∙ ap (λ (rs : List FileCount). record c.args.self.now { rows = rs })
          (ap (λ (row : FileCount). set c.args.self.now.rows c.in-Ok.place row) c.raised_by.ensures ∙ set-changed c.args.file (raised_by c.args.size) c.args.self.now.rows c.in-Ok.place c.index-row.result.now up c.in-Ok.ensures is);
      added = λ lacks. absurd (lacks (has-place c.args.file c.args.self.now.rows c.in-Ok.place c.in-Ok.ensures));
    }

pub put_new-requires-clause-counts : goal.put_new-requires-clause-counts
put_new-requires-clause-counts c =
    let counts = subst AreCounts (ap (λ (f : Figures). f.rows) c.self.view_is) c.self.invariant.counts in
    rw c.new_row.ensures (counts-insert (new_row c.args.file c.args.size) c.args.self.now.rows c.in-Err.place counts c.in-Err.ensures (omega arith))

pub returns-in-Err : goal.returns-in-Err
returns-in-Err c = record {
  had = λ has. absurd (lacks-place c.args.file c.args.self.now.rows c.in-Err.place c.in-Err.ensures has);
  added = λ lacks room.
      c.put_new.ensures
      ∙ ap (λ (rs : List FileCount). let new : Figures = record { rows = rs; spare = c.args.self.now.spare - 1 } in new)
      (ap (λ (row : FileCount). insert c.args.self.now.rows c.in-Err.place row) c.new_row.ensures ∙ insert-new (new_row c.args.file c.args.size) c.args.self.now.rows c.in-Err.place c.in-Err.ensures);
}

pub returns-else-len : goal.returns-else-len
returns-else-len c = record {
  had = λ has. absurd (lacks-place c.args.file c.args.self.now.rows c.in-Err.place c.in-Err.ensures has);
  added = λ lacks room. let spare = ap (λ (f : Figures). f.spare) c.self.view_is in let long = c.len.ensures in let full = c.if-len.false in absurd (omega (arith, room, spare, long, full));
}
