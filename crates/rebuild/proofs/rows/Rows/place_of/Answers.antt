use Rattle.std.proofs.Common.{rules}
use Rattle.std.proofs.lemmas.List.Sorted.{answers_always}
use Rattle.rebuild.proofs.RowLemmas.{absent-place, found-place}
use Rattle.rebuild.proofs.rows.Rows.place_of.Goals as goal

pub returns-in-Ok : goal.returns-in-Ok
returns-in-Ok c =
    let by_number = c.in-Ok.ensures.position (λ row. row.number) (answers_always _ _ _ (λ f a r g called. search rules)) in
    rw (← c.self.view_is, ← c.deref.ensures.value) (found-place c.args.number _ c.in-Ok.place c.in-Ok.ensures.bound by_number)

pub returns-in-Err : goal.returns-in-Err
returns-in-Err c =
    let by_number = c.in-Err.ensures.position (λ row. row.number) (answers_always _ _ _ (λ f a r g called. search rules)) in
    rw (← c.self.view_is, ← c.deref.ensures.value) (absent-place c.args.number _ c.in-Err.field-0 (rw c.deref.ensures.value c.self.invariant.ascend) by_number)
