use Rattle.std.proofs.Common.{rules}
use Rattle.std.proofs.lemmas.List.Sorted.{answers_always}
use Rattle.file_stats.proofs.RowLemmas.{searched-place}
use Rattle.file_stats.proofs.figures.Stats.place_of.Goals as goal

pub returns : goal.returns
returns c =
    let by_number = c.binary_search_by_key.ensures.position (λ row. row.number) (answers_always _ _ _ (λ f a r g called. search rules)) in
    rw (← c.self.view_is, ← c.deref.ensures.value) (searched-place c.args.file _ c.binary_search_by_key.result (rw c.deref.ensures.value c.self.invariant.counts.ascend) c.binary_search_by_key.ensures.bound by_number)
