use Rattle.std.proofs.Common.{◌∙◌, ap, subst}
use Rattle.std.specs.BTreeMap.Range.{IsRangeOf}
use Rattle.std.specs.declared.ops.Bound.{Bound}
use Rattle.std.specs.declared.ops.Bound.TheVariants.{Unbounded}
use Rattle.cache_model.specs.declared.index.IndexKey.{IndexKey}
use Rattle.tree_index.specs.Index.{index_cmp}
use Rattle.tree_index.specs.Starts.{start_after}
use Rattle.tree_index.proofs.Nexts.{is_next, none_next}
use Rattle.tree_index.proofs.row.next_among.Goals as goal

pub returns-in-Some : goal.returns-in-Some
returns-in-Some c = is_next c.args.several.now c.args.after c.range-above.result _ (c.in-Some.key.now, c.in-Some.value.now)
    (subst (λ (b : Bound IndexKey). IsRangeOf index_cmp b Unbounded c.args.several.now c.range-above.result) (c.start_after.ensures ∙ ap start_after c.as_ref.ensures.value) (c.range-above.ensures.in_range tt))
    c.in-Some.ensures.steps

pub returns-in-None : goal.returns-in-None
returns-in-None c = none_next c.args.several.now c.args.after c.range-above.result
    (subst (λ (b : Bound IndexKey). IsRangeOf index_cmp b Unbounded c.args.several.now c.range-above.result) (c.start_after.ensures ∙ ap start_after c.as_ref.ensures.value) (c.range-above.ensures.in_range tt))
    c.in-None.ensures.steps.0
