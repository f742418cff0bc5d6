use Rattle.std.proofs.Common.{◌∙◌, sym, ap, refl}
use Rattle.std.specs.Prelude.{ℕ, List}
use Rattle.std.specs.BTreeMap.Range.{entries_between}
use Rattle.std.specs.declared.ops.Bound.{Bound}
use Rattle.std.specs.declared.ops.Bound.TheVariants.{Unbounded}
use Rattle.temporary_table.specs.Buckets.{key_cmp}
use Rattle.temporary_table.specs.Walking.{first_by}
use Rattle.temporary_table.specs.Searching.{placed_key}
use Rattle.temporary_table.proofs.buckets.first_in.Goals as goal

pub loop-key-init : goal.loop-key-init
loop-key-init c =
    ap (first_by placed_key)
    (ap (λ (b : Bound (List ℕ)). entries_between key_cmp b Unbounded c.args.bucket.now.entries) (sym c.start_after.ensures)
    ∙ sym (c.into_iter-key-iterator.ensures.into_iter_gives ∙ c.range-key-items.ensures.between tt))

pub returns-then-is_some : goal.returns-then-is_some
returns-then-is_some c = sym (c.loop-key.invariant ∙ ap (first_by placed_key) c.in-Some.ensures.steps ∙ rw (sym c.is_some.ensures ∙ c.if-is_some.true) refl)

pub loop-key-preserved : goal.loop-key-preserved
loop-key-preserved c = c.loop-key.invariant ∙ ap (first_by placed_key) c.in-Some.ensures.steps ∙ rw (sym c.is_some.ensures ∙ c.if-is_some.false) refl

pub returns : goal.returns
returns c = sym (c.loop-key.invariant ∙ ap (first_by placed_key) c.in-None.ensures.steps.0)
