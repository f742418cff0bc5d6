use Rattle.std.proofs.Common.{◌∙◌, sym, ap, refl}
use Rattle.std.specs.BTreeMap.Range.{entries_between}
use Rattle.std.specs.declared.ops.Bound.{Bound}
use Rattle.std.specs.declared.ops.Bound.TheVariants.{Unbounded}
use Rattle.store_trait.specs.declared.entries.HashedKey.{HashedKey}
use Rattle.store_trait.specs.Places.{place_cmp, first_shown}
use Rattle.store_trait.proofs.entries.first_shown.Goals as goal

pub loop-place-init : goal.loop-place-init
loop-place-init c =
    ap (first_shown c.args.moment)
    (ap (λ (b : Bound HashedKey). entries_between place_cmp b Unbounded c.args.rooms.now.entries) (sym c.start_after.ensures)
    ∙ sym (c.into_iter-place-iterator.ensures.into_iter_gives ∙ c.range-place-items.ensures.between tt))

pub returns-then-is_shown : goal.returns-then-is_shown
returns-then-is_shown c = sym (c.loop-place.invariant ∙ ap (first_shown c.args.moment) c.in-Some.ensures.steps ∙ rw (sym c.is_shown.ensures ∙ c.if-is_shown.true) refl)

pub loop-place-preserved : goal.loop-place-preserved
loop-place-preserved c = c.loop-place.invariant ∙ ap (first_shown c.args.moment) c.in-Some.ensures.steps ∙ rw (sym c.is_shown.ensures ∙ c.if-is_shown.false) refl

pub returns : goal.returns
returns c = sym (c.loop-place.invariant ∙ ap (first_shown c.args.moment) c.in-None.ensures.steps.0)
