use Rattle.std.proofs.Common.{◌∙◌, ℕ, List, sym, ap, subst}
use Rattle.std.specs.BTreeMap.Range.{entries_between}
use Rattle.std.specs.Ordering.{nat_cmp}
use Rattle.std.specs.declared.ops.Bound.{Bound}
use Rattle.std.specs.declared.ops.Bound.TheVariants.{Unbounded}
use Rattle.tree_index.specs.Rows.{all_entries}
use Rattle.tree_index.specs.declared.row.Row.{Row}
use Rattle.tree_index.proofs.Nexts.{IsWalked, begins, goes_on, stops}
use Rattle.tree_index.proofs.rows.next.Goals as goal

pub loop-hash-init : goal.loop-hash-init
loop-hash-init c =
    let walk = c.into_iter-hash-iterator.ensures.into_iter_gives ∙ c.range-hash-items.ensures.between tt ∙ ap (λ (b : Bound ℕ). entries_between nat_cmp b Unbounded c.args.rows.now.entries) c.row_start.ensures in
    subst (λ (rest : List (ℕ × Row)). IsWalked c.args.after (all_entries c.args.rows.now) rest) (sym walk) (begins c.args.after c.args.rows.now c.requires.kept)

pub returns-in-Some-next_in : goal.returns-in-Some-next_in
returns-in-Some-next_in c =
    stops c.args.after (all_entries c.args.rows.now) (c.in-Some.hash.now, c.in-Some.row.now) _ c.in-Some-next_in.next
    (subst (λ (rest : List (ℕ × Row)). IsWalked c.args.after (all_entries c.args.rows.now) rest) c.in-Some.ensures.steps c.loop-hash.invariant)
    c.in-Some-next_in.ensures

pub loop-hash-preserved : goal.loop-hash-preserved
loop-hash-preserved c =
    goes_on c.args.after (all_entries c.args.rows.now) (c.in-Some.hash.now, c.in-Some.row.now) c.next.new.self
    (subst (λ (rest : List (ℕ × Row)). IsWalked c.args.after (all_entries c.args.rows.now) rest) c.in-Some.ensures.steps c.loop-hash.invariant)
    c.in_default.ensures
