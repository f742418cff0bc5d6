use Rattle.std.proofs.Common.{◌≡◌, ℕ, ◌+◌, ◌-◌, refl, subst, arith}
use Rattle.std.proofs.lemmas.Bool.{false≢true}
use Rattle.file_stats.proofs.Descents.{IsClimb, climb-found, climb-next, neighbour-within}
use Rattle.file_stats.proofs.classes.next_behind.Goals as goal

pub right_is_below-requires-clause-within : goal.right_is_below-requires-clause-within
right_is_below-requires-clause-within c = c.loop-level.invariant.within

pub first_under-requires-clause-within : goal.first_under-requires-clause-within
first_under-requires-clause-within c =
    let are = c.if-right_is_below.ensures in
    (omega arith, neighbour-within c.args.nodes.now c.args.limit c.args.leaf c.args.height (c.args.height - c.loop-level.level) c.loop-level.level c.loop-level.at c.requires.count (omega arith) c.loop-level.invariant (are.0 refl).0)

pub returns-then-right_is_below : goal.returns-then-right_is_below
returns-then-right_is_below c =
    let are = c.if-right_is_below.ensures in
    climb-found c.args.nodes.now c.args.limit c.args.leaf c.args.height (c.args.height - c.loop-level.level) c.loop-level.level c.loop-level.at c.first_under.result c.requires.count (omega arith) c.loop-level.invariant (are.0 refl).0 c.first_under.ensures

pub loop-level-preserved : goal.loop-level-preserved
loop-level-preserved c =
    let are = c.if-right_is_below.ensures in
    let left : c.args.height - c.loop-level.level ≡ c.args.height - (c.loop-level.level + 1) + 1 = omega arith in
    climb-next c.args.nodes.now c.args.limit c.args.leaf c.args.height (c.args.height - (c.loop-level.level + 1)) c.loop-level.level c.loop-level.at c.requires.settled c.requires.count (omega arith) (λ both. false≢true (are.1 both))
    (subst (λ (n : ℕ). IsClimb c.args.nodes.now c.args.limit c.args.leaf n c.loop-level.level c.loop-level.at) left c.loop-level.invariant)
