use Rattle.std.proofs.Common.{arith}
use Rattle.file_stats.proofs.Descents.{child-within, way-end, way-on-left, way-on-right}
use Rattle.file_stats.proofs.classes.first_under.Goals as goal
use Rattle.file_stats.proofs.classes.first_under.Goals.{then-nodes-at, else-nodes-at}

pub overflow_mul-at : goal.overflow_mul-at
overflow_mul-at c = let within = child-within c.args.nodes.now c.args.limit _ _ c.args.levels c.loop-level._level c.loop-level.at c.loop-level-test.true c.loop-level.invariant c.requires.within.1 in omega (arith, within)

pub bounds-nodes-at : goal.bounds-nodes-at
bounds-nodes-at c = let within = child-within c.args.nodes.now c.args.limit _ _ c.args.levels c.loop-level._level c.loop-level.at c.loop-level-test.true c.loop-level.invariant c.requires.within.1 in omega (arith, within)

pub returns : goal.returns
returns c = way-end c.args.nodes.now c.args.limit _ _ c.args.levels c.loop-level._level c.loop-level.at c.loop-level-test.false c.loop-level.invariant

pub loop-level-preserved : goal.loop-level-preserved
loop-level-preserved c =
    elim c.if-nodes-at.branch [
      | then-nodes-at w ↦ way-on-right c.args.nodes.now c.args.limit _ _ c.args.levels c.loop-level._level c.loop-level.at c.if-nodes-at.at c.requires.settled c.requires.within.1 c.loop-level-test.true c.loop-level.invariant w.at-is w.if-nodes-at.true
      | else-nodes-at w ↦ way-on-left c.args.nodes.now c.args.limit _ _ c.args.levels c.loop-level._level c.loop-level.at c.if-nodes-at.at c.loop-level-test.true c.loop-level.invariant w.at-is w.if-nodes-at.false
    ]
