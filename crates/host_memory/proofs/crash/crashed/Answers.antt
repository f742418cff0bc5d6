use Rattle.std.proofs.Common.{◌+◌, drop, get_or}
use Rattle.host_memory.proofs.Building.{built_step, named_step, apart_crashes, behind}
use Rattle.host_memory.proofs.crash.crashed.Goals as goal

pub loop-i-preserved : goal.loop-i-preserved
loop-i-preserved c =
    let turns = c.args.turns.now in
    let d = c.index-turns-i.result in
    let named = named_step turns c.loop-i.i d c.loop-i-test.true c.loop-i.invariant.named in
    let crashes = rw (behind turns (c.loop-i.i + 1)) at c.in_ok-crash.ensures.crashes in
    record {
      built = built_step c.args.files.now c.loop-i.image.items c.crash.new.image.items turns c.loop-i.i d c.loop-i-test.true c.loop-i.invariant.built crashes;
      apart = apart_crashes (drop (c.loop-i.i + 1) turns) (get_or turns c.loop-i.i d).call c.loop-i.image.items c.crash.new.image.items named.0 c.loop-i.invariant.apart crashes;
      named = named.1;
    }
