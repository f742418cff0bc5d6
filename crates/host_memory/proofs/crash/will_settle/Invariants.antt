use Rattle.std.proofs.Common.{◌≡◌, drop}
use Rattle.host_memory.specs.Crashes.{settles}
use Rattle.host_memory.proofs.crash.will_settle.Given as goal

abbrev pub invariant-loop-turn : goal.invariant-loop-turn
invariant-loop-turn l = settles l.name l.turns ≡ settles l.name (drop l.turn-index l.turns)
