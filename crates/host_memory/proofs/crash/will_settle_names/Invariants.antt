use Rattle.std.proofs.Common.{◌≡◌, drop}
use Rattle.host_memory.specs.Crashes.{names_settle}
use Rattle.host_memory.proofs.crash.will_settle_names.Given as goal

abbrev pub invariant-loop-turn : goal.invariant-loop-turn
invariant-loop-turn l = names_settle l.turns ≡ names_settle (drop l.turn-index l.turns)
