use Rattle.std.proofs.Common.{take, drop, IsTrue}
use Rattle.host_memory.specs.Crashes.{AreWellNamed}
use Rattle.host_memory.specs.Files.{are_named_apart}
use Rattle.host_memory.proofs.Fitting.{IsBuilt}
use Rattle.host_memory.proofs.crash.crashed.Given as goal

abbrev pub invariant-loop-i : goal.invariant-loop-i
invariant-loop-i l = record {
  built : IsBuilt l.files (take l.i l.turns) (drop l.i l.turns) l.image.items;
  apart : IsTrue (are_named_apart l.image.items);
  named : AreWellNamed (drop l.i l.turns);
}
