use Rattle.std.proofs.Common.{◌≤◌}
use Rattle.host_memory.specs.History.{memory_state}
use Rattle.append_log.specs.Current.{IsUsable, files_of}
use Rattle.append_log.specs.Standing.{IsStanding}
use Rattle.append_log.proofs.tests.run.Given as goal

abbrev pub invariant-loop-step : goal.invariant-loop-step
invariant-loop-step l = record {
  moment : l.moment ≤ 1000;
  usable : IsUsable (files_of l.log);
  stands : IsStanding (files_of l.log) (memory_state l.host);
}
