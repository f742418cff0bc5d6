use Rattle.std.proofs.Common.{◌≡◌, ◌-◌, ◌^◌, IsTrue}
use Rattle.cache_script.specs.LineReader.{unread}
use Rattle.cache_script.proofs.Taking.{IsTaking}
use Rattle.cache_script.proofs.line_reader.LineReader.next.Given as goal

abbrev pub invariant-loop-self : goal.invariant-loop-self
invariant-loop-self g l = record {
  units : l.self.units ≡ l.fn.self.units;
  faults : g.S.Source.faults l.source ≡ g.S.Source.faults l.fn.source;
  taking : IsTrue g.S.Source.tells → IsTaking (unread l.fn.self (g.S.Source.rest l.fn.source)) l.self (g.S.Source.rest l.source);
}

abbrev pub decreases-loop-self : goal.decreases-loop-self
decreases-loop-self g l = 2 ^ 53 - l.self.taken
