use Rattle.append_log.specs.Current.{files_of}
use Rattle.compactor.proofs.Searching.{Searched}
use Rattle.compactor.proofs.finding.first_of_key.Given as goal

abbrev pub invariant-loop-at : goal.invariant-loop-at
invariant-loop-at g l = Searched l.key l.entries l.at-index (files_of l.fn.log) (files_of l.log) g.H.Host.tells (g.H.Host.state l.fn.host) (g.H.Host.state l.host)
