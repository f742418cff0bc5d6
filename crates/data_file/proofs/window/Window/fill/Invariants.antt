use Rattle.std.proofs.Common.{◌-◌}
use Rattle.data_file.specs.Windows.{known_to}
use Rattle.data_file.proofs.Reading.{Filling}
use Rattle.data_file.proofs.window.Window.fill.Given as goal

abbrev pub invariant-loop-self : goal.invariant-loop-self
invariant-loop-self g l = Filling l.initial.self l.self g.H.Host.tells (g.H.Host.state l.initial.host) (g.H.Host.state l.host)

abbrev pub decreases-loop-self : goal.decreases-loop-self
decreases-loop-self g l = l.self.size - known_to l.self
