use Rattle.std.proofs.Common.{◌-◌, length}
use Rattle.data_file.proofs.Filled.{Filling}
use Rattle.data_file.proofs.fetching.fill.Given as goal

abbrev pub invariant-loop-known : goal.invariant-loop-known
invariant-loop-known g l = Filling l.name l.at l.known l.initial.buffer l.buffer g.H.Host.tells (g.H.Host.state l.initial.host) (g.H.Host.state l.host)

abbrev pub decreases-loop-known : goal.decreases-loop-known
decreases-loop-known g l = length l.buffer - l.known
