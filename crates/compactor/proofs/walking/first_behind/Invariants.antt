use Rattle.std.specs.Prelude.{option_map}
use Rattle.append_log.specs.Current.{files_of}
use Rattle.compactor.proofs.Seeking.{Sought}
use Rattle.compactor.proofs.walking.first_behind.Given as goal

abbrev pub invariant-loop-at : goal.invariant-loop-at
invariant-loop-at g l = Sought (option_map (λ key. key.now) l.after) l.entries l.at-index l.best (files_of l.fn.log) (files_of l.log) g.H.Host.tells (g.H.Host.state l.fn.host) (g.H.Host.state l.host)
