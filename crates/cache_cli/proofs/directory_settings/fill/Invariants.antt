use Rattle.std.proofs.Common.{length, ◌-◌}
use Rattle.cache_model.specs.Files.{bytes_in}
use Rattle.cache_cli.specs.DirectorySettings.{settings_name}
use Rattle.cache_cli.proofs.Filling.{Filling}
use Rattle.cache_cli.proofs.directory_settings.fill.Given as goal

abbrev pub invariant-loop-done : goal.invariant-loop-done
invariant-loop-done g l =
    Filling g.H.Host.tells (g.H.Host.state l.initial.host) (g.H.Host.state l.host) (bytes_in (g.H.Host.state l.initial.host).files settings_name) l.buffer l.done

abbrev pub decreases-loop-done : goal.decreases-loop-done
decreases-loop-done g l = length l.initial.buffer - l.done
