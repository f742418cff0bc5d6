use Rattle.std.proofs.Common.{arith}
use Rattle.cache_cli.specs.DirectorySettings.{settings_name}
use Rattle.cache_cli.proofs.Filling.{filled_more}
use Rattle.cache_cli.proofs.directory_settings.read_more.Goals as goal

pub returns-in-Ok-clause-filled : goal.returns-in-Ok-clause-filled
returns-in-Ok-clause-filled g c = λ tells from filled.
    filled_more (g.H.Host.state from) _ _ settings_name c.args.buffer.now c.read.new.buf c.args.done c.in-Ok.count (omega arith) filled (c.in-Ok.ensures.told tells)
