use Rattle.std.proofs.Common.{take, sym, subst}
use Rattle.cache_disk.specs.Calls.{Read}
use Rattle.data_file.proofs.Reading.{front_of}
use Rattle.data_file.proofs.window.read_into.Goals as goal

pub returns-clause-told : goal.returns-clause-told
returns-clause-told g c = λ tells.
    subst (λ xs. Read c.args.name c.args.at (take c.args.wanted c.args.buffer.now) xs (g.H.Host.state c.args.host.now) (g.H.Host.state c.read.new.self) c.read.result)
    (sym (front_of c.args.buffer.now c.read.new.buf c.args.wanted c.read.auto.buf c.requires.room))
    (c.read.ensures.told tells)
