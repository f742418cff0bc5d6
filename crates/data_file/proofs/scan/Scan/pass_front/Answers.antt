use Rattle.std.proofs.Common.{List, ℕ, refl}
use Rattle.cache_model.specs.Files.{bytes_in}
use Rattle.data_file.proofs.Giving.{front-closed}
use Rattle.data_file.proofs.scan.Scan.pass_front.Goals as goal

pub returns-then-not-opens-clause-told : goal.returns-then-not-opens-clause-told
returns-then-not-opens-clause-told g c = λ tells.
    let file : List ℕ = bytes_in (g.H.Host.state c.args.host.now).files c.args.self.now.window.name in
    front-closed c.args.self.now _ c.fill.new.self file c.bytes-bytes.result.now c.opens.result c.opens.ensures c.if-not-opens.true c.bytes-bytes.ensures
    c.requires.due (c.requires.scans tells) c.in_ok-fill.ensures.at (c.in_ok-fill.ensures.shows tells) (c.in_ok-fill.ensures.full tells) refl refl
