use Rattle.std.proofs.Common.{arith, ◌≤◌, ◌+◌, length}
use Rattle.std.proofs.lemmas.Grind.{common_steps}
use Rattle.std.proofs.lemmas.Result.{MatchResult-weaker}
use Rattle.host_memory.proofs.Tearing.{torn_piece}
use Rattle.host_memory.proofs.disk_file.DiskFile.tear.Goals as goal

pub returns-clause-torn : goal.returns-clause-torn
returns-clause-torn c =
    let room : c.args.at ≤ length c.args.self.now.1 = grind (arith, common_steps) in
    let short : c.min-end.result ≤ c.args.at + c.args.count = omega (arith, c.min-end.ensures, c.saturating_add.ensures) in
    MatchResult-weaker c.overwrite.result c.overwrite.ensures.written
    (λ _ is. torn_piece c.args.at c.args.count c.min-end.result c.args.self.now c.overwrite.new.self c.args.target.now room short is)
    (λ _ top. top)
