use Rattle.std.proofs.lemmas.Result.{MatchResult-weaker}
use Rattle.host_memory.proofs.Tearing.{tore_at, tore_nowhere}
use Rattle.host_memory.proofs.crash.tear_in.Goals as goal

pub returns-in_default-clause-torn : goal.returns-in_default-clause-torn
returns-in_default-clause-torn c =
    let none = rw c.deref.ensures.value at c.in_default.ensures in
    tore_nowhere c.args.name c.args.files.now.items c.args.at c.args.count none

pub returns-clause-torn : goal.returns-clause-torn
returns-clause-torn c =
    let place = rw c.deref.ensures.value at c.in-Some.ensures in
    MatchResult-weaker c.tear.result c.tear.ensures.torn
    (λ _ torn. tore_at c.args.name c.args.files.now.items c.in-Some.i c.index_mut.result.now c.tear.new.self c.args.at c.args.count place c.index_mut.ensures.value torn.0 torn.1)
    (λ _ top. top)
