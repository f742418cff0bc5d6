use Rattle.std.proofs.Common.{◌∙◌, ap, sym, [], Some}
use Rattle.std.proofs.Math.Seq.{take-length}
use Rattle.host_memory.specs.History.{words}
use Rattle.host_memory.specs.Turns.{said_since}
use Rattle.host_memory.proofs.Words.{words_said}
use Rattle.host_memory.proofs.host.MemoryHost.said.Goals as goal

pub returns-clause-told : goal.returns-clause-told
returns-clause-told c said told =
    let turns = c.args.self.now.turns in
    c.deref.ensures.value ∙ c.self.invariant.spoken ∙ ap words c.self.view_is ∙ words_said [] turns said (ap (said_since (Some [])) (sym (take-length turns)) ∙ told)
