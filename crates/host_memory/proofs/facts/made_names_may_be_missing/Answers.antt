use Rattle.host_memory.proofs.Chances.{made_may_be_missing}
use Rattle.host_memory.proofs.facts.made_names_may_be_missing.Goals as goal

pub returns : goal.returns
returns c = made_may_be_missing
