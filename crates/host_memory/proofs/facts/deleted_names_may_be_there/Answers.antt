use Rattle.host_memory.proofs.Chances.{deleted_may_be_there}
use Rattle.host_memory.proofs.facts.deleted_names_may_be_there.Goals as goal

pub returns : goal.returns
returns c = deleted_may_be_there
