use Rattle.host_memory.proofs.DiskFacts.{synced_names}
use Rattle.host_memory.proofs.facts.synced_names_read.Goals as goal

pub returns : goal.returns
returns c = synced_names
