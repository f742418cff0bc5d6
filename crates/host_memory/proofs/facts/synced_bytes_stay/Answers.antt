use Rattle.host_memory.proofs.DiskFacts.{synced_bytes}
use Rattle.host_memory.proofs.facts.synced_bytes_stay.Goals as goal

pub returns : goal.returns
returns c = synced_bytes
