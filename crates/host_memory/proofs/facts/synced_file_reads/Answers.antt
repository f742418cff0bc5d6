use Rattle.host_memory.proofs.DiskFacts.{synced_reads}
use Rattle.host_memory.proofs.facts.synced_file_reads.Goals as goal

pub returns : goal.returns
returns c = synced_reads
