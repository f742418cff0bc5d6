use Rattle.soft_index.proofs.Turned.{compacted_fault, compacted_file}
use Rattle.soft_index.proofs.compacting.CompactingStoreFileStore.compact_file.Goals as goal

pub returns-in-Ok-clause-told : goal.returns-in-Ok-clause-told
returns-in-Ok-clause-told g c told =
    compacted_file c.args.file c.args.self.now c.compact_whole.new.store (g.H.Host.state c.args.host.now) (g.H.Host.state c.compact_whole.new.host) c.args.moment c.in-Ok.turned (c.in-Ok.ensures.told told)

pub returns-in-Err-clause-told : goal.returns-in-Err-clause-told
returns-in-Err-clause-told g c told =
    compacted_fault c.args.file c.args.self.now c.compact_whole.new.store (g.H.Host.state c.args.host.now) (g.H.Host.state c.compact_whole.new.host) c.args.moment c.in-Err.fault (c.in-Err.ensures.told told)
