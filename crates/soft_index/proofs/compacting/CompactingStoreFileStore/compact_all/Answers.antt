use Rattle.soft_index.proofs.Turned.{compacted_all, compacted_all_fault}
use Rattle.soft_index.proofs.compacting.CompactingStoreFileStore.compact_all.Goals as goal

pub returns-in-Ok-clause-told : goal.returns-in-Ok-clause-told
returns-in-Ok-clause-told g c told =
    compacted_all c.args.self.now c.compact_every.new.store (g.H.Host.state c.args.host.now) (g.H.Host.state c.compact_every.new.host) c.args.moment (c.in-Ok.ensures.told told)

pub returns-in-Err-clause-told : goal.returns-in-Err-clause-told
returns-in-Err-clause-told g c told =
    compacted_all_fault c.args.self.now c.compact_every.new.store (g.H.Host.state c.args.host.now) (g.H.Host.state c.compact_every.new.host) c.args.moment c.in-Err.fault (c.in-Err.ensures.told told)
