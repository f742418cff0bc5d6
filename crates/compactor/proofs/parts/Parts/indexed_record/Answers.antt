use Rattle.compactor.specs.Counting.{counts_in}
use Rattle.compactor.proofs.Looked.{entry_finds, none_finds, entry_fails}
use Rattle.compactor.proofs.parts.Parts.indexed_record.Goals as goal

pub returns-in-Ok-Some-clause-finds : goal.returns-in-Ok-Some-clause-finds
returns-in-Ok-Some-clause-finds g c told kept is there =
    let p = c.args.self.now in
    entry_finds (counts_in kept) p is (g.H.Host.state c.args.host.now) (g.H.Host.state c.find_entry-result.new.host) there c.args.key.now c.requires.usable.ordered c.requires.unplaced c.in-Ok-Some.found (rw c.in-Ok-Some.field-0-is at (c.in-Ok-Some.ensures.searches told))

pub returns-in-Ok-None-clause-finds : goal.returns-in-Ok-None-clause-finds
returns-in-Ok-None-clause-finds g c told kept is there =
    none_finds (counts_in kept) c.args.self.now is (g.H.Host.state c.args.host.now) (g.H.Host.state c.find_entry-result.new.host) there c.args.key.now c.requires.usable.ordered c.requires.unplaced (rw c.in-Ok-None.field-0-is at (c.in-Ok-None.ensures.searches told))

pub returns-in-Err-clause-finds : goal.returns-in-Err-clause-finds
returns-in-Err-clause-finds g c told kept is there =
    entry_fails (counts_in kept) c.args.self.now is (g.H.Host.state c.args.host.now) (g.H.Host.state c.find_entry-result.new.host) there c.args.key.now c.requires.usable.ordered c.requires.unplaced c.in-Err.fault (c.in-Err.ensures.searches told)
