use Rattle.std.proofs.Common.{Ok, Err, subst, ℕ}
use Rattle.data_file.specs.Fetching.{Fetches}
use Rattle.append_log.specs.Current.{data_name}
use Rattle.compactor.specs.Counting.{counts_in}
use Rattle.compactor.proofs.Looked.{placed_finds, placed_fails}
use Rattle.compactor.proofs.parts.Parts.placed_record.Goals as goal

pub returns-in-Ok-clause-finds : goal.returns-in-Ok-clause-finds
returns-in-Ok-clause-finds g c told kept is there key gone at =
    let a = g.H.Host.state c.args.host.now in
    let b = g.H.Host.state c.fetch-result.new.host in
    placed_finds (counts_in kept) c.args.self.now is a b there key c.args.place gone at c.in-Ok.item (subst (λ (n : ℕ). Fetches (data_name n c.args.place.file) c.args.place a b (Ok c.in-Ok.item)) c.requires.usable.main (c.in-Ok.ensures.told told))

pub returns-in-Err-clause-finds : goal.returns-in-Err-clause-finds
returns-in-Err-clause-finds g c told kept is there key gone at =
    let a = g.H.Host.state c.args.host.now in
    let b = g.H.Host.state c.fetch-result.new.host in
    placed_fails (counts_in kept) c.args.self.now is a b there key c.args.place gone at c.in-Err.fault (subst (λ (n : ℕ). Fetches (data_name n c.args.place.file) c.args.place a b (Err c.in-Err.fault)) c.requires.usable.main (c.in-Err.ensures.told told))
