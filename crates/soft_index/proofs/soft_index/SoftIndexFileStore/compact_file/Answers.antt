use Rattle.soft_index.specs.Turns.{run_facts, run_means}
use Rattle.soft_index.specs.Rule.{Allows}
use Rattle.soft_index.proofs.Ruled.{compacted_ruled}
use Rattle.soft_index.proofs.soft_index.SoftIndexFileStore.compact_file.Goals as goal

pub returns-clause-told : goal.returns-clause-told
returns-clause-told g c told =
    let old = c.args.self.now.log in
    let new = c.compact_file.new.self in
    let a = g.H.Host.state c.args.host.now in
    let b = g.H.Host.state c.compact_file.new.host in
    compacted_ruled (run_facts old) (run_facts new) _ _ (Allows g.F.Fn c.args.self.now.forget) (λ key none. absurd none) (λ key none. absurd none) c.args.file (run_means old a) (run_means new b) a b c.args.moment c.compact_file.result (c.compact_file.ensures.told told)
