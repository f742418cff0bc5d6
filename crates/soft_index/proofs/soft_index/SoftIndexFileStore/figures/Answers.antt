use Rattle.soft_index.specs.Turns.{run_facts, run_means}
use Rattle.soft_index.specs.Rule.{Allows}
use Rattle.soft_index.proofs.Ruled.{plain_ruled, figured_ruled}
use Rattle.soft_index.proofs.soft_index.SoftIndexFileStore.figures.Goals as goal

pub returns-clause-plain : goal.returns-clause-plain
returns-clause-plain g c =
    plain_ruled (run_facts c.args.self.now.log) (run_facts c.figures.new.self) _ _ (Allows g.F.Fn c.args.self.now.forget) (λ key none. absurd none) (λ key none. absurd none) c.args.moment c.figures.result (λ is. (is.0, is.1, c.requires.ready.usable.2)) c.figures.ensures.plain

pub returns-clause-told : goal.returns-clause-told
returns-clause-told g c told =
    let old = c.args.self.now.log in
    let new = c.figures.new.self in
    let a = g.H.Host.state c.args.host.now in
    let b = g.H.Host.state c.figures.new.host in
    figured_ruled (run_facts old) (run_facts new) _ _ (Allows g.F.Fn c.args.self.now.forget) (λ key none. absurd none) (λ key none. absurd none) (run_means old a) (run_means new b) a b c.args.moment c.figures.result (c.figures.ensures.told told)
