use Rattle.soft_index.specs.Turns.{run_facts, run_means}
use Rattle.soft_index.specs.Rule.{Allows}
use Rattle.soft_index.proofs.Ruled.{draws_by_ruled, plain_ruled, stepped_ruled}
use Rattle.soft_index.proofs.soft_index.SoftIndexStore.step.Goals as goal

pub returns-clause-plain : goal.returns-clause-plain
returns-clause-plain g c =
    plain_ruled (run_facts c.args.self.now.log) (run_facts c.step.new.self) _ _ (Allows g.F.Fn c.args.self.now.forget) (λ key none. absurd none) (λ key none. absurd none) c.args.moment c.step.result (λ is. (is.0, is.1, c.requires.ready.usable.2)) c.step.ensures.plain

pub returns-clause-told : goal.returns-clause-told
returns-clause-told g c told =
    let old = c.args.self.now.log in
    let new = c.step.new.self in
    let a = g.H.Host.state c.args.host.now in
    let b = g.H.Host.state c.step.new.host in
    stepped_ruled (run_facts old) (run_facts new) _ _ (Allows g.F.Fn c.args.self.now.forget) (λ key none. absurd none) (λ key none. absurd none) c.args.kind (run_means old a) (run_means new b) a b c.args.moment c.step.result (c.step.ensures.told told)

pub returns-clause-draws : goal.returns-clause-draws
returns-clause-draws g c = draws_by_ruled (run_facts c.args.self.now.log) (run_facts c.step.new.self) _ _ (Allows g.F.Fn c.args.self.now.forget) (λ key none. absurd none) (λ key none. absurd none) c.args.kind c.step.result c.step.ensures.draws
