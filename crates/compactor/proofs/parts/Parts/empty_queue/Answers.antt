use Rattle.compactor.proofs.Emptying.{emptying_more, figures_on, keeps_on}
use Rattle.compactor.proofs.parts.Parts.empty_queue.Goals as goal

pub returns-in-Err-clause-keeps : goal.returns-in-Err-clause-keeps
returns-in-Err-clause-keeps g c =
    keeps_on c.args.self.now c.loop-self.self c.index_step.new.self g.H.Host.tells (g.H.Host.state c.args.host.now) (g.H.Host.state c.loop-self.host) (g.H.Host.state c.index_step.new.host) c.loop-self.invariant c.in-Err.ensures.stands
    c.in-Err.fault c.in-Err.ensures.keeps

pub returns-in-Err-clause-figures : goal.returns-in-Err-clause-figures
returns-in-Err-clause-figures g c =
    figures_on c.args.self.now c.loop-self.self c.index_step.new.self g.H.Host.tells (g.H.Host.state c.args.host.now) (g.H.Host.state c.loop-self.host) (g.H.Host.state c.index_step.new.host) c.loop-self.invariant c.in-Err.ensures.stands
    c.in-Err.ensures.figures

pub loop-self-preserved : goal.loop-self-preserved
loop-self-preserved g c =
    emptying_more c.args.self.now c.loop-self.self c.index_step.new.self g.H.Host.tells (g.H.Host.state c.args.host.now) (g.H.Host.state c.loop-self.host) (g.H.Host.state c.index_step.new.host) c.loop-self.invariant c.in_default.ensures.stands
    c.in_default.field-0 c.in_default.ensures.steps c.in_default.ensures.cause c.in_default.ensures.keeps c.in_default.ensures.figures
