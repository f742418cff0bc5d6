use Rattle.std.proofs.Common.{◌∙◌, Bool, subst}
use Rattle.cache_cli.specs.Run.{view_by}
use Rattle.cache_cli.specs.Steps.{StepsBy}
use Rattle.cache_cli.proofs.Stepping.{ran_out}
use Rattle.cache_cli.proofs.run.answer_script.Goals as goal

pub returns-in_err-step_on-clause-ran : goal.returns-in_err-step_on-clause-ran
returns-in_err-step_on-clause-ran g c = λ tells told from course ordered talk on paced.
    let so_far = c.lines.invariant.talks tells told from course ordered talk on paced in
    let step = c.in_err-step_on.ensures.stepped tells told from course ordered so_far.0 so_far.1 so_far.2 in
    ran_out (g.H.Host.state from) course ordered (view_by g.S.Keyed.facts g.S.Keyed.means c.step_on.new.session (g.H.Host.state c.step_on.new.host)) c.in_err-step_on.field-0.0 c.from_residual.result c.from_residual.ensures step.ends step.holds

pub lines-preserved : goal.lines-preserved
lines-preserved g c = record {
  fit = c.in_ok-step_on.ensures.fit c.if-branch.true;
  stands = λ tells. c.in_ok-step_on.ensures.stands tells c.if-branch.true;
  unfaulted = (c.in_ok-step_on.ensures.cause.0.0 ∙ c.lines.invariant.unfaulted.0, c.in_ok-step_on.ensures.cause.0.1 ∙ c.lines.invariant.unfaulted.1);
  read = c.in_ok-step_on.ensures.cause.1 ∙ c.lines.invariant.read;
  talks = λ tells told from course ordered talk on paced.
      let so_far = c.lines.invariant.talks tells told from course ordered talk on paced in
      let step = c.in_ok-step_on.ensures.stepped tells told from course ordered so_far.0 so_far.1 so_far.2 in
      subst (λ (more : Bool). StepsBy more (g.H.Host.state from) course ordered (view_by g.S.Keyed.facts g.S.Keyed.means c.step_on.new.session (g.H.Host.state c.step_on.new.host)) c.step_on.new.pump c.step_on.new.reader (g.I.Source.rest c.step_on.new.script)) c.if-branch.true step.goes;
}

pub returns-clause-ran : goal.returns-clause-ran
returns-clause-ran g c = λ tells told from course ordered talk on paced.
    let so_far = c.lines.invariant.talks tells told from course ordered talk on paced in
    let step = c.in_ok-step_on.ensures.stepped tells told from course ordered so_far.0 so_far.1 so_far.2 in
    record {
      whole = subst (λ (more : Bool). StepsBy more (g.H.Host.state from) course ordered (view_by g.S.Keyed.facts g.S.Keyed.means c.step_on.new.session (g.H.Host.state c.step_on.new.host)) c.step_on.new.pump c.step_on.new.reader (g.I.Source.rest c.step_on.new.script)) c.if-branch.false step.goes;
      ends = tt;
      holds = step.holds;
    }
