use Rattle.std.proofs.Common.{◌≡◌, ◌∙◌, ℕ, suc, ◌+◌, ◌≤◌, ap, subst, arith}
use Rattle.cache_cli.specs.Pump.{step_behind, background_step}
use Rattle.cache_cli.specs.Talk.{asked_in}
use Rattle.cache_cli.specs.Run.{view_by, IsPumping}
use Rattle.cache_cli.proofs.Background.{pumped_out}
use Rattle.cache_cli.proofs.pump.take_steps.Goals as goal

pub returns-in_err-take_step-clause-pumped : goal.returns-in_err-take_step-clause-pumped
returns-in_err-take_step-clause-pumped g c = λ tells from course ordered left talk taken pumping paced due.
    let by = taken + c.steps.counter in
    let so_far = c.steps.invariant.pumping tells from course ordered left talk taken pumping paced.next (omega (arith, due, paced.count)) in
    let room : suc by ≤ asked_in course talk = omega (arith, due, paced.count) in
    let step = c.in_err-take_step.ensures.pumped tells from course ordered left talk by so_far (c.steps.invariant.next taken paced.next) room in
    pumped_out (g.H.Host.state from) course ordered left talk (asked_in course talk) (view_by g.S.Keyed.facts g.S.Keyed.means c.take_step.new.session (g.H.Host.state c.take_step.new.host)) c.in_err-take_step.field-0.0 c.from_residual.result c.from_residual.ensures
    step.ends step.holds

pub steps-preserved : goal.steps-preserved
steps-preserved g c = record {
  fit = c.in_ok-take_step.ensures.fit;
  stands = λ tells. c.in_ok-take_step.ensures.stands tells;
  unfaulted = (c.in_ok-take_step.ensures.cause.0 ∙ c.steps.invariant.unfaulted.0, c.in_ok-take_step.ensures.cause.1 ∙ c.steps.invariant.unfaulted.1);
  count = c.in_ok-take_step.ensures.count ∙ c.steps.invariant.count;
  next = λ taken at.
      let more : suc (taken + c.steps.counter) ≡ taken + (c.steps.counter + 1) = omega arith in
      c.in_ok-take_step.ensures.next ∙ ap step_behind (c.steps.invariant.next taken at) ∙ ap background_step more;
  pumping = λ tells from course ordered left talk taken pumping next due.
      let by = taken + c.steps.counter in
      let so_far = c.steps.invariant.pumping tells from course ordered left talk taken pumping next due in
      let room : suc by ≤ asked_in course talk = omega (arith, due) in
      let more : suc by ≡ taken + (c.steps.counter + 1) = omega arith in
      subst (λ (n : ℕ). IsPumping (g.H.Host.state from) course ordered left talk n (view_by g.S.Keyed.facts g.S.Keyed.means c.take_step.new.session (g.H.Host.state c.take_step.new.host))) more
      (c.in_ok-take_step.ensures.pumped tells from course ordered left talk by so_far (c.steps.invariant.next taken next) room).goes;
}

pub returns-clause-pumped : goal.returns-clause-pumped
returns-clause-pumped g c = λ tells from course ordered left talk taken pumping paced due.
    let all : taken + c.steps.counter ≡ asked_in course talk = omega (arith, due, paced.count) in
    let done = subst (λ (n : ℕ). IsPumping (g.H.Host.state from) course ordered left talk n (view_by g.S.Keyed.facts g.S.Keyed.means c.steps.session (g.H.Host.state c.steps.host))) all
    (c.steps.invariant.pumping tells from course ordered left talk taken pumping paced.next (omega (arith, due, paced.count))) in
    record { goes = done; ends = tt; holds = done.0.holds }
