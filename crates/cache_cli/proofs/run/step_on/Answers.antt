use Rattle.std.proofs.Common.{Bool, subst}
use Rattle.cache_model.specs.Lines.{lines_of}
use Rattle.cache_script.specs.LineReader.{unread}
use Rattle.cache_cli.specs.Talk.{asked_in}
use Rattle.cache_cli.specs.Run.{view_by}
use Rattle.cache_cli.specs.Steps.{AnswersOn}
use Rattle.cache_cli.proofs.Stepping.{stepped_on}
use Rattle.cache_cli.proofs.run.step_on.Goals as goal

pub returns-in-Ok-clause-stepped : goal.returns-in-Ok-clause-stepped
returns-in-Ok-clause-stepped g c = λ tells told from course ordered talk on paced.
    let start = g.H.Host.state from in
    let mid = view_by g.S.Keyed.facts g.S.Keyed.means c.answer_next.new.session (g.H.Host.state c.answer_next.new.host) in
    let new = view_by g.S.Keyed.facts g.S.Keyed.means c.take_steps.new.session (g.H.Host.state c.take_steps.new.host) in
    let reader = c.answer_next.new.reader in
    let rest = g.I.Source.rest c.answer_next.new.script in
    let taken = asked_in course talk in
    let answered = c.in-Ok-true.ensures.answered tells told from course ordered talk on in
    let goes = subst (λ (more : Bool). AnswersOn more start course ordered taken mid reader rest) c.in-Ok-true.field-0-test answered.goes in
    let pumped = c.in-Ok.ensures.pumped tells from course ordered (lines_of (unread reader rest)) goes.0 taken goes.1.pumping paced goes.1.due in
    stepped_on start course ordered goes.0 taken mid new c.take_steps.new.pump reader rest goes.1 pumped (c.in-Ok.ensures.paced course taken paced)

pub returns-in-Err-take_steps-clause-stepped : goal.returns-in-Err-take_steps-clause-stepped
returns-in-Err-take_steps-clause-stepped g c = λ tells told from course ordered talk on paced.
    let start = g.H.Host.state from in
    let mid = view_by g.S.Keyed.facts g.S.Keyed.means c.answer_next.new.session (g.H.Host.state c.answer_next.new.host) in
    let reader = c.answer_next.new.reader in
    let rest = g.I.Source.rest c.answer_next.new.script in
    let taken = asked_in course talk in
    let answered = c.in-Ok-true.ensures.answered tells told from course ordered talk on in
    let goes = subst (λ (more : Bool). AnswersOn more start course ordered taken mid reader rest) c.in-Ok-true.field-0-test answered.goes in
    let pumped = c.in-Err-take_steps.ensures.pumped tells from course ordered (lines_of (unread reader rest)) goes.0 taken goes.1.pumping paced goes.1.due in
    record { goes = tt; ends = pumped.ends; holds = pumped.holds }

pub returns-in-Ok-false-clause-stepped : goal.returns-in-Ok-false-clause-stepped
returns-in-Ok-false-clause-stepped g c = λ tells told from course ordered talk on paced.
    let mid = view_by g.S.Keyed.facts g.S.Keyed.means c.answer_next.new.session (g.H.Host.state c.answer_next.new.host) in
    let answered = c.in-Ok-false.ensures.answered tells told from course ordered talk on in
    record {
      goes = subst (λ (more : Bool). AnswersOn more (g.H.Host.state from) course ordered (asked_in course talk) mid c.answer_next.new.reader (g.I.Source.rest c.answer_next.new.script)) c.in-Ok-false.field-0-test answered.goes;
      ends = tt;
      holds = answered.holds;
    }

pub returns-in-Err-clause-stepped : goal.returns-in-Err-clause-stepped
returns-in-Err-clause-stepped g c = λ tells told from course ordered talk on paced.
    let answered = c.in-Err.ensures.answered tells told from course ordered talk on in
    record { goes = tt; ends = answered.ends; holds = answered.holds }
