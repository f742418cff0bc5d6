use Rattle.std.proofs.Common.{sym, subst, refl, [], Option}
use Rattle.cache_model.specs.declared.commands.Command.TheVariants.{Stop}
use Rattle.cache_model.specs.declared.replies.Reply.{Reply}
use Rattle.cache_cli.specs.Talk.{asked_in}
use Rattle.cache_cli.specs.Run.{view_by, DoesBy}
use Rattle.cache_cli.proofs.Answering.{with_end, true_false}
use Rattle.cache_cli.proofs.Lines.{end_in_hand, closed}
use Rattle.cache_cli.proofs.run.answer_end.Goals as goal

pub returns-in-Ok-Some-clause-ended : goal.returns-in-Ok-Some-clause-ended
returns-in-Ok-Some-clause-ended g c = λ tells from course ordered talk talking.
    let start = g.H.Host.state from in
    let old = view_by g.S.Keyed.facts g.S.Keyed.means c.args.session.now (g.H.Host.state c.args.host.now) in
    let mid = view_by g.S.Keyed.facts g.S.Keyed.means c.do_command.new.session (g.H.Host.state c.do_command.new.host) in
    let now = view_by g.S.Keyed.facts g.S.Keyed.means c.do_command.new.session (g.H.Host.state c.say_reply.new.host) in
    let does = c.in-Ok-Some.ensures.does tells from course ordered [] talk talking refl in
    let did = subst (λ (o : Option Reply). DoesBy o start course ordered [] talk Stop talking.0.turned old mid) c.in-Ok-Some.field-0-is does.goes in
    let hand = end_in_hand start course ordered talk c.in-Ok-Some.reply old mid talking does.silent does.later did in
    closed start course ordered talk old mid now c.say_reply.result talking does.silent does.later (c.say_reply.ensures.told tells from course ordered [] (with_end talk) (asked_in course talk) hand)

pub returns-in-Ok-None-clause-ended : goal.returns-in-Ok-None-clause-ended
returns-in-Ok-None-clause-ended g c = λ tells from course ordered talk talking.
    let start = g.H.Host.state from in
    let old = view_by g.S.Keyed.facts g.S.Keyed.means c.args.session.now (g.H.Host.state c.args.host.now) in
    let mid = view_by g.S.Keyed.facts g.S.Keyed.means c.do_command.new.session (g.H.Host.state c.do_command.new.host) in
    let does = c.in-Ok-None.ensures.does tells from course ordered [] talk talking refl in
    let did = subst (λ (o : Option Reply). DoesBy o start course ordered [] talk Stop talking.0.turned old mid) c.in-Ok-None.field-0-is does.goes in
    absurd (true_false (sym did.0))

pub returns-in-Err-clause-ended : goal.returns-in-Err-clause-ended
returns-in-Err-clause-ended g c = λ tells from course ordered talk talking.
    let does = c.in-Err.ensures.does tells from course ordered [] talk talking refl in
    record { over = tt; ends = does.ends; holds = does.holds }
