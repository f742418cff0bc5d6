use Rattle.std.proofs.Common.{ap, subst, refl, ◌∷◌, Option, true}
use Rattle.cache_model.specs.declared.replies.Reply.{Reply}
use Rattle.cache_model.specs.Replies.{replies, refused, memory}
use Rattle.cache_cli.specs.Talk.{asked_by, asked_in}
use Rattle.cache_cli.specs.Run.{view_by, DoesBy}
use Rattle.cache_cli.proofs.Answering.{with_answer}
use Rattle.cache_cli.proofs.Lines.{reply_in_hand, memory_in_hand, answered_ok, answered_err}
use Rattle.cache_cli.proofs.run.answer.Goals as goal

pub returns-in-Ok-clause-answered : goal.returns-in-Ok-clause-answered
returns-in-Ok-clause-answered g c = λ tells from course ordered line left talk talking asked.
    let start = g.H.Host.state from in
    let old = view_by g.S.Keyed.facts g.S.Keyed.means c.args.session.now (g.H.Host.state c.args.host.now) in
    let mid = view_by g.S.Keyed.facts g.S.Keyed.means c.do_command.new.session (g.H.Host.state c.do_command.new.host) in
    let now = view_by g.S.Keyed.facts g.S.Keyed.means c.do_command.new.session (g.H.Host.state c.say_reply.new.host) in
    let reply = c.in-Ok-Some.reply in
    let does = c.in-Ok-Some.ensures.does tells from course ordered (line ∷ left) talk talking (ap asked_by asked) in
    let did = subst (λ (o : Option Reply). DoesBy o start course ordered (line ∷ left) talk c.args.command talking.0.turned old mid) c.in-Ok-Some.field-0-is does.goes in
    let hand = reply_in_hand start course ordered left talk line c.args.command reply old mid talking asked does.silent does.later did in
    answered_ok start course ordered left talk line (replies reply) old mid now talking does.silent does.later c.goes_on.result c.goes_on.ensures
    (c.in-Ok.ensures.told tells from course ordered left (with_answer talk line (replies reply)) (asked_in course talk) hand)

pub returns-in-Ok-Some-clause-answered : goal.returns-in-Ok-Some-clause-answered
returns-in-Ok-Some-clause-answered g c = λ tells from course ordered line left talk talking asked.
    let start = g.H.Host.state from in
    let old = view_by g.S.Keyed.facts g.S.Keyed.means c.args.session.now (g.H.Host.state c.args.host.now) in
    let mid = view_by g.S.Keyed.facts g.S.Keyed.means c.do_command.new.session (g.H.Host.state c.do_command.new.host) in
    let now = view_by g.S.Keyed.facts g.S.Keyed.means c.do_command.new.session (g.H.Host.state c.say_reply.new.host) in
    let reply = c.in-Ok-Some.reply in
    let does = c.in-Ok-Some.ensures.does tells from course ordered (line ∷ left) talk talking (ap asked_by asked) in
    let did = subst (λ (o : Option Reply). DoesBy o start course ordered (line ∷ left) talk c.args.command talking.0.turned old mid) c.in-Ok-Some.field-0-is does.goes in
    let hand = reply_in_hand start course ordered left talk line c.args.command reply old mid talking asked does.silent does.later did in
    answered_err start course ordered left talk line (replies reply) old mid now talking does.silent does.later c.in-Err-say_reply.status
    (c.in-Err-say_reply.ensures.told tells from course ordered left (with_answer talk line (replies reply)) (asked_in course talk) hand)

pub returns-in-Ok-say_refusal-clause-answered : goal.returns-in-Ok-say_refusal-clause-answered
returns-in-Ok-say_refusal-clause-answered g c = λ tells from course ordered line left talk talking asked.
    let start = g.H.Host.state from in
    let old = view_by g.S.Keyed.facts g.S.Keyed.means c.args.session.now (g.H.Host.state c.args.host.now) in
    let mid = view_by g.S.Keyed.facts g.S.Keyed.means c.do_command.new.session (g.H.Host.state c.do_command.new.host) in
    let now = view_by g.S.Keyed.facts g.S.Keyed.means c.do_command.new.session (g.H.Host.state c.say_refusal.new.host) in
    let does = c.in-Ok-None.ensures.does tells from course ordered (line ∷ left) talk talking (ap asked_by asked) in
    let did = subst (λ (o : Option Reply). DoesBy o start course ordered (line ∷ left) talk c.args.command talking.0.turned old mid) c.in-Ok-None.field-0-is does.goes in
    let hand = memory_in_hand start course ordered left talk line c.args.command old mid talking asked does.silent does.later did in
    answered_ok start course ordered left talk line (refused memory) old mid now talking does.silent does.later true refl
    (c.in-Ok-say_refusal.ensures.told tells from course ordered left (with_answer talk line (refused memory)) (asked_in course talk) hand)

pub returns-in-Ok-None-clause-answered : goal.returns-in-Ok-None-clause-answered
returns-in-Ok-None-clause-answered g c = λ tells from course ordered line left talk talking asked.
    let start = g.H.Host.state from in
    let old = view_by g.S.Keyed.facts g.S.Keyed.means c.args.session.now (g.H.Host.state c.args.host.now) in
    let mid = view_by g.S.Keyed.facts g.S.Keyed.means c.do_command.new.session (g.H.Host.state c.do_command.new.host) in
    let now = view_by g.S.Keyed.facts g.S.Keyed.means c.do_command.new.session (g.H.Host.state c.say_refusal.new.host) in
    let does = c.in-Ok-None.ensures.does tells from course ordered (line ∷ left) talk talking (ap asked_by asked) in
    let did = subst (λ (o : Option Reply). DoesBy o start course ordered (line ∷ left) talk c.args.command talking.0.turned old mid) c.in-Ok-None.field-0-is does.goes in
    let hand = memory_in_hand start course ordered left talk line c.args.command old mid talking asked does.silent does.later did in
    answered_err start course ordered left talk line (refused memory) old mid now talking does.silent does.later c.in-Err-say_refusal.status
    (c.in-Err-say_refusal.ensures.told tells from course ordered left (with_answer talk line (refused memory)) (asked_in course talk) hand)

pub returns-clause-answered : goal.returns-clause-answered
returns-clause-answered g c = λ tells from course ordered line left talk talking asked.
    let does = c.in-Err.ensures.does tells from course ordered (line ∷ left) talk talking (ap asked_by asked) in
    record { goes = tt; ends = does.ends; holds = does.holds }
