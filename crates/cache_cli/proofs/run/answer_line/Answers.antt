use Rattle.std.proofs.Common.{◌∙◌, sym, subst, refl, [], true}
use Rattle.cache_model.specs.Lines.{LineMeaning, content_meaning}
use Rattle.cache_model.specs.Replies.{refused}
use Rattle.cache_model.specs.Transcript.{Answers}
use Rattle.cache_script.specs.Refusals.{refusal_of}
use Rattle.cache_cli.specs.Talk.{plain_of, asked_in}
use Rattle.cache_cli.specs.Run.{view_by}
use Rattle.cache_cli.proofs.Answering.{with_answer}
use Rattle.cache_script.proofs.Known.{asked_of}
use Rattle.cache_cli.proofs.Built.{line_built}
use Rattle.cache_cli.proofs.Later.{later_same}
use Rattle.cache_cli.proofs.Lines.{refusal_in_hand, answered_ok, answered_err}
use Rattle.cache_cli.proofs.run.answer_line.Goals as goal

pub answer-requires-clause-built : goal.answer-requires-clause-built
answer-requires-clause-built g c = line_built c.in-Ok.command c.in-Ok.ensures.known

pub returns-in-Ok-clause-answered : goal.returns-in-Ok-clause-answered
returns-in-Ok-clause-answered g c = λ tells from course ordered raw left talk talking means.
    c.answer.ensures.answered tells from course ordered raw left talk talking (means ∙ asked_of (content_meaning c.args.line.now) c.in-Ok.command c.in-Ok.ensures.read)

pub returns-in-Ok-say_refusal-clause-answered : goal.returns-in-Ok-say_refusal-clause-answered
returns-in-Ok-say_refusal-clause-answered g c = λ tells from course ordered raw left talk talking means.
    let start = g.H.Host.state from in
    let session = c.args.session.now in
    let old = view_by g.S.Keyed.facts g.S.Keyed.means session (g.H.Host.state c.args.host.now) in
    let now = view_by g.S.Keyed.facts g.S.Keyed.means session (g.H.Host.state c.say_refusal.new.host) in
    let refusal = refusal_of c.in-Err.fault in
    let answers = subst (λ (m : LineMeaning). Answers [] (plain_of talk) m (refused refusal)) (sym means) (c.in-Err.ensures.refused [] (plain_of talk)) in
    let hand = refusal_in_hand start course ordered left talk raw refusal old talking answers in
    answered_ok start course ordered left talk raw (refused refusal) old old now talking refl (later_same old.host) true refl
    (c.in-Ok-say_refusal.ensures.told tells from course ordered left (with_answer talk raw (refused refusal)) (asked_in course talk) hand)

pub returns-in-Err-say_refusal-clause-answered : goal.returns-in-Err-say_refusal-clause-answered
returns-in-Err-say_refusal-clause-answered g c = λ tells from course ordered raw left talk talking means.
    let start = g.H.Host.state from in
    let session = c.args.session.now in
    let old = view_by g.S.Keyed.facts g.S.Keyed.means session (g.H.Host.state c.args.host.now) in
    let now = view_by g.S.Keyed.facts g.S.Keyed.means session (g.H.Host.state c.say_refusal.new.host) in
    let refusal = refusal_of c.in-Err.fault in
    let answers = subst (λ (m : LineMeaning). Answers [] (plain_of talk) m (refused refusal)) (sym means) (c.in-Err.ensures.refused [] (plain_of talk)) in
    let hand = refusal_in_hand start course ordered left talk raw refusal old talking answers in
    answered_err start course ordered left talk raw (refused refusal) old old now talking refl (later_same old.host) c.in-Err-say_refusal.status
    (c.in-Err-say_refusal.ensures.told tells from course ordered left (with_answer talk raw (refused refusal)) (asked_in course talk) hand)
