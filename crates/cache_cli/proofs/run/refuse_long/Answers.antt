use Rattle.std.proofs.Common.{sym, subst, refl, []}
use Rattle.cache_model.specs.Lines.{LineMeaning}
use Rattle.cache_model.specs.Replies.{refused, long}
use Rattle.cache_model.specs.Transcript.{Answers}
use Rattle.cache_cli.specs.Talk.{plain_of, asked_in}
use Rattle.cache_cli.specs.Run.{view_by}
use Rattle.cache_cli.proofs.Answering.{with_answer}
use Rattle.cache_cli.proofs.Lines.{refusal_in_hand, long_answered}
use Rattle.cache_cli.proofs.run.refuse_long.Goals as goal

pub returns-clause-answered : goal.returns-clause-answered
returns-clause-answered g c = λ tells from course ordered raw left talk talking is_long.
    let start = g.H.Host.state from in
    let old = view_by g.S.Keyed.facts g.S.Keyed.means c.args.session.now (g.H.Host.state c.args.host.now) in
    let now = view_by g.S.Keyed.facts g.S.Keyed.means c.args.session.now (g.H.Host.state c.say_answer.new.host) in
    let hand = refusal_in_hand start course ordered left talk raw long old talking (subst (λ (m : LineMeaning). Answers [] (plain_of talk) m (refused long)) (sym is_long) refl) in
    long_answered start course ordered left talk raw long old now c.say_answer.result talking (c.say_answer.ensures.told tells from course ordered left (with_answer talk raw (refused long)) (asked_in course talk) hand)
