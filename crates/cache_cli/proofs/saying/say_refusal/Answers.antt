use Rattle.std.proofs.Common.{◌∙◌, sym, subst, List, ℕ}
use Rattle.cache_cli.specs.Run.{view_by, IsInHand}
use Rattle.cache_cli.proofs.saying.say_refusal.Goals as goal

pub returns-in-Ok-clause-told : goal.returns-in-Ok-clause-told
returns-in-Ok-clause-told g c = λ tells from course ordered left talk taken hand.
    let now = view_by g.S.Keyed.facts g.S.Keyed.means c.args.session.now (g.H.Host.state c.args.host.now) in
    c.say_answer.ensures.told tells from course ordered left talk taken
    (subst (λ (bytes : List ℕ). IsInHand (g.H.Host.state from) course ordered left talk taken bytes now) (sym (c.deref.ensures.value ∙ c.in-Ok.ensures)) hand)
