use Rattle.std.proofs.Common.{◌∙◌, Err, sym, ap, subst, []}
use Rattle.std.specs.Prelude.{◌||◌}
use Rattle.cache_model.specs.declared.faults.StoreFault.{StoreFault}
use Rattle.cache_session.specs.Turns.{store_of, is_broken, Turns}
use Rattle.cache_cli.specs.Talk.{plain_of}
use Rattle.cache_cli.specs.Run.{View, view_by, Does}
use Rattle.cache_cli.proofs.Ending.{no_damage}
use Rattle.cache_cli.proofs.Doing.{second_false, refusal_is, does_ok, does_refused, does_err, does_fault}
use Rattle.cache_cli.proofs.run.do_command.Goals as goal

pub returns-in-Ok-clause-does : goal.returns-in-Ok-clause-does
returns-in-Ok-clause-does g c = λ tells from course ordered left talk talking hand.
    let start = g.H.Host.state from in
    let a = g.H.Host.state c.args.host.now in
    let b = g.H.Host.state c.turn.new.host in
    let session = c.args.session.now in
    let after = c.turn.new.self in
    let old = view_by g.S.Keyed.facts g.S.Keyed.means session a in
    let new = view_by g.S.Keyed.facts g.S.Keyed.means after b in
    let spoilt = is_broken after || (g.S.Keyed.facts (store_of after)).spoilt in
    let ensures = c.in-Ok.ensures in
    let turn = ensures.turns tells [] (plain_of talk) talking.0.moment talking.0.standing.shows in
    let unspoilt = ensures.goes.unspoilt in
    does_ok start course ordered left talk old new c.args.command spoilt talking hand ensures.goes.same c.in-Ok.reply c.requires.built (g.met.H.Host.reads_now c.args.host.now tells) unspoilt
    (g.met.S.ReadStore.holds_now (store_of after) c.turn.new.host tells (second_false (is_broken after) (g.S.Keyed.facts (store_of after)).spoilt unspoilt) (ensures.stands tells unspoilt))
    ensures.goes.goes turn

pub returns-then-is_refusal-clause-does : goal.returns-then-is_refusal-clause-does
returns-then-is_refusal-clause-does g c = λ tells from course ordered left talk talking hand.
    let start = g.H.Host.state from in
    let a = g.H.Host.state c.args.host.now in
    let b = g.H.Host.state c.turn.new.host in
    let session = c.args.session.now in
    let after = c.turn.new.self in
    let old = view_by g.S.Keyed.facts g.S.Keyed.means session a in
    let new = view_by g.S.Keyed.facts g.S.Keyed.means after b in
    let spoilt = is_broken after || (g.S.Keyed.facts (store_of after)).spoilt in
    let ensures = c.in-Err.ensures in
    let turn = ensures.turns tells [] (plain_of talk) talking.0.moment talking.0.standing.shows in
    let is = refusal_is c.may_be_refused-refusable.result spoilt c.in-Err.fault (sym c.if-is_refusal.true ∙ c.is_refusal.ensures) in
    let turn_memory = subst (λ (x : StoreFault). Turns [] (plain_of talk) c.args.command old.facts new.facts spoilt old.store new.store a b (Err x)) is.2 turn in
    does_refused start course ordered left talk old new c.args.command spoilt talking hand ensures.goes.same is.1 (sym c.may_be_refused-refusable.ensures ∙ is.0) ensures.goes.stays turn_memory

pub returns-else-is_refusal-clause-does : goal.returns-else-is_refusal-clause-does
returns-else-is_refusal-clause-does g c = λ tells from course ordered left talk talking hand.
    let start = g.H.Host.state from in
    let a = g.H.Host.state c.args.host.now in
    let session = c.args.session.now in
    let after = c.turn.new.self in
    let old = view_by g.S.Keyed.facts g.S.Keyed.means session a in
    let at : g.row.H.Denot → View = λ host. view_by g.S.Keyed.facts g.S.Keyed.means after (g.H.Host.state host) in
    let new = at c.turn.new.host in
    let spoilt = is_broken after || (g.S.Keyed.facts (store_of after)).spoilt in
    let ensures = c.in-Err.ensures in
    let x = c.in-Err.fault in
    let turn = ensures.turns tells [] (plain_of talk) talking.0.moment talking.0.standing.shows in
    let calm = no_damage x (λ damage is. turn.did.undamaged talking.0.sound damage (ap (λ (y : StoreFault). Err y) is)) in
    let ended = c.end_by.ensures.plain calm in
    subst (λ (host : g.row.H.Denot). Does start course ordered left talk c.args.command talking.0.turned old (at host) (Err c.end_by.result)) (sym ended.1)
    (does_err start course ordered left talk old new c.args.command spoilt talking hand ensures.goes.same x c.end_by.result
    (does_fault start course ordered left talk old new c.args.command spoilt talking hand ensures.goes.same x c.end_by.result (is_broken after) (g.met.H.Host.reads_now c.args.host.now tells) ended.0 calm turn ensures.goes) turn)
