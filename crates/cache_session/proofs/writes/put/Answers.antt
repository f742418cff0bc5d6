use Rattle.std.proofs.Common.{◌≡◌, refl, sym, ◌∙◌, ap, subst, [], ◌∷◌, ℕ}
use Rattle.std.specs.Prelude.{Ok, Err}
use Rattle.cache_model.specs.declared.entries.Change.{Change}
use Rattle.cache_model.specs.declared.commands.Command.TheVariants.{Put}
use Rattle.cache_model.specs.declared.replies.Reply.TheVariants.{Done}
use Rattle.cache_model.specs.Plain.{effect_of, until_of}
use Rattle.cache_session.specs.Changing.{IsOrder, put_of}
use Rattle.cache_session.proofs.Keeping.{did_ok, did_err}
use Rattle.cache_session.proofs.Shown.{order_put}
use Rattle.cache_session.proofs.Turning.{turns_by, calm_put}
use Rattle.cache_session.proofs.writes.put.Goals as goal

pub returns-in-Ok-clause-turns : goal.returns-in-Ok-clause-turns
returns-in-Ok-clause-turns g c told publish plain at shows =
    let a = g.H.Host.state c.args.host.now in
    let b = g.H.Host.state c.apply.new.host in
    let f = g.S.Keyed.facts c.args.store.now in
    let h = g.S.Keyed.facts c.apply.new.store in
    let s = g.S.Keyed.means c.args.store.now a in
    let t = g.S.Keyed.means c.apply.new.store b in
    let command = Put c.args.key c.args.value c.args.lifespan in
    let change = c.put_of-change.result in
    let is : change ≡ put_of c.args.key c.args.value (until_of plain.moment c.args.lifespan) = c.put_of-change.ensures.change ∙ ap (λ (m : ℕ). put_of c.args.key c.args.value (until_of m c.args.lifespan)) (sym at) in
    turns_by publish plain command f h h.spoilt s t a b c.args.moment (change ∷ []) (Ok Done) (calm_put c.args.key c.args.value c.args.lifespan) at shows
    (subst (λ (x : Change). IsOrder (effect_of plain command) (x ∷ [])) (sym is) (order_put c.args.key (record { value = c.args.value; until = until_of plain.moment c.args.lifespan })))
    (did_ok f h h.spoilt s t a b c.args.moment (change ∷ []) tt Done (c.in-Ok.ensures.did told)) refl

pub returns-clause-turns : goal.returns-clause-turns
returns-clause-turns g c told publish plain at shows =
    let a = g.H.Host.state c.args.host.now in
    let b = g.H.Host.state c.apply.new.host in
    let f = g.S.Keyed.facts c.args.store.now in
    let h = g.S.Keyed.facts c.apply.new.store in
    let s = g.S.Keyed.means c.args.store.now a in
    let t = g.S.Keyed.means c.apply.new.store b in
    let command = Put c.args.key c.args.value c.args.lifespan in
    let change = c.put_of-change.result in
    let is : change ≡ put_of c.args.key c.args.value (until_of plain.moment c.args.lifespan) = c.put_of-change.ensures.change ∙ ap (λ (m : ℕ). put_of c.args.key c.args.value (until_of m c.args.lifespan)) (sym at) in
    turns_by publish plain command f h h.spoilt s t a b c.args.moment (change ∷ []) (Err c.in-Err.fault) (calm_put c.args.key c.args.value c.args.lifespan) at shows
    (subst (λ (x : Change). IsOrder (effect_of plain command) (x ∷ [])) (sym is) (order_put c.args.key (record { value = c.args.value; until = until_of plain.moment c.args.lifespan })))
    (did_err f h h.spoilt s t a b c.args.moment (change ∷ []) c.in-Err.fault (c.in-Err.ensures.did told)) tt
