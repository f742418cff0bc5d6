use Rattle.std.proofs.Common.{◌≡◌, refl, sym, ◌∙◌, ap, subst, ℕ}
use Rattle.cache_model.specs.declared.entries.Change.{Change}
use Rattle.cache_model.specs.Plain.{until_of}
use Rattle.cache_session.specs.Changing.{put_of}
use Rattle.cache_session.proofs.Conditioning.{IsWhere, turns_where, where_visible}
use Rattle.cache_model.specs.declared.commands.Command.TheVariants.{Replace}
use Rattle.cache_session.specs.declared.conditions.Condition.TheVariants.{Visible}
use Rattle.cache_session.proofs.Turning.{calm_replace}
use Rattle.cache_session.proofs.conditions.replace.Goals as goal

pub returns-clause-turns : goal.returns-clause-turns
returns-clause-turns g c told publish plain at shows =
    let a = g.H.Host.state c.args.host.now in
    let b = g.H.Host.state c.write_where.new.host in
    let f = g.S.Keyed.facts c.args.store.now in
    let h = g.S.Keyed.facts c.write_where.new.store in
    let s = g.S.Keyed.means c.args.store.now a in
    let t = g.S.Keyed.means c.write_where.new.store b in
    let is : c.put_of-change.result ≡ put_of c.args.key c.args.value (until_of plain.moment c.args.lifespan) = c.put_of-change.ensures.change ∙ ap (λ (m : ℕ). put_of c.args.key c.args.value (until_of m c.args.lifespan)) (sym at) in
    turns_where publish plain (Replace c.args.key c.args.value c.args.lifespan) Visible c.put_of-change.result f h h.spoilt s t a b c.args.moment c.write_where.result (calm_replace c.args.key c.args.value c.args.lifespan) refl
    (subst (λ (x : Change). IsWhere publish plain (Replace c.args.key c.args.value c.args.lifespan) Visible x) (sym is) (where_visible publish plain c.args.key c.args.value c.args.lifespan)) at shows (c.write_where.ensures.wrote told)
