use Rattle.std.proofs.Common.{refl}
use Rattle.cache_model.specs.declared.entries.Change.TheVariants as change
use Rattle.cache_session.proofs.Conditioning.{turns_where, where_there}
use Rattle.cache_model.specs.declared.commands.Command.TheVariants.{Remove}
use Rattle.cache_session.specs.declared.conditions.Condition.TheVariants.{Visible}
use Rattle.cache_session.proofs.Turning.{calm_remove}
use Rattle.cache_session.proofs.conditions.remove.Goals as goal

pub returns-clause-turns : goal.returns-clause-turns
returns-clause-turns g c told publish plain at shows =
    let a = g.H.Host.state c.args.host.now in
    let b = g.H.Host.state c.write_where.new.host in
    let f = g.S.Keyed.facts c.args.store.now in
    let h = g.S.Keyed.facts c.write_where.new.store in
    let s = g.S.Keyed.means c.args.store.now a in
    let t = g.S.Keyed.means c.write_where.new.store b in
    turns_where publish plain (Remove c.args.key) Visible (change.Remove c.args.key) f h h.spoilt s t a b c.args.moment c.write_where.result (calm_remove c.args.key) refl
    (where_there publish plain c.args.key) at shows (c.write_where.ensures.wrote told)
