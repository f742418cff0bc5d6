use Rattle.std.proofs.Common.{refl}
use Rattle.cache_model.specs.declared.entries.Change.TheVariants as change
use Rattle.cache_session.proofs.Conditioning.{turns_where, where_there_with}
use Rattle.cache_model.specs.declared.commands.Command.TheVariants.{RemoveIf}
use Rattle.cache_session.specs.declared.conditions.Condition.TheVariants.{HasValue}
use Rattle.cache_session.proofs.Turning.{calm_remove_if}
use Rattle.cache_session.proofs.conditions.remove_if.Goals as goal

pub returns-clause-turns : goal.returns-clause-turns
returns-clause-turns g c told publish plain at shows =
    let a = g.H.Host.state c.args.host.now in
    let b = g.H.Host.state c.write_where.new.host in
    let f = g.S.Keyed.facts c.args.store.now in
    let h = g.S.Keyed.facts c.write_where.new.store in
    let s = g.S.Keyed.means c.args.store.now a in
    let t = g.S.Keyed.means c.write_where.new.store b in
    turns_where publish plain (RemoveIf c.args.key c.args.old) (HasValue c.args.old) (change.Remove c.args.key) f h h.spoilt s t a b c.args.moment c.write_where.result (calm_remove_if c.args.key c.args.old) refl
    (where_there_with publish plain c.args.key c.args.old) at shows (c.write_where.ensures.wrote told)
