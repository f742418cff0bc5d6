use Rattle.std.proofs.Common.{refl, []}
use Rattle.std.specs.Prelude.{Err}
use Rattle.cache_model.specs.declared.commands.Command.TheVariants.{Get}
use Rattle.cache_session.proofs.Keeping.{did_err}
use Rattle.cache_session.proofs.Turning.{turns_by, calm_get}
use Rattle.cache_session.proofs.reads.get.Goals as goal

pub returns-in-Err-clause-turns : goal.returns-in-Err-clause-turns
returns-in-Err-clause-turns g c told publish plain at shows =
    let a = g.H.Host.state c.args.host.now in
    let b = g.H.Host.state c.peek.new.host in
    let f = g.S.Keyed.facts c.args.store.now in
    let h = g.S.Keyed.facts c.peek.new.store in
    let s = g.S.Keyed.means c.args.store.now a in
    let t = g.S.Keyed.means c.peek.new.store b in
    turns_by publish plain (Get c.args.key.now) f h h.spoilt s t a b c.args.moment [] (Err c.in-Err.fault) (calm_get c.args.key.now) at shows (λ key. refl)
    (did_err f h h.spoilt s t a b c.args.moment [] c.in-Err.fault (c.in-Err.ensures.did told)) tt
