use Rattle.std.proofs.Common.{refl, [], arith}
use Rattle.std.specs.Prelude.{Err}
use Rattle.cache_model.specs.declared.commands.Command.TheVariants.{Sync}
use Rattle.cache_session.proofs.Keeping.{did_err}
use Rattle.cache_session.proofs.Turning.{turns_settled}
use Rattle.cache_session.proofs.writes.sync.Goals as goal

pub returns-in-Err-clause-turns : goal.returns-in-Err-clause-turns
returns-in-Err-clause-turns g c told publish plain at shows =
    let a = g.H.Host.state c.args.host.now in
    let b = g.H.Host.state c.settle.new.host in
    let f = g.S.Keyed.facts c.args.store.now in
    let h = g.S.Keyed.facts c.settle.new.store in
    let s = g.S.Keyed.means c.args.store.now a in
    let t = g.S.Keyed.means c.settle.new.store b in
    turns_settled publish plain Sync f h h.spoilt s t a b c.args.moment (Err c.in-Err.fault) at shows (omega arith) refl (λ key. refl)
    (did_err f h h.spoilt s t a b c.args.moment [] c.in-Err.fault (c.in-Err.ensures.did told)) tt tt tt
