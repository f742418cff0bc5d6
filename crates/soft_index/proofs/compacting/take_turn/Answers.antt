use Rattle.soft_index.proofs.Turned.{stepped_fault, stepped_turn}
use Rattle.soft_index.proofs.compacting.take_turn.Goals as goal

pub returns-in-Ok-clause-told : goal.returns-in-Ok-clause-told
returns-in-Ok-clause-told g c told =
    stepped_turn c.args.store.now c.turn.new.store (g.H.Host.state c.args.host.now) (g.H.Host.state c.turn.new.host) c.args.moment c.in-Ok.turned (c.in-Ok.ensures.told told)

pub returns-in-Err-clause-told : goal.returns-in-Err-clause-told
returns-in-Err-clause-told g c told =
    stepped_fault c.args.store.now c.turn.new.store (g.H.Host.state c.args.host.now) (g.H.Host.state c.turn.new.host) c.args.moment c.in-Err.fault (c.in-Err.ensures.told told)
