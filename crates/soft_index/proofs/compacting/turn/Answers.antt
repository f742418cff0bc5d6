use Rattle.std.proofs.Common.{sym}
use Rattle.soft_index.proofs.Turned.{plain_turned, turned_on}
use Rattle.soft_index.proofs.compacting.turn.Goals as goal

pub returns-in-Some-clause-plain : goal.returns-in-Some-clause-plain
returns-in-Some-clause-plain g c = plain_turned c.args.store.now c.go_on.new.store c.args.moment c.go_on.result c.go_on.ensures.goes.0 c.go_on.ensures.goes.1 c.go_on.ensures.plain

pub returns-in-None-clause-plain : goal.returns-in-None-clause-plain
returns-in-None-clause-plain g c = plain_turned c.args.store.now c.first_turn.new.store c.args.moment c.first_turn.result c.first_turn.ensures.goes.0 c.first_turn.ensures.goes.1 c.first_turn.ensures.plain

pub returns-in-Some-clause-told : goal.returns-in-Some-clause-told
returns-in-Some-clause-told g c told =
    let old = c.args.store.now in
    turned_on old c.go_on.new.store (g.H.Host.state c.args.host.now) (g.H.Host.state c.go_on.new.host) c.args.moment c.in-Some.run' c.take.new.self c.go_on.result (sym c.in-Some.ensures.value) c.go_on.ensures.done (c.go_on.ensures.told told)
