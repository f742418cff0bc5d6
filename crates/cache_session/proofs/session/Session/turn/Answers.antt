use Rattle.std.proofs.Common.{sym, ◌∙◌}
use Rattle.cache_session.specs.Turns.{store_of, moment_of, command_of}
use Rattle.cache_session.proofs.Idling.{at_turns, evict_turns, halt_turns}
use Rattle.cache_session.proofs.session.Session.turn.Goals as goal

pub returns-in-At-clause-turns : goal.returns-in-At-clause-turns
returns-in-At-clause-turns g c told publish plain at shows =
    let session = c.args.self.now in
    let a = g.H.Host.state c.args.host.now in
    let f = g.S.Keyed.facts (store_of session) in
    at_turns publish plain (command_of c.args.event) f _ (g.S.Keyed.means (store_of session) a) a (moment_of session) at shows (c.requires.stands told)
    (g.met.S.ReadStore.holds_now (store_of session) c.args.host.now told c.requires.fit.ready.unspoilt (c.requires.stands told)) c.in-At.wanted c.moment_reply.result (sym c.command_of.ensures ∙ c.in-At.is) c.moment_reply.ensures

pub returns-in-Evict-clause-turns : goal.returns-in-Evict-clause-turns
returns-in-Evict-clause-turns g c told publish plain at shows =
    let session = c.args.self.now in
    let a = g.H.Host.state c.args.host.now in
    let f = g.S.Keyed.facts (store_of session) in
    evict_turns publish plain (command_of c.args.event) f _ (g.S.Keyed.means (store_of session) a) a (moment_of session) at shows (c.requires.stands told)
    (g.met.S.ReadStore.holds_now (store_of session) c.args.host.now told c.requires.fit.ready.unspoilt (c.requires.stands told)) c.in-Evict.field-0 (sym c.command_of.ensures ∙ c.in-Evict.is)

pub returns-in-Halt-clause-turns : goal.returns-in-Halt-clause-turns
returns-in-Halt-clause-turns g c told publish plain at shows =
    let session = c.args.self.now in
    let a = g.H.Host.state c.args.host.now in
    let f = g.S.Keyed.facts (store_of session) in
    halt_turns publish plain (command_of c.args.event) f _ (g.S.Keyed.means (store_of session) a) a (moment_of session) at shows (c.requires.stands told)
    (g.met.S.ReadStore.holds_now (store_of session) c.args.host.now told c.requires.fit.ready.unspoilt (c.requires.stands told)) (sym c.command_of.ensures ∙ c.in-Halt.is)
