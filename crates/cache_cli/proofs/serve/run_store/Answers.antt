use Rattle.cache_cli.proofs.Serving.{fit_session, stands_session, begins_session}
use Rattle.cache_cli.proofs.serve.run_store.Goals as goal

pub answer_from_opening-result-requires-clause-fit : goal.answer_from_opening-result-requires-clause-fit
answer_from_opening-result-requires-clause-fit g c = fit_session g.S.Keyed.facts c.new-session.result c.args.store c.args.moment c.new-session.ensures.store c.new-session.ensures.moment c.new-session.ensures.whole c.requires.ready

pub answer_from_opening-result-requires-clause-stands : goal.answer_from_opening-result-requires-clause-stands
answer_from_opening-result-requires-clause-stands g c = λ tells. stands_session g.S.Keyed.means c.new-session.result c.args.store c.new-session.ensures.store (g.H.Host.state c.args.host.now) (c.requires.stands tells)

pub returns-clause-finished : goal.returns-clause-finished
returns-clause-finished g c = λ tells told course ordered lines pump begun.
    c.answer_from_opening-result.ensures.finished tells told course ordered lines pump
    (begins_session g.S.Keyed.facts g.S.Keyed.means c.new-session.result c.args.store c.args.moment ordered c.new-session.ensures.store c.new-session.ensures.moment course (g.H.Host.state c.args.host.now) begun)
