use Rattle.cache_disk.proofs.Runs.{Stands-trans}
use Rattle.cache_cli.proofs.serve.serve_from.Goals as goal

pub returns-in-Ok-false-clause-serves : goal.returns-in-Ok-false-clause-serves
returns-in-Ok-false-clause-serves g c = λ tells told from stands.
    c.serve_store.ensures.serves tells told from (Stands-trans (g.H.Host.state from) (g.H.Host.state c.args.host.now) (g.H.Host.state c.is_foreign.new.host) stands (c.is_foreign.ensures.stands tells))
