use Rattle.append_log.specs.Standing.{nothing_held}
use Rattle.append_log.proofs.Holding.{holds_new}
use Rattle.append_log.proofs.tests.started.Goals as goal

pub returns-clause-stands : goal.returns-clause-stands
returns-clause-stands g c told =
    let starts = c.requires.starts told in (
      nothing_held,
      holds_new 0 c.args.next_file c.args.next_seq c.args.file_size c.in_ok-start.field-0.files (g.H.Host.state c.args._host.now) c.in_ok-start.ensures.new (λ n above. starts.reads n) (λ n above. starts.images n),
    )
