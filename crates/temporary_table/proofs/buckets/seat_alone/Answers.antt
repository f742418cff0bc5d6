use Rattle.std.proofs.Common.{ap}
use Rattle.std.specs.Prelude.{None, Option}
use Rattle.temporary_table.specs.Buckets.{Bucket, seat_in}
use Rattle.temporary_table.proofs.Moving.{stays}
use Rattle.temporary_table.proofs.buckets.seat_alone.Goals as goal

pub returns-in-Err-clause-same : goal.returns-in-Err-clause-same
returns-in-Err-clause-same c = stays c.args.buckets.now c.args.hash c.args.key None c.requires.ordered (ap (λ (b : Option Bucket). seat_in b c.args.key) c.requires.bucket)
