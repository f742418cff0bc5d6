use Rattle.std.specs.Prelude.{Some, None}
use Rattle.temporary_table.proofs.Refilling.{fills}
use Rattle.temporary_table.proofs.buckets.bucket_of.Goals as goal

pub returns-in-Ok-clause-one : goal.returns-in-Ok-clause-one
returns-in-Ok-clause-one c = fills c.new-bucket.result c.put_seat.new.bucket c.args.key (Some None) c.new-bucket.ensures.empty c.in-Ok.ensures.put c.in-Ok.ensures.ordered
