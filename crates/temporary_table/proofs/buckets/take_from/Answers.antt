use Rattle.std.specs.Prelude.{None}
use Rattle.temporary_table.proofs.Refilling.{refills}
use Rattle.temporary_table.proofs.buckets.take_from.Goals as goal

pub returns : goal.returns
returns c = record { taken = refills c.args.bucket.now c.remove.new.self c.args.key.now None c.remove.ensures.updates c.remove.ensures.ordered }
