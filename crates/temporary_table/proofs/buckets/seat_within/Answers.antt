use Rattle.std.proofs.Common.{sym}
use Rattle.temporary_table.proofs.buckets.seat_within.Goals as goal

pub seat_beside-requires : goal.seat_beside-requires
seat_beside-requires c = record { ordered = c.requires.ordered.keys c.args.hash c.in-Some.bucket.now (sym c.in-Some.ensures.value) }
