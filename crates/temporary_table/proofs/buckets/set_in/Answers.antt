use Rattle.std.specs.Prelude.{Some}
use Rattle.temporary_table.proofs.Refilling.{refills}
use Rattle.temporary_table.proofs.buckets.set_in.Goals as goal

pub returns-in-Some : goal.returns-in-Some
returns-in-Some c =
    let through = c.get_mut.follows.holds (Some c.args.place) in
    record { set = refills c.args.bucket.now (c.get_mut.follows.lender (Some c.args.place)) c.args.key.now (Some (Some c.args.place)) (through.3 c.requires.seat) through.4 }
