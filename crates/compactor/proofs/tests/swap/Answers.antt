use Rattle.compactor.proofs.Noting.{usable_seated}
use Rattle.compactor.proofs.tests.swap.Goals as goal

pub returns : goal.returns
returns c =
    let seated = usable_seated c.args.parts.now c.seat.new.self c.in_ok-copy.field-0 c.in_ok-seat.ensures.seats c.requires.usable in
    record { usable = c.swap.ensures.notes.usable seated c.place_in.ensures }
