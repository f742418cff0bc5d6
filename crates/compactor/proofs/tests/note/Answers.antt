use Rattle.compactor.proofs.Noting.{usable_seated}
use Rattle.compactor.proofs.tests.note.Goals as goal

pub returns : goal.returns
returns c =
    let seated = usable_seated c.args.parts.now c.seat.new.self c.in_ok-copy.field-0 c.in_ok-seat.ensures.seats c.requires.usable in
    let unseated = usable_seated c.seat.new.self c.unseat.new.self c.args.key.now c.unseat.ensures.seats seated in
    let again = usable_seated c.unseat.new.self c.seat-2.new.self c.in_ok-copy-2.field-0 c.in_ok-seat-2.ensures.seats unseated in
    record { usable = c.note.ensures.notes.usable again c.place_in.ensures }
