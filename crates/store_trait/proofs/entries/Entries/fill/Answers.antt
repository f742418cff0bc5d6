use Rattle.std.proofs.Common.{◌≡◌}
use Rattle.store_trait.specs.Held.{IsSeatOf}
use Rattle.store_trait.proofs.Rooms.{seat_stands, was_done, room_at, fills}
use Rattle.store_trait.specs.Held.{Held}
use Rattle.std.proofs.Common.{subst, sym}
use Rattle.store_trait.proofs.entries.Entries.fill.Goals as goal

-- src/entries.rt:169:5
pub invariant_of-self : goal.invariant_of-self
invariant_of-self c =
    let is = subst (λ (h : Held). IsSeatOf h c.args.seat) (sym c.self.view_is) c.requires.seat in
    let stands = seat_stands c.self.inside c.args.seat c.self.invariant is in
    let updates = was_done (room_at c.args.seat.place c.self.inside.rooms.entries) (c.put_room.new.rooms.entries ≡ c.self.inside.rooms.entries) c.put_room.result stands.1 c.put_room.ensures.put c.put_room.ensures.same in
    (fills c.self.inside c.put_room.new.rooms c.args.seat.place c.args.held c.self.invariant stands.0 stands.1 updates c.put_room.ensures.ordered).0

-- src/entries.rt:169:5
pub returns-clause-held : goal.returns-clause-held
returns-clause-held c =
    let is = subst (λ (h : Held). IsSeatOf h c.args.seat) (sym c.self.view_is) c.requires.seat in
    let stands = seat_stands c.self.inside c.args.seat c.self.invariant is in
    let updates = was_done (room_at c.args.seat.place c.self.inside.rooms.entries) (c.put_room.new.rooms.entries ≡ c.self.inside.rooms.entries) c.put_room.result stands.1 c.put_room.ensures.put c.put_room.ensures.same in
    rw (← c.self.view_is) (fills c.self.inside c.put_room.new.rooms c.args.seat.place c.args.held c.self.invariant stands.0 stands.1 updates c.put_room.ensures.ordered).1.held

-- src/entries.rt:169:5
pub returns-clause-seats : goal.returns-clause-seats
returns-clause-seats c =
    let is = subst (λ (h : Held). IsSeatOf h c.args.seat) (sym c.self.view_is) c.requires.seat in
    let stands = seat_stands c.self.inside c.args.seat c.self.invariant is in
    let updates = was_done (room_at c.args.seat.place c.self.inside.rooms.entries) (c.put_room.new.rooms.entries ≡ c.self.inside.rooms.entries) c.put_room.result stands.1 c.put_room.ensures.put c.put_room.ensures.same in
    rw (← c.self.view_is) (fills c.self.inside c.put_room.new.rooms c.args.seat.place c.args.held c.self.invariant stands.0 stands.1 updates c.put_room.ensures.ordered).1.seats
