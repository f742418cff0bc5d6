use Rattle.store_trait.specs.Held.{IsSeatOf}
use Rattle.store_trait.proofs.Rooms.{seat_stands, unseats}
use Rattle.store_trait.specs.Held.{Held}
use Rattle.std.proofs.Common.{subst, sym}
use Rattle.store_trait.proofs.entries.Entries.unseat.Goals as goal

-- src/entries.rt:180:5
pub invariant_of-self : goal.invariant_of-self
invariant_of-self c =
    let is = subst (λ (h : Held). IsSeatOf h c.args.seat) (sym c.self.view_is) c.requires.seat in
    let stands = seat_stands c.self.inside c.args.seat c.self.invariant is in
    (unseats c.self.inside c.take_empty.new.rooms c.args.seat.place c.self.invariant stands.0 stands.1 c.take_empty.ensures.taken c.take_empty.ensures.same c.take_empty.ensures.ordered).0

-- src/entries.rt:180:5
pub returns-clause-held : goal.returns-clause-held
returns-clause-held c =
    let is = subst (λ (h : Held). IsSeatOf h c.args.seat) (sym c.self.view_is) c.requires.seat in
    let stands = seat_stands c.self.inside c.args.seat c.self.invariant is in
    rw (← c.self.view_is) (unseats c.self.inside c.take_empty.new.rooms c.args.seat.place c.self.invariant stands.0 stands.1 c.take_empty.ensures.taken c.take_empty.ensures.same c.take_empty.ensures.ordered).1.held

-- src/entries.rt:180:5
pub returns-clause-gone : goal.returns-clause-gone
returns-clause-gone c =
    let is = subst (λ (h : Held). IsSeatOf h c.args.seat) (sym c.self.view_is) c.requires.seat in
    let stands = seat_stands c.self.inside c.args.seat c.self.invariant is in
    rw (← c.self.view_is) (unseats c.self.inside c.take_empty.new.rooms c.args.seat.place c.self.invariant stands.0 stands.1 c.take_empty.ensures.taken c.take_empty.ensures.same c.take_empty.ensures.ordered).1.gone

-- src/entries.rt:180:5
pub returns-clause-others : goal.returns-clause-others
returns-clause-others c =
    let is = subst (λ (h : Held). IsSeatOf h c.args.seat) (sym c.self.view_is) c.requires.seat in
    let stands = seat_stands c.self.inside c.args.seat c.self.invariant is in
    rw (← c.self.view_is) (unseats c.self.inside c.take_empty.new.rooms c.args.seat.place c.self.invariant stands.0 stands.1 c.take_empty.ensures.taken c.take_empty.ensures.same c.take_empty.ensures.ordered).1.others
