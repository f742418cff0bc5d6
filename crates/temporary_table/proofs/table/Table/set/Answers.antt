use Rattle.std.proofs.Common.{subst, sym}
use Rattle.std.specs.Prelude.{Some, Option, IsSome}
use Rattle.temporary_table.specs.Places.{Places, Seat, seat_of}
use Rattle.temporary_table.proofs.Keeping.{reads_at, reseats_at}
use Rattle.temporary_table.proofs.table.Table.set.Goals as goal

pub set_under-requires-clause-seat : goal.set_under-requires-clause-seat
set_under-requires-clause-seat c = subst (λ (s : Option Seat). IsSome s) (reads_at c.self.inside c.self.invariant c.args.key.now c.hash-hash.result c.hash-hash.ensures.hash)
    (subst (λ (p : Places). IsSome (seat_of p c.args.key.now)) (sym c.self.view_is) c.requires.seat)

pub invariant_of-self : goal.invariant_of-self
invariant_of-self c = (reseats_at c.self.inside c.set_under.new.buckets c.args.key.now c.hash-hash.result (Some (Some (c.args.to, c.args.gone))) c.self.invariant c.hash-hash.ensures.hash c.set_under.ensures.set).0

pub returns : goal.returns
returns c = record { set = rw (← c.self.view_is) (reseats_at c.self.inside c.set_under.new.buckets c.args.key.now c.hash-hash.result (Some (Some (c.args.to, c.args.gone))) c.self.invariant c.hash-hash.ensures.hash c.set_under.ensures.set).1 }
