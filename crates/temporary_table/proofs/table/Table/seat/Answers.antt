use Rattle.temporary_table.proofs.Keeping.{seated_or_not}
use Rattle.temporary_table.proofs.table.Table.seat.Goals as goal

pub invariant_of-self : goal.invariant_of-self
invariant_of-self c = (seated_or_not c.self.inside c.seat_under.new.buckets c.args.key c.hash-hash.result c.seat_under.result c.self.invariant c.hash-hash.ensures.hash c.seat_under.ensures.seated c.seat_under.ensures.same).0

pub returns-clause-seated : goal.returns-clause-seated
returns-clause-seated c = rw (← c.self.view_is) (seated_or_not c.self.inside c.seat_under.new.buckets c.args.key c.hash-hash.result c.seat_under.result c.self.invariant c.hash-hash.ensures.hash c.seat_under.ensures.seated c.seat_under.ensures.same).1

pub returns-clause-same : goal.returns-clause-same
returns-clause-same c = rw (← c.self.view_is) (seated_or_not c.self.inside c.seat_under.new.buckets c.args.key c.hash-hash.result c.seat_under.result c.self.invariant c.hash-hash.ensures.hash c.seat_under.ensures.seated c.seat_under.ensures.same).2
