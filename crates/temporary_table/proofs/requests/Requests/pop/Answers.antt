use Rattle.std.proofs.Common.{arith, length}
use Rattle.temporary_table.proofs.Chaining.{chained_later}
use Rattle.temporary_table.proofs.requests.Requests.pop.Goals as goal

pub invariant_of-self : goal.invariant_of-self
invariant_of-self c =
    let was = c.self.invariant in
    record {
      reserved = omega arith;
      within = omega (arith, was.within, c.pop_front.ensures.len, c.pop_front.new.self.ok, c.self.inside.queue.ok);
      some = was.some;
      chained = chained_later (length c.self.inside.newest.items) c.self.inside.pushed c.self.inside.newest.items c.self.inside.queue.items c.pop_front.new.self.items c.pop_front.result c.pop_front.ensures.items was.chained;
    }
