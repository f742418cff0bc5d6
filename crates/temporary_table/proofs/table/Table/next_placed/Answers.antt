use Rattle.std.proofs.Common.{Bor, subst}
use Rattle.std.specs.Prelude.{option_map, List, ℕ}
use Rattle.temporary_table.specs.Places.{Places}
use Rattle.temporary_table.specs.Walking.{IsNextPlaced}
use Rattle.temporary_table.proofs.Walks.{walks_by}
use Rattle.temporary_table.proofs.Scans.{scans}
use Rattle.temporary_table.proofs.table.Table.next_placed.Goals as goal

pub returns-then-bits-self : goal.returns-then-bits-self
returns-then-bits-self c = record {
  next = subst (λ (p : Places). IsNextPlaced c.args.bits p (option_map (λ (key : Bor (List ℕ)). key.now) c.args.after) (option_map (λ (key : Bor (List ℕ)). key.now) c.next_in_order.result)) c.self.view_is
      (walks_by c.self.inside c.self.invariant c.args.bits c.if-bits-self.true (option_map (λ (key : Bor (List ℕ)). key.now) c.args.after) (option_map (λ (key : Bor (List ℕ)). key.now) c.next_in_order.result) c.next_in_order.ensures);
}

pub returns : goal.returns
returns c = record {
  next = subst (λ (p : Places). IsNextPlaced c.args.bits p (option_map (λ (key : Bor (List ℕ)). key.now) c.args.after) (option_map (λ (key : Bor (List ℕ)). key.now) c.nearest.result)) c.self.view_is
      (scans c.self.inside c.self.invariant c.args.bits (option_map (λ (key : Bor (List ℕ)). key.now) c.args.after) (option_map (λ (key : Bor (List ℕ)). key.now) c.nearest.result) c.nearest.ensures);
}
