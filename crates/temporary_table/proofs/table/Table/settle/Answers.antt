use Rattle.std.proofs.Common.{◌∙◌, ap, sym}
use Rattle.std.specs.Prelude.{None}
use Rattle.temporary_table.specs.Places.{Places, place_of, placed}
use Rattle.temporary_table.proofs.Ordered.{never}
use Rattle.temporary_table.proofs.Keeping.{reads_at, reseats_at}
use Rattle.temporary_table.proofs.table.Table.settle.Goals as goal

pub invariant_of-self : goal.invariant_of-self
invariant_of-self c = (reseats_at c.self.inside c.take_under.new.buckets c.args.key.now c.hash-hash.result None c.self.invariant c.hash-hash.ensures.hash c.take_under.ensures.taken).0

pub returns-then-is_placed_at-clause-settled : goal.returns-then-is_placed_at-clause-settled
returns-then-is_placed_at-clause-settled c = λ gone is. rw (← c.self.view_is) (reseats_at c.self.inside c.take_under.new.buckets c.args.key.now c.hash-hash.result None c.self.invariant c.hash-hash.ensures.hash c.take_under.ensures.taken).1

pub returns-then-is_placed_at-clause-kept : goal.returns-then-is_placed_at-clause-kept
returns-then-is_placed_at-clause-kept c =
    let there = c.is_placed_at.ensures.0 c.if-is_placed_at.true in
    λ other. absurd (other there.0 (ap (λ (p : Places). place_of p c.args.key.now) (sym c.self.view_is) ∙ ap placed (reads_at c.self.inside c.self.invariant c.args.key.now c.hash-hash.result c.hash-hash.ensures.hash ∙ sym c.find.ensures) ∙ there.1))

pub returns-else-is_placed_at-clause-settled : goal.returns-else-is_placed_at-clause-settled
returns-else-is_placed_at-clause-settled c = λ gone is. absurd (never (sym (c.is_placed_at.ensures.1
    (gone, ap placed (c.find.ensures ∙ sym (reads_at c.self.inside c.self.invariant c.args.key.now c.hash-hash.result c.hash-hash.ensures.hash)) ∙ ap (λ (p : Places). place_of p c.args.key.now) c.self.view_is ∙ is)) ∙ c.if-is_placed_at.false))
