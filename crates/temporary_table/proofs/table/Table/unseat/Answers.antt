use Rattle.std.proofs.Common.{◌∙◌, ap, sym, subst}
use Rattle.std.specs.Prelude.{Option, None}
use Rattle.temporary_table.specs.Places.{Seat, seat_of, Reseats, unseated}
use Rattle.temporary_table.proofs.Ordered.{never}
use Rattle.temporary_table.proofs.Keeping.{reads_at, reseats_at, reseats_same, unseated_other, with_buckets}
use Rattle.temporary_table.specs.Buckets.{places_of}
use Rattle.temporary_table.proofs.table.Table.unseat.Goals as goal

pub invariant_of-self : goal.invariant_of-self
invariant_of-self c = (reseats_at c.self.inside c.take_under.new.buckets c.args.key.now c.hash-hash.result None c.self.invariant c.hash-hash.ensures.hash c.take_under.ensures.taken).0

pub returns-then-is_unplaced : goal.returns-then-is_unplaced
returns-then-is_unplaced c =
    let was = reads_at c.self.inside c.self.invariant c.args.key.now c.hash-hash.result c.hash-hash.ensures.hash ∙ sym c.find.ensures ∙ c.is_unplaced.ensures.0 c.if-is_unplaced.true in
    record {
      unseated = rw (← c.self.view_is) (subst (λ (s : Option Seat). Reseats (places_of c.self.inside) c.args.key.now s (places_of (with_buckets c.self.inside c.take_under.new.buckets))) (sym (ap unseated was))
          (reseats_at c.self.inside c.take_under.new.buckets c.args.key.now c.hash-hash.result None c.self.invariant c.hash-hash.ensures.hash c.take_under.ensures.taken).1);
    }

pub returns-else-is_unplaced : goal.returns-else-is_unplaced
returns-else-is_unplaced c = record {
  unseated = rw (← c.self.view_is) (reseats_same (places_of c.self.inside) c.args.key.now (unseated (seat_of (places_of c.self.inside) c.args.key.now))
      (unseated_other (seat_of (places_of c.self.inside) c.args.key.now)
      (λ is. never (sym (c.is_unplaced.ensures.1 (c.find.ensures ∙ sym (reads_at c.self.inside c.self.invariant c.args.key.now c.hash-hash.result c.hash-hash.ensures.hash) ∙ is)) ∙ c.if-is_unplaced.false))));
}
