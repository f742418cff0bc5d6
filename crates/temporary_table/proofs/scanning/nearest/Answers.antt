use Rattle.std.proofs.Common.{Bor, ap, sym, ◌∙◌}
use Rattle.std.specs.Prelude.{ℕ, List, Option, option_map}
use Rattle.temporary_table.specs.Buckets.{Bucket, seats_in}
use Rattle.temporary_table.specs.Scanning.{nearest}
use Rattle.temporary_table.proofs.Scans.{nearest_both}
use Rattle.temporary_table.proofs.scanning.nearest.Goals as goal

pub loop-hash-preserved : goal.loop-hash-preserved
loop-hash-preserved c =
    let after = option_map (λ (after : Bor (List ℕ)). after.now) c.args.after in
    let best = option_map (λ (best : Bor (List ℕ)). best.now) c.loop-hash.best in
    c.loop-hash.invariant
    ∙ ap (λ (es : List (ℕ × Bucket)). nearest c.args.bits after best (seats_in es)) c.in-Some.ensures.steps
    ∙ nearest_both c.args.bits after best c.in-Some.bucket.now.entries (seats_in c.next.new.self)
    ∙ ap (λ (o : Option (List ℕ)). nearest c.args.bits after o (seats_in c.next.new.self)) (sym c.nearest_in-best.ensures)
