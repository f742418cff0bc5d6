use Rattle.std.proofs.Common.{◌∙◌, sym, ap}
use Rattle.temporary_table.specs.Places.{placed}
use Rattle.temporary_table.specs.Buckets.{seat_at}
use Rattle.temporary_table.proofs.Keeping.{reads}
use Rattle.temporary_table.proofs.table.Table.place_of.Goals as goal

pub returns-in-Some : goal.returns-in-Some
returns-in-Some c = record { place = rw (← c.self.view_is) (sym (ap placed (reads c.self.inside c.self.invariant c.args.key.now ∙ ap (λ h. seat_at c.self.inside.buckets h c.args.key.now) (sym c.hash.ensures.hash) ∙ sym c.in-Some.ensures))) }

pub returns-in-None : goal.returns-in-None
returns-in-None c = record { place = rw (← c.self.view_is) (sym (ap placed (reads c.self.inside c.self.invariant c.args.key.now ∙ ap (λ h. seat_at c.self.inside.buckets h c.args.key.now) (sym c.hash.ensures.hash) ∙ sym c.in-None.ensures))) }
