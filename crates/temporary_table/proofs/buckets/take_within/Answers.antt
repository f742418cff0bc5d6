use Rattle.std.proofs.Common.{◌∙◌, ap, sym, subst}
use Rattle.std.specs.Prelude.{Option, None}
use Rattle.std.specs.Option.{option_copied_mut}
use Rattle.temporary_table.specs.Buckets.{Bucket, Buckets, seat_in, Moves}
use Rattle.temporary_table.proofs.Moving.{stays}
use Rattle.temporary_table.proofs.buckets.take_within.Goals as goal

pub returns-in_default : goal.returns-in_default
returns-in_default c = record {
  taken = subst (λ (b : Buckets). Moves c.args.buckets.now c.args.hash c.args.key.now None b) (sym c.get_mut.follows.holds-at-none)
      (stays c.args.buckets.now c.args.hash c.args.key.now None c.requires.ordered (ap (λ (b : Option Bucket). seat_in b c.args.key.now) (sym c.get_mut.ensures.value ∙ ap option_copied_mut c.in_default.is)));
}
