use Rattle.std.proofs.Common.{Option, subst}
use Rattle.record_format.specs.declared.items.OwnItem.{OwnItem}
use Rattle.compactor.specs.Counting.{counts_in}
use Rattle.compactor.specs.Looking.{IsNewestOr}
use Rattle.compactor.proofs.parts.Parts.record_with.Goals as goal

pub returns-in-Ok-None-clause-finds : goal.returns-in-Ok-None-clause-finds
returns-in-Ok-None-clause-finds g c told kept indexed there = record {
  given = subst (λ (found : Option OwnItem). IsNewestOr (counts_in kept) c.args.key found) c.in-Ok-None.field-0-is (c.in-Ok-None.ensures.finds told kept indexed there).newest;
  undamaged = λ d err. cc;
}
