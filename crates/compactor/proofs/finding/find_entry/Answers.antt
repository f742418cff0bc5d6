use Rattle.std.proofs.Common.{All, sym, ◌∙◌, subst}
use Rattle.tree_index.specs.Index.{Entries}
use Rattle.compactor.specs.Counting.{IsFileNumber}
use Rattle.compactor.proofs.Entries.{held_among, numbered}
use Rattle.compactor.proofs.finding.find_entry.Goals as goal

pub first_of_key-requires-clause-numbers : goal.first_of_key-requires-clause-numbers
first_of_key-requires-clause-numbers g c =
    subst (λ (l : Entries). All (λ e. IsFileNumber e.0.file) l) (sym (c.deref.ensures.value ∙ c.in-Ok.ensures.found)) (numbered c.args.tree.now.entries c.in-Ok.ensures.ordered c.hash.result c.requires.numbers)

pub returns-in-Ok-clause-held : goal.returns-in-Ok-clause-held
returns-in-Ok-clause-held g c = held_among c.args.tree.now.entries c.deref.result.now c.hash.result c.first_of_key.result c.in-Ok.ensures.ordered (c.deref.ensures.value ∙ c.in-Ok.ensures.found) c.first_of_key.ensures.among
