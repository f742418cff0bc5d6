use Rattle.std.proofs.Common.{◌∙◌, sym}
use Rattle.std.specs.Prelude.{None}
use Rattle.tree_index.proofs.Changing.{reads_rows, sets}
use Rattle.tree_index.proofs.tree.Tree.remove.Goals as goal

pub returns-clause-before : goal.returns-clause-before
returns-clause-before g c = rw (← c.self.view_is) (c.take.ensures.before ∙ sym (reads_rows c.self.inside.rows c.self.invariant c.args.key))

pub returns-clause-sets : goal.returns-clause-sets
returns-clause-sets g c = rw (← c.self.view_is) (sets c.self.inside.bits c.self.inside.rows c.take.new.rows c.args.key None c.self.invariant c.take.ensures.taken)
