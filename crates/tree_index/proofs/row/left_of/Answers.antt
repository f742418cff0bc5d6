use Rattle.std.proofs.Common.{sym, ◌∙◌}
use Rattle.tree_index.proofs.Rewriting.{only}
use Rattle.tree_index.proofs.row.left_of.Goals as goal

pub returns-in-Some-clause-one : goal.returns-in-Some-clause-one
returns-in-Some-clause-one c = only c.args.several.now.entries (c.in-Some.key.now, c.in-Some.value.now) (sym c.len.ensures.len ∙ c.if-len-ne1.false) c.in-Some.ensures.first
