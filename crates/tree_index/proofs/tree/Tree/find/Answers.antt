use Rattle.std.proofs.Common.{sym, subst}
use Rattle.std.specs.Prelude.{◌≡◌, IfOk}
use Rattle.tree_index.specs.Index.{Entries}
use Rattle.tree_index.proofs.Flat.{ordered_all}
use Rattle.tree_index.proofs.Changing.{are_rows, finds_row}
use Rattle.tree_index.proofs.tree.Tree.find.Goals as goal

pub returns-clause-found : goal.returns-clause-found
returns-clause-found g c = rw (← c.self.view_is) (subst (λ (es : Entries). IfOk c.entries_of.result (λ found. found.items ≡ es)) (sym (finds_row c.self.inside.rows c.self.invariant c.args.hash)) c.entries_of.ensures.found)

pub returns-clause-ordered : goal.returns-clause-ordered
returns-clause-ordered g c = rw (← c.self.view_is) (ordered_all c.self.inside.rows.entries (are_rows c.self.inside.rows c.self.invariant))
