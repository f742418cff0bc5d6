use Rattle.std.proofs.Common.{Option, sym, subst}
use Rattle.std.specs.Prelude.{◌≡◌, Some, IfOk}
use Rattle.cache_model.specs.declared.index.IndexValue.{IndexValue}
use Rattle.tree_index.proofs.Changing.{reads_rows, sets_ok, same_err}
use Rattle.tree_index.proofs.tree.Tree.insert.Goals as goal

pub returns-clause-before : goal.returns-clause-before
returns-clause-before g c = rw (← c.self.view_is) (subst (λ (o : Option IndexValue). IfOk c.put.result (λ before. before ≡ o)) (sym (reads_rows c.self.inside.rows c.self.invariant c.args.key)) c.put.ensures.before)

pub returns-clause-sets : goal.returns-clause-sets
returns-clause-sets g c = rw (← c.self.view_is) (sets_ok c.self.inside.bits c.self.inside.rows c.put.new.rows c.args.key (Some c.args.value) c.put.result c.self.invariant c.put.ensures.put)

pub returns-clause-same : goal.returns-clause-same
returns-clause-same g c = rw (← c.self.view_is) (same_err c.self.inside.bits c.self.inside.rows c.put.new.rows c.args.key c.put.result c.self.invariant c.put.ensures.same)
