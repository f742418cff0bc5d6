use Rattle.tree_index.specs.Rows.{all_entries}
use Rattle.tree_index.proofs.Nexts.{IsWalked}
use Rattle.tree_index.proofs.rows.next.Given as goal

-- the rows that are left have all entries above the key
abbrev pub invariant-loop-hash : goal.invariant-loop-hash
invariant-loop-hash l = IsWalked l.fn.after (all_entries l.fn.rows) l.hash-iterator
