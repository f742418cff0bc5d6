use Rattle.std.specs.Prelude.{◌≡◌, ◌++◌}
use Rattle.tree_index.proofs.row.list_several.Given as goal

-- what was listed and what is left are all entries
abbrev pub invariant-loop-key : goal.invariant-loop-key
invariant-loop-key l = l.found.items ++ l.key-iterator ≡ l.fn.several.entries
