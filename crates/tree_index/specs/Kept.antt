-- The index that rows stand for.
use Rattle.tree_index.specs.Index.{Index}
use Rattle.tree_index.specs.Rows.{all_entries, AreKept}
use Rattle.tree_index.specs.declared.tree.Tree.TheInside.{Inside}

abbrev pub index_of : Inside → Index
index_of inside = record { bits = inside.bits; entries = all_entries inside.rows }

-- the rows are as they should be
abbrev pub IsKeptWell : Inside → Type 0
IsKeptWell inside = AreKept inside.rows
