-- How the entries are kept: under each hash that has some stands a row.
use Rattle.std.specs.Prelude.{◌≡◌, ◌≤◌, ℕ, cond, ◌&&◌, nat_eq, List, [], ◌∷◌, length, Option, Some, None, IsSome, ⊤}
use Rattle.std.specs.List.{flat_map}
use Rattle.std.specs.BTreeMap.{BTreeMap, IsOrdered, get}
use Rattle.std.specs.Ordering.{nat_cmp}
use Rattle.cache_model.specs.declared.index.IndexKey.{IndexKey}
use Rattle.cache_model.specs.declared.index.IndexValue.{IndexValue}
use Rattle.tree_index.specs.Index.{Entries, value_at, is_key, AreOrdered}
use Rattle.tree_index.specs.declared.row.Row.{Row}
use Rattle.tree_index.specs.declared.row.Row.TheVariants.{One, Several}

-- the rows under their hashes
abbrev pub Rows : Type 0
Rows = BTreeMap ℕ Row

-- the entries of a row under a hash, in their order
abbrev pub entries_in : ℕ → Row → Entries
entries_in hash (One gone file at length count) = (record { hash = hash; file = file; at = at }, record { length = length; count = count; gone = gone }) ∷ []
entries_in hash (Several several) = several.value.entries

-- the entries under a hash, where it has a row
abbrev pub held_in : ℕ → Option Row → Entries
held_in hash None = []
held_in hash (Some row) = entries_in hash row

abbrev pub held_at : Rows → ℕ → Entries
held_at rows hash = held_in hash (get nat_cmp rows hash)

-- all entries: those of each row, one row after another
abbrev pub entries_by : List (ℕ × Row) → Entries
entries_by rows = flat_map (λ (e : ℕ × Row). entries_in e.0 e.1) rows

abbrev pub all_entries : Rows → Entries
all_entries rows = entries_by rows.entries

-- Several entries are two at least, in their order, and their keys have the hash.
pub record AreSeveral (hash : ℕ) (entries : Entries) : Type 0 where
  pub ordered : AreOrdered entries
  pub hashed : (key : IndexKey) → IsSome (value_at entries key) → key.hash ≡ hash
  pub some : 2 ≤ length entries

-- a row is as it should be: so none is empty
abbrev pub IsKept : ℕ → Row → Type 0
IsKept hash (One gone file at length count) = ⊤
IsKept hash (Several several) = AreSeveral hash several.value.entries

-- The rows are in the order of their hashes, and each is as it should be.
pub record AreKept (rows : Rows) : Type 0 where
  pub ordered : IsOrdered nat_cmp rows
  pub each : (hash : ℕ) (row : Row) → get nat_cmp rows hash ≡ Some row → IsKept hash row

-- what a row has under a key of its hash, where that is its only entry
abbrev pub alone_in : IndexKey → Row → Option IndexValue
alone_in key (One gone file at length count) = cond (nat_eq file key.file && nat_eq at key.at) (Some (record { length = length; count = count; gone = gone })) None
alone_in key (Several several) = None

-- A row has this under a key of its hash, or no entry where it is None, and all else that stood there before.
pub record Rewrites (hash : ℕ) (old : Entries) (key : IndexKey) (value : Option IndexValue) (new : Row) : Type 0 where
  pub each : (other : IndexKey) → value_at (entries_in hash new) other ≡ cond (is_key key other) value (value_at old other)
  pub kept : IsKept hash new

-- The rows have this under a key, or no entry where it is None, and all else as before.
pub record Changes (old : Rows) (key : IndexKey) (value : Option IndexValue) (new : Rows) : Type 0 where
  pub each : (other : IndexKey) → value_at (held_at new other.hash) other ≡ cond (is_key key other) value (value_at (held_at old other.hash) other)
  pub kept : AreKept new
