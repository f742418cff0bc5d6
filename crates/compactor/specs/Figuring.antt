-- The live bytes of the data files, by the entries of the index.
use Rattle.std.specs.Prelude.{◌≡◌, ℕ, ◌≤◌, ◌==◌, Bool, cond, List, [], ◌∷◌, length, Some, is_some, option_and_then, map, sum_by, All, Contains}
use Rattle.cache_model.specs.declared.files.FileCount.{FileCount}
use Rattle.cache_model.specs.Files.{bytes_in}
use Rattle.cache_model.specs.Hash.{hash}
use Rattle.cache_model.specs.Items.{Item, spelling}
use Rattle.cache_model.specs.DataFiles.{counted_items}
use Rattle.cache_model.specs.Images.{log_name, key_of}
use Rattle.file_stats.specs.Figures.{numbers_of}
use Rattle.tree_index.specs.Index.{Index, value_at}
use Rattle.compactor.specs.declared.parts.Parts.{Parts}
use Rattle.compactor.specs.Counting.{Kept, counts_in}

-- the numbers of the files with their sizes
abbrev pub sizes_of : List FileCount → List (ℕ × ℕ)
sizes_of rows = map (λ row. (row.number, row.size)) rows

-- what counts in a file: the items of the one that is written, or those that another file reads
abbrev pub items_of : Kept → ℕ → List (ℕ × Item)
items_of kept number = cond (number == kept.number) kept.items (counted_items (bytes_in kept.files (log_name number)))

-- whether the index has an entry of an item of a file
abbrev pub has_entry : Index → ℕ → ℕ × Item → Bool
has_entry index number one = is_some (option_and_then (λ key. value_at index.entries (record { hash = hash index.bits key; file = number; at = one.0 })) (key_of one.1))

-- the length of an item of a file, where the index has an entry of it
abbrev pub live_part : Index → ℕ → ℕ × Item → ℕ
live_part index number one = cond (has_entry index number one) (length (spelling one.1)) 0

-- how many bytes of a file's items the index has an entry of
abbrev pub live_in : Index → ℕ → List (ℕ × Item) → ℕ
live_in index number items = sum_by (live_part index number) items

-- how many bytes some items have
abbrev pub item_bytes : List (ℕ × Item) → ℕ
item_bytes items = sum_by (λ one. length (spelling one.1)) items

-- no two items stand at the same offset
abbrev pub StandApart : List (ℕ × Item) → Type 0
StandApart [] = Unit {0}
StandApart (one ∷ items) = ((other : ℕ × Item) → Contains items other → other.0 ≡ one.0 → ⊥) × StandApart items

-- The live bytes of a file are those of its items that the index has an entry of, and it has room for all of its items.
pub record IsFigured (kept : Kept) (index : Index) (row : FileCount) : Type 0 where
  pub live : row.live ≡ live_in index row.number (items_of kept row.number)
  pub fits : item_bytes (items_of kept row.number) ≤ row.size

-- The figures of all files are right, and each file that has a record that counts is among them.
pub record AreFigured (kept : Kept) (parts : Parts) : Type 0 where
  pub rows : All (IsFigured kept parts.tree) parts.stats.rows
  pub apart : (number : ℕ) → StandApart (items_of kept number)
  pub listed : (number at : ℕ) (item : Item) (key : List ℕ) → counts_in kept number at item → key_of item ≡ Some key → Contains (numbers_of parts.stats.rows) number
