-- What an opening makes of what it found of the files.
use Rattle.std.specs.Prelude.{◌≡◌, false, [], None}
use Rattle.std.specs.List.Sorted.{IsStrictlyIncreasing}
use Rattle.cache_model.specs.declared.settings.Settings.{Settings}
use Rattle.file_stats.specs.declared.file_list.Found.{Found}
use Rattle.file_stats.specs.Figures.{numbers_of}
use Rattle.tree_index.specs.Index.{Index}
use Rattle.soft_index.specs.declared.log_store.LogStore.{LogStore}
use Rattle.soft_index.specs.Store.{GoesBy, IsUsable, next_of, number, waiting, writer}

-- A store as it is made of what was found, with this index: its statistics are the rows that were found, nothing is
-- written yet, no key has a place beside the index, and nothing waits for it.
pub record IsMadeOf (found : Found) (tree : Index) (settings : Settings) (store : LogStore) : Type 0 where
  pub usable : IsUsable store
  pub tree_is : store.parts.tree ≡ tree
  pub rows_are : store.parts.stats.rows ≡ found.files
  pub ascend : IsStrictlyIncreasing (numbers_of found.files)
  pub unplaced : store.parts.table.seats ≡ []
  pub empty : store.parts.requests.waiting ≡ []
  pub number_is : number store ≡ found.next_file
  pub next : next_of store ≡ found.next_seq
  pub made : writer store ≡ None
  pub unsealed : waiting store ≡ false
  pub latest : store.latest ≡ found.mark
  pub goes_by : GoesBy settings store
