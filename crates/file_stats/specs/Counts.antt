-- The figures of data files.
use Rattle.std.specs.Prelude.{◌≤◌, List, map, All}
use Rattle.std.specs.List.Sorted.{IsStrictlyIncreasing}
use Rattle.cache_model.specs.declared.files.FileCount.{FileCount}

-- The numbers of the files ascend, so that each file has one row, and no file has more live bytes than bytes.
pub record AreCounts (rows : List FileCount) : Type 0 where
  pub ascend : IsStrictlyIncreasing (map (λ row. row.number) rows)
  pub live : All (λ row. row.live ≤ row.size) rows
