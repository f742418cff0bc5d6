-- Where a walk over the entries begins.
use Rattle.std.specs.Prelude.{ℕ, Option, Some, None}
use Rattle.std.specs.declared.ops.Bound.{Bound}
use Rattle.std.specs.declared.ops.Bound.TheVariants.{Included, Excluded, Unbounded}
use Rattle.cache_model.specs.declared.index.IndexKey.{IndexKey}

-- where the keys above one begin
abbrev pub start_after : Option IndexKey → Bound IndexKey
start_after None = Unbounded
start_after (Some key) = Excluded key

-- where the rows begin that may have keys above one
abbrev pub row_start : Option IndexKey → Bound ℕ
row_start None = Unbounded
row_start (Some key) = Included key.hash
