-- What a call of a source of input does.
use Rattle.std.specs.Prelude.{◌≡◌, ℕ, ◌<◌, ◌≤◌, List, ◌++◌, take, drop, length, Result, IfOk, OnOk, OnErr, IsErrOf}
use Rattle.cache_disk.specs.State.{Rose}
use Rattle.cache_disk.specs.declared.source.SourceFault.{SourceFault}
use Rattle.cache_disk.specs.declared.source.SourceFault.TheVariants.{Failed}

-- The first bytes that were left are in the front of the buffer and taken off; after a failure all are left.
pub record Filled (old new buf_old buf_new : List ℕ) (result : Result ℕ SourceFault) : Type 0 where
  pub left : IfOk result (λ n. new ≡ drop n old)
  pub front : IfOk result (λ n. buf_new ≡ take n old ++ drop n buf_old)
  pub within : IfOk result (λ n. n ≤ length old)
  -- for a buffer that isn't empty, 0 is the end of the input
  pub some : IfOk result (λ n. 0 < length buf_old → 0 < length old → 0 < n)
  pub same : OnErr result (new ≡ old)

-- `Failed` comes only where the faults rose, and no other answer raises them.
pub record SourceCause {T : Type 0} (before after : ℕ) (result : Result T SourceFault) : Type 0 where
  pub failed : IsErrOf result Failed → Rose before after
  pub ok : OnOk result (after ≡ before)
  pub later : before ≤ after
