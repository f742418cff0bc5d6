-- How steps move the parts of a store that compacts its files.
use Rattle.std.specs.Prelude.{ℕ, List}
use Rattle.cache_model.specs.declared.commands.StepKind.{StepKind}
use Rattle.cache_model.specs.declared.commands.StepKind.TheVariants.{Index, Flush, Compact, Evict, Reap, Rotate}
use Rattle.cache_model.specs.declared.replies.Turned.{Turned}
use Rattle.cache_model.specs.Files.{Image}
use Rattle.store_trait.specs.Meaning.{Row}
use Rattle.soft_index.specs.Compacting.{ByRun, CompactsBy}
use Rattle.soft_index.specs.Store.{StepsBy}

-- A turn of a compaction goes by the files as they read; the other steps leave the run.
abbrev pub StepsIn : ℕ → ℕ → Image → StepKind → Turned → List Row → List Row → Type 0
StepsIn limit threshold files Compact turned a b = CompactsBy limit threshold files turned a b
StepsIn limit threshold files Index turned a b = ByRun (StepsBy Index turned) a b
StepsIn limit threshold files Flush turned a b = ByRun (StepsBy Flush turned) a b
StepsIn limit threshold files Evict turned a b = ByRun (StepsBy Evict turned) a b
StepsIn limit threshold files Reap turned a b = ByRun (StepsBy Reap turned) a b
StepsIn limit threshold files Rotate turned a b = ByRun (StepsBy Rotate turned) a b
