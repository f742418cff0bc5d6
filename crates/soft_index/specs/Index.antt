-- What a store with its rule stands for, and what it is to open one.
use Rattle.std.specs.Prelude.{◌≡◌, ℕ, ◌≤◌, Bool, List, Some, None}
use Rattle.std.specs.Fn.{Shared, always_fn}
use denote.Ref.{Bor}
use Rattle.cache_model.specs.declared.entries.Change.{Change}
use Rattle.cache_model.specs.declared.commands.StepKind.{StepKind}
use Rattle.cache_model.specs.declared.replies.Turned.{Turned}
use Rattle.cache_model.specs.declared.settings.Settings.{Settings}
use Rattle.cache_model.specs.Files.{Image}
use Rattle.cache_model.specs.Images.{IsCounted, IsMark, IsSound}
use Rattle.cache_model.specs.Numbers.{IsNextSequence, IsNextFile}
use Rattle.cache_disk.specs.State.{HostState}
pub use Rattle.rebuild.specs.Rebuilt.{IsRead}
use Rattle.store_trait.specs.Meaning.{Numbers, Row, StoreFacts, StoreState, read_in}
use Rattle.soft_index.specs.declared.log_store.LogStore.{LogStore}
use Rattle.soft_index.specs.declared.soft_index.SoftIndex.{SoftIndex}
use Rattle.soft_index.specs.Compacting.{ByRun, CompactsAll, CompactsFile, CountsBy, IsSwept, TurnsAll, row_with}
use Rattle.soft_index.specs.Running.{MayGoOn}
use Rattle.soft_index.specs.Steps.{StepsIn}
use Rattle.soft_index.specs.Turns.{run_facts, run_means, turns_for}
use Rattle.soft_index.specs.Rule.{AnswersAlike, Allows, ruled}
use Rattle.soft_index.specs.Store.{IsUsable, HasReading, MakesRoom, Queues}

module _ {F : Type 0} (g : Shared F (Bor (List ℕ) × Unit {0}) Bool) where
  -- a rule may be called on every key, and answers equal keys alike
  abbrev pub IsRule : F → Type 0
  IsRule rule = always_fn g rule × AnswersAlike g rule

  -- what is known of it whatever the host tells
  abbrev pub index_facts : SoftIndex F → StoreFacts
  index_facts store = ruled (run_facts store.log) (IsUsable store.log.log × MayGoOn store.log.run × IsRule store.forget) (Allows g store.forget)

-- its log: the entries with what writes them to the files
abbrev pub log_of : {F : Type 0} → SoftIndex F → LogStore
log_of store = store.log.log

-- its rule
abbrev pub rule_of : {F : Type 0} → SoftIndex F → F
rule_of store = store.forget

-- what it stands for on a host that tells its contents
abbrev pub index_means : {F : Type 0} → SoftIndex F → HostState → StoreState
index_means store state = run_means store.log state

-- The store was opened from these files: it has their content and mark, it goes on with the next numbers, and it goes by
-- the settings. Nothing waits for its index.
pub record IsStarted (files : Image) (settings : Settings) (facts : StoreFacts) (state : StoreState) (mark : ℕ) : Type 0 where
  pub stands : state.stands
  pub content : (key : List ℕ) → HasReading (IsCounted files) key (read_in state.content key)
  pub mark_is : IsMark files mark
  pub latest : facts.latest ≡ mark
  pub undamaged : IsSound files
  pub numbers : (next : Numbers) × (facts.numbers ≡ Some next) × IsNextSequence files next.sequence × IsNextFile files next.file
  pub drawn : facts.drawn ≤ numbers.0.sequence
  pub made : facts.made ≤ numbers.0.file
  pub bits : facts.bits ≡ settings.hash_bits
  pub firm : facts.firm ≡ settings.sync_writes
  pub parts : facts.parts ≡ row_with 0 None None
  pub moves : (change : Change) (a b : List Row) → facts.moves change a b → ByRun (Queues settings.queue) a b
  pub empties : (a b : List Row) → facts.empties a b → b ≡ a
  pub room : (a b : List Row) → facts.room a b → ByRun (MakesRoom settings.queue) a b
  pub steps : (read : Image) (kind : StepKind) (turned : Turned) (a b : List Row) → facts.steps read kind turned a b → StepsIn settings.queue settings.compact_below read kind turned a b
  pub compacts : (read mid : Image) (file : ℕ) (turned : Turned) (turns : ℕ) (a b : List Row) → facts.compacts read mid file turned turns a b → CompactsFile settings.queue read mid file turned turns a b
  pub turns : (read mid : Image) (file : ℕ) (rows : List Row) → facts.turns read mid file rows ≡ turns_for read mid file rows
  pub compacts_all : (read mid : Image) (turns : ℕ) (a b : List Row) → facts.compacts_all read mid turns a b → CompactsAll settings.queue read mid turns a b
  pub turns_all : (read mid : Image) (rows : List Row) (turns : ℕ) → facts.turns_all read mid rows turns → TurnsAll read mid rows turns
  pub sweeps : (read image : Image) → facts.sweeps read image → IsSwept read image
  pub counts : (read : Image) (figures : ℕ × ℕ × ℕ) (a b : List Row) → facts.counts read figures a b → CountsBy read figures a b
