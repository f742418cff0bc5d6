-- What the run of the whole program is about.
use Rattle.std.specs.Prelude.{◌≡◌, ℕ, false, List}
use Rattle.cache_model.specs.declared.faults.Damage.{Damage}
use Rattle.cache_model.specs.declared.replies.Status.{Status}
use Rattle.cache_model.specs.declared.replies.Status.TheVariants as status
use Rattle.cache_model.specs.Images.{IsSound}
use Rattle.cache_disk.specs.State.{HostState, SameFiles, Moves}
use Rattle.cache_disk.specs.Calls.{AllLeft, and_then_said}
use Rattle.cache_model.specs.declared.settings.Settings.{Settings}
use Rattle.store_trait.specs.Meaning.{StoreFacts, StoreState}
use Rattle.store_trait.specs.Keeping.{Leaves, IsSettled}
use Rattle.soft_index.specs.Index.{IsRead, IsStarted}
use Rattle.soft_index.specs.Store.{owns_file}
use Rattle.cache_script.specs.Damages.{damage_line}
use Rattle.cache_cli.specs.Ends.{Ends}
use Rattle.cache_cli.specs.Parts.{Pace}
use Rattle.cache_cli.specs.Run.{IsLost}
use Rattle.cache_cli.specs.Talk.{Course, HoldsThroughout, HoldsTogether}

-- how the store works by these settings
abbrev pub pace_of : Settings → Pace
pace_of settings = record { queue = settings.queue; threshold = settings.compact_below; pump = settings.pump }

-- a run by these settings that begins on a host, from a moment on, with these lines
abbrev pub course_by : Settings → HostState → ℕ → List (List ℕ) → Course
course_by settings from given lines = record {
  since = from.turn;
  files = from.files;
  said = from.said from.turn;
  given = given;
  lines = lines;
  synced = settings.sync_writes;
  pace = pace_of settings;
}

-- where no image that might be left at the beginning is damaged, each image since holds
abbrev pub HoldsFrom : HostState → HostState → Course → Type 0
HoldsFrom from to course = AllLeft from (λ image. IsSound image) → HoldsThroughout from to course

-- the same of all keys together
abbrev pub HoldsTogetherFrom : HostState → HostState → Course → Type 0
HoldsTogetherFrom from to course = AllLeft from (λ image. IsSound image) → HoldsTogether from to course

-- Every file and each image stays, and what was said.
pub record IsStill (from to : HostState) : Type 0 where
  pub files : SameFiles from.files to.files
  pub images : Moves from to SameFiles

-- what telling a damage did, by what the run ends with
abbrev pub TellsDamage : Status → Damage → HostState → HostState → Type 0
TellsDamage status.Damaged damage from to = to.said to.turn ≡ and_then_said (from.said from.turn) (damage_line damage)
TellsDamage status.SayFailed damage from to = IsLost from to
TellsDamage status.NoMemory damage from to = to.said to.turn ≡ from.said from.turn
TellsDamage ended damage from to = ⊥

-- A store was opened on files that were read: it has their content and mark, and only its content is possible.
pub record IsOpenedFrom (settings : Settings) (from now : HostState) (facts : StoreFacts) (state : StoreState) (mark : ℕ) : Type 0 where
  pub read : IsRead from now
  pub started : IsStarted from.files settings facts state mark
  pub settled : IsSettled facts state now.turn

-- What a run that ended comes to.
pub record Serves (ended : Status) (from to : HostState) (course : Course) : Type 0 where
  -- what it said, by the status
  pub ends : Ends ended course to
  -- files that aren't the store's are left alone, as they read and in what a crash may leave
  pub others : Leaves owns_file false from to
  -- what a crash may leave at each turn, key by key
  pub crash : HoldsFrom from to course
  -- the same of all keys together
  pub cut : HoldsTogetherFrom from to course
