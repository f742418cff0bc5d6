-- The settings of a directory.
use Rattle.std.specs.Prelude.{◌≡◌, ℕ, ◌≤◌, List, length, take, Option, Some, None, Result, MatchResult}
use Rattle.cache_model.specs.declared.files.FileKind.TheVariants.{Rules}
use Rattle.cache_model.specs.declared.files.FileName.{FileName}
use Rattle.cache_model.specs.declared.replies.Status.{Status}
use Rattle.cache_model.specs.declared.replies.Status.TheVariants as status
use Rattle.cache_model.specs.declared.settings.Settings.{Settings}
use Rattle.cache_model.specs.Files.{Image, file_in}
use Rattle.cache_model.specs.Settings.{default_settings}
use Rattle.cache_disk.specs.State.{HostState, Rose, Stands}
use Rattle.cache_cli.specs.Causes.{Unfaulted}
use Rattle.cache_cli.specs.Ends.{EndsUnset}
use Rattle.cache_cli.specs.SettingsFile.{IsSettingsFile}

-- the name of the settings file
abbrev pub settings_name : FileName
settings_name = record { kind = Rules; store = 0; id = 0 }

-- the settings are those of a settings file's bytes, and the defaults where there is no such file
abbrev pub AreGivenBy : Option (List ℕ) → Settings → Type 0
AreGivenBy None settings = settings ≡ default_settings
AreGivenBy (Some bytes) settings = IsSettingsFile bytes settings

-- a directory has these settings
abbrev pub HasSettings : Image → Settings → Type 0
HasSettings files settings = AreGivenBy (file_in files settings_name) settings

-- what reading the settings may end a run with, and its cause
abbrev pub SettingsCauseOf : Status → HostState → HostState → Type 0
SettingsCauseOf status.Settings from to = Unfaulted from to
SettingsCauseOf status.DiskFailed from to = Rose from.disk_faults to.disk_faults × (to.say_faults ≡ from.say_faults)
SettingsCauseOf status.NoMemory from to = Unfaulted from to
SettingsCauseOf ended from to = ⊥

-- settings that were read raised no count, and what ends the run has its cause
abbrev pub HasSettingsCause : {T : Type 0} → HostState → HostState → Result T Status → Type 0
HasSettingsCause from to result = MatchResult result (λ _. Unfaulted from to) (λ ended. SettingsCauseOf ended from to)

-- How a run with good words ends by the settings of its directory.
pub record EndsBySettings (ended : Status) (from to : HostState) : Type 0 where
  -- where the directory has none, nothing was said or changed
  pub without : ((settings : Settings) → HasSettings from.files settings → ⊥) → EndsUnset ended × Stands from to
  -- Settings is answered only there
  pub only : ended ≡ status.Settings → (settings : Settings) → HasSettings from.files settings → ⊥

-- Nothing changed, and the first bytes of a buffer are those of a file.
pub record IsFilled (from now : HostState) (file buffer : List ℕ) (done : ℕ) : Type 0 where
  pub stands : Stands from now
  pub front : take done buffer ≡ take done file
  pub within : done ≤ length file
