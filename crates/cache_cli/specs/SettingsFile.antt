-- What a settings file says.
use Rattle.std.specs.Prelude.{◌≡◌, ℕ, pos, ◌≤◌, ◌&&◌, Bool, true, List, [], ◌∷◌, length, Option, Some, None, if◌then◌else◌, nat_le, codes, IsUtf8}
use Rattle.std.specs.Str.{bytes_eq}
use Rattle.std.specs.List.{list_any}
use Rattle.cache_model.specs.declared.settings.Settings.{Settings}
use Rattle.cache_model.specs.declared.settings.Mode.{Mode}
use Rattle.cache_model.specs.declared.settings.Mode.TheVariants.{Through, Behind, Passivation}
use Rattle.cache_model.specs.declared.settings.Activation.{Activation}
use Rattle.cache_model.specs.declared.settings.Activation.TheVariants.{Keep}
use Rattle.cache_model.specs.Settings.{default_settings}
use Rattle.toml.specs.Data.{Data, string, integer, boolean, Members, no_members, member, get_member}
use Rattle.toml.specs.Parse.{parse_document}

-- a whole number from the first one to the last one
abbrev pub whole : ℕ → ℕ → Data → Option ℕ
whole first last (integer (pos number)) = if nat_le first number && nat_le number last then Some number else None
whole first last value = None

-- true or false
abbrev pub truth : Data → Option Bool
truth (boolean is) = Some is
truth value = None

-- a string of at most so many bytes
abbrev pub string_up_to : ℕ → Data → Option (List ℕ)
string_up_to most (string text) = if nat_le (length text) most then Some text else None
string_up_to most value = None

-- what stands beside a word, where it is one of these
abbrev pub beside : {A : Type 0} → List (List ℕ × A) → List ℕ → Option A
beside [] text = None
beside (row ∷ rows) text = if bytes_eq text row.0 then Some row.1 else beside rows text

-- a string that is one of these words
abbrev pub one_of : {A : Type 0} → List (List ℕ × A) → Data → Option A
one_of words (string text) = beside words text
one_of words value = None

-- a value as it is read, and what stands for it where there is none
abbrev pub read_or : {A : Type 0} → (Data → Option A) → A → Option Data → Option A
read_or reads standard None = Some standard
read_or reads standard (Some value) = reads value

-- A table gives a setting: the value at the name, which has to read so, and the standard one where the name isn't there.
abbrev pub Gives : {A : Type 0} → Members → List ℕ → (Data → Option A) → A → A → Type 0
Gives table name reads standard setting = read_or reads standard (get_member name table) ≡ Some setting

-- the words of `mode`, and of `activation`
abbrev pub modes : List (List ℕ × Mode)
modes = (codes "through", Through) ∷ (codes "behind", Behind) ∷ (codes "passivation", Passivation) ∷ []

abbrev pub activations : List (List ℕ × Activation)
activations = (codes "keep", Keep) ∷ []

-- the names of the settings
abbrev pub setting_names : List (List ℕ)
setting_names =
    codes "file_size" ∷ codes "compact_below" ∷ codes "queue" ∷ codes "nodes" ∷ codes "hash_bits" ∷ codes "sync_writes" ∷ codes "mode" ∷ codes "behind_limit"
    ∷ codes "max_entries" ∷ codes "pump" ∷ codes "preload" ∷ codes "publish" ∷ codes "activation" ∷ []

-- each key of a table is one of these names
abbrev pub has_only : List (List ℕ) → Members → Bool
has_only names no_members = true
has_only names (member key value rest) = list_any (λ name. bytes_eq name key) names && has_only names rest

-- A table gives each of these settings: its name, how its value reads, the standard one, and it.
pub record GivesEach (standard : Settings) (table : Members) (settings : Settings) : Type 0 where
  pub file_size : Gives table (codes "file_size") (whole 4096 16777216) standard.file_size settings.file_size
  pub compact_below : Gives table (codes "compact_below") (whole 1 99) standard.compact_below settings.compact_below
  pub queue : Gives table (codes "queue") (whole 1 65536) standard.queue settings.queue
  pub nodes : Gives table (codes "nodes") (whole 8 65536) standard.nodes settings.nodes
  pub hash_bits : Gives table (codes "hash_bits") (whole 0 32) standard.hash_bits settings.hash_bits
  pub sync_writes : Gives table (codes "sync_writes") truth standard.sync_writes settings.sync_writes
  pub mode : Gives table (codes "mode") (one_of modes) standard.mode settings.mode
  pub behind_limit : Gives table (codes "behind_limit") (whole 1 65536) standard.behind_limit settings.behind_limit
  pub max_entries : Gives table (codes "max_entries") (whole 1 1000000) standard.max_entries settings.max_entries
  pub pump : Gives table (codes "pump") (whole 0 1000) standard.pump settings.pump
  pub preload : Gives table (codes "preload") truth standard.preload settings.preload
  pub publish : Gives table (codes "publish") (string_up_to 1024) standard.publish settings.publish
  pub activation : Gives table (codes "activation") (one_of activations) standard.activation settings.activation

-- What isn't built yet is at its standard setting. All other settings are in force: file_size, compact_below, queue,
-- hash_bits, sync_writes and pump.
pub record AreInForce (standard settings : Settings) : Type 0 where
  pub nodes : settings.nodes ≡ standard.nodes
  pub mode : settings.mode ≡ standard.mode
  pub behind_limit : settings.behind_limit ≡ standard.behind_limit
  pub max_entries : settings.max_entries ≡ standard.max_entries
  pub preload : settings.preload ≡ standard.preload
  pub publish : settings.publish ≡ standard.publish
  pub activation : settings.activation ≡ standard.activation

-- A table gives these settings, has no other keys, and asks for nothing that isn't built yet.
pub record GivesSettings (standard : Settings) (table : Members) (settings : Settings) : Type 0 where
  pub names : has_only setting_names table ≡ true
  pub each : GivesEach standard table settings
  pub in_force : AreInForce standard settings

-- The bytes are a settings file with these settings: a TOML document of at most 4,096 bytes that gives them.
pub record IsSettingsFile (bytes : List ℕ) (settings : Settings) : Type 0 where
  pub short : length bytes ≤ 4096
  pub text : IsUtf8 bytes
  pub table : Members
  pub document : parse_document bytes ≡ Some table
  pub gives : GivesSettings default_settings table settings
