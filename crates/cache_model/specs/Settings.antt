-- The settings of a session.
use Rattle.std.specs.Prelude.{◌≤◌, true, false, [], length}
use Rattle.cache_model.specs.declared.settings.Settings.{Settings}
use Rattle.cache_model.specs.declared.settings.Mode.TheVariants.{Through}
use Rattle.cache_model.specs.declared.settings.Activation.TheVariants.{Keep}

-- the settings where there is no settings file
abbrev pub default_settings : Settings
default_settings = record {
  file_size = 16777216;
  compact_below = 50;
  queue = 1000;
  nodes = 64;
  hash_bits = 32;
  sync_writes = true;
  mode = Through;
  behind_limit = 1024;
  max_entries = 1000;
  pump = 1;
  preload = false;
  publish = [];
  activation = Keep;
}

-- The numbers of settings are in their ranges, and the prefix isn't longer than one may be.
pub record AreInRange (settings : Settings) : Type 0 where
  pub file_size : (4096 ≤ settings.file_size) × (settings.file_size ≤ 16777216)
  pub compact_below : (1 ≤ settings.compact_below) × (settings.compact_below ≤ 99)
  pub queue : (1 ≤ settings.queue) × (settings.queue ≤ 65536)
  pub nodes : (8 ≤ settings.nodes) × (settings.nodes ≤ 65536)
  pub hash_bits : settings.hash_bits ≤ 32
  pub behind_limit : (1 ≤ settings.behind_limit) × (settings.behind_limit ≤ 65536)
  pub max_entries : (1 ≤ settings.max_entries) × (settings.max_entries ≤ 1000000)
  pub pump : settings.pump ≤ 1000
  pub publish : length settings.publish ≤ 1024
