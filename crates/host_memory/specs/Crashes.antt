-- How an image is built that a crash may leave: turn by turn, with an eye on the turns to come.
use Rattle.std.specs.Prelude.{◌≡◌, ℕ, ◌⊎◌, Bool, true, false, ◌||◌, cond, List, [], ◌∷◌, length, IsTrue}
use Rattle.std.specs.Map.{set_value}
use Rattle.cache_model.specs.declared.files.FileName.{FileName}
use Rattle.cache_model.specs.Files.{Image, bytes_in, is_name}
use Rattle.cache_disk.specs.Calls.{Torn}
use Rattle.host_memory.specs.declared.turns.Call.{Call}
use Rattle.host_memory.specs.declared.turns.Call.TheVariants.{Create, Write, Sync, Delete, SyncNames, Say}
use Rattle.host_memory.specs.declared.turns.Turn.{Turn}
use Rattle.host_memory.specs.Files.{is_file_name, made, written, without}

-- whether a call settles the names, where it isn't known from what comes later
abbrev pub names_settled_by : Call → Bool → Bool
names_settled_by (Create name) later = later
names_settled_by (Write name at bytes) later = later
names_settled_by (Sync name ok) later = later
names_settled_by (Delete name) later = later
names_settled_by (SyncNames ok) later = ok || later
names_settled_by (Say bytes ok) later = later

-- whether a sync of the names succeeds in these turns
abbrev pub names_settle : List Turn → Bool
names_settle [] = false
names_settle (turn ∷ turns) = names_settled_by turn.call (names_settle turns)

-- whether a call settles a file, where it isn't known from what comes later
abbrev pub settled_by : FileName → Call → Bool → Bool
settled_by name (Create other) later = cond (is_name other name) false later
settled_by name (Write other at bytes) later = later
settled_by name (Sync other ok) later = cond (is_name other name) (ok || later) later
settled_by name (Delete other) later = cond (is_name other name) false later
settled_by name (SyncNames ok) later = later
settled_by name (Say bytes ok) later = later

-- whether a sync of the file succeeds in these turns, before it is made or deleted
abbrev pub settles : FileName → List Turn → Bool
settles name [] = false
settles name (turn ∷ turns) = settled_by name turn.call (settles name turns)

-- What the image becomes by a call, where these turns come next: what a sync will promise is as it reads, and the
-- rest is free.
abbrev pub Crashes : List Turn → Call → Image → Image → Type 0
Crashes turns (Create name) old new = (new ≡ made name old) ⊎ ((names_settle turns ≡ false) × (new ≡ without name old))
Crashes turns (Write name at bytes) old new = (new ≡ written name at bytes.items old)
    ⊎ ((settles name turns ≡ false) × (w : List ℕ) × Torn at (length bytes.items) (bytes_in old name) w × (new ≡ set_value (is_name name) old w))
Crashes turns (Sync name ok) old new = new ≡ old
Crashes turns (Delete name) old new = (new ≡ without name old) ⊎ ((names_settle turns ≡ false) × (settles name turns ≡ false) × (new ≡ old))
Crashes turns (SyncNames ok) old new = new ≡ old
Crashes turns (Say bytes ok) old new = new ≡ old

-- whether what a call makes has a file's name
abbrev pub is_well_named : Call → Bool
is_well_named (Create name) = is_file_name name
is_well_named (Write name at bytes) = true
is_well_named (Sync name ok) = true
is_well_named (Delete name) = true
is_well_named (SyncNames ok) = true
is_well_named (Say bytes ok) = true

-- each turn's call is
abbrev pub AreWellNamed : List Turn → Type 0
AreWellNamed [] = Unit {0}
AreWellNamed (turn ∷ turns) = IsTrue (is_well_named turn.call) × AreWellNamed turns
