-- The changes of one key by a run of commands.
use Rattle.std.specs.Prelude.{ℕ, zero, suc, List, [], ◌∷◌, ◌++◌, Option, Some, None, if◌then◌else◌}
use Rattle.std.specs.List.{list_any}
use Rattle.std.specs.Str.{bytes_eq}
use Rattle.cache_model.specs.declared.entries.Entry.{Entry}
use Rattle.cache_model.specs.declared.commands.Command.{Command}
use Rattle.cache_model.specs.Plain.{Plain, Effect, nothing, puts, removes, effect_of, plain_after}

-- A change of a key puts an entry, or takes the key's entry away.
abbrev pub KeyChange : Type 0
KeyChange = Option Entry

-- the changes of a key by one effect: one at the most
abbrev pub changes_by : Effect → List ℕ → List KeyChange
changes_by nothing key = []
changes_by (puts changed entry) key = if bytes_eq key changed then Some entry ∷ [] else []
changes_by (removes keys) key = if list_any (bytes_eq key) keys then None ∷ [] else []

-- the changes of a key by commands that are done in turn
abbrev pub changes_of : Plain → List Command → List ℕ → List KeyChange
changes_of plain [] key = []
changes_of plain (command ∷ commands) key = changes_by (effect_of plain command) key ++ changes_of (plain_after plain command) commands key

-- the entry of a key, or none, that had this one at first and then so many of these changes
abbrev pub entry_after : Option Entry → List KeyChange → ℕ → Option Entry
entry_after first changes zero = first
entry_after first [] (suc count) = first
entry_after first (change ∷ changes) (suc count) = entry_after change changes count
