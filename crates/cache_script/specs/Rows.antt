-- The kinds of commands, and what stands behind their names.
use Rattle.std.specs.Prelude.{ℕ, List}
use Rattle.cache_model.specs.declared.entries.Lifespan.{Lifespan}
use Rattle.cache_model.specs.declared.commands.Command.{Command}
use Rattle.cache_model.specs.declared.commands.Command.TheVariants as command
use Rattle.cache_model.specs.Lines.{Arguments, takes_nothing, takes_moment, takes_file, takes_none_or, takes_key, takes_key_value, takes_entry, takes_exchange, takes_step}
use Rattle.cache_script.specs.declared.rows.PutKind.{PutKind}
use Rattle.cache_script.specs.declared.rows.PutKind.TheVariants.{Put, PutAbsent, Replace}
use Rattle.cache_script.specs.declared.rows.KeyKind.{KeyKind}
use Rattle.cache_script.specs.declared.rows.KeyKind.TheVariants.{Get, Has, Remove}
use Rattle.cache_script.specs.declared.rows.SoleKind.{SoleKind}
use Rattle.cache_script.specs.declared.rows.SoleKind.TheVariants.{Size, Keys, Clear, Sync, Stats, Stop, Halt}
use Rattle.cache_script.specs.declared.rows.Row.{Row}
use Rattle.cache_script.specs.declared.rows.Row.TheVariants as row

-- the command of each kind that puts a value under a key
abbrev pub put_command : PutKind → List ℕ → List ℕ → Lifespan → Command
put_command Put key value lifespan = command.Put key value lifespan
put_command PutAbsent key value lifespan = command.PutAbsent key value lifespan
put_command Replace key value lifespan = command.Replace key value lifespan

-- the command of each kind that has a key alone
abbrev pub key_command : KeyKind → List ℕ → Command
key_command Get key = command.Get key
key_command Has key = command.Has key
key_command Remove key = command.Remove key

-- the command of each kind that stands alone
abbrev pub sole_command : SoleKind → Command
sole_command Size = command.Size
sole_command Keys = command.Keys
sole_command Clear = command.Clear
sole_command Sync = command.Sync
sole_command Stats = command.Stats
sole_command Stop = command.Stop
sole_command Halt = command.Halt

-- how the words behind a name are read
abbrev pub row_arguments : Row → Arguments
row_arguments row.Moment = takes_moment command.At
row_arguments row.Compact = takes_none_or command.CompactAll (takes_file command.CompactFile)
row_arguments (row.Put kind) = takes_entry (put_command kind)
row_arguments row.Exchange = takes_exchange command.ReplaceIf
row_arguments (row.Key kind) = takes_key (key_command kind)
row_arguments row.RemoveIf = takes_key_value command.RemoveIf
row_arguments row.Step = takes_step
row_arguments (row.Sole kind) = takes_nothing (sole_command kind)
