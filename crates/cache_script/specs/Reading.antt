-- What is read of a line.
use Rattle.std.specs.Prelude.{◌≡◌, ◌⊎◌, Bool, true, false, IsTrue, Result, Ok, Err, IsErrAnd}
use Rattle.cache_model.specs.declared.commands.Command.{Command}
use Rattle.cache_model.specs.declared.commands.Command.TheVariants.{Put, PutAbsent, Replace, ReplaceIf, Get, Has, Remove, RemoveIf, Evict}
use Rattle.cache_model.specs.Lines.{LineMeaning, asks, refuses}
use Rattle.cache_script.specs.declared.faults.LineFault.{LineFault}
use Rattle.cache_script.specs.declared.faults.LineFault.TheVariants.{Memory}
use Rattle.cache_script.specs.Refusals.{refusal_of}

-- whether a command names a key
abbrev pub names_key : Command → Bool
names_key (Put key value lifespan) = true
names_key (PutAbsent key value lifespan) = true
names_key (Replace key value lifespan) = true
names_key (ReplaceIf key old value lifespan) = true
names_key (Get key) = true
names_key (Has key) = true
names_key (Remove key) = true
names_key (RemoveIf key old) = true
names_key (Evict key) = true
names_key command = false

-- What a line means is read of it: its refusal exactly, or its command, for which memory may be wanted where it names
-- a key.
abbrev pub Reads : LineMeaning → Result Command LineFault → Type 0
Reads (asks command) result = (result ≡ Ok command) ⊎ ((result ≡ Err Memory) × IsTrue (names_key command))
Reads (refuses refusal) result = IsErrAnd result (λ fault. refusal_of fault ≡ refusal)
