-- The limits of the numbers in a command, and which commands lines can ask for.
use Rattle.std.specs.Prelude.{◌<◌, ◌^◌}
use Rattle.cache_model.specs.declared.entries.Lifespan.{Lifespan}
use Rattle.cache_model.specs.declared.entries.Lifespan.TheVariants.{Endless, Of}
use Rattle.cache_model.specs.declared.commands.Command.{Command}
use Rattle.cache_model.specs.declared.commands.Command.TheVariants.{At, Put, PutAbsent, Replace, ReplaceIf, Evict, Export}

-- a lifespan is endless, or below 2^61
abbrev pub IsLifespan : Lifespan → Type 0
IsLifespan Endless = Unit {0}
IsLifespan (Of units) = units < 2 ^ 61

-- a command whose moment or lifespan, where it has one, is below 2^61
abbrev pub IsCommand : Command → Type 0
IsCommand (At moment) = moment < 2 ^ 61
IsCommand (Put key value lifespan) = IsLifespan lifespan
IsCommand (PutAbsent key value lifespan) = IsLifespan lifespan
IsCommand (Replace key value lifespan) = IsLifespan lifespan
IsCommand (ReplaceIf key old value lifespan) = IsLifespan lifespan
IsCommand command = Unit {0}

-- the commands that lines can ask for
abbrev pub HasLine : Command → Type 0
HasLine (Evict key) = ⊥
HasLine Export = ⊥
HasLine command = Unit {0}
