-- What the faults of lines mean.
use Rattle.cache_model.specs.Replies.{Refusal, syntax, key_length, value_length, ttl, memory}
use Rattle.cache_script.specs.declared.faults.LineFault.{LineFault}
use Rattle.cache_script.specs.declared.faults.LineFault.TheVariants.{Syntax, Key, Value, Ttl, Memory}

-- the refusal that a fault stands for
abbrev pub refusal_of : LineFault → Refusal
refusal_of Syntax = syntax
refusal_of (Key n) = key_length n
refusal_of (Value n) = value_length n
refusal_of Ttl = ttl
refusal_of Memory = memory
