-- What saying does to a host.
use Rattle.std.specs.Prelude.{◌≡◌, ℕ, Bool, true, false, List, Result, Ok, Err}
use Rattle.cache_model.specs.declared.faults.StoreFault.{StoreFault}
use Rattle.cache_model.specs.declared.faults.StoreFault.TheVariants as fault
use Rattle.cache_model.specs.declared.replies.Status.{Status}
use Rattle.cache_model.specs.declared.replies.Status.TheVariants as status
use Rattle.cache_disk.specs.declared.host.HostFault.{HostFault}
use Rattle.cache_disk.specs.declared.host.HostFault.TheVariants.{Failed, Memory}
use Rattle.cache_disk.specs.State.{HostState}
use Rattle.cache_disk.specs.Calls.{Said}

-- what a run ends with where saying failed or wanted memory
abbrev pub say_status : HostFault → Status
say_status Failed = status.SayFailed
say_status Memory = status.NoMemory

-- the bytes were said, or the output failed or wanted memory
abbrev pub SaidBy : List ℕ → HostState → HostState → Result (Unit {0}) Status → Type 0
SaidBy bytes from to (Ok done) = Said bytes from to (Ok tt)
SaidBy bytes from to (Err ended) = (fault : HostFault) × Said bytes from to (Err fault) × (ended ≡ say_status fault)

-- what a fault of a store ends a run with
abbrev pub ended_by : StoreFault → Status
ended_by fault.Failed = status.DiskFailed
ended_by fault.Memory = status.NoMemory
ended_by (fault.Spent number) = status.Spent
ended_by (fault.Damaged damage) = status.Damaged

-- a fault that isn't damage
abbrev pub IsNoDamage : StoreFault → Type 0
IsNoDamage (fault.Damaged damage) = ⊥
IsNoDamage other = Unit {0}

-- whether a fault is want of memory
abbrev pub is_memory : StoreFault → Bool
is_memory fault.Memory = true
is_memory other = false
