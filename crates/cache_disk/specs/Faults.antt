-- What a fault of the host is to a layer above it.
use Rattle.cache_model.specs.declared.faults.StoreFault.{StoreFault}
use Rattle.cache_model.specs.declared.faults.StoreFault.TheVariants as fault
use Rattle.cache_disk.specs.declared.host.HostFault.{HostFault}
use Rattle.cache_disk.specs.declared.host.HostFault.TheVariants.{Failed, Memory}

-- the same fault
abbrev pub store_fault : HostFault → StoreFault
store_fault Failed = fault.Failed
store_fault Memory = fault.Memory
