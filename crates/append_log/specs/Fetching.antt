-- What a log says of what it fetched.
use Rattle.std.specs.Prelude.{◌≡◌, Bool, true, false, Result, Ok, Err, IfOk, IsErrOf}
use Rattle.cache_model.specs.declared.faults.StoreFault.{StoreFault}
use Rattle.cache_model.specs.declared.faults.StoreFault.TheVariants as fault
use Rattle.cache_model.specs.declared.faults.Damage.{Damage}
use Rattle.cache_model.specs.Items.{Item}
use Rattle.record_format.specs.declared.items.OwnItem.{OwnItem}
use Rattle.record_format.specs.Meaning.{own_item}
use Rattle.append_log.specs.declared.log_files.LogFiles.{LogFiles}

-- whether an answer spoils the log: each but Ok and Memory
abbrev pub spoils_log : Result OwnItem StoreFault → Bool
spoils_log (Ok item) = false
spoils_log (Err fault.Failed) = true
spoils_log (Err fault.Memory) = false
spoils_log (Err (fault.Spent s)) = true
spoils_log (Err (fault.Damaged d)) = true

-- a log that is spoilt so, and otherwise stays as it is
abbrev pub with_spoilt : LogFiles → Bool → LogFiles
with_spoilt files spoilt = record files { spoilt = spoilt }

-- a fetch gives this record
abbrev pub Gives : Item → Result OwnItem StoreFault → Type 0
Gives item result = IfOk result (λ given. own_item given ≡ item) × ((d : Damage) → IsErrOf result (fault.Damaged d) → ⊥)
