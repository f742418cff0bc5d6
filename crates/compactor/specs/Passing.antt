-- How the records of a data file are read one after another.
use Rattle.std.specs.Prelude.{◌≡◌, ℕ, List, [], ◌∷◌, filter, Option, None, Result, IfOk, OnOk, IsErrOf, MatchOption}
use Rattle.cache_model.specs.declared.faults.Damage.{Damage}
use Rattle.cache_model.specs.declared.faults.StoreFault.{StoreFault}
use Rattle.cache_model.specs.declared.faults.StoreFault.TheVariants as fault
use Rattle.cache_model.specs.Files.{bytes_in}
use Rattle.cache_model.specs.Items.{Item}
use Rattle.cache_model.specs.DataFiles.{Found}
use Rattle.cache_disk.specs.State.{HostState, Stands}
use Rattle.record_format.specs.Meaning.{own_item}
use Rattle.data_file.specs.declared.scan.Scan.{Scan}
use Rattle.data_file.specs.declared.scan.Scanned.{Scanned}
use Rattle.data_file.specs.Scanning.{IsScanOf, rest_of, scanned_name}
use Rattle.compactor.specs.Recounting.{is_record}

-- the records among what is found
abbrev pub records_in : Found → List (ℕ × Item)
records_in found = filter (λ one. is_record one.1) found.items

-- the records that a scan of a file with these bytes has still to give
abbrev pub records_left : Scan → List ℕ → List (ℕ × Item)
records_left scan file = records_in (rest_of scan file)

-- nothing that a scan has still to give is damaged
abbrev pub IsSoundRest : Scan → List ℕ → Type 0
IsSoundRest scan file = (rest_of scan file).damage ≡ None

-- The next record of a file was read, or it has none more: nothing else was done but reading on.
pub record Passes (old new : Scan) (a b : HostState) (result : Result (Option Scanned) StoreFault) : Type 0 where
  pub stands : Stands a b
  pub scans : OnOk result (IsScanOf new (bytes_in a.files (scanned_name old)))
  pub given : IfOk result (λ found. MatchOption found (records_left old (bytes_in a.files (scanned_name old)) ≡ [])
      (λ one. records_left old (bytes_in a.files (scanned_name old)) ≡ (one.place.at, own_item one.item) ∷ records_left new (bytes_in a.files (scanned_name old))))
  pub sound : IsSoundRest old (bytes_in a.files (scanned_name old)) → OnOk result (IsSoundRest new (bytes_in a.files (scanned_name old)))
  pub undamaged : IsSoundRest old (bytes_in a.files (scanned_name old)) → (d : Damage) → IsErrOf result (fault.Damaged d) → ⊥
