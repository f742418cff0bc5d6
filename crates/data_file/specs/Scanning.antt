-- What a scan of a file has still to give.
use Rattle.std.specs.Prelude.{◌≡◌, ℕ, ◌+◌, ◌-◌, ◌≤◌, Bool, true, false, List, length, drop, Option, Result, IfOk, OnOk, IsErrOf, MatchOption}
use Rattle.cache_model.specs.declared.files.FileName.{FileName}
use Rattle.cache_model.specs.declared.faults.Damage.{Damage}
use Rattle.cache_model.specs.declared.faults.StoreFault.{StoreFault}
use Rattle.cache_model.specs.declared.faults.StoreFault.TheVariants.{Damaged}
use Rattle.cache_model.specs.Files.{bytes_in}
use Rattle.cache_disk.specs.State.{HostState, Stands}
use Rattle.cache_model.specs.Items.{Item, put, removal, end, IsItem, spelling}
use Rattle.cache_model.specs.DataFiles.{Found, nothing, damaged, and_then, found_at_gate, found_within, found_in}
use Rattle.record_format.specs.Meaning.{own_item}
use Rattle.data_file.specs.declared.scan.Stage.{Stage}
use Rattle.data_file.specs.declared.scan.Stage.TheVariants.{Front, Item as DueItem, Gate, End}
use Rattle.data_file.specs.declared.scan.Scanned.{Scanned}
use Rattle.data_file.specs.declared.scan.Scan.{Scan}
use Rattle.data_file.specs.Windows.{known_to, ShowsFile, AsksFor}

-- the file that it reads
abbrev pub scanned_name : Scan → FileName
scanned_name scan = scan.window.name

-- it may be used no more
abbrev pub is_spoilt : Scan → Bool
is_spoilt scan = scan.spoilt

-- how many bytes of the file lie behind its offset
abbrev pub left_of : Scan → ℕ
left_of scan = scan.window.size - scan.window.at

-- up to which offset the file was read
abbrev pub read_to : Scan → ℕ
read_to scan = known_to scan.window

-- what is found from an offset on within a counted frame, where these bytes stand there
abbrev pub found_from : ℕ → List ℕ → Found
found_from at bytes = found_within (length bytes + 1) at bytes

-- what is found from an offset of a file on, by what is due there
abbrev pub found_due : Stage → ℕ → List ℕ → Found
found_due Front at file = found_in file
found_due DueItem at file = found_from at (drop at file)
found_due Gate at file = found_at_gate (λ next rest. found_from next rest) at (drop at file)
found_due End at file = nothing

-- What the scan has still to give of a file with these bytes: the items that are left, each with its offset, and the
-- first damage.
abbrev pub rest_of : Scan → List ℕ → Found
rest_of scan file = found_due scan.stage scan.window.at file

-- what is due behind an item
abbrev pub stage_behind : Item → Stage
stage_behind (put seq until key value) = DueItem
stage_behind (removal seq key) = DueItem
stage_behind (end moment) = Gate

-- It scans a file with these bytes.
pub record IsScanOf (scan : Scan) (file : List ℕ) : Type 0 where
  pub shows : ShowsFile scan.window file
  pub front : scan.stage ≡ Front → scan.window.at ≡ 0

-- a new scan scans every file of that size, and has all of it to give
abbrev pub Begins : ℕ → Scan → Type 0
Begins size scan = (file : List ℕ) → length file ≡ size → IsScanOf scan file × (rest_of scan file ≡ found_in file)

-- an item with its place is within its limits
pub record IsGiven (name : FileName) (one : Scanned) : Type 0 where
  pub item : IsItem (own_item one.item)
  pub file : one.place.file ≡ name.id
  pub long : one.place.length ≡ length (spelling (own_item one.item))

-- a fault that names damage names the first damage of what was left
pub record NamesDamage {T : Type 0} (name : FileName) (rest : Found) (result : Result T StoreFault) : Type 0 where
  pub file : (damage : Damage) → IsErrOf result (Damaged damage) → damage.file ≡ name
  pub first : (damage : Damage) → IsErrOf result (Damaged damage) → rest ≡ damaged damage.at damage.kind

-- What was given is the first item of what was left, and the rest is still to give; or nothing was left.
pub record HasGiven (old new : Scan) (file : List ℕ) (result : Result (Option Scanned) StoreFault) : Type 0 where
  pub scans : OnOk result (IsScanOf new file)
  pub given : IfOk result (λ found. MatchOption found ((rest_of old file ≡ nothing) × (rest_of new file ≡ nothing)) (λ one. rest_of old file ≡ and_then (one.place.at, own_item one.item) (rest_of new file)))
  pub damage : NamesDamage (scanned_name old) (rest_of old file) result

-- What a call of `next` does to a scan of a file: nothing but reading on, no byte is asked for twice, and it gives the next item.
pub record HasGoneOn (old new : Scan) (before after : HostState) (result : Result (Option Scanned) StoreFault) : Type 0 where
  pub stands : Stands before after
  -- the offset up to which the file was read doesn't fall
  pub reads : read_to old ≤ read_to new
  -- what was asked for is what was read
  pub asked : OnOk result (AsksFor before after (read_to new - read_to old))
  -- it is a scan of the same file
  pub scans : OnOk result (IsScanOf new (bytes_in after.files (scanned_name old)))
  pub given : HasGiven old new (bytes_in before.files (scanned_name old)) result

-- The item that was due was found, and what stands behind it is still to give.
pub record HasFound (old new : Scan) (file : List ℕ) (result : Result Scanned StoreFault) : Type 0 where
  pub scans : OnOk result (IsScanOf new file)
  pub given : IfOk result (λ one. rest_of old file ≡ and_then (one.place.at, own_item one.item) (rest_of new file))
  pub damage : NamesDamage (scanned_name old) (rest_of old file) result

-- A gate that was due was passed, where it is open: an item is due, or nothing more is counted.
pub record HasPassed (old new : Scan) (file : List ℕ) (result : Result Bool StoreFault) : Type 0 where
  pub scans : OnOk result (IsScanOf new file)
  pub rest : OnOk result (rest_of new file ≡ rest_of old file)
  pub due : IfOk result (λ is_due. (is_due ≡ true → new.stage ≡ DueItem) × (is_due ≡ false → new.stage ≡ End))
  pub damage : NamesDamage (scanned_name old) (rest_of old file) result
