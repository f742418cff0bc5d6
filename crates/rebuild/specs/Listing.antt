-- The data files of a directory, and what a crash leaves of them.
use Rattle.std.specs.Prelude.{◌≡◌, ◌⊎◌, ℕ, ◌-◌, ◌<◌, ◌≤◌, ◌==◌, List, length, take, Option, Some, None, if◌then◌else◌, slice_index, Contains, All}
use Rattle.cache_model.specs.declared.faults.BadKind.{BadKind}
use Rattle.cache_model.specs.declared.faults.Damage.{Damage}
use Rattle.cache_model.specs.declared.files.FileKind.{FileKind}
use Rattle.cache_model.specs.declared.files.FileKind.TheVariants.{Rules, Log, Tree, Base}
use Rattle.cache_model.specs.declared.files.FileName.{FileName}
use Rattle.cache_model.specs.Files.{Image, file_in, bytes_in}
use Rattle.cache_model.specs.DataFiles.{first_damage, IsUndamaged}
use Rattle.cache_model.specs.Images.{log_name, IsFirstDamage}

-- the number of a file of this kind, where it is a data file of the main store
abbrev pub number_by : FileKind → ℕ → ℕ → Option ℕ
number_by Rules store id = None
number_by Log store id = if store == 0 then Some id else None
number_by Tree store id = None
number_by Base store id = None

-- the number of a file, where it is a data file of the main store
abbrev pub number_in : FileName → Option ℕ
number_in name = number_by name.kind name.store name.id

-- a number that a data file may have
abbrev pub IsNumber : ℕ → Type 0
IsNumber n = (1 ≤ n) × (n ≤ 4294967294)

-- One above the greatest of these numbers, or 1 where there is none.
pub record IsBehind (numbers : List ℕ) (number : ℕ) : Type 0 where
  pub above : All (λ n. n < number) numbers
  pub reached : (number ≡ 1) ⊎ Contains numbers (number - 1)

-- an image has each of these data files as it is here, or doesn't have it
abbrev pub IsSettledAll : List ℕ → Image → Image → Type 0
IsSettledAll numbers files image = (n : ℕ) → Contains numbers n → (file_in image (log_name n) ≡ None) ⊎ (file_in image (log_name n) ≡ file_in files (log_name n))

-- an image has the same data files of the main store
abbrev pub SameLogs : Image → Image → Type 0
SameLogs files image = (n : ℕ) → file_in image (log_name n) ≡ file_in files (log_name n)

-- these data files are undamaged
abbrev pub AreUndamaged : Image → List ℕ → Type 0
AreUndamaged files numbers = (n : ℕ) → Contains numbers n → IsUndamaged (bytes_in files (log_name n))

-- A fault names the first damage that was found of the data file with this number.
pub record NamesDamageOf (number : ℕ) (found : Option (ℕ × BadKind)) (damage : Damage) : Type 0 where
  pub file : damage.file ≡ log_name number
  pub is : found ≡ Some (damage.at, damage.kind)

-- A fault names the first damage of one of these data files, and those before it are undamaged.
pub record IsDamageAmong (files : Image) (numbers : List ℕ) (damage : Damage) : Type 0 where
  pub index : ℕ
  pub within : index < length numbers
  pub names : NamesDamageOf (slice_index numbers index) (first_damage (bytes_in files (log_name (slice_index numbers index)))) damage
  pub before : AreUndamaged files (take index numbers)

-- a fault names the first damage of the files
abbrev pub IsFirstDamageOf : Image → Damage → Type 0
IsFirstDamageOf files damage = (damage.file ≡ log_name damage.file.id) × IsFirstDamage files damage.file.id damage.at damage.kind
