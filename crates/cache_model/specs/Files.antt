-- Names of files, and what a directory holds.
use Rattle.std.specs.Prelude.{◌≡◌, ℕ, ◌≤◌, ◌==◌, ◌&&◌, Bool, List, Option, unwrap_or, []}
use Rattle.std.specs.Map.{lookup}
use Rattle.cache_model.specs.declared.files.FileKind.{FileKind}
use Rattle.cache_model.specs.declared.files.FileKind.TheVariants.{Rules, Log, Tree, Base}
use Rattle.cache_model.specs.declared.files.FileName.{FileName}

-- which kinds of file there are, as numbers in their order
abbrev pub kind_number : FileKind → ℕ
kind_number Rules = 0
kind_number Log = 1
kind_number Tree = 2
kind_number Base = 3

-- the stores and ids that a file of this kind may have
abbrev pub IsInRange : FileKind → ℕ → ℕ → Type 0
IsInRange Rules store id = (store ≡ 0) × (id ≡ 0)
IsInRange Log store id = (1 ≤ id) × (id ≤ 4294967294)
IsInRange Tree store id = id ≡ 0
IsInRange Base store id = (store ≤ 1) × (id ≡ 0)

-- a name that a file of the directory may have
abbrev pub IsFileName : FileName → Type 0
IsFileName name = IsInRange name.kind name.store name.id

-- whether two names are the same
abbrev pub is_name : FileName → FileName → Bool
is_name one other = (kind_number one.kind == kind_number other.kind) && (one.store == other.store) && (one.id == other.id)

-- what a directory holds: the bytes of each file by its name
abbrev pub Image : Type 0
Image = List (FileName × List ℕ)

-- the bytes of a file, where the image has it
abbrev pub file_in : Image → FileName → Option (List ℕ)
file_in image name = lookup (is_name name) image

-- the bytes of a file, none where the image doesn't have it
abbrev pub bytes_in : Image → FileName → List ℕ
bytes_in image name = unwrap_or (file_in image name) []
