-- What calls do to the files of a directory.
use Rattle.std.specs.Prelude.{ℕ, Bool, true, false, not, ◌&&◌, ◌||◌, nat_le, ◌==◌, List, [], ◌∷◌, ◌++◌, length, if◌then◌else◌}
use Rattle.std.specs.List.{filter}
use Rattle.std.specs.Map.{set_value}
use Rattle.cache_model.specs.declared.files.FileKind.{FileKind}
use Rattle.cache_model.specs.declared.files.FileKind.TheVariants.{Rules, Log, Tree, Base}
use Rattle.cache_model.specs.declared.files.FileName.{FileName}
use Rattle.cache_model.specs.Files.{Image, bytes_in, is_name}
use Rattle.cache_disk.specs.Calls.{overwritten}

-- whether the store and the id are in the range of the kind
abbrev pub is_in_range : FileKind → ℕ → ℕ → Bool
is_in_range Rules store id = (store == 0) && (id == 0)
is_in_range Log store id = nat_le 1 id && nat_le id 4294967294
is_in_range Tree store id = id == 0
is_in_range Base store id = nat_le store 1 && (id == 0)

-- whether a file of the directory may have the name
abbrev pub is_file_name : FileName → Bool
is_file_name name = is_in_range name.kind name.store name.id

-- whether the directory has the file
abbrev pub has_file : Image → FileName → Bool
has_file [] name = false
has_file (file ∷ files) name = is_name name file.0 || has_file files name

-- whether no two files have one name, and each name is a file's
abbrev pub are_named_apart : Image → Bool
are_named_apart [] = true
are_named_apart (file ∷ files) = is_file_name file.0 && not (has_file files file.0) && are_named_apart files

-- the files without this one
abbrev pub without : FileName → Image → Image
without name files = filter (λ file. not (is_name name file.0)) files

-- the files with this one, which is empty
abbrev pub made : FileName → Image → Image
made name files = without name files ++ (name, []) ∷ []

-- the bytes with others in their place from an offset on, where that isn't above their length
abbrev pub written_over : List ℕ → ℕ → List ℕ → List ℕ
written_over old at bytes = if nat_le at (length old) then overwritten old at bytes else old

-- the files, of which this one, where it is there, is written over
abbrev pub written : FileName → ℕ → List ℕ → Image → Image
written name at bytes files = set_value (is_name name) files (written_over (bytes_in files name) at bytes)
