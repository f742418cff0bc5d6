-- Files that the program doesn't know how to open yet.
use Rattle.std.specs.Prelude.{◌≡◌, Bool, true, false, List, IsSome}
use Rattle.std.specs.List.{list_any}
use Rattle.cache_model.specs.declared.files.FileKind.{FileKind}
use Rattle.cache_model.specs.declared.files.FileKind.TheVariants.{Rules, Log, Tree, Base}
use Rattle.cache_model.specs.declared.files.FileName.{FileName}
use Rattle.cache_model.specs.Files.{Image, file_in}

-- whether a file of this kind is an index or a base file
abbrev pub is_foreign_kind : FileKind → Bool
is_foreign_kind Rules = false
is_foreign_kind Log = false
is_foreign_kind Tree = true
is_foreign_kind Base = true

-- whether an index or a base file is among these
abbrev pub has_foreign : List FileName → Bool
has_foreign names = list_any (λ name. is_foreign_kind name.kind) names

-- an index or a base file is there
abbrev pub IsForeign : Image → Type 0
IsForeign files = (name : FileName) × IsSome (file_in files name) × (is_foreign_kind name.kind ≡ true)
