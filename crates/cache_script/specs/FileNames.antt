-- The texts of the names of files.
use Rattle.std.specs.Prelude.{ℕ, ◌-◌, ◌^◌, List, ◌++◌, codes, false, []}
use Rattle.std.specs.Fmt.{decimal, padded_integral, format_spec}
use Rattle.cache_model.specs.declared.files.FileKind.{FileKind}
use Rattle.cache_model.specs.declared.files.FileKind.TheVariants.{Rules, Log, Tree, Base}
use Rattle.cache_model.specs.declared.files.FileName.{FileName}

-- a number in ten digits
abbrev pub in_ten_digits : ℕ → List ℕ
in_ten_digits n = padded_integral (format_spec 32 0 4 10 (2 ^ 64 - 1)) false [] (decimal n)

-- the name of this kind, store and id
abbrev pub name_of : FileKind → ℕ → ℕ → FileName
name_of kind store id = record { kind = kind; store = store; id = id }

-- what follows the letter `s` in the text of a data file of this store, whose id has these digits
abbrev pub after_s : ℕ → List ℕ → List ℕ
after_s store digits = decimal store ++ (codes "-" ++ (digits ++ codes ".log"))

-- the text of a data file of this store, whose id has these digits
abbrev pub log_text_of : ℕ → List ℕ → List ℕ
log_text_of store digits = codes "s" ++ after_s store digits

-- the text of a file of this kind, store and id
abbrev pub text_by_kind : FileKind → ℕ → ℕ → List ℕ
text_by_kind Rules store id = codes "cache.toml"
text_by_kind Log store id = log_text_of store (in_ten_digits id)
text_by_kind Tree store id = codes "s" ++ decimal store ++ codes ".tree"
text_by_kind Base store id = codes "base" ++ decimal store ++ codes ".dat"

-- the text of a file's name
abbrev pub text_of : FileName → List ℕ
text_of name = text_by_kind name.kind name.store name.id
