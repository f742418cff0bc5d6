-- Names of files: what is the same name, and that a directory is asked by the name alone.
use Rattle.std.proofs.Common.{◌≡◌, ℕ, true, refl, ◌∙◌, ap, arith}
use Rattle.std.proofs.lemmas.Bool.Decides.{nat_tests}
use Rattle.cache_model.specs.declared.files.FileKind.{FileKind}
use Rattle.cache_model.specs.declared.files.FileKind.TheVariants.{Rules, Log, Tree, Base}
use Rattle.cache_model.specs.declared.files.FileName.{FileName}
use Rattle.cache_model.specs.Files.{kind_number, is_name, Image, file_in}

-- each kind has its own number
pub same_kind : (a b : FileKind) → kind_number a ≡ kind_number b → a ≡ b
same_kind Rules Rules e = refl
same_kind Rules Log e = cc
same_kind Rules Tree e = cc
same_kind Rules Base e = cc
same_kind Log Rules e = cc
same_kind Log Log e = refl
same_kind Log Tree e = cc
same_kind Log Base e = cc
same_kind Tree Rules e = cc
same_kind Tree Log e = cc
same_kind Tree Tree e = refl
same_kind Tree Base e = cc
same_kind Base Rules e = cc
same_kind Base Log e = cc
same_kind Base Tree e = cc
same_kind Base Base e = refl

-- a name is the same as itself
pub is_name-same : (a : FileName) → is_name a a ≡ true
is_name-same a = grind (arith, nat_tests)

-- names that are the same are equal
pub same_name : (a b : FileName) → is_name a b ≡ true → a ≡ b
same_name a b is =
    let kinds : kind_number a.kind ≡ kind_number b.kind = grind (arith, nat_tests) in
    let stores : a.store ≡ b.store = grind (arith, nat_tests) in
    let ids : a.id ≡ b.id = grind (arith, nat_tests) in
    let made : FileKind → ℕ → ℕ → FileName = λ kind store id. record { kind = kind; store = store; id = id } in
    ap (λ (kind : FileKind). made kind a.store a.id) (same_kind a.kind b.kind kinds)
    ∙ ap (λ (store : ℕ). made b.kind store a.id) stores
    ∙ ap (λ (id : ℕ). made b.kind b.store id) ids

-- it doesn't matter which of the two comes first
pub is_name_comm : (a b : FileName) → is_name a b ≡ is_name b a
is_name_comm a b = grind (arith, nat_tests)

-- the same name is asked for, so the answer is the same
pub file_in-same : (image : Image) (a b : FileName) → is_name a b ≡ true → file_in image a ≡ file_in image b
file_in-same image a b is = ap (λ (name : FileName). file_in image name) (same_name a b is)
