-- `is_name` tells names apart.
use Rattle.std.proofs.Common.{◌≡◌, ◌∙◌, ap, refl, ℕ, true, arith}
use Rattle.std.specs.Cmp.{IsEquivalence}
use Rattle.std.proofs.lemmas.Grind.{common_steps}
use Rattle.cache_model.specs.declared.files.FileKind.{FileKind}
use Rattle.cache_model.specs.declared.files.FileKind.TheVariants.{Rules, Log, Tree, Base}
use Rattle.cache_model.specs.declared.files.FileName.{FileName}
use Rattle.cache_model.specs.Files.{is_name, kind_number}

same_kind : (one other : FileKind) → kind_number one ≡ kind_number other → one ≡ other
same_kind Rules Rules h = refl
same_kind Rules Log h = cc
same_kind Rules Tree h = cc
same_kind Rules Base h = cc
same_kind Log Rules h = cc
same_kind Log Log h = refl
same_kind Log Tree h = cc
same_kind Log Base h = cc
same_kind Tree Rules h = cc
same_kind Tree Log h = cc
same_kind Tree Tree h = refl
same_kind Tree Base h = cc
same_kind Base Rules h = cc
same_kind Base Log h = cc
same_kind Base Tree h = cc
same_kind Base Base h = refl

same_parts : (one other : FileName) → is_name one other ≡ true → (kind_number one.kind ≡ kind_number other.kind) × (one.store ≡ other.store) × (one.id ≡ other.id)
same_parts one other h = grind (arith, common_steps)

abbrev named : FileKind → ℕ → ℕ → FileName
named kind store id = record { kind = kind; store = store; id = id }

-- names that are the same by the test are the same
pub same_name : (one other : FileName) → is_name one other ≡ true → one ≡ other
same_name one other h =
    let parts = same_parts one other h in
    let kind = same_kind one.kind other.kind parts.0 in
    ap (λ kind. named kind one.store one.id) kind ∙ ap (λ store. named other.kind store one.id) parts.1 ∙ ap (λ id. named other.kind other.store id) parts.2

-- a name is the same as itself
pub is_itself : (name : FileName) → is_name name name ≡ true
is_itself name = grind (arith, common_steps)

pub is_name_equivalence : IsEquivalence is_name
is_name_equivalence = record {
  refl = is_itself;
  symm = λ x y. grind (arith, common_steps);
  congr = λ x y z h. ap (λ name. is_name name z) (same_name x y h);
}
