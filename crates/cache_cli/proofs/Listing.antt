-- Index and base files, among names and among files.
use Rattle.std.proofs.Common.{◌≡◌, ⊎_elim, Bool, true, false, List, [], ◌∷◌, Contains, IsSome, refl, sym, ap, ◌∙◌}
use Rattle.std.specs.Prelude.{◌↔◌, ◌||◌}
use Rattle.std.specs.List.{list_any}
use Rattle.cache_model.specs.declared.files.FileName.{FileName}
use Rattle.cache_model.specs.Files.{Image, file_in}
use Rattle.cache_model.proofs.Members.{among-none, among-here, among-later, among-cases}
use Rattle.cache_cli.specs.Foreign.{is_foreign_kind, has_foreign, IsForeign}

-- One of these passes the test.
record IsOneOf {X : Type 0} (test : X → Bool) (xs : List X) : Type 0 where
  pub one : X
  pub among : Contains xs one
  pub passes : test one ≡ true

any_true : {X : Type 0} (test : X → Bool) (xs : List X) → list_any test xs ≡ true → IsOneOf test xs
any_true test [] h = cc
any_true test (x ∷ xs) h = by_test (test x) refl (any_true test xs) h
  where
    by_test : (b : Bool) → test x ≡ b → (list_any test xs ≡ true → IsOneOf test xs) → (b || list_any test xs) ≡ true → IsOneOf test (x ∷ xs)
    by_test true is rest any = record { one = x; among = among-here x xs; passes = is }
    by_test false is rest any = let later = rest any in record { one = later.one; among = among-later x later.one xs later.among; passes = later.passes }

true_any : {X : Type 0} (test : X → Bool) (xs : List X) (x : X) → Contains xs x → test x ≡ true → list_any test xs ≡ true
true_any test [] x among passes = absurd (among-none x among)
true_any test (first ∷ xs) x among passes = by_test (test first) refl (λ later. true_any test xs x later passes)
  where
    by_test : (b : Bool) → test first ≡ b → (Contains xs x → list_any test xs ≡ true) → (b || list_any test xs) ≡ true
    by_test true is rest = refl
    by_test false is rest =
        ⊎_elim
        (λ (same : first ≡ x). let both : false ≡ true = sym is ∙ ap test same ∙ passes in cc)
        (λ later. rest later)
        (among-cases first x xs among)

-- just the names of the files that are there tell whether one of them is an index or a base file
pub foreign_seen : (files : Image) (names : List FileName) → ((name : FileName) → (Contains names name ↔ IsSome (file_in files name)))
    → ((has_foreign names ≡ true) ↔ IsForeign files)
foreign_seen files names each = (
  λ h. let found = any_true (λ (name : FileName). is_foreign_kind name.kind) names h in (found.one, (each found.one).0 found.among, found.passes),
  λ foreign. true_any (λ (n : FileName). is_foreign_kind n.kind) names foreign.0 ((each foreign.0).1 foreign.1) foreign.2,
)
