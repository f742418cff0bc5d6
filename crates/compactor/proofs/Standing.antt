-- Whether something stands at the file and offset of a place.
use Rattle.std.proofs.Common.{◌≡◌, ℕ, ◌==◌, Bool, true, false, refl, arith}
use Rattle.std.specs.Prelude.{◌&&◌}
use Rattle.std.proofs.lemmas.Bool.Decides.{nat_tests}
use Rattle.cache_model.specs.declared.files.Place.{Place}
use Rattle.compactor.specs.Entering.{stands_at}

same_numbers : (n m : ℕ) → (n == m) ≡ true → n ≡ m
same_numbers n m is = grind (arith, nat_tests)

both_true : (a b : Bool) → (a && b) ≡ true → (a ≡ true) × (b ≡ true)
both_true true true is = (refl, refl)
both_true true false is = cc
both_true false b is = cc

pub stands : (file at : ℕ) (place : Place) → file ≡ place.file → at ≡ place.at → stands_at file at place ≡ true
stands file at place same_file same_at =
    let one : (file == place.file) ≡ true = grind (arith, nat_tests) in
    let other : (at == place.at) ≡ true = grind (arith, nat_tests) in
    rw (one, other) refl

pub stood : (file at : ℕ) (place : Place) → stands_at file at place ≡ true → (file ≡ place.file) × (at ≡ place.at)
stood file at place is = let both = both_true (file == place.file) (at == place.at) is in (same_numbers file place.file both.0, same_numbers at place.at both.1)
