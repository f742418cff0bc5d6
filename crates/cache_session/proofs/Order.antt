-- The order in which keys are walked.
use Rattle.std.proofs.Common.{◌≡◌, ℕ, Bool, true, false, List, refl, ap, ◌∙◌, arith}
use Rattle.std.specs.Prelude.{◌==◌, nat_lt, if◌then◌else◌}
use Rattle.std.specs.Ordering.{nat_cmp, is_lt}
use Rattle.std.specs.Cmp.Lexicographic.{slice_cmp}
use Rattle.std.specs.declared.cmp.Ordering.{Ordering}
use Rattle.std.specs.declared.cmp.Ordering.TheVariants.{Less, Equal, Greater}
use Rattle.std.proofs.lemmas.Bool.Decides.{nat_tests}
use Rattle.std.proofs.lemmas.Cmp.{nat_list_cmp_total, tied_itself}
use Rattle.cache_model.specs.Hash.{hash, precedes}

less_of : (o : Ordering) → is_lt o ≡ true → o ≡ Less
less_of Less is = refl
less_of Equal is = cc
less_of Greater is = cc

bytes_trans : (a b c : List ℕ) → is_lt (slice_cmp nat_cmp a b) ≡ true → is_lt (slice_cmp nat_cmp b c) ≡ true → is_lt (slice_cmp nat_cmp a c) ≡ true
bytes_trans a b c ab bc = ap is_lt (nat_list_cmp_total.trans a b c (less_of (slice_cmp nat_cmp a b) ab) (less_of (slice_cmp nat_cmp b c) bc))

-- first by a number, and then by another test
ranked : (x y z : ℕ) (p q r : Bool) → (p ≡ true → q ≡ true → r ≡ true) → (if x == y then p else nat_lt x y) ≡ true → (if y == z then q else nat_lt y z) ≡ true → (if x == z then r else nat_lt x z) ≡ true
ranked x y z true true true both one two = grind (arith, nat_tests)
ranked x y z true true false both one two = absurd (never (both refl refl))
  where
    never : false ≡ true → ⊥
    never h = cc
ranked x y z true false r both one two = grind (arith, nat_tests)
ranked x y z false q r both one two = grind (arith, nat_tests)

pub precedes_trans : (bits : ℕ) (a b c : List ℕ) → precedes bits a b ≡ true → precedes bits b c ≡ true → precedes bits a c ≡ true
precedes_trans bits a b c = ranked (hash bits a) (hash bits b) (hash bits c) (is_lt (slice_cmp nat_cmp a b)) (is_lt (slice_cmp nat_cmp b c)) (is_lt (slice_cmp nat_cmp a c)) (bytes_trans a b c)

same_rank : (x : ℕ) → (if x == x then false else nat_lt x x) ≡ false
same_rank x = grind (arith, nat_tests)

pub precedes_not : (bits : ℕ) (a : List ℕ) → precedes bits a a ≡ false
precedes_not bits a = ap (λ (o : Ordering). if hash bits a == hash bits a then is_lt o else nat_lt (hash bits a) (hash bits a)) (tied_itself nat_list_cmp_total a) ∙ same_rank (hash bits a)
