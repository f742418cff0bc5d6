-- One bucket, after one of its seats became another.
use Rattle.std.proofs.Common.{◌≡◌, ℕ, Bool, true, false, List, [], Option, Some, None, refl, sym, ◌∙◌, ap, subst, arith}
use Rattle.std.specs.Prelude.{is_some, cond, ◌==◌, nat_lt, Result, Ok, Err, OnOk, OnErr}
use Rattle.std.specs.Map.{lookup}
use Rattle.std.specs.BTreeMap.{Updates, IsOrdered, get}
use Rattle.std.specs.Str.{bytes_eq}
use Rattle.std.specs.Ordering.{nat_cmp, is_eq}
use Rattle.std.specs.declared.cmp.Ordering.TheVariants.{Less, Equal, Greater}
use Rattle.std.proofs.lemmas.Map.Lookups.{exact_bytes}
use Rattle.std.proofs.lemmas.Cmp.{nat_list_cmp_total}
use Rattle.std.proofs.lemmas.Slice.Eq.{bytes_eq-Decides}
use Rattle.std.proofs.lemmas.Bool.Decides.{nat_tests}
use Rattle.temporary_table.specs.Places.{Seat, seated}
use Rattle.temporary_table.specs.Buckets.{Bucket, key_cmp, Refills, Fills}
use Rattle.temporary_table.proofs.Ordered.{itself, same}

-- a comparison of keys answers as that of their bytes
pub key_test : (key other : List ℕ) → is_eq (key_cmp key other) ≡ bytes_eq key other
key_test key other = by (bytes_eq key other) refl (is_eq (key_cmp key other)) refl
  where
    by : (b : Bool) → bytes_eq key other ≡ b → (c : Bool) → is_eq (key_cmp key other) ≡ c → c ≡ b
    by true is true less = refl
    by false is false less = refl
    by true is false less = sym less ∙ subst (λ (k : List ℕ). is_eq (key_cmp key k) ≡ true) ((bytes_eq-Decides key other).0 is) (itself key_cmp nat_list_cmp_total key)
    by false is true less = sym ((bytes_eq-Decides key other).1 (same key_cmp exact_bytes key other less)) ∙ is

-- and from the other side
pub key_test_turned : (key other : List ℕ) → is_eq (key_cmp key other) ≡ bytes_eq other key
key_test_turned key other = key_test key other ∙ by (bytes_eq key other) refl (bytes_eq other key) refl
  where
    by : (b : Bool) → bytes_eq key other ≡ b → (c : Bool) → bytes_eq other key ≡ c → b ≡ c
    by true is true turned = refl
    by false is false turned = refl
    by true is false turned = sym ((bytes_eq-Decides other key).1 (sym ((bytes_eq-Decides key other).0 is))) ∙ turned
    by false is true turned = sym is ∙ (bytes_eq-Decides key other).1 (sym ((bytes_eq-Decides other key).0 turned))

-- a comparison of hashes answers as their equality
pub hash_test : (hash other : ℕ) → is_eq (nat_cmp hash other) ≡ (hash == other)
hash_test hash other = by (hash == other) refl (nat_lt hash other) refl
  where
    not_both : (m n : ℕ) → (m == n) ≡ true → nat_lt m n ≡ true → ⊥
    not_both m n is less = grind (arith, nat_tests)

    by : (b : Bool) → (hash == other) ≡ b → (a : Bool) → nat_lt hash other ≡ a → is_eq (cond a Less (cond b Equal Greater)) ≡ b
    by true is true less = absurd (not_both hash other is less)
    by true is false late = refl
    by false apart true less = refl
    by false apart false late = refl

-- what an update of a bucket leaves
pub refills : (old new : Bucket) (key : List ℕ) (seat : Option Seat) → Updates key_cmp old new key seat → IsOrdered key_cmp new → Refills old key seat new
refills old new key seat updates ordered = record {
  seats = λ other. updates.0 other ∙ ap (λ (b : Bool). cond b seat (get key_cmp old other)) (key_test key other);
  ordered = ordered;
}

-- a bucket of the same entries
pub refills_same : (old new : Bucket) (key : List ℕ) (seat : Option Seat) → get key_cmp old key ≡ seat → new.entries ≡ old.entries → IsOrdered key_cmp new → Refills old key seat new
refills_same old new key seat is entries ordered = record {
  seats = λ other. ap (λ es. lookup (λ k. is_eq (key_cmp other k)) es) entries ∙ by other (bytes_eq key other) refl;
  ordered = ordered;
}
  where
    by : (other : List ℕ) (b : Bool) → bytes_eq key other ≡ b → get key_cmp old other ≡ cond b seat (get key_cmp old other)
    by other true same = subst (λ (k : List ℕ). get key_cmp old k ≡ seat) ((bytes_eq-Decides key other).0 same) is
    by other false apart = refl

-- what an update of an empty bucket leaves
pub fills : (old new : Bucket) (key : List ℕ) (seat : Option Seat) → old.entries ≡ [] → Updates key_cmp old new key seat → IsOrdered key_cmp new → Fills key seat new
fills old new key seat empty updates ordered = record {
  seats = λ other. updates.0 other
      ∙ ap (λ (b : Bool). cond b seat (get key_cmp old other)) (key_test key other)
      ∙ ap (λ (es : List (List ℕ × Seat)). cond (bytes_eq key other) seat (lookup (λ k. is_eq (key_cmp other k)) es)) empty;
  ordered = ordered;
}

-- a seat that is there stays
pub seated_there : (seat : Option Seat) → is_some seat ≡ true → seat ≡ seated seat
seated_there None there = cc
seated_there (Some seat) there = refl

-- a new seat has nothing yet
pub seated_new : (seat : Option Seat) → is_some seat ≡ false → seated seat ≡ Some None
seated_new None none = refl
seated_new (Some seat) none = cc

-- what was put where no seat was
pub put_or_same : {E : Type 0} (old new : Bucket) (key : List ℕ) (result : Result (Unit {0}) E) → is_some (get key_cmp old key) ≡ false
    → OnOk result (Updates key_cmp old new key (Some None)) → IsOrdered key_cmp new → OnOk result (Refills old key (seated (get key_cmp old key)) new)
put_or_same old new key (Ok x) none updates ordered = subst (λ (s : Option Seat). Refills old key s new) (sym (seated_new (get key_cmp old key) none)) (refills old new key (Some None) updates ordered)
put_or_same old new key (Err e) none updates ordered = tt

-- and what stayed where none could be put
pub kept_none : {E : Type 0} (old new : Bucket) (key : List ℕ) (result : Result (Unit {0}) E)
    → OnErr result ((new.entries ≡ old.entries) × (get key_cmp old key ≡ None)) → IsOrdered key_cmp new → OnErr result (Refills old key (get key_cmp old key) new)
kept_none old new key (Ok x) same ordered = tt
kept_none old new key (Err e) same ordered = refills_same old new key (get key_cmp old key) refl same.0 ordered
