-- The order of the index's keys.
use Rattle.std.proofs.Common.{◌≡◌, ℕ, Bool, true, false, refl, sym, ◌∙◌, ap}
use Rattle.std.specs.Cmp.{IsTotalOrder, nat_cmp_total, on_total, then_total}
use Rattle.std.specs.Ordering.{nat_cmp, ordering_then, ordering_reverse, is_eq}
use Rattle.std.specs.declared.cmp.Ordering.{Ordering}
use Rattle.std.specs.declared.cmp.Ordering.TheVariants.{Less, Equal, Greater}
use Rattle.std.proofs.lemmas.Map.Lookups.{CmpEqualImpliesEq, exact_unsigned}
use Rattle.cache_model.specs.declared.index.IndexKey.{IndexKey}
use Rattle.tree_index.specs.Index.{index_cmp, is_key}
use Rattle.tree_index.proofs.Ordered.{itself, same}

pub index_total : IsTotalOrder index_cmp
index_total = then_total (on_total (λ (k : IndexKey). k.hash) nat_cmp_total) (then_total (on_total (λ (k : IndexKey). k.file) nat_cmp_total) (on_total (λ (k : IndexKey). k.at) nat_cmp_total))

pub index_exact : CmpEqualImpliesEq index_cmp
index_exact one other is = by (nat_cmp one.hash other.hash) refl (nat_cmp one.file other.file) refl (nat_cmp one.at other.at) refl is
  where
    by : (o : Ordering) → nat_cmp one.hash other.hash ≡ o → (p : Ordering) → nat_cmp one.file other.file ≡ p → (q : Ordering) → nat_cmp one.at other.at ≡ q → ordering_then o (ordering_then p q) ≡ Equal → one ≡ other
    by Less a p b q c is = cc
    by Greater a p b q c is = cc
    by Equal a Less b q c is = cc
    by Equal a Greater b q c is = cc
    by Equal a Equal b Less c is = cc
    by Equal a Equal b Greater c is = cc
    by Equal a Equal b Equal c is =
        ap (λ (h : ℕ). record { hash = h; file = one.file; at = one.at }) (exact_unsigned one.hash other.hash a)
        ∙ ap (λ (f : ℕ). record { hash = other.hash; file = f; at = one.at }) (exact_unsigned one.file other.file b)
        ∙ ap (λ (t : ℕ). record { hash = other.hash; file = other.file; at = t }) (exact_unsigned one.at other.at c)

-- a key is itself, and a key that is another one is the same
pub key_itself : (key : IndexKey) → is_key key key ≡ true
key_itself key = itself index_cmp index_total key

pub key_same : (key other : IndexKey) → is_key key other ≡ true → key ≡ other
key_same key other is = same index_cmp index_exact key other is

-- keys that are apart are not one another
pub key_apart : (key other : IndexKey) → (key ≡ other → ⊥) → is_key key other ≡ false
key_apart key other apart = by (is_key key other) refl
  where
    by : (b : Bool) → is_key key other ≡ b → b ≡ false
    by true is = absurd (apart (key_same key other is))
    by false is = refl

-- a key of a lower hash is lower
pub lower_hash : (one other : IndexKey) → nat_cmp one.hash other.hash ≡ Less → index_cmp one other ≡ Less
lower_hash one other less = ap (λ (o : Ordering). ordering_then o (ordering_then (nat_cmp one.file other.file) (nat_cmp one.at other.at))) less

-- a key is another one where that one is it
pub key_turned : (one other : IndexKey) → is_key one other ≡ is_key other one
key_turned one other = ap is_eq (index_total.antisymm one other) ∙ by (index_cmp other one)
  where
    by : (o : Ordering) → is_eq (ordering_reverse o) ≡ is_eq o
    by Less = refl
    by Equal = refl
    by Greater = refl
