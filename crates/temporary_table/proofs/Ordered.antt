-- Look-ups in lists whose keys ascend, and the first entry that passes a test.
use Rattle.std.proofs.Common.{◌≡◌, ◌⊎◌, inl, inr, Bool, true, false, List, [], ◌∷◌, Option, Some, None, refl, sym, ◌∙◌, ap, subst}
use Rattle.std.specs.Prelude.{is_some, IsSome, cond}
use Rattle.std.specs.List.{AllByRecursion}
use Rattle.std.specs.List.Sorted.{IsStrictlySortedBy}
use Rattle.std.specs.Map.{lookup, keys_of}
use Rattle.std.specs.Cmp.{IsTotalOrder}
use Rattle.std.specs.Ordering.{is_eq, ordering_reverse}
use Rattle.std.specs.declared.cmp.Ordering.{Ordering}
use Rattle.std.specs.declared.cmp.Ordering.TheVariants.{Less, Equal, Greater}
use Rattle.std.proofs.lemmas.Map.Keys.{sorted_head, sorted_tail}
use Rattle.std.proofs.lemmas.Map.Lookups.{CmpEqualImpliesEq}
use Rattle.temporary_table.specs.Walking.{earlier, first_by}

pub never : true ≡ false → ⊥
never h = cc

pub equal_of : (o : Ordering) → is_eq o ≡ true → o ≡ Equal
equal_of Less is = cc
equal_of Equal is = refl
equal_of Greater is = cc

reversed : (o : Ordering) → o ≡ ordering_reverse o → o ≡ Equal
reversed Less is = cc
reversed Equal is = refl
reversed Greater is = cc

-- what an entry list has at a key
abbrev pub at : {K X : Type 0} → (K → K → Ordering) → K → List (K × X) → Option X
at cmp key entries = lookup (λ other. is_eq (cmp key other)) entries

-- what holds of one entry of a list, before all others that pass
pub record IsFirst {K X R : Type 0} (cmp : K → K → Ordering) (f : K × X → Option R) (entries : List (K × X)) (r : R) : Type 0 where
  pub entry : K × X
  pub here : at cmp entry.0 entries ≡ Some entry.1
  pub gives : f entry ≡ Some r
  pub least : (key : K) (x : X) → at cmp key entries ≡ Some x → IsSome (f (key, x)) → (key ≡ entry.0) ⊎ (cmp entry.0 key ≡ Less)

module _ {K : Type 0} (cmp : K → K → Ordering) (total : IsTotalOrder cmp) where
  pub itself : (key : K) → is_eq (cmp key key) ≡ true
  itself key = ap is_eq (reversed (cmp key key) (total.antisymm key key))

pub same : {K : Type 0} (cmp : K → K → Ordering) → CmpEqualImpliesEq cmp → (key other : K) → is_eq (cmp key other) ≡ true → key ≡ other
same cmp exact key other is = exact key other (equal_of (cmp key other) is)

module _ {K X : Type 0} (cmp : K → K → Ordering) (total : IsTotalOrder cmp) (exact : CmpEqualImpliesEq cmp) where
  -- where a key stands before all of a list, none of them is it
  pub none_behind : (key : K) (entries : List (K × X)) → AllByRecursion (λ y. cmp key y ≡ Less) (keys_of entries) → at cmp key entries ≡ None
  none_behind key [] behind = refl
  none_behind key (e ∷ entries) behind = rw (ap is_eq behind.0) (none_behind key entries behind.1)

  -- what holds of all keys holds of one that is there
  pub of_one : (P : K → Type 0) (key : K) (entries : List (K × X)) → AllByRecursion P (keys_of entries) → IsSome (at cmp key entries) → P key
  of_one P key [] all there = cc
  of_one P key (e ∷ entries) all there = by (of_one P key entries all.1) (is_eq (cmp key e.0)) refl there
    where
      by : (IsSome (at cmp key entries) → P key) → (b : Bool) → is_eq (cmp key e.0) ≡ b → is_some (cond b (Some e.1) (at cmp key entries)) ≡ true → P key
      by rest true is there = subst P (sym (same cmp exact key e.0 is)) all.0
      by rest false apart there = rest there

  -- what stands behind the first is found behind it
  pub skip : (key : K) (e : K × X) (entries : List (K × X)) → IsStrictlySortedBy cmp (keys_of (e ∷ entries)) → IsSome (at cmp key entries) → at cmp key (e ∷ entries) ≡ at cmp key entries
  skip key e entries ordered there = by (is_eq (cmp key e.0)) refl
    where
      less : cmp e.0 key ≡ Less
      less = of_one (λ (k : K). cmp e.0 k ≡ Less) key entries (sorted_head cmp e.0 (keys_of entries) ordered) there

      by : (b : Bool) → is_eq (cmp key e.0) ≡ b → cond b (Some e.1) (at cmp key entries) ≡ at cmp key entries
      by true is =
          let lower : cmp e.0 e.0 ≡ Less = subst (λ (k : K). cmp e.0 k ≡ Less) (same cmp exact key e.0 is) less in
          absurd (never (sym (itself cmp total e.0) ∙ ap is_eq lower))
      by false apart = refl

some_of : {X : Type 0} (o : Option X) (x : X) → o ≡ Some x → is_some o ≡ true
some_of o x is = ap is_some is

pub not_none : {X : Type 0} (o : Option X) → o ≡ None → is_some o ≡ true → ⊥
not_none None is some = cc
not_none (Some x) is some = cc

module _ {K X R : Type 0} (cmp : K → K → Ordering) (total : IsTotalOrder cmp) (exact : CmpEqualImpliesEq cmp) (f : K × X → Option R) where
  -- an entry of a longer list is the first, or one of the others
  which : (e : K × X) (entries : List (K × X)) (key : K) (x : X) → at cmp key (e ∷ entries) ≡ Some x → (((key, x) ≡ e) ⊎ (at cmp key entries ≡ Some x))
  which e entries key x there = by (is_eq (cmp key e.0)) refl there
    where
      by : (b : Bool) → is_eq (cmp key e.0) ≡ b → cond b (Some e.1) (at cmp key entries) ≡ Some x → (((key, x) ≡ e) ⊎ (at cmp key entries ≡ Some x))
      by true is there =
          let k : key ≡ e.0 = same cmp exact key e.0 is in
          let v : e.1 ≡ x = cc in
          inl (rw (k, sym v) refl)
      by false apart there = inr there

  -- The first entry that passes is there, and before each other,
  pub first_is : (entries : List (K × X)) → IsStrictlySortedBy cmp (keys_of entries) → (r : R) → first_by f entries ≡ Some r → IsFirst cmp f entries r
  first_is [] ordered r is = cc
  first_is (e ∷ entries) ordered r is = by (first_is entries (sorted_tail cmp e.0 (keys_of entries) ordered) r) (f e) refl is
    where
      by : (first_by f entries ≡ Some r → IsFirst cmp f entries r) → (o : Option R) → f e ≡ o → earlier o (first_by f entries) ≡ Some r → IsFirst cmp f (e ∷ entries) r
      by rest (Some s) so is = record {
        entry = e;
        here = rw (itself cmp total e.0) refl;
        gives = so ∙ is;
        least = λ key x there passes. least key x (which e entries key x there);
      }
        where
          least : (key : K) (x : X) → (((key, x) ≡ e) ⊎ (at cmp key entries ≡ Some x)) → (key ≡ e.0) ⊎ (cmp e.0 key ≡ Less)
          least key x (inl is) = inl (ap (λ (p : K × X). p.0) is)
          least key x (inr later) = inr (of_one cmp total exact (λ (k : K). cmp e.0 k ≡ Less) key entries (sorted_head cmp e.0 (keys_of entries) ordered) (some_of (at cmp key entries) x later))
      by rest None so is =
          let there = rest is in
          record {
            entry = there.entry;
            here = skip cmp total exact there.entry.0 e entries ordered (some_of (at cmp there.entry.0 entries) there.entry.1 there.here) ∙ there.here;
            gives = there.gives;
            least = λ key x at passes. least there key x passes (which e entries key x at);
          }
        where
          least : (there : IsFirst cmp f entries r) (key : K) (x : X) → IsSome (f (key, x)) → (((key, x) ≡ e) ⊎ (at cmp key entries ≡ Some x)) → (key ≡ there.entry.0) ⊎ (cmp there.entry.0 key ≡ Less)
          least there key x passes (inl is) = absurd (not_none (f (key, x)) (ap f is ∙ so) passes)
          least there key x passes (inr later) = there.least key x later passes

  -- and where none is found, none passes.
  pub first_none : (entries : List (K × X)) → first_by f entries ≡ None → (key : K) (x : X) → at cmp key entries ≡ Some x → f (key, x) ≡ None
  first_none [] none key x there = cc
  first_none (e ∷ entries) none key x there = by (first_none entries) (f e) refl none (which e entries key x there)
    where
      by : (first_by f entries ≡ None → (key : K) (x : X) → at cmp key entries ≡ Some x → f (key, x) ≡ None) → (o : Option R) → f e ≡ o → earlier o (first_by f entries) ≡ None → (((key, x) ≡ e) ⊎ (at cmp key entries ≡ Some x)) → f (key, x) ≡ None
      by rest (Some s) so is there = let no : Some s ≡ None = is in cc
      by rest None so is (inl e_is) = ap f e_is ∙ so
      by rest None so is (inr later) = rest is key x later
