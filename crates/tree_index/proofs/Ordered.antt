-- Look-ups in lists whose keys ascend.
use Rattle.std.proofs.Common.{◌≡◌, Bool, true, false, List, [], ◌∷◌, ◌++◌, Option, Some, None, refl, sym, ◌∙◌, ap, subst}
use Rattle.std.specs.Prelude.{is_some, IsSome, cond}
use Rattle.std.specs.List.{AllByRecursion}
use Rattle.std.specs.List.Sorted.{IsStrictlySortedBy}
use Rattle.std.specs.Map.{lookup, keys_of}
use Rattle.std.specs.Cmp.{IsTotalOrder}
use Rattle.std.specs.Ordering.{is_eq, ordering_reverse}
use Rattle.std.specs.declared.cmp.Ordering.{Ordering}
use Rattle.std.specs.declared.cmp.Ordering.TheVariants.{Less, Equal, Greater}
use Rattle.std.proofs.lemmas.Map.Keys.{sorted_head, sorted_tail}
use Rattle.std.proofs.lemmas.Map.Lookups.{CmpEqualImpliesEq}

pub never : true ≡ false → ⊥
never h = cc

equal_of : (o : Ordering) → is_eq o ≡ true → o ≡ Equal
equal_of Less is = cc
equal_of Equal is = refl
equal_of Greater is = cc

reversed : (o : Ordering) → o ≡ ordering_reverse o → o ≡ Equal
reversed Less is = cc
reversed Equal is = refl
reversed Greater is = cc

-- what an entry list has at a key
abbrev pub at : {K X : Type 0} → (K → K → Ordering) → K → List (K × X) → Option X
at cmp key entries = lookup (λ other. is_eq (cmp key other)) entries

pub some_of : {X : Type 0} (o : Option X) (x : X) → o ≡ Some x → is_some o ≡ true
some_of o x is = ap is_some is

-- a key is equal to itself
pub itself : {K : Type 0} (cmp : K → K → Ordering) → IsTotalOrder cmp → (key : K) → is_eq (cmp key key) ≡ true
itself cmp total key = ap is_eq (reversed (cmp key key) (total.antisymm key key))

-- and to no other
pub same : {K : Type 0} (cmp : K → K → Ordering) → CmpEqualImpliesEq cmp → (key other : K) → is_eq (cmp key other) ≡ true → key ≡ other
same cmp exact key other is = exact key other (equal_of (cmp key other) is)

module _ {K X : Type 0} (cmp : K → K → Ordering) (total : IsTotalOrder cmp) (exact : CmpEqualImpliesEq cmp) where
  -- where a key stands before all of a list, none of them is it
  pub none_behind : (key : K) (entries : List (K × X)) → AllByRecursion (λ y. cmp key y ≡ Less) (keys_of entries) → at cmp key entries ≡ None
  none_behind key [] behind = refl
  none_behind key (e ∷ entries) behind = rw (ap is_eq behind.0) (none_behind key entries behind.1)

  -- what holds of all keys holds of one that is there
  pub of_one : (P : K → Type 0) (key : K) (entries : List (K × X)) → AllByRecursion P (keys_of entries) → IsSome (at cmp key entries) → P key
  of_one P key [] all there = cc
  of_one P key (e ∷ entries) all there = by (of_one P key entries all.1) (is_eq (cmp key e.0)) refl there
    where
      by : (IsSome (at cmp key entries) → P key) → (b : Bool) → is_eq (cmp key e.0) ≡ b → is_some (cond b (Some e.1) (at cmp key entries)) ≡ true → P key
      by rest true is there = subst P (sym (same cmp exact key e.0 is)) all.0
      by rest false apart there = rest there

  -- what stands behind the first is found behind it
  pub skip : (key : K) (e : K × X) (entries : List (K × X)) → IsStrictlySortedBy cmp (keys_of (e ∷ entries)) → IsSome (at cmp key entries) → at cmp key (e ∷ entries) ≡ at cmp key entries
  skip key e entries ordered there = by (is_eq (cmp key e.0)) refl
    where
      less : cmp e.0 key ≡ Less
      less = of_one (λ (k : K). cmp e.0 k ≡ Less) key entries (sorted_head cmp e.0 (keys_of entries) ordered) there

      by : (b : Bool) → is_eq (cmp key e.0) ≡ b → cond b (Some e.1) (at cmp key entries) ≡ at cmp key entries
      by true is =
          let lower : cmp e.0 e.0 ≡ Less = subst (λ (k : K). cmp e.0 k ≡ Less) (same cmp exact key e.0 is) less in
          absurd (never (sym (itself cmp total e.0) ∙ ap is_eq lower))
      by false apart = refl

  -- what holds of whatever is found holds of all
  pub of_all : (P : K × X → Type 0) (entries : List (K × X)) → IsStrictlySortedBy cmp (keys_of entries) → ((key : K) (x : X) → at cmp key entries ≡ Some x → P (key, x)) → AllByRecursion P entries
  of_all P [] ordered found = tt
  of_all P (e ∷ entries) ordered found = (
    found e.0 e.1 (rw (itself cmp total e.0) refl),
    of_all P entries (sorted_tail cmp e.0 (keys_of entries) ordered) (λ key x there. found key x (skip key e entries ordered (some_of (at cmp key entries) x there) ∙ there)),
  )

  -- Lists that are in order and have the same at each key are the same.
  found_behind : (key : K) (e : K × X) (entries : List (K × X)) → IsStrictlySortedBy cmp (keys_of (e ∷ entries)) → IsSome (at cmp key (e ∷ entries)) → is_eq (cmp key e.0) ≡ false → cmp e.0 key ≡ Less
  found_behind key e entries ordered there apart =
      of_one (λ (k : K). cmp e.0 k ≡ Less) key entries (sorted_head cmp e.0 (keys_of entries) ordered)
      (subst (λ (b : Bool). IsSome (cond b (Some e.1) (at cmp key entries))) apart there)

  first_is : (e : K × X) (entries : List (K × X)) → at cmp e.0 (e ∷ entries) ≡ Some e.1
  first_is e entries = rw (itself cmp total e.0) refl

  pub same_lists : (one other : List (K × X)) → IsStrictlySortedBy cmp (keys_of one) → IsStrictlySortedBy cmp (keys_of other) → ((key : K) → at cmp key one ≡ at cmp key other) → one ≡ other
  same_lists [] [] first second alike = refl
  same_lists [] (e ∷ other) first second alike = let no : None ≡ Some e.1 = alike e.0 ∙ first_is e other in cc
  same_lists (e ∷ one) [] first second alike = let no : Some e.1 ≡ None = sym (first_is e one) ∙ alike e.0 in cc
  same_lists (e ∷ one) (d ∷ other) first second alike = by (same_lists one other) (is_eq (cmp e.0 d.0)) refl
    where
      by : (IsStrictlySortedBy cmp (keys_of one) → IsStrictlySortedBy cmp (keys_of other) → ((key : K) → at cmp key one ≡ at cmp key other) → one ≡ other) → (b : Bool) → is_eq (cmp e.0 d.0) ≡ b → e ∷ one ≡ d ∷ other
      by further true is =
          let keys : e.0 ≡ d.0 = same cmp exact e.0 d.0 is in
          let both : Some e.1 ≡ Some d.1 = sym (first_is e one) ∙ alike e.0 ∙ ap (λ (k : K). at cmp k (d ∷ other)) keys ∙ first_is d other in
          let values : e.1 ≡ d.1 = cc in
          let rest : one ≡ other = further (sorted_tail cmp e.0 (keys_of one) first) (sorted_tail cmp d.0 (keys_of other) second) (λ key. tails keys key (is_eq (cmp key e.0)) refl) in
          λ i. (keys i, values i) ∷ rest i
        where
          tails : e.0 ≡ d.0 → (key : K) → (b : Bool) → is_eq (cmp key e.0) ≡ b → at cmp key one ≡ at cmp key other
          tails keys key true here =
              let k : e.0 ≡ key = sym (same cmp exact key e.0 here) in
              subst (λ (j : K). at cmp j one ≡ None) k (none_behind e.0 one (sorted_head cmp e.0 (keys_of one) first))
              ∙ sym (subst (λ (j : K). at cmp j other ≡ None) (sym keys ∙ k) (none_behind d.0 other (sorted_head cmp d.0 (keys_of other) second)))
          tails keys key false apart =
              sym (ap (λ (b : Bool). cond b (Some e.1) (at cmp key one)) apart)
              ∙ alike key
              ∙ ap (λ (b : Bool). cond b (Some d.1) (at cmp key other)) (sym (ap (λ (k : K). is_eq (cmp key k)) keys) ∙ apart)
      by further false apart =
          let later : cmp d.0 e.0 ≡ Less = found_behind e.0 d other second (some_of (at cmp e.0 (d ∷ other)) e.1 (sym (alike e.0) ∙ first_is e one)) apart in
          let before : cmp e.0 d.0 ≡ Less = found_behind d.0 e one first (some_of (at cmp d.0 (e ∷ one)) d.1 (alike d.0 ∙ first_is d other)) (ap is_eq later) in
          let no : Less ≡ Greater = sym before ∙ total.antisymm e.0 d.0 ∙ ap ordering_reverse later in cc
