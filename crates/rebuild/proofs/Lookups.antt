-- Looking entries of an index up.
use Rattle.std.proofs.Common.{◌≡◌, ◌⊎◌, inl, inr, ⊎_elim, ℕ, Bool, true, false, cond, [], ◌∷◌, Option, Some, Contains, refl, sym, ap, subst, ◌∙◌, arith}
use Rattle.std.specs.Prelude.{nat_eq}
use Rattle.std.specs.Cmp.{IsEquivalence, IsTotalOrder}
use Rattle.std.specs.Map.{keys_of}
use Rattle.std.specs.Ordering.{is_eq, nat_cmp, ordering_then}
use Rattle.std.specs.declared.cmp.Ordering.{Ordering}
use Rattle.std.specs.declared.cmp.Ordering.TheVariants.{Less, Equal, Greater}
use Rattle.std.proofs.lemmas.Bool.Decides.{nat_tests}
use Rattle.std.proofs.lemmas.Cmp.{eq_by_cmp_equiv, nat_cmp_total, on_total, ranked, then_total}
use Rattle.std.proofs.lemmas.Map.Keys.{IsDistinct-from_sorted}
use Rattle.std.proofs.lemmas.Map.Views.{Contains-from_lookup, lookup-from_Contains}
use Rattle.cache_model.specs.declared.index.IndexKey.{IndexKey}
use Rattle.cache_model.specs.declared.index.IndexValue.{IndexValue}
use Rattle.cache_model.proofs.Members.{among-none, among-here, among-later, among-cases}
use Rattle.tree_index.specs.Index.{AreOrdered, Entries, Index, Sets, entries_of, index_cmp, is_key, value_at}

total : IsTotalOrder index_cmp
total = then_total (on_total (λ (k : IndexKey). k.hash) nat_cmp_total) (then_total (on_total (λ (k : IndexKey). k.file) nat_cmp_total) (on_total (λ (k : IndexKey). k.at) nat_cmp_total))

equivalence : IsEquivalence is_key
equivalence = eq_by_cmp_equiv total

-- both numbers compare equal where two in turn do
both-equal : (a b : ℕ) (rest : Ordering) → is_eq (ordering_then (nat_cmp a b) rest) ≡ true → (a ≡ b) × (is_eq rest ≡ true)
both-equal a b rest is = by (nat_cmp a b) refl is
  where
    by : (o : Ordering) → nat_cmp a b ≡ o → is_eq (ordering_then o rest) ≡ true → (a ≡ b) × (is_eq rest ≡ true)
    by Less one h = cc
    by Equal one h = (ranked a b Equal (sym one), h)
    by Greater one h = cc

last-equal : (a b : ℕ) → is_eq (nat_cmp a b) ≡ true → a ≡ b
last-equal a b is = by (nat_cmp a b) refl is
  where
    by : (o : Ordering) → nat_cmp a b ≡ o → is_eq o ≡ true → a ≡ b
    by Less one h = cc
    by Equal one h = ranked a b Equal (sym one)
    by Greater one h = cc

abbrev named : ℕ → ℕ → ℕ → IndexKey
named hash file at = record { hash = hash; file = file; at = at }

-- a key is told by its hash, its file and its offset
pub same-key : (one other : IndexKey) → is_key one other ≡ true → one ≡ other
same-key one other is =
    let hash = both-equal one.hash other.hash (ordering_then (nat_cmp one.file other.file) (nat_cmp one.at other.at)) is in
    let file = both-equal one.file other.file (nat_cmp one.at other.at) hash.1 in
    let at = last-equal one.at other.at file.1 in
    ap (λ n. named n one.file one.at) hash.0 ∙ ap (λ n. named other.hash n one.at) file.0 ∙ ap (λ n. named other.hash other.file n) at

pub key-itself : (key : IndexKey) → is_key key key ≡ true
key-itself key = equivalence.refl key

-- two keys are the same or not
pub cases-key : (one other : IndexKey) → (one ≡ other) ⊎ ((one ≡ other → ⊥) × (is_key one other ≡ false))
cases-key one other = by (is_key one other) refl
  where
    by : (b : Bool) → is_key one other ≡ b → (one ≡ other) ⊎ ((one ≡ other → ⊥) × (is_key one other ≡ false))
    by true is = inl (same-key one other is)
    by false is = inr (λ same. let no : true ≡ false = sym (key-itself one) ∙ ap (λ k. is_key one k) same ∙ is in cc, is)

-- what an index has under another key than the one that was set
pub other-key : (key : IndexKey) (value : Option IndexValue) (old new : Index) (other : IndexKey) → Sets key value old new → (key ≡ other → ⊥) → value_at new.entries other ≡ value_at old.entries other
other-key key value old new other sets apart =
    ⊎_elim
    (λ same. absurd (apart same))
    (λ differs. sets.each other ∙ ap (λ b. cond b value (value_at old.entries other)) differs.1)
    (cases-key key other)

-- an entry of a list in order is the one under its key
pub entry-held : (entries : Entries) (key : IndexKey) (value : IndexValue) → AreOrdered entries → Contains entries (key, value) → value_at entries key ≡ Some value
entry-held entries key value ordered among = lookup-from_Contains equivalence key value entries (IsDistinct-from_sorted index_cmp (keys_of entries) ordered) among

-- and what is under a key is an entry
pub held-entry : (entries : Entries) (key : IndexKey) (value : IndexValue) → value_at entries key ≡ Some value → Contains entries (key, value)
held-entry entries key value held = Contains-from_lookup same-key key value entries held

-- an entry of a hash is one of all
pub of-hash : (hash : ℕ) (entries : Entries) (e : IndexKey × IndexValue) → Contains (entries_of hash entries) e → Contains entries e × (e.0.hash ≡ hash)
of-hash hash [] e among = absurd (among-none e among)
of-hash hash (first ∷ entries) e among = by (λ later. of-hash hash entries e later) (nat_eq first.0.hash hash) refl among
  where
    rest : (Contains (entries_of hash entries) e → Contains entries e × (e.0.hash ≡ hash)) → Contains (entries_of hash entries) e → Contains (first ∷ entries) e × (e.0.hash ≡ hash)
    rest more later = (among-later first e entries (more later).0, (more later).1)

    by : (Contains (entries_of hash entries) e → Contains entries e × (e.0.hash ≡ hash)) → (b : Bool) → nat_eq first.0.hash hash ≡ b → Contains (cond b (first ∷ entries_of hash entries) (entries_of hash entries)) e → Contains (first ∷ entries) e × (e.0.hash ≡ hash)
    by more true is here =
        ⊎_elim
        (λ same. (subst (λ (x : IndexKey × IndexValue). Contains (first ∷ entries) x) same (among-here first entries), sym (ap (λ (x : IndexKey × IndexValue). x.0.hash) same) ∙ grind (arith, nat_tests)))
        (rest more)
        (among-cases first e (entries_of hash entries) here)
    by more false is here = rest more here

-- and each of all that has the hash is among those
pub with-hash : (hash : ℕ) (entries : Entries) (e : IndexKey × IndexValue) → Contains entries e → e.0.hash ≡ hash → Contains (entries_of hash entries) e
with-hash hash [] e among is = absurd (among-none e among)
with-hash hash (first ∷ entries) e among is = by (λ later. with-hash hash entries e later is) (nat_eq first.0.hash hash) refl (among-cases first e entries among)
  where
    by : (Contains entries e → Contains (entries_of hash entries) e) → (b : Bool) → nat_eq first.0.hash hash ≡ b → (first ≡ e) ⊎ Contains entries e → Contains (cond b (first ∷ entries_of hash entries) (entries_of hash entries)) e
    by more true has (inl same) = subst (λ (x : IndexKey × IndexValue). Contains (first ∷ entries_of hash entries) x) same (among-here first (entries_of hash entries))
    by more true has (inr later) = among-later first e (entries_of hash entries) (more later)
    by more false has (inl same) = let hashed : first.0.hash ≡ hash = ap (λ (x : IndexKey × IndexValue). x.0.hash) same ∙ is in absurd (grind (arith, nat_tests))
    by more false has (inr later) = more later
