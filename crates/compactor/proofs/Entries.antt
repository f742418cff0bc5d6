-- The entries of one hash, and what the index holds under each.
use Rattle.std.proofs.Common.{◌≡◌, ⊎_elim, ℕ, Bool, true, false, List, [], ◌∷◌, Contains, All, Some, refl, sym, ◌∙◌, ap, subst, arith}
use Rattle.std.specs.Prelude.{Option, None, Result, Ok, Err, IfOk, cond, filter, nat_eq}
use Rattle.std.specs.Cmp.{IsTotalOrder, on_total}
use Rattle.std.specs.Map.{keys_of}
use Rattle.std.specs.Ordering.{nat_cmp, ordering_then, is_eq}
use Rattle.std.specs.declared.cmp.Ordering.{Ordering}
use Rattle.std.specs.declared.cmp.Ordering.TheVariants.{Less, Equal, Greater}
use Rattle.std.proofs.lemmas.Bool.Decides.{nat_tests}
use Rattle.std.proofs.lemmas.Cmp.{nat_cmp_total, then_total, eq_by_cmp_equiv}
use Rattle.std.proofs.lemmas.List.Elements.{All-contains, All-filter, All-contains_itself, filter_passes}
use Rattle.std.proofs.lemmas.Map.Keys.{IsDistinct-from_sorted}
use Rattle.std.proofs.lemmas.Map.Lookups.{exact_unsigned}
use Rattle.std.proofs.lemmas.Map.Views.{Contains-from_lookup, lookup-from_Contains}
use Rattle.cache_model.specs.declared.index.IndexKey.{IndexKey}
use Rattle.cache_model.specs.declared.index.IndexValue.{IndexValue}
use Rattle.cache_model.proofs.Members.{among-here, among-later, among-cases, all-among}
use Rattle.tree_index.specs.Index.{Entries, index_cmp, is_key, value_at, AreOrdered, entries_of}
use Rattle.compactor.specs.declared.finding.FoundEntry.{FoundEntry}
use Rattle.compactor.specs.Counting.{IsFileNumber}
use Rattle.compactor.specs.Entering.{IsHeld}
use Rattle.compactor.specs.Finding.{IsAmong}

pub index_total : IsTotalOrder index_cmp
index_total =
    then_total
    (on_total (λ (key : IndexKey). key.hash) nat_cmp_total)
    (then_total (on_total (λ (key : IndexKey). key.file) nat_cmp_total) (on_total (λ (key : IndexKey). key.at) nat_cmp_total))

-- keys that compare as equal are the same
pub same_key : (one other : IndexKey) → is_key one other ≡ true → one ≡ other
same_key one other is = by (nat_cmp one.hash other.hash) refl (nat_cmp one.file other.file) refl (nat_cmp one.at other.at) refl is
  where
    by : (h : Ordering) → nat_cmp one.hash other.hash ≡ h → (f : Ordering) → nat_cmp one.file other.file ≡ f → (a : Ordering) → nat_cmp one.at other.at ≡ a
        → is_eq (ordering_then h (ordering_then f a)) ≡ true → one ≡ other
    by Equal hash Equal file Equal at is =
        let h = exact_unsigned one.hash other.hash hash in
        let f = exact_unsigned one.file other.file file in
        let a = exact_unsigned one.at other.at at in
        rw (h, f, a) refl
    by Equal hash Equal file Less at is = cc
    by Equal hash Equal file Greater at is = cc
    by Equal hash Less file a at is = cc
    by Equal hash Greater file a at is = cc
    by Less hash f file a at is = cc
    by Greater hash f file a at is = cc

-- and a key as itself
pub key_itself : (key : IndexKey) → is_key key key ≡ true
key_itself key = (eq_by_cmp_equiv index_total).refl key

-- what passes a test is among those that pass
pub among-filter : {X : Type 0} (test : X → Bool) (xs : List X) (x : X) → Contains xs x → test x ≡ true → Contains (filter test xs) x
among-filter test [] x among passes = among
among-filter {X = X} test (one ∷ xs) x among passes =
    by (test one) refl (λ later. among-filter test xs x later passes)
  where
    by : (b : Bool) → test one ≡ b → (Contains xs x → Contains (filter test xs) x) → Contains (cond b (one ∷ filter test xs) (filter test xs)) x
    by true is rest = ⊎_elim (λ same. subst (λ (y : X). Contains (one ∷ filter test xs) y) same (among-here one (filter test xs))) (λ later. among-later one x (filter test xs) (rest later)) (among-cases one x xs among)
    by false is rest = ⊎_elim (λ same. let no : true ≡ false = sym passes ∙ ap test (sym same) ∙ is in cc) rest (among-cases one x xs among)

-- each entry is held,
pub held_all : (entries : Entries) → AreOrdered entries → (e : IndexKey × IndexValue) → Contains entries e → value_at entries e.0 ≡ Some e.1
held_all entries ordered e among = lookup-from_Contains (eq_by_cmp_equiv index_total) e.0 e.1 entries (IsDistinct-from_sorted index_cmp (keys_of entries) ordered) among

-- and what is held is one of them
pub among_if_held : (entries : Entries) (at : IndexKey) (value : IndexValue) → value_at entries at ≡ Some value → Contains entries (at, value)
among_if_held entries at value there = Contains-from_lookup same_key at value entries there

-- the entries of a hash are some of all
pub among_all : (entries : Entries) (hash : ℕ) (e : IndexKey × IndexValue) → Contains (entries_of hash entries) e → Contains entries e
among_all entries hash e among =
    All-contains (Contains entries) (entries_of hash entries) e (All-filter (λ d. nat_eq d.0.hash hash) (Contains entries) entries (All-contains_itself entries)) among

-- the entries of a hash are held, and have it,
pub held : (entries : Entries) → AreOrdered entries → (hash : ℕ) (e : IndexKey × IndexValue) → Contains (entries_of hash entries) e → (value_at entries e.0 ≡ Some e.1) × (e.0.hash ≡ hash)
held entries ordered hash e among =
    (held_all entries ordered e (among_all entries hash e among), has_hash)
  where
    test : IndexKey × IndexValue → Bool
    test d = nat_eq d.0.hash hash

    passes : nat_eq e.0.hash hash ≡ true
    passes = All-contains (λ d. nat_eq d.0.hash hash ≡ true) (entries_of hash entries) e (filter_passes (λ d. nat_eq d.0.hash hash) entries) among

    has_hash : e.0.hash ≡ hash
    has_hash = let is = passes in grind (arith, nat_tests)

-- and what is held under a key of the hash is one of them
pub among_held : (entries : Entries) (hash : ℕ) (at : IndexKey) (value : IndexValue) → value_at entries at ≡ Some value → at.hash ≡ hash → Contains (entries_of hash entries) (at, value)
among_held entries hash at value there same =
    among-filter (λ d. nat_eq d.0.hash hash) entries (at, value) (among_if_held entries at value there) (let test : nat_eq at.hash hash ≡ true = grind (arith, nat_tests) in test)

-- the records of all of them stand in files with numbers that a data file may have
pub numbered : (entries : Entries) → AreOrdered entries → (hash : ℕ) → ((at : IndexKey) (value : IndexValue) → value_at entries at ≡ Some value → IsFileNumber at.file) → All (λ e. IsFileNumber e.0.file) (entries_of hash entries)
numbered entries ordered hash numbers = all-among (λ e. IsFileNumber e.0.file) (entries_of hash entries) (λ e among. numbers e.0 e.1 (held entries ordered hash e among).0)

-- what was found among the entries of a hash is held
pub held_among : {E : Type 0} (entries found : Entries) (hash : ℕ) (result : Result (Option FoundEntry) E) → AreOrdered entries → found ≡ entries_of hash entries → IfOk result (IsAmong found) → IfOk result (IsHeld entries)
held_among entries found hash (Err e) ordered is among = tt
held_among entries found hash (Ok None) ordered is among = tt
held_among entries found hash (Ok (Some f)) ordered is among = (held entries ordered hash (f.at, f.value) (subst (λ (l : Entries). Contains l (f.at, f.value)) is among)).0
