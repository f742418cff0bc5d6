-- The least entry above a key, among several and by rows.
use Rattle.std.proofs.Common.{◌≡◌, ℕ, Bool, true, false, List, [], ◌∷◌, ◌++◌, Option, Some, None, refl, sym, ◌∙◌, ap, subst}
use Rattle.std.specs.Prelude.{IsSome, cond, ◌&&◌}
use Rattle.std.specs.List.{AllByRecursion, filter}
use Rattle.std.specs.List.Sorted.{IsStrictlySortedBy}
use Rattle.std.specs.Map.{lookup, keys_of}
use Rattle.std.specs.BTreeMap.{BTreeMap}
use Rattle.std.specs.BTreeMap.Range.{entries_between, range_contains, IsRangeOf}
use Rattle.std.specs.Ordering.{nat_cmp, ordering_then, is_eq, is_gt, is_le}
use Rattle.std.specs.declared.cmp.Ordering.{Ordering}
use Rattle.std.specs.declared.cmp.Ordering.TheVariants.{Less, Equal, Greater}
use Rattle.std.specs.declared.ops.Bound.TheVariants.{Included, Excluded, Unbounded}
use Rattle.std.proofs.lemmas.List.Kept.{IsStrictlySortedBy-filter}
use Rattle.std.proofs.lemmas.Map.Entries.{lookup-filter-keys}
use Rattle.std.proofs.lemmas.Map.Keys.{sorted_head}
use Rattle.std.proofs.lemmas.Map.Lookups.{exact_unsigned}
use Rattle.cache_model.specs.declared.index.IndexKey.{IndexKey}
use Rattle.cache_model.specs.declared.index.IndexValue.{IndexValue}
use Rattle.tree_index.specs.Index.{Entries, index_cmp, is_key, value_at, IsAbove, IsNext}
use Rattle.tree_index.specs.Starts.{start_after, row_start}
use Rattle.tree_index.specs.Rows.{Rows, entries_in, held_in, entries_by, all_entries, AreKept}
use Rattle.tree_index.specs.declared.row.Row.{Row}
use Rattle.tree_index.proofs.Ordered.{at, same, of_one, some_of}
use Rattle.tree_index.proofs.Keys.{index_total, index_exact, lower_hash}
use Rattle.tree_index.proofs.Flat.{IsRow, AreRows, HaveHash, all_keys, rows_above, rows_behind, reads}
use Rattle.tree_index.proofs.Changing.{are_rows, reads_rows}

-- the first entry of a walk above a key is the least
pub is_next : (entries : BTreeMap IndexKey IndexValue) (after : Option IndexKey) (rest left : Entries) (e : IndexKey × IndexValue) → IsRangeOf index_cmp (start_after after) Unbounded entries rest → rest ≡ e ∷ left → IsNext entries.entries after (Some e)
is_next entries None rest left e walk is = let first = subst (λ (r : Entries). IsRangeOf index_cmp Unbounded Unbounded entries r) is walk in (tt, first.1.1, λ key above there. first.2 key (tt, tt) there)
is_next entries (Some after) rest left e walk is = let first = subst (λ (r : Entries). IsRangeOf index_cmp (Excluded after) Unbounded entries r) is walk in (first.1.0.0, first.1.1, λ key above there. first.2 key (above, tt) there)

-- a walk without an entry has none above
pub none_next : (entries : BTreeMap IndexKey IndexValue) (after : Option IndexKey) (rest : Entries) → IsRangeOf index_cmp (start_after after) Unbounded entries rest → rest ≡ [] → IsNext entries.entries after None
none_next entries None rest walk is = λ key above. walk.5 is key (tt, tt)
none_next entries (Some after) rest walk is = λ key above. walk.5 is key (above, tt)

-- The rows that are left have all entries above the key that there are.
pub record IsWalked (after : Option IndexKey) (all : Entries) (rest : List (ℕ × Row)) : Type 0 where
  pub rows : AreRows rest
  pub same : (key : IndexKey) → IsAbove after key → value_at (entries_by rest) key ≡ value_at all key

lookup_past : (test : IndexKey → Bool) (one other : Entries) → lookup test one ≡ None → lookup test (one ++ other) ≡ lookup test other
lookup_past test [] other none = refl
lookup_past test (e ∷ one) other none = by (test e.0) refl none (lookup_past test one other)
  where
    by : (b : Bool) → test e.0 ≡ b → cond b (Some e.1) (lookup test one) ≡ None → (lookup test one ≡ None → lookup test (one ++ other) ≡ lookup test other) → cond b (Some e.1) (lookup test (one ++ other)) ≡ lookup test other
    by true is none rest = let no : Some e.1 ≡ None = none in cc
    by false apart none rest = rest none

lookup_within : (test : IndexKey → Bool) (one other : Entries) (value : IndexValue) → lookup test one ≡ Some value → lookup test (one ++ other) ≡ Some value
lookup_within test [] other value is = let no : None ≡ Some value = is in cc
lookup_within test (e ∷ one) other value is = by (test e.0) is (lookup_within test one other value)
  where
    by : (b : Bool) → cond b (Some e.1) (lookup test one) ≡ Some value → (lookup test one ≡ Some value → lookup test (one ++ other) ≡ Some value) → cond b (Some e.1) (lookup test (one ++ other)) ≡ Some value
    by true is rest = is
    by false is rest = rest is

-- A row without an entry above the key is passed over,
pub goes_on : (after : Option IndexKey) (all : Entries) (r : ℕ × Row) (rest : List (ℕ × Row)) → IsWalked after all (r ∷ rest) → IsNext (entries_in r.0 r.1) after None → IsWalked after all rest
goes_on after all r rest walked none = record {
  rows = rows_behind r rest walked.rows;
  same = λ key above. sym (lookup_past (is_key key) (entries_in r.0 r.1) (entries_by rest) (none key above)) ∙ walked.same key above;
}

-- the first that has one has the least,
pub stops : (after : Option IndexKey) (all : Entries) (r : ℕ × Row) (rest : List (ℕ × Row)) (next : IndexKey × IndexValue) → IsWalked after all (r ∷ rest) → IsNext (entries_in r.0 r.1) after (Some next) → IsNext all after (Some next)
stops after all r rest next walked first = (
  first.0,
  sym (walked.same next.0 first.0) ∙ lookup_within (is_key next.0) (entries_in r.0 r.1) (entries_by rest) next.1 first.1,
  λ key above there. by key above (value_at (entries_in r.0 r.1) key) refl (subst (λ (o : Option IndexValue). IsSome o) (sym (walked.same key above)) there),
)
  where
    its_hash : next.0.hash ≡ r.0
    its_hash = of_one index_cmp index_total index_exact (λ (k : IndexKey). k.hash ≡ r.0) next.0 (entries_in r.0 r.1)
        (all_keys (λ (k : IndexKey). k.hash ≡ r.0) (entries_in r.0 r.1) walked.rows.each.0.hashed) (some_of (value_at (entries_in r.0 r.1) next.0) next.1 first.1)

    later : (key : IndexKey) → IsSome (value_at (entries_by rest) key) → nat_cmp r.0 key.hash ≡ Less
    later key there = of_one index_cmp index_total index_exact (λ (k : IndexKey). nat_cmp r.0 k.hash ≡ Less) key (entries_by rest)
        (all_keys (λ (k : IndexKey). nat_cmp r.0 k.hash ≡ Less) (entries_by rest) (rows_above r.0 rest (sorted_head nat_cmp r.0 (keys_of rest) walked.rows.ordered) walked.rows.each.1)) there

    by : (key : IndexKey) → IsAbove after key → (o : Option IndexValue) → value_at (entries_in r.0 r.1) key ≡ o → IsSome (value_at (entries_in r.0 r.1 ++ entries_by rest) key) → is_gt (index_cmp next.0 key) ≡ false
    by key above (Some value) is there = first.2 key above (some_of (value_at (entries_in r.0 r.1) key) value is)
    by key above None none there =
        let behind : IsSome (value_at (entries_by rest) key) = subst (λ (o : Option IndexValue). IsSome o) (lookup_past (is_key key) (entries_in r.0 r.1) (entries_by rest) none) there in
        ap is_gt (lower_hash next.0 key (subst (λ (h : ℕ). nat_cmp h key.hash ≡ Less) (sym its_hash) (later key behind)))

-- and where no row is left there is none.
pub ends : (after : Option IndexKey) (all : Entries) (rest : List (ℕ × Row)) → rest ≡ [] → IsWalked after all rest → IsNext all after None
ends after all rest none walked = λ key above. sym (walked.same key above) ∙ ap (λ (rows : List (ℕ × Row)). value_at (entries_by rows) key) none

-- The rows of a walk are rows,
keys_kept : (p : ℕ → Bool) (rows : List (ℕ × Row)) → keys_of (filter (λ (e : ℕ × Row). p e.0) rows) ≡ filter p (keys_of rows)
keys_kept p [] = refl
keys_kept p (e ∷ rows) = by (keys_kept p rows) (p e.0)
  where
    by : keys_of (filter (λ (e : ℕ × Row). p e.0) rows) ≡ filter p (keys_of rows) → (b : Bool) → keys_of (cond b (e ∷ filter (λ (e : ℕ × Row). p e.0) rows) (filter (λ (e : ℕ × Row). p e.0) rows)) ≡ cond b (e.0 ∷ filter p (keys_of rows)) (filter p (keys_of rows))
    by rest true = ap (λ (ks : List ℕ). e.0 ∷ ks) rest
    by rest false = rest

each_kept : (p : ℕ → Bool) (P : ℕ × Row → Type 0) (rows : List (ℕ × Row)) → AllByRecursion P rows → AllByRecursion P (filter (λ (e : ℕ × Row). p e.0) rows)
each_kept p P [] each = tt
each_kept p P (e ∷ rows) each = by (p e.0) (each_kept p P rows each.1)
  where
    by : (b : Bool) → AllByRecursion P (filter (λ (e : ℕ × Row). p e.0) rows) → AllByRecursion P (cond b (e ∷ filter (λ (e : ℕ × Row). p e.0) rows) (filter (λ (e : ℕ × Row). p e.0) rows))
    by true rest = (each.0, rest)
    by false rest = rest

abbrev is_from : Option IndexKey → ℕ → Bool
is_from after hash = range_contains nat_cmp (row_start after) Unbounded hash

-- that of a key above the first one among them.
from_start : (after : Option IndexKey) (key : IndexKey) → IsAbove after key → is_from after key.hash ≡ true
from_start None key above = refl
from_start (Some after) key above = by (nat_cmp after.hash key.hash) above
  where
    by : (o : Ordering) → ordering_then o (ordering_then (nat_cmp after.file key.file) (nat_cmp after.at key.at)) ≡ Less → (is_le o && true) ≡ true
    by Less is = refl
    by Equal is = refl
    by Greater is = cc

pub begins : (after : Option IndexKey) (rows : Rows) → AreKept rows → IsWalked after (all_entries rows) (entries_between nat_cmp (row_start after) Unbounded rows.entries)
begins after rows kept = record { rows = left; same = λ key above. reads (filter (λ (e : ℕ × Row). is_from after e.0) rows.entries) left key ∙ ap (λ (o : Option Row). value_at (held_in key.hash o) key) (there key above) ∙ sym (reads_rows rows kept key) }
  where
    are : AreRows rows.entries
    are = are_rows rows kept

    left : AreRows (filter (λ (e : ℕ × Row). is_from after e.0) rows.entries)
    left = record {
      ordered = rw (keys_kept (is_from after) rows.entries) (IsStrictlySortedBy-filter nat_cmp (is_from after) (keys_of rows.entries) are.ordered);
      each = each_kept (is_from after) (λ (r : ℕ × Row). IsRow r.0 (entries_in r.0 r.1)) rows.entries are.each;
    }

    there : (key : IndexKey) → IsAbove after key → at nat_cmp key.hash (filter (λ (e : ℕ × Row). is_from after e.0) rows.entries) ≡ at nat_cmp key.hash rows.entries
    there key above = lookup-filter-keys (λ (other : ℕ). is_eq (nat_cmp key.hash other)) (is_from after) true
        (λ hash is. subst (λ (h : ℕ). is_from after h ≡ true) (same nat_cmp exact_unsigned key.hash hash is) (from_start after key above)) rows.entries
