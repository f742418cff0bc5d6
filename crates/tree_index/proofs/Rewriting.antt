-- A row, after what it holds under a key became another.
use Rattle.std.proofs.Common.{Global, ◌≡◌, ℕ, ◌+◌, ◌≤◌, Bool, true, false, [], ◌∷◌, length, Option, Some, None, refl, sym, ◌∙◌, ap, subst, arith}
use Rattle.std.specs.Prelude.{is_some, IsSome, cond, if◌then◌else◌, Result, Ok, Err, OnOk, IfOk}
use Rattle.std.specs.BTreeMap.{BTreeMap, Updates, IsOrdered}
use Rattle.std.specs.Box.{with_value}
use Rattle.std.specs.declared.boxed.Box.{Box}
use Rattle.std.specs.List.{slice_get}
use Rattle.std.specs.List.Sorted.{IsStrictlySortedBy}
use Rattle.cache_model.specs.declared.faults.StoreFault.{StoreFault}
use Rattle.cache_model.specs.declared.index.IndexKey.{IndexKey}
use Rattle.cache_model.specs.declared.index.IndexValue.{IndexValue}
use Rattle.tree_index.specs.Index.{Entries, index_cmp, is_key, value_at, AreOrdered}
use Rattle.tree_index.specs.Rows.{entries_in, IsKept, AreSeveral, Rewrites}
use Rattle.tree_index.specs.declared.row.Row.{Row}
use Rattle.tree_index.specs.declared.row.Row.TheVariants.{One, Several}
use Rattle.tree_index.proofs.Ordered.{of_all, some_of}
use Rattle.tree_index.proofs.Keys.{index_total, index_exact, key_itself, key_same, key_apart, key_turned}
use Rattle.tree_index.proofs.Flat.{IsRow}

-- one entry is in order
one_ordered : (e : IndexKey × IndexValue) → AreOrdered (e ∷ [])
unfolding IsStrictlySortedBy
one_ordered e = (tt, tt)

-- a row that is as it should be is in order, and has its hash
pub is_row : (hash : ℕ) (row : Row) → IsKept hash row → IsRow hash (entries_in hash row)
is_row hash (One gone file at length count) kept = record { hashed = (refl, tt); ordered = one_ordered (record { hash = hash; file = file; at = at }, record { length = length; count = count; gone = gone }) }
is_row hash (Several several) kept = record {
  hashed = of_all index_cmp index_total index_exact (λ (e : IndexKey × IndexValue). e.0.hash ≡ hash) several.value.entries kept.ordered (λ key x there. kept.hashed key (some_of (value_at several.value.entries key) x there));
  ordered = kept.ordered;
}

-- Several, after an update at a key of their hash,
hashed_still : (hash : ℕ) (key : IndexKey) (value : Option IndexValue) (old new : Entries) → key.hash ≡ hash
    → ((other : IndexKey) → value_at new other ≡ cond (is_key key other) value (value_at old other))
    → ((other : IndexKey) → IsSome (value_at old other) → other.hash ≡ hash)
    → (other : IndexKey) → IsSome (value_at new other) → other.hash ≡ hash
hashed_still hash key value old new is each were other there = by (is_key key other) refl (subst (λ (o : Option IndexValue). IsSome o) (each other) there)
  where
    by : (b : Bool) → is_key key other ≡ b → IsSome (cond b value (value_at old other)) → other.hash ≡ hash
    by true same there = ap (λ (k : IndexKey). k.hash) (sym (key_same key other same)) ∙ is
    by false apart there = were other there

module _ (key : IndexKey) (row : Row) (several : Box (BTreeMap IndexKey IndexValue) Global) (old new : BTreeMap IndexKey IndexValue) (is : row ≡ Several several) (was : old ≡ several.value) (kept : IsKept key.hash row) where
  were : AreSeveral key.hash old.entries
  were = subst (λ (m : BTreeMap IndexKey IndexValue). AreSeveral key.hash m.entries) (sym was) (subst (λ (r : Row). IsKept key.hash r) is kept)

  entries_is : old.entries ≡ entries_in key.hash row
  entries_is = ap (λ (m : BTreeMap IndexKey IndexValue). m.entries) was ∙ ap (entries_in key.hash) (sym is)

  from_several : (value : Option IndexValue) (changed : Row) → Rewrites key.hash old.entries key value changed → Rewrites key.hash (entries_in key.hash row) key value changed
  from_several value changed rewrites = subst (λ (es : Entries). Rewrites key.hash es key value changed) entries_is rewrites

  rewritten : (value : Option IndexValue) → Updates index_cmp old new key value → IsOrdered index_cmp new → 2 ≤ length new.entries → Rewrites key.hash (entries_in key.hash row) key value (Several (with_value several new))
  rewritten value updates ordered some = from_several value (Several (with_value several new)) (record {
    each = λ other. updates.0 other;
    kept = record {
      ordered = ordered;
      hashed = hashed_still key.hash key value old.entries new.entries refl updates.0 were.hashed;
      some = some;
    };
  })

  -- by a put,
  pub put_several : (value : IndexValue) (result : Result (Option IndexValue) StoreFault) → OnOk result (Updates index_cmp old new key (Some value)) → IfOk result (λ before. length new.entries ≡ length old.entries + (if is_some before then 0 else 1)) → IsOrdered index_cmp new
      → OnOk result (Rewrites key.hash (entries_in key.hash row) key (Some value) (Several (with_value several new)))
  put_several value (Ok before) updates len ordered = let some : 2 ≤ length old.entries = were.some in rewritten (Some value) updates ordered (omega arith)
  put_several value (Err fault) updates len ordered = tt

  -- or as some are taken out and more than one is left,
  pub left_several : (before : Option IndexValue) → Updates index_cmp old new key None → IsOrdered index_cmp new → length new.entries + (if is_some before then 1 else 0) ≡ length old.entries → (length new.entries ≡ 1 → ⊥)
      → Rewrites key.hash (entries_in key.hash row) key None (Several (with_value several new))
  left_several before updates ordered len more = rewritten None updates ordered (by (is_some before) were.some len)
    where
      by : (b : Bool) → 2 ≤ length old.entries → length new.entries + (if b then 1 else 0) ≡ length old.entries → 2 ≤ length new.entries
      by true some len = omega arith
      by false some len = omega arith

  -- or one.
  pub left_one : (left : IndexKey × IndexValue) (one : Row) → Updates index_cmp old new key None → new.entries ≡ left ∷ [] → entries_in left.0.hash one ≡ left ∷ [] → IsKept left.0.hash one
      → Rewrites key.hash (entries_in key.hash row) key None one
  left_one left one updates entries alone fits = from_several None one (record {
    each = λ other. ap (λ (es : Entries). value_at es other) same ∙ updates.0 other;
    kept = subst (λ (h : ℕ). IsKept h one) here fits;
  })
    where
      there : IsSome (value_at new.entries left.0)
      there = subst (λ (es : Entries). IsSome (value_at es left.0)) (sym entries) (rw (key_itself left.0) refl)

      here : left.0.hash ≡ key.hash
      here = hashed_still key.hash key None old.entries new.entries refl updates.0 were.hashed left.0 there

      same : entries_in key.hash one ≡ new.entries
      same = ap (λ (h : ℕ). entries_in h one) (sym here) ∙ alone ∙ sym entries

-- Two entries of one hash become a row of several.
module _ (one other : IndexKey × IndexValue) (hash : one.0.hash ≡ other.0.hash) (apart : one.0 ≡ other.0 → ⊥) (none first second : BTreeMap IndexKey IndexValue) (empty : none.entries ≡ []) (puts_one : Updates index_cmp none first one.0 (Some one.1)) where
  has_one : (key : IndexKey) → value_at first.entries key ≡ value_at (one ∷ []) key
  has_one key = puts_one.0 key ∙ ap (λ (es : Entries). cond (is_key one.0 key) (Some one.1) (value_at es key)) empty ∙ ap (λ (b : Bool). cond b (Some one.1) None) (key_turned one.0 key)

  pub not_yet : value_at first.entries other.0 ≡ None
  not_yet = has_one other.0 ∙ ap (λ (b : Bool). cond b (Some one.1) None) (key_turned other.0 one.0 ∙ key_apart one.0 other.0 apart)

  hash_of_one : (key : IndexKey) → IsSome (value_at first.entries key) → key.hash ≡ other.0.hash
  hash_of_one key there = by (is_key key one.0) refl (subst (λ (o : Option IndexValue). IsSome o) (has_one key) there)
    where
      by : (b : Bool) → is_key key one.0 ≡ b → IsSome (cond b (Some one.1) None) → key.hash ≡ other.0.hash
      by true same there = ap (λ (k : IndexKey). k.hash) (key_same key one.0 same) ∙ hash
      by false apart there = cc

  pub two : (several : Box (BTreeMap IndexKey IndexValue) Global) (b d : Option IndexValue) → several.value ≡ second → Updates index_cmp first second other.0 (Some other.1) → IsOrdered index_cmp second
      → b ≡ value_at none.entries one.0 → length first.entries ≡ length none.entries + (if is_some b then 0 else 1)
      → d ≡ value_at first.entries other.0 → length second.entries ≡ length first.entries + (if is_some d then 0 else 1)
      → Rewrites other.0.hash (one ∷ []) other.0 (Some other.1) (Several several)
  two several b d is puts_other ordered b_is first_len d_is second_len = record {
    each = λ key. ap (λ (m : BTreeMap IndexKey IndexValue). value_at m.entries key) is ∙ puts_other.0 key ∙ ap (λ (o : Option IndexValue). cond (is_key other.0 key) (Some other.1) o) (has_one key);
    kept = subst (λ (m : BTreeMap IndexKey IndexValue). AreSeveral other.0.hash m.entries) (sym is) (record {
      ordered = ordered;
      hashed = hashed_still other.0.hash other.0 (Some other.1) first.entries second.entries refl puts_other.0 hash_of_one;
      some = some;
    });
  }
    where
      none_of : (o : Option IndexValue) → o ≡ None → ◌≡◌ {A = ℕ} (if is_some o then 0 else 1) 1
      none_of o is = ap {B = ℕ} (λ (p : Option IndexValue). if is_some p then 0 else 1) is

      some : 2 ≤ length second.entries
      some =
          let later : ◌≡◌ {A = ℕ} (if is_some d then 0 else 1) 1 = none_of d (d_is ∙ not_yet) in
          let early : ◌≡◌ {A = ℕ} (if is_some b then 0 else 1) 1 = none_of b (b_is ∙ ap (λ (es : Entries). value_at es one.0) empty) in
          omega arith

-- A list of length one has its first entry alone.
pub only : (entries : Entries) (e : IndexKey × IndexValue) → length entries ≡ 1 → slice_get entries 0 ≡ Some e → entries ≡ e ∷ []
only [] e len first = absurd (omega arith)
only (d ∷ []) e len first = let same : d ≡ e = cc in ap (λ (x : IndexKey × IndexValue). x ∷ []) same
only (d ∷ c ∷ entries) e len first = absurd (omega arith)
