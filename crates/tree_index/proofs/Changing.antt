-- The index that rows stand for, and what a change of them is to it.
use Rattle.std.proofs.Common.{◌≡◌, ℕ, Bool, true, false, Option, refl, sym, ◌∙◌, ap, subst}
use Rattle.std.specs.Prelude.{cond, Result, Ok, Err, OnOk, OnErr}
use Rattle.std.specs.Cmp.{nat_cmp_total}
use Rattle.std.specs.Ordering.{nat_cmp}
use Rattle.std.proofs.lemmas.Map.Lookups.{exact_unsigned}
use Rattle.cache_model.specs.declared.faults.StoreFault.{StoreFault}
use Rattle.cache_model.specs.declared.index.IndexKey.{IndexKey}
use Rattle.cache_model.specs.declared.index.IndexValue.{IndexValue}
use Rattle.tree_index.specs.Index.{Index, Entries, index_cmp, is_key, value_at, entries_of, Sets}
use Rattle.tree_index.specs.Rows.{Rows, entries_in, held_at, all_entries, AreKept, Changes}
use Rattle.tree_index.specs.declared.row.Row.{Row}
use Rattle.tree_index.proofs.Ordered.{of_all, same_lists}
use Rattle.tree_index.proofs.Keys.{index_total, index_exact, key_itself, key_same}
use Rattle.tree_index.proofs.Flat.{IsRow, AreRows, reads, of_hash, ordered_all}
use Rattle.tree_index.proofs.Rewriting.{is_row}

-- rows that are as they should be, each with its entries
pub are_rows : (rows : Rows) → AreKept rows → AreRows rows.entries
are_rows rows kept = record {
  ordered = kept.ordered;
  each = of_all nat_cmp nat_cmp_total exact_unsigned (λ (r : ℕ × Row). IsRow r.0 (entries_in r.0 r.1)) rows.entries kept.ordered (λ hash row there. is_row hash row (kept.each hash row there));
}

-- what is held under a key is held in its row
pub reads_rows : (rows : Rows) → AreKept rows → (key : IndexKey) → value_at (all_entries rows) key ≡ value_at (held_at rows key.hash) key
reads_rows rows kept key = reads rows.entries (are_rows rows kept) key

pub finds_row : (rows : Rows) → AreKept rows → (hash : ℕ) → entries_of hash (all_entries rows) ≡ held_at rows hash
finds_row rows kept hash = of_hash hash rows.entries (are_rows rows kept)

-- The index that the rows stand for,
abbrev pub over : ℕ → Rows → Index
over bits rows = record { bits = bits; entries = all_entries rows }

-- is set at a key,
pub sets : (bits : ℕ) (old new : Rows) (key : IndexKey) (value : Option IndexValue) → AreKept old → Changes old key value new → Sets key value (over bits old) (over bits new)
sets bits old new key value were changes = record {
  bits = refl;
  here = each key ∙ ap (λ (b : Bool). cond b value (value_at (all_entries old) key)) (key_itself key);
  each = each;
  ordered = ordered_all new.entries (are_rows new changes.kept);
}
  where
    each : (other : IndexKey) → value_at (all_entries new) other ≡ cond (is_key key other) value (value_at (all_entries old) other)
    each other = reads_rows new changes.kept other ∙ changes.each other ∙ ap (λ (o : Option IndexValue). cond (is_key key other) value o) (sym (reads_rows old were other))

-- or is the same where a key has what it had.
pub unchanged : (bits : ℕ) (old new : Rows) (key : IndexKey) → AreKept old → Changes old key (value_at (held_at old key.hash) key) new → over bits new ≡ over bits old
unchanged bits old new key were changes = ap (λ (es : Entries). record { bits = bits; entries = es })
    (same_lists index_cmp index_total index_exact (all_entries new) (all_entries old) (ordered_all new.entries (are_rows new changes.kept)) (ordered_all old.entries (are_rows old were)) alike)
  where
    set : Sets key (value_at (held_at old key.hash) key) (over bits old) (over bits new)
    set = sets bits old new key (value_at (held_at old key.hash) key) were changes

    alike : (other : IndexKey) → value_at (all_entries new) other ≡ value_at (all_entries old) other
    alike other = set.each other ∙ by (is_key key other) refl
      where
        by : (b : Bool) → is_key key other ≡ b → cond b (value_at (held_at old key.hash) key) (value_at (all_entries old) other) ≡ value_at (all_entries old) other
        by true is = sym (reads_rows old were key) ∙ ap (λ (k : IndexKey). value_at (all_entries old) k) (key_same key other is)
        by false apart = refl

-- Where a call answered or failed.
pub sets_ok : (bits : ℕ) (old new : Rows) (key : IndexKey) (value : Option IndexValue) (result : Result (Option IndexValue) StoreFault) → AreKept old → OnOk result (Changes old key value new) → OnOk result (Sets key value (over bits old) (over bits new))
sets_ok bits old new key value (Ok before) were changes = sets bits old new key value were changes
sets_ok bits old new key value (Err fault) were changes = tt

pub same_err : (bits : ℕ) (old new : Rows) (key : IndexKey) (result : Result (Option IndexValue) StoreFault) → AreKept old → OnErr result (Changes old key (value_at (held_at old key.hash) key) new) → OnErr result (over bits new ≡ over bits old)
same_err bits old new key (Ok before) were changes = tt
same_err bits old new key (Err fault) were changes = unchanged bits old new key were changes
