-- All entries, one row after another: what is found among them, and in which order they stand.
use Rattle.std.proofs.Common.{◌≡◌, ℕ, ◌<◌, Bool, true, false, List, [], ◌∷◌, ◌++◌, Option, Some, None, refl, sym, ◌∙◌, ap, subst, arith}
use Rattle.std.specs.Prelude.{IsSome, cond, nat_eq}
use Rattle.std.specs.List.{AllByRecursion, filter}
use Rattle.std.specs.List.Sorted.{IsStrictlySortedBy}
use Rattle.std.specs.Map.{lookup, keys_of}
use Rattle.std.specs.Cmp.{nat_cmp_total}
use Rattle.std.specs.Ordering.{nat_cmp, is_eq}
use Rattle.std.specs.declared.cmp.Ordering.TheVariants.{Less}
use Rattle.std.proofs.lemmas.Bool.Decides.{nat_tests}
use Rattle.std.proofs.lemmas.List.{append-nil}
use Rattle.std.proofs.lemmas.List.Elements.{filter-append}
use Rattle.std.proofs.lemmas.Map.Entries.{lookup-filter-keys}
use Rattle.std.proofs.lemmas.Map.Keys.{sorted_head, sorted_tail}
use Rattle.std.proofs.lemmas.Map.Lookups.{exact_unsigned}
use Rattle.cache_model.specs.declared.index.IndexKey.{IndexKey}
use Rattle.cache_model.specs.declared.index.IndexValue.{IndexValue}
use Rattle.tree_index.specs.Index.{Entries, index_cmp, is_key, value_at, AreOrdered, entries_of}
use Rattle.tree_index.specs.Rows.{entries_in, held_in, entries_by}
use Rattle.tree_index.specs.declared.row.Row.{Row}
use Rattle.tree_index.proofs.Ordered.{at, itself, same, none_behind}
use Rattle.tree_index.proofs.Keys.{key_same, lower_hash}

-- all entries have the hash
abbrev pub HaveHash : ℕ → Entries → Type 0
HaveHash hash entries = AllByRecursion (λ (e : IndexKey × IndexValue). e.0.hash ≡ hash) entries

-- The entries of a row are in their order, and have its hash.
pub record IsRow (hash : ℕ) (entries : Entries) : Type 0 where
  pub hashed : HaveHash hash entries
  pub ordered : AreOrdered entries

-- The rows are in the order of their hashes, and each is one.
pub record AreRows (rows : List (ℕ × Row)) : Type 0 where
  pub ordered : IsStrictlySortedBy nat_cmp (keys_of rows)
  pub each : AllByRecursion (λ (r : ℕ × Row). IsRow r.0 (entries_in r.0 r.1)) rows

pub rows_behind : (r : ℕ × Row) (rows : List (ℕ × Row)) → AreRows (r ∷ rows) → AreRows rows
rows_behind r rows are = record { ordered = sorted_tail nat_cmp r.0 (keys_of rows) are.ordered; each = are.each.1 }

-- The entries of one hash are those of its row.
all_pass : (hash : ℕ) (entries : Entries) → HaveHash hash entries → entries_of hash entries ≡ entries
all_pass hash [] have = refl
all_pass hash (e ∷ entries) have =
    let pass : nat_eq e.0.hash hash ≡ true = grind (arith, nat_tests) in
    rw pass (ap (λ (es : Entries). e ∷ es) (all_pass hash entries have.1))

none_pass : (hash other : ℕ) (entries : Entries) → (other ≡ hash → ⊥) → HaveHash other entries → entries_of hash entries ≡ []
none_pass hash other [] apart have = refl
none_pass hash other (e ∷ entries) apart have =
    let is : e.0.hash ≡ other = have.0 in
    let fail : nat_eq e.0.hash hash ≡ false = grind (arith, nat_tests) in
    rw fail (none_pass hash other entries apart have.1)

pub of_hash : (hash : ℕ) (rows : List (ℕ × Row)) → AreRows rows → entries_of hash (entries_by rows) ≡ held_in hash (at nat_cmp hash rows)
of_hash hash [] are = refl
of_hash hash (r ∷ rows) are =
    filter-append (λ (e : IndexKey × IndexValue). nat_eq e.0.hash hash) (entries_in r.0 r.1) (entries_by rows)
    ∙ by (of_hash hash rows (rows_behind r rows are)) (is_eq (nat_cmp hash r.0)) refl
  where
    by : entries_of hash (entries_by rows) ≡ held_in hash (at nat_cmp hash rows) → (b : Bool) → is_eq (nat_cmp hash r.0) ≡ b
        → entries_of hash (entries_in r.0 r.1) ++ entries_of hash (entries_by rows) ≡ held_in hash (cond b (Some r.1) (at nat_cmp hash rows))
    by rest true is =
        let here : r.0 ≡ hash = sym (same nat_cmp exact_unsigned hash r.0 is) in
        let none : at nat_cmp hash rows ≡ None =
        subst (λ (h : ℕ). at nat_cmp h rows ≡ None) here (none_behind nat_cmp nat_cmp_total exact_unsigned r.0 rows (sorted_head nat_cmp r.0 (keys_of rows) are.ordered)) in
        ap (λ (es : Entries). entries_of hash (entries_in r.0 r.1) ++ es) (rest ∙ ap (held_in hash) none)
        ∙ append-nil (entries_of hash (entries_in r.0 r.1))
        ∙ all_pass hash (entries_in r.0 r.1) (subst (λ (h : ℕ). HaveHash h (entries_in r.0 r.1)) here are.each.0.hashed)
        ∙ ap (λ (h : ℕ). entries_in h r.1) here
    by rest false apart = ap (λ (es : Entries). es ++ entries_of hash (entries_by rows)) (none_pass hash r.0 (entries_in r.0 r.1) other are.each.0.hashed) ∙ rest
      where
        other : r.0 ≡ hash → ⊥
        other is =
            let equal : is_eq (nat_cmp hash r.0) ≡ true = subst (λ (h : ℕ). is_eq (nat_cmp hash h) ≡ true) (sym is) (itself nat_cmp nat_cmp_total hash) in
            let no : true ≡ false = sym equal ∙ apart in cc

-- What is held under a key is held there in the row of its hash.
pub reads : (rows : List (ℕ × Row)) → AreRows rows → (key : IndexKey) → value_at (entries_by rows) key ≡ value_at (held_in key.hash (at nat_cmp key.hash rows)) key
reads rows are key = sym (lookup-filter-keys (is_key key) (λ (k : IndexKey). nat_eq k.hash key.hash) true here (entries_by rows)) ∙ ap (λ (es : Entries). value_at es key) (of_hash key.hash rows are)
  where
    here : (k : IndexKey) → is_key key k ≡ true → nat_eq k.hash key.hash ≡ true
    here k is =
        let one : key.hash ≡ k.hash = ap (λ (j : IndexKey). j.hash) (key_same key k is) in
        grind (arith, nat_tests)

-- Entries stand behind another one,
abbrev pub StandBehind : IndexKey → Entries → Type 0
StandBehind key entries = AllByRecursion (λ (e : IndexKey × IndexValue). index_cmp key e.0 ≡ Less) entries

pub all_keys : (P : IndexKey → Type 0) (entries : Entries) → AllByRecursion (λ (e : IndexKey × IndexValue). P e.0) entries → AllByRecursion P (keys_of entries)
all_keys P [] all = tt
all_keys P (e ∷ entries) all = (all.0, all_keys P entries all.1)

all_entries : (P : IndexKey → Type 0) (entries : Entries) → AllByRecursion P (keys_of entries) → AllByRecursion (λ (e : IndexKey × IndexValue). P e.0) entries
all_entries P [] all = tt
all_entries P (e ∷ entries) all = (all.0, all_entries P entries all.1)

all_both : (P : IndexKey × IndexValue → Type 0) (one other : Entries) → AllByRecursion P one → AllByRecursion P other → AllByRecursion P (one ++ other)
all_both P [] other first second = second
all_both P (e ∷ one) other first second = (first.0, all_both P one other first.1 second)

in_order : (e : IndexKey × IndexValue) (entries : Entries) → StandBehind e.0 entries → AreOrdered entries → AreOrdered (e ∷ entries)
unfolding IsStrictlySortedBy
in_order e entries behind ordered = (all_keys (λ (k : IndexKey). index_cmp e.0 k ≡ Less) entries behind, ordered)

-- and lists in order are so together where each of one is before all of the other.
ordered_both : (one other : Entries) → AreOrdered one → AreOrdered other → AllByRecursion (λ (e : IndexKey × IndexValue). StandBehind e.0 other) one → AreOrdered (one ++ other)
ordered_both [] other first second before = second
ordered_both (e ∷ one) other first second before =
    in_order e (one ++ other)
    (all_both (λ (o : IndexKey × IndexValue). index_cmp e.0 o.0 ≡ Less) one other (all_entries (λ (k : IndexKey). index_cmp e.0 k ≡ Less) one (sorted_head index_cmp e.0 (keys_of one) first)) before.0)
    (ordered_both one other (sorted_tail index_cmp e.0 (keys_of one) first) second before.1)

-- All entries of later rows have greater hashes.
row_above : (hash : ℕ) (lower : ℕ) (entries : Entries) → nat_cmp lower hash ≡ Less → HaveHash hash entries → AllByRecursion (λ (e : IndexKey × IndexValue). nat_cmp lower e.0.hash ≡ Less) entries
row_above hash lower [] less have = tt
row_above hash lower (e ∷ entries) less have = (subst (λ (h : ℕ). nat_cmp lower h ≡ Less) (sym have.0) less, row_above hash lower entries less have.1)

pub rows_above : (lower : ℕ) (rows : List (ℕ × Row)) → AllByRecursion (λ (h : ℕ). nat_cmp lower h ≡ Less) (keys_of rows) → AllByRecursion (λ (r : ℕ × Row). IsRow r.0 (entries_in r.0 r.1)) rows
    → AllByRecursion (λ (e : IndexKey × IndexValue). nat_cmp lower e.0.hash ≡ Less) (entries_by rows)
rows_above lower [] above each = tt
rows_above lower (r ∷ rows) above each =
    all_both (λ (e : IndexKey × IndexValue). nat_cmp lower e.0.hash ≡ Less) (entries_in r.0 r.1) (entries_by rows)
    (row_above r.0 lower (entries_in r.0 r.1) above.0 each.0.hashed)
    (rows_above lower rows above.1 each.1)

behind_one : (key : IndexKey) (lower : ℕ) (entries : Entries) → key.hash ≡ lower → AllByRecursion (λ (e : IndexKey × IndexValue). nat_cmp lower e.0.hash ≡ Less) entries → StandBehind key entries
behind_one key lower [] is above = tt
behind_one key lower (e ∷ entries) is above = (lower_hash key e.0 (subst (λ (h : ℕ). nat_cmp h e.0.hash ≡ Less) (sym is) above.0), behind_one key lower entries is above.1)

behind_each : (lower : ℕ) (one other : Entries) → HaveHash lower one → AllByRecursion (λ (e : IndexKey × IndexValue). nat_cmp lower e.0.hash ≡ Less) other → AllByRecursion (λ (e : IndexKey × IndexValue). StandBehind e.0 other) one
behind_each lower [] other have above = tt
behind_each lower (e ∷ one) other have above = (behind_one e.0 lower other have.0 above, behind_each lower one other have.1 above)

-- All entries are in order.
none_ordered : AreOrdered []
unfolding IsStrictlySortedBy
none_ordered = tt

pub ordered_all : (rows : List (ℕ × Row)) → AreRows rows → AreOrdered (entries_by rows)
ordered_all [] are = none_ordered
ordered_all (r ∷ rows) are =
    ordered_both (entries_in r.0 r.1) (entries_by rows) are.each.0.ordered (ordered_all rows (rows_behind r rows are))
    (behind_each r.0 (entries_in r.0 r.1) (entries_by rows) are.each.0.hashed (rows_above r.0 rows (sorted_head nat_cmp r.0 (keys_of rows) are.ordered) are.each.1))
