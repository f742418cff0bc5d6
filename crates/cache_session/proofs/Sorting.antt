-- Lists of keys in the order of their bytes.
use Rattle.std.proofs.Common.{◌≡◌, ℕ, suc, ◌+◌, ◌<◌, ◌≤◌, Bool, true, false, List, [], ◌∷◌, length, map, refl, sym, ◌∙◌, ap, subst, arith, slice_index_or}
use Rattle.std.proofs.Math.Dec.{T}
use Rattle.std.specs.Prelude.{if◌then◌else◌, ◌&&◌, ◌||◌, filter}
use Rattle.std.specs.List.{list_any, sum_by}
use Rattle.std.specs.List.Sorted.{IsPermutation, IsSorted}
use Rattle.std.specs.Str.{bytes_eq}
use Rattle.std.specs.Ordering.{nat_cmp, is_lt, ordering_reverse}
use Rattle.std.specs.Cmp.Lexicographic.{slice_cmp}
use Rattle.std.specs.declared.cmp.Ordering.{Ordering}
use Rattle.std.specs.declared.cmp.Ordering.TheVariants.{Less, Equal, Greater}
use Rattle.std.specs.FinMap.{entries, entries_sorted, is_sorted}
use Rattle.std.specs.FinMap.Entries.{below_all}
use Rattle.std.proofs.lemmas.Cmp.{nat_list_cmp_total}
use Rattle.std.proofs.lemmas.List.MinMax.{ranks_by}
use Rattle.std.proofs.lemmas.List.Sorted.{sorted_far, sum_by-IsPermutation}
use Rattle.std.proofs.lemmas.List.Sums.{sum_by-cons}
use Rattle.cache_model.specs.Plain.{Plain, is_visible, visible_keys}
use Rattle.cache_model.proofs.PlainEntries.{order, Entries, order-IsAntisymmetric}
use Rattle.cache_session.proofs.Visible.{IsOnce, visible_once, self_bytes, same_bytes}

never : false ≡ true → ⊥
never h = cc

-- no key of a list is below this one
abbrev pub AllFrom : List ℕ → List (List ℕ) → Type 0
AllFrom x [] = Unit {0}
AllFrom x (y ∷ ys) = (is_lt (order y x) ≡ false) × AllFrom x ys

-- no key is below one before it
abbrev pub Ascends : List (List ℕ) → Type 0
Ascends [] = Unit {0}
Ascends (x ∷ xs) = AllFrom x xs × Ascends xs

-- how often a key stands in a list
abbrev pub count : List ℕ → List (List ℕ) → ℕ
count key [] = 0
count key (x ∷ xs) = if bytes_eq x key then suc (count key xs) else count key xs

counts_sum : (key : List ℕ) (xs : List (List ℕ)) → sum_by (λ k. if bytes_eq k key then 1 else 0) xs ≡ count key xs
counts_sum key [] = refl
counts_sum key (x ∷ xs) = sum_by-cons (λ k. if bytes_eq k key then 1 else 0) x xs ∙ by (bytes_eq x key) (counts_sum key xs)
  where
    by : (b : Bool) → sum_by (λ k. if bytes_eq k key then 1 else 0) xs ≡ count key xs → (if b then 1 else 0) + sum_by (λ k. if bytes_eq k key then 1 else 0) xs ≡ (if b then suc (count key xs) else count key xs)
    by true is = omega (arith, is)
    by false is = omega (arith, is)

from_all : (x : List ℕ) (ys : List (List ℕ)) → ((j : ℕ) (d : List ℕ) → j < length ys → is_lt (order (slice_index_or ys j d) x) ≡ false) → AllFrom x ys
from_all x [] each = tt
from_all x (y ∷ ys) each = (each 0 x (omega arith), from_all x ys (λ j d less. each (suc j) d (omega (arith, less))))

from_far : (xs : List (List ℕ)) → ((i j : ℕ) (d : List ℕ) → i ≤ j → j < length xs → is_lt (order (slice_index_or xs j d) (slice_index_or xs i d)) ≡ false) → Ascends xs
from_far [] far = tt
from_far (x ∷ xs) far = (from_all x xs (λ j d less. far 0 (suc j) d (omega arith) (omega (arith, less))), from_far xs (λ i j d le less. far (suc i) (suc j) d (omega (arith, le)) (omega (arith, less))))

pub ascends_sorted : (xs : List (List ℕ)) → IsSorted (slice_cmp nat_cmp) xs → Ascends xs
ascends_sorted xs up = from_far xs (sorted_far (λ x y. is_lt (slice_cmp nat_cmp x y)) (ranks_by nat_list_cmp_total (λ x. x)) xs up)

-- the visible keys of a plain map ascend

less_not : (o p : Ordering) → p ≡ ordering_reverse o → T (is_lt o) → is_lt p ≡ false
less_not Less p is h = ap is_lt is
less_not Equal p is h = absurd h
less_not Greater p is h = absurd h

first : (a b : Bool) → T (a && b) → T a
first true b p = tt
first false b p = p

second : (a b : Bool) → T (a && b) → T b
second true b p = p
second false b p = absurd p

all_above : (m : ℕ) (x : List ℕ) (es : Entries) → T (below_all order x es) → AllFrom x (map (λ e. e.0) (filter (λ e. is_visible e.1.until m) es))
all_above m x [] h = tt
all_above m x (e ∷ es) h = by (is_visible e.1.until m) (all_above m x es (second (is_lt (order x e.0)) (below_all order x es) h))
  where
    by : (b : Bool) → AllFrom x (map (λ e. e.0) (filter (λ e. is_visible e.1.until m) es)) → AllFrom x (map (λ e. e.0) (if b then e ∷ filter (λ e. is_visible e.1.until m) es else filter (λ e. is_visible e.1.until m) es))
    by true later = (less_not (order x e.0) (order e.0 x) (nat_list_cmp_total.antisymm e.0 x) (first (is_lt (order x e.0)) (below_all order x es) h), later)
    by false later = later

ascends_entries : (m : ℕ) (es : Entries) → T (is_sorted order es) → Ascends (map (λ e. e.0) (filter (λ e. is_visible e.1.until m) es))
ascends_entries m [] h = tt
ascends_entries m (e ∷ es) h = by (is_visible e.1.until m) (all_above m e.0 es (first (below_all order e.0 es) (is_sorted order es) h)) (ascends_entries m es (second (below_all order e.0 es) (is_sorted order es) h))
  where
    by : (b : Bool) → AllFrom e.0 (map (λ e. e.0) (filter (λ e. is_visible e.1.until m) es)) → Ascends (map (λ e. e.0) (filter (λ e. is_visible e.1.until m) es))
        → Ascends (map (λ e. e.0) (if b then e ∷ filter (λ e. is_visible e.1.until m) es else filter (λ e. is_visible e.1.until m) es))
    by true above later = (above, later)
    by false above later = later

pub ascends_visible : (plain : Plain) → Ascends (visible_keys plain)
ascends_visible plain = ascends_entries plain.moment (entries plain.entries) (entries_sorted plain.entries)

-- two lists that ascend with the same keys, as often, are equal

picks : (x key : List ℕ) (ys : List (List ℕ)) → AllFrom x ys → 1 ≤ count key ys → is_lt (order key x) ≡ false
picks x key [] all some = absurd (omega (arith, some))
picks x key (y ∷ ys) all some = by (bytes_eq y key) refl some (picks x key ys all.1)
  where
    by : (b : Bool) → bytes_eq y key ≡ b → 1 ≤ (if b then suc (count key ys) else count key ys) → (1 ≤ count key ys → is_lt (order key x) ≡ false) → is_lt (order key x) ≡ false
    by true is some later = subst (λ (k : List ℕ). is_lt (order k x) ≡ false) (same_bytes y key is) all.0
    by false is some later = later some

counts_itself : (x : List ℕ) (xs : List (List ℕ)) → count x (x ∷ xs) ≡ suc (count x xs)
counts_itself x xs = ap (λ (b : Bool). if b then suc (count x xs) else count x xs) (self_bytes x)

counts_other : (x key : List ℕ) (xs : List (List ℕ)) → bytes_eq x key ≡ false → count key (x ∷ xs) ≡ count key xs
counts_other x key xs is = ap (λ (b : Bool). if b then suc (count key xs) else count key xs) is

drops : (x key : List ℕ) (xs ys : List (List ℕ)) → count key (x ∷ xs) ≡ count key (x ∷ ys) → count key xs ≡ count key ys
drops x key xs ys = by (bytes_eq x key)
  where
    by : (b : Bool) → (if b then suc (count key xs) else count key xs) ≡ (if b then suc (count key ys) else count key ys) → count key xs ≡ count key ys
    by true same = omega (arith, same)
    by false same = same

-- neither is below the other
neither : (a b : List ℕ) (o : Ordering) → order a b ≡ o → is_lt o ≡ false → is_lt (ordering_reverse o) ≡ false → a ≡ b
neither a b Less is one two = absurd (never (sym one))
neither a b Equal is one two = order-IsAntisymmetric a b is
neither a b Greater is one two = absurd (never (sym two))

pub same_keys : (xs ys : List (List ℕ)) → Ascends xs → Ascends ys → ((key : List ℕ) → count key xs ≡ count key ys) → xs ≡ ys
same_keys [] [] up_x up_y same = refl
same_keys [] (y ∷ ys) up_x up_y same = absurd (omega (arith, same y, counts_itself y ys))
same_keys (x ∷ xs) [] up_x up_y same = absurd (omega (arith, same x, counts_itself x xs))
same_keys (x ∷ xs) (y ∷ ys) up_x up_y same = ap (λ (l : List (List ℕ)). x ∷ l) (same_keys xs ys up_x.1 up_y.1 less) ∙ ap (λ (k : List ℕ). k ∷ ys) head
  where
    not_below : (b : Bool) → bytes_eq y x ≡ b → is_lt (order x y) ≡ false
    not_below true is = subst (λ (k : List ℕ). is_lt (order x k) ≡ false) (sym (same_bytes y x is)) (itself x)
      where
        flips : (o : Ordering) → o ≡ ordering_reverse o → is_lt o ≡ false
        flips Less h = cc
        flips Equal h = refl
        flips Greater h = refl

        itself : (k : List ℕ) → is_lt (order k k) ≡ false
        itself k = flips (order k k) (nat_list_cmp_total.antisymm k k)
    not_below false is = picks y x ys up_y.0 (omega (arith, same x, counts_itself x xs, counts_other y x ys is))

    not_above : (b : Bool) → bytes_eq x y ≡ b → is_lt (order y x) ≡ false
    not_above true is = subst (λ (k : List ℕ). is_lt (order y k) ≡ false) (sym (same_bytes x y is)) (itself y)
      where
        flips : (o : Ordering) → o ≡ ordering_reverse o → is_lt o ≡ false
        flips Less h = cc
        flips Equal h = refl
        flips Greater h = refl

        itself : (k : List ℕ) → is_lt (order k k) ≡ false
        itself k = flips (order k k) (nat_list_cmp_total.antisymm k k)
    not_above false is = picks x y xs up_x.0 (omega (arith, same y, counts_itself y ys, counts_other x y xs is))

    head : x ≡ y
    head = neither x y (order x y) refl (not_below (bytes_eq y x) refl) (ap is_lt (sym (nat_list_cmp_total.antisymm y x)) ∙ not_above (bytes_eq x y) refl)

    less : (key : List ℕ) → count key xs ≡ count key ys
    less key = drops x key xs ys (same key ∙ ap (λ (k : List ℕ). count key (k ∷ ys)) (sym head))

-- a key of a list that has each once
counts_once : (key : List ℕ) (xs : List (List ℕ)) → IsOnce xs → count key xs ≡ (if list_any (bytes_eq key) xs then 1 else 0)
counts_once key [] once = refl
counts_once key (x ∷ xs) once = by (bytes_eq key x) refl (bytes_eq x key) refl (counts_once key xs once.1)
  where
    by : (b : Bool) → bytes_eq key x ≡ b → (c : Bool) → bytes_eq x key ≡ c → count key xs ≡ (if list_any (bytes_eq key) xs then 1 else 0) → (if c then suc (count key xs) else count key xs) ≡ (if b || list_any (bytes_eq key) xs then 1 else 0)
    by true is c other later = ap (λ (d : Bool). if d then suc (count key xs) else count key xs) (sym other ∙ subst (λ (k : List ℕ). bytes_eq k key ≡ true) (same_bytes key x is) (self_bytes key))
        ∙ ap suc (later ∙ ap (λ (d : Bool). if d then 1 else 0) (subst (λ (k : List ℕ). list_any (bytes_eq k) xs ≡ false) (sym (same_bytes key x is)) once.0))
    by false is true other later = absurd (never (sym is ∙ subst (λ (k : List ℕ). bytes_eq key k ≡ true) (sym (same_bytes x key other)) (self_bytes key)))
    by false is false other later = later

-- the visible keys, in any order, are the visible keys in order once they are sorted
pub sorted_visible : (plain : Plain) (list sorted : List (List ℕ)) → ((key : List ℕ) → count key list ≡ (if list_any (bytes_eq key) (visible_keys plain) then 1 else 0)) → IsPermutation list sorted → IsSorted (slice_cmp nat_cmp) sorted → sorted ≡ visible_keys plain
sorted_visible plain list sorted counts moved up =
    same_keys sorted (visible_keys plain) (ascends_sorted sorted up) (ascends_visible plain)
    (λ key. sym (counts_sum key sorted) ∙ sum_by-IsPermutation (λ k. if bytes_eq k key then 1 else 0) list sorted moved ∙ counts_sum key list ∙ counts key ∙ sym (counts_once key (visible_keys plain) (visible_once plain)))
