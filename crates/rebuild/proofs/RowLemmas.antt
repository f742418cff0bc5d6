-- Rows of which one is changed.
use Rattle.std.proofs.Common.{◌≡◌, ⊎_elim, ℕ, zero, suc, ◌+◌, ◌<◌, ◌≤◌, ◌==◌, true, false, cond, List, [], ◌∷◌, map, length, get_or, set, All, Some, None, refl, sym, ap, subst, ◌∙◌, arith}
use Rattle.std.specs.Prelude.{if◌then◌else◌}
use Rattle.std.specs.List.{AllByRecursion, HoldsAt}
use Rattle.std.specs.List.Sorted.{IsNonDecreasingBy, IsPartitionPoint, IsSortedBy, IsStrictlyIncreasing, IsStrictlySortedBy}
use Rattle.std.specs.Ordering.{is_lt, nat_cmp, ordering_index}
use Rattle.std.specs.declared.cmp.Ordering.TheVariants.{Less, Equal, Greater}
use Rattle.std.proofs.lemmas.Bool.Decides.{nat_tests}
use Rattle.std.proofs.lemmas.Cmp.{by_ranked, nat_cmp_total, ranked}
use Rattle.std.proofs.lemmas.Bool.{cases_lt}
use Rattle.std.proofs.lemmas.List.{get_or-map, length-map}
use Rattle.std.proofs.lemmas.List.Sorted.{searchable_from_sorted}
use Rattle.std.proofs.lemmas.List.Elements.{All-head, All-map, All-tail, All-weaker}
use Rattle.std.proofs.lemmas.Map.Keys.{sorted_head, sorted_tail, sorted_from_strictly_increasing}
use Rattle.cache_model.specs.declared.files.FileCount.{FileCount}
use Rattle.file_stats.specs.Counts.{AreCounts}
use Rattle.rebuild.specs.Rows.{IsPlaceOf, grown, grown_by, numbers_of, shrunk, shrunk_by}

-- A change of the rows of one file: it keeps the numbers, and leaves the rows of other files.
pub record IsChangeOf (number : ℕ) (f : FileCount → FileCount) : Type 0 where
  pub keeps : (row : FileCount) → (f row).number ≡ row.number
  pub other : (row : FileCount) → (row.number ≡ number → ⊥) → f row ≡ row
  pub fits : (row : FileCount) → row.live ≤ row.size → (f row).live ≤ (f row).size

apart : (m n : ℕ) → (m ≡ n → ⊥) → (m == n) ≡ false
apart m n differs = grind (arith, nat_tests)

at_row : (m n : ℕ) → m ≡ n → (m == n) ≡ true
at_row m n same = grind (arith, nat_tests)

-- a change that is made of the rows of one file alone
change-if : (number : ℕ) (f : FileCount → FileCount) → ((row : FileCount) → (f row).number ≡ row.number) → ((row : FileCount) → row.live ≤ row.size → (f row).live ≤ (f row).size) → IsChangeOf number (λ row. if row.number == number then f row else row)
change-if number f keeps fits = record {
  keeps = λ row. elim (row.number == number) as (λ b. (cond b (f row) row).number ≡ row.number) [ true ↦ keeps row | false ↦ refl ];
  other = λ row differs. ap (λ b. cond b (f row) row) (apart row.number number differs);
  fits = λ row le. elim (row.number == number) as (λ b. (cond b (f row) row).live ≤ (cond b (f row) row).size) [ true ↦ fits row le | false ↦ le ];
}

pub grown-change : (number bytes : ℕ) → IsChangeOf number (grown number bytes)
grown-change number bytes = change-if number (grown_by bytes) (λ row. refl) (λ row le. omega arith)

pub shrunk-change : (number bytes : ℕ) → IsChangeOf number (shrunk number bytes)
shrunk-change number bytes = change-if number (shrunk_by bytes) (λ row. refl) (λ row le. omega arith)

-- the numbers stay
pub numbers-map : (number : ℕ) (f : FileCount → FileCount) → IsChangeOf number f → (rows : List FileCount) → numbers_of (map f rows) ≡ numbers_of rows
numbers-map number f change [] = refl
numbers-map number f change (row ∷ rows) = ap (λ n. n ∷ numbers_of (map f rows)) (change.keeps row) ∙ ap (λ (ns : List ℕ). row.number ∷ ns) (numbers-map number f change rows)

-- rows of other files are left
pub map-others : (number : ℕ) (f : FileCount → FileCount) → IsChangeOf number f → (rows : List FileCount) → All (λ row. row.number ≡ number → ⊥) rows → map f rows ≡ rows
map-others number f change [] others = refl
map-others number f change (row ∷ rows) others =
    ap (λ r. r ∷ map f rows) (change.other row (All-head (λ row. row.number ≡ number → ⊥) row rows others))
    ∙ ap (λ (rs : List FileCount). row ∷ rs) (map-others number f change rows (All-tail (λ row. row.number ≡ number → ⊥) row rows others))

-- behind a row of a file in order there is none of that file
none-behind : (number : ℕ) (rows : List FileCount) → AllByRecursion (λ y. nat_cmp number y ≡ Less) (numbers_of rows) → (f : FileCount → FileCount) → IsChangeOf number f → map f rows ≡ rows
none-behind number [] behind f change = refl
none-behind number (row ∷ rows) behind f change =
    let above : number < row.number = ranked number row.number Less (sym behind.0) in
    ap (λ r. r ∷ map f rows) (change.other row (λ same. omega arith)) ∙ ap (λ (rs : List FileCount). row ∷ rs) (none-behind number rows behind.1 f change)

less-at : (number : ℕ) (rows : List FileCount) (i : ℕ) (d : FileCount) → AllByRecursion (λ y. nat_cmp number y ≡ Less) (numbers_of rows) → i < length rows → number < (get_or rows i d).number
less-at number [] i d behind within = absurd (omega arith)
less-at number (row ∷ rows) zero d behind within = ranked number row.number Less (sym behind.0)
less-at number (row ∷ rows) (suc i) d behind within = less-at number rows i d behind.1 (omega arith)

-- the change of the one row of a file changes all rows
pub set-map : (number : ℕ) (f : FileCount → FileCount) → IsChangeOf number f → (rows : List FileCount) (i : ℕ) (d : FileCount) → IsStrictlySortedBy nat_cmp (numbers_of rows) → i < length rows → (get_or rows i d).number ≡ number → set rows i (f (get_or rows i d)) ≡ map f rows
set-map number f change [] i d sorted within is = absurd (omega arith)
set-map number f change (row ∷ rows) zero d sorted within is =
    let behind = subst (λ (n : ℕ). AllByRecursion (λ y. nat_cmp n y ≡ Less) (numbers_of rows)) is (sorted_head nat_cmp row.number (numbers_of rows) sorted) in
    ap (λ (rs : List FileCount). f row ∷ rs) (sym (none-behind number rows behind f change))
set-map number f change (row ∷ rows) (suc i) d sorted within is =
    let below : row.number < (get_or rows i d).number = less-at row.number rows i d (sorted_head nat_cmp row.number (numbers_of rows) sorted) (omega arith) in
    ap (λ r. r ∷ set rows i (f (get_or rows i d))) (sym (change.other row (λ same. omega (arith, below, is))))
    ∙ ap (λ (rs : List FileCount). f row ∷ rs) (set-map number f change rows i d (sorted_tail nat_cmp row.number (numbers_of rows) sorted) (omega arith) is)

-- rows that are changed so are in order, and no file has more live bytes than it has
pub counts-map : (number : ℕ) (f : FileCount → FileCount) → IsChangeOf number f → (rows : List FileCount) → AreCounts rows → AreCounts (map f rows)
counts-map number f change rows counts = record {
  ascend = subst (λ (ns : List ℕ). IsStrictlyIncreasing ns) (sym (numbers-map number f change rows)) counts.ascend;
  live = All-map (λ row. row.live ≤ row.size) f rows (All-weaker (λ row. row.live ≤ row.size) (λ row. (f row).live ≤ (f row).size) change.fits rows counts.live);
}

-- a row that compares equal is that of the file
pub found-place : (number : ℕ) (rows : List FileCount) (i : ℕ) → i < length rows → HoldsAt (λ row. nat_cmp row.number number ≡ Equal) rows i → IsPlaceOf number rows (Some i)
found-place number rows i within equal = (within, λ d. ranked (get_or rows i d).number number Equal (sym (equal d)))

-- rows that ascend can be searched
sorted-rows : (number : ℕ) (rows : List FileCount) → IsStrictlyIncreasing (numbers_of rows) → IsNonDecreasingBy (λ row. ordering_index (nat_cmp row.number number)) rows
sorted-rows number rows ascend = searchable_from_sorted nat_cmp_total (λ row. row.number) rows number sorted
  where
    sorted : IsSortedBy (λ a b. is_lt (nat_cmp a.number b.number)) rows
    sorted k d low within =
        let one : get_or (numbers_of rows) k 0 ≡ (get_or rows k d).number = get_or-map (λ row. row.number) rows k d 0 (omega arith) in
        let other : get_or (numbers_of rows) (k + 1) 0 ≡ (get_or rows (k + 1) d).number = get_or-map (λ row. row.number) rows (k + 1) d 0 within in
        let less = ascend k (omega (arith, length-map rows (λ (row : FileCount). row.number))) in
        not_lower (get_or rows (k + 1) d).number (get_or rows k d).number (omega (arith, one, other, less))
      where
        not_lower : (m n : ℕ) → n < m → is_lt (nat_cmp m n) ≡ false
        not_lower m n higher = by_ranked (m < n) (m ≡ n) (n < m) (nat_cmp m n) (ranked m n (nat_cmp m n) refl) (λ is less. absurd (omega arith)) (λ is same. ap is_lt is) (λ is more. ap is_lt is)

-- where none compares equal the file has no row
pub absent-place : (number : ℕ) (rows : List FileCount) (i : ℕ) → IsStrictlyIncreasing (numbers_of rows)
    → (IsNonDecreasingBy (λ row. ordering_index (nat_cmp row.number number)) rows → IsPartitionPoint (λ row. nat_cmp row.number number ≡ Less) (λ row. nat_cmp row.number number ≡ Greater) rows i)
    → IsPlaceOf number rows None
absent-place number rows i ascend point k d within same =
    let both = point (sorted-rows number rows ascend) in
    ⊎_elim
    (λ before. let less : (get_or rows k d).number < number = ranked (get_or rows k d).number number Less (sym (both.0 k d (omega arith) before)) in omega arith)
    (λ behind. let more : number < (get_or rows k d).number = ranked (get_or rows k d).number number Greater (sym (both.1 k d behind within)) in omega arith)
    (cases_lt k i)

-- the row at the place of a file is changed
set-row : (number : ℕ) (f : FileCount → FileCount) → IsChangeOf number (λ row. if row.number == number then f row else row) → (rows : List FileCount) (place : ℕ) (row new : FileCount) → AreCounts rows → IsPlaceOf number rows (Some place)
    → row ≡ get_or rows place row → new ≡ f row → set rows place new ≡ map (λ row. if row.number == number then f row else row) rows
set-row number f change rows place row new counts at is new_is =
    let same : row.number ≡ number = ap (λ (r : FileCount). r.number) is ∙ at.1 row in
    ap (λ (r : FileCount). set rows place r) (new_is ∙ sym (ap (λ b. cond b (f row) row) (at_row row.number number same)) ∙ ap (λ r. if r.number == number then f r else r) is)
    ∙ set-map number (λ row. if row.number == number then f row else row) change rows place row (sorted_from_strictly_increasing (numbers_of rows) counts.ascend) at.0 (at.1 row)

pub grown-row : (number bytes : ℕ) (rows : List FileCount) (place : ℕ) (row new : FileCount) → AreCounts rows → IsPlaceOf number rows (Some place) → row ≡ get_or rows place row → new ≡ grown_by bytes row → set rows place new ≡ map (grown number bytes) rows
grown-row number bytes = set-row number (grown_by bytes) (grown-change number bytes)

pub shrunk-row : (number bytes : ℕ) (rows : List FileCount) (place : ℕ) (row new : FileCount) → AreCounts rows → IsPlaceOf number rows (Some place) → row ≡ get_or rows place row → new ≡ shrunk_by bytes row → set rows place new ≡ map (shrunk number bytes) rows
shrunk-row number bytes = set-row number (shrunk_by bytes) (shrunk-change number bytes)
