-- Rows of which one is changed, comes in or goes.
use Rattle.std.proofs.Common.{◌≡◌, ⊎_elim, ℕ, zero, suc, ◌+◌, ◌-◌, ◌<◌, ◌≤◌, ◌==◌, Bool, true, false, cond, List, [], ◌∷◌, ◌++◌, map, length, get_or, set, take, drop, All, refl, sym, ap, subst, ◌∙◌, arith, add-one}
use Rattle.std.specs.Prelude.{if◌then◌else◌, filter, insert, remove, nat_lt, not, Contains, HoldsAt, Result, Ok, Err}
use Rattle.std.specs.List.{AllWithin}
use Rattle.std.specs.List.Sorted.{IsBinarySearchResult, IsNonDecreasingBy, IsPartitionPoint, IsSearchInRange, IsSortedBy, IsStrictlyIncreasing}
use Rattle.std.specs.Ordering.{is_lt, nat_cmp, ordering_index}
use Rattle.std.specs.declared.cmp.Ordering.TheVariants.{Less, Equal, Greater}
use Rattle.std.proofs.lemmas.Bool.Decides.{nat_tests}
use Rattle.std.proofs.lemmas.Bool.{cases_eq, cases_lt}
use Rattle.std.proofs.lemmas.Cmp.{by_ranked, nat_cmp_total, ranked}
use Rattle.std.proofs.lemmas.List.{append-nil, drop-map, drop_more, get_or-drop, get_or-map, get_or-set_other, get_or-set_same, get_or-take, length-drop, length-map, length-set, length-take, map-append, map-set, same_lists, set-get_or, take-append-drop, take-map}
use Rattle.std.proofs.lemmas.List.Edits.{get_or-insert_above, get_or-insert_at, get_or-insert_below, get_or-remove_above, get_or-remove_below, length-insert, length-remove}
use Rattle.std.proofs.lemmas.List.Elements.{All-append, All-cons, All-drop, All-head, All-set, All-tail, All-take, All-weaker, filter-append}
use Rattle.std.proofs.lemmas.List.Sorted.{searchable_from_sorted}
use Rattle.cache_model.specs.declared.files.FileCount.{FileCount}
use Rattle.file_stats.specs.Counts.{AreCounts}
use Rattle.file_stats.specs.Figures.{numbers_of, with_new, without}
use Rattle.file_stats.specs.Keeping.{IsPlaceOf}

apart : (m n : ℕ) → (m ≡ n → ⊥) → (m == n) ≡ false
apart m n differs = grind (arith, nat_tests)

at_row : (m n : ℕ) → m ≡ n → (m == n) ≡ true
at_row m n same = grind (arith, nat_tests)

lower : (m n : ℕ) → m < n → nat_lt m n ≡ true
lower m n less = grind (arith, nat_tests)

not_lower : (m n : ℕ) → n ≤ m → nat_lt m n ≡ false
not_lower m n le = grind (arith, nat_tests)

number-at : (rows : List FileCount) (k : ℕ) (d : FileCount) → k < length rows → get_or (numbers_of rows) k 0 ≡ (get_or rows k d).number
number-at rows k d within = get_or-map (λ row. row.number) rows k d 0 within

-- numbers that ascend from each to the next ascend over any distance
ascends-far : (ns : List ℕ) → IsStrictlyIncreasing ns → (i j : ℕ) → i < j → j < length ns → get_or ns i 0 < get_or ns j 0
ascends-far ns up i zero before within = absurd (omega arith)
ascends-far ns up i (suc j) before within =
    let step : get_or ns j 0 < get_or ns (suc j) 0 = subst (λ (n : ℕ). get_or ns j 0 < get_or ns n 0) (add-one j) (up j (omega arith)) in
    ⊎_elim (λ same. subst (λ (n : ℕ). get_or ns n 0 < get_or ns (suc j) 0) (sym same) step) (λ differs. let far = ascends-far ns up i j (omega (arith, differs)) (omega arith) in omega (arith, far, step)) (cases_eq i j)

pub rows-ascend : (rows : List FileCount) → IsStrictlyIncreasing (numbers_of rows) → (i j : ℕ) (d : FileCount) → i < j → j < length rows → (get_or rows i d).number < (get_or rows j d).number
rows-ascend rows up i j d before within =
    let far = ascends-far (numbers_of rows) up i j before (omega (arith, length-map rows (λ (row : FileCount). row.number))) in
    omega (arith, far, number-at rows i d (omega arith), number-at rows j d within)

-- a row that compares equal is that of the file
pub found-place : (number : ℕ) (rows : List FileCount) (i : ℕ) → i < length rows → HoldsAt (λ row. nat_cmp row.number number ≡ Equal) rows i → IsPlaceOf number rows (Ok i)
found-place number rows i within equal = (within, λ d. ranked (get_or rows i d).number number Equal (sym (equal d)))

-- rows that ascend can be searched
sorted-rows : (number : ℕ) (rows : List FileCount) → IsStrictlyIncreasing (numbers_of rows) → IsNonDecreasingBy (λ row. ordering_index (nat_cmp row.number number)) rows
sorted-rows number rows up = searchable_from_sorted nat_cmp_total (λ row. row.number) rows number sorted
  where
    sorted : IsSortedBy (λ a b. is_lt (nat_cmp a.number b.number)) rows
    sorted k d low within =
        let less = rows-ascend rows up k (k + 1) d (omega arith) within in
        above (get_or rows (k + 1) d).number (get_or rows k d).number less
      where
        above : (m n : ℕ) → n < m → is_lt (nat_cmp m n) ≡ false
        above m n higher = by_ranked (m < n) (m ≡ n) (n < m) (nat_cmp m n) (ranked m n (nat_cmp m n) refl) (λ is less. absurd (omega arith)) (λ is same. ap is_lt is) (λ is more. ap is_lt is)

-- where none compares equal a row of the file would stand between lower and higher numbers
pub absent-place : (number : ℕ) (rows : List FileCount) (i : ℕ) → i ≤ length rows → IsStrictlyIncreasing (numbers_of rows)
    → (IsNonDecreasingBy (λ row. ordering_index (nat_cmp row.number number)) rows → IsPartitionPoint (λ row. nat_cmp row.number number ≡ Less) (λ row. nat_cmp row.number number ≡ Greater) rows i)
    → IsPlaceOf number rows (Err i)
absent-place number rows i within up point =
    let both = point (sorted-rows number rows up) in (
      within,
      λ k d low high. ranked (get_or rows k d).number number Less (sym (both.0 k d (omega arith) high)),
      λ k d low high. ranked (get_or rows k d).number number Greater (sym (both.1 k d low high)),
    )

-- what a search finds is the place of the file
pub searched-place : (number : ℕ) (rows : List FileCount) (result : Result ℕ ℕ) → IsStrictlyIncreasing (numbers_of rows) → IsSearchInRange result (length rows) → IsBinarySearchResult (λ row. nat_cmp row.number number) rows result → IsPlaceOf number rows result
searched-place number rows (Ok i) up within is = found-place number rows i within is
searched-place number rows (Err i) up within is = absent-place number rows i within up is

-- a change of the rows of one file
abbrev pub changed : ℕ → (FileCount → FileCount) → FileCount → FileCount
changed number f row = if row.number == number then f row else row

changed-here : (number : ℕ) (f : FileCount → FileCount) (row : FileCount) → row.number ≡ number → changed number f row ≡ f row
changed-here number f row same = ap (λ b. cond b (f row) row) (at_row row.number number same)

changed-other : (number : ℕ) (f : FileCount → FileCount) (row : FileCount) → (row.number ≡ number → ⊥) → changed number f row ≡ row
changed-other number f row differs = ap (λ b. cond b (f row) row) (apart row.number number differs)

-- the other rows of rows that ascend are of other files
pub others-differ : (number : ℕ) (rows : List FileCount) (place : ℕ) → IsStrictlyIncreasing (numbers_of rows) → IsPlaceOf number rows (Ok place) → (k : ℕ) (d : FileCount) → k < length rows → (k ≡ place → ⊥) → (get_or rows k d).number ≡ number → ⊥
others-differ number rows place up at k d within other same =
    ⊎_elim
    (λ before. let less = rows-ascend rows up k place d before at.0 in omega (arith, less, at.1 d, same))
    (λ behind. let more = rows-ascend rows up place k d (omega (arith, behind, other)) within in omega (arith, more, at.1 d, same))
    (cases_lt k place)

-- the change of the one row of a file changes all rows
pub set-changed : (number : ℕ) (f : FileCount → FileCount) (rows : List FileCount) (place : ℕ) (row : FileCount) → IsStrictlyIncreasing (numbers_of rows) → IsPlaceOf number rows (Ok place) → row ≡ get_or rows place row → set rows place (f row) ≡ map (changed number f) rows
set-changed number f rows place row up at is =
    same_lists (set rows place (f row)) (map (changed number f) rows) (length-set rows place (f row) ∙ sym (length-map rows (changed number f)))
    (λ k d inside.
    let within : k < length rows = omega (arith, length-set rows place (f row)) in
    ⊎_elim
    (λ same.
    let here : get_or rows k row ≡ row = ap (λ n. get_or rows n row) same ∙ sym is in
    ap (λ n. get_or (set rows place (f row)) n d) same ∙ get_or-set_same rows place (f row) d at.0
    ∙ sym (get_or-map (changed number f) rows k row d within ∙ ap (changed number f) here ∙ changed-here number f row (ap (λ (r : FileCount). r.number) is ∙ at.1 row)))
    (λ other.
    get_or-set_other rows place k (f row) d other
    ∙ sym (get_or-map (changed number f) rows k d d within ∙ changed-other number f (get_or rows k d) (others-differ number rows place up at k d within other)))
    (cases_eq k place))

-- a file without a row changes none
pub absent-rows : (number : ℕ) (rows : List FileCount) (place : ℕ) → IsPlaceOf number rows (Err place) → All (λ row. row.number ≡ number → ⊥) rows
absent-rows number rows place at k d within same =
    ⊎_elim (λ before. let less = at.1 k d (omega arith) before in omega (arith, less, same)) (λ behind. let more = at.2 k d behind within in omega (arith, more, same)) (cases_lt k place)

pub none-changed : (number : ℕ) (f : FileCount → FileCount) (rows : List FileCount) (place : ℕ) → IsPlaceOf number rows (Err place) → map (changed number f) rows ≡ rows
none-changed number f rows place at =
    same_lists (map (changed number f) rows) rows (length-map rows (changed number f))
    (λ k d inside. let within : k < length rows = omega (arith, length-map rows (changed number f)) in
    get_or-map (changed number f) rows k d d within ∙ changed-other number f (get_or rows k d) (absent-rows number rows place at k d within))

-- a file has a row where it has a place
pub has-place : (number : ℕ) (rows : List FileCount) (place : ℕ) → IsPlaceOf number rows (Ok place) → Contains (numbers_of rows) number
has-place number rows place at =
    (place, omega (arith, at.0, length-map rows (λ (row : FileCount). row.number)), get_or-map (λ row. row.number) rows place (no_row number) number at.0 ∙ at.1 (no_row number))
  where
    no_row : ℕ → FileCount
    no_row n = record { number = n; size = 0; live = 0 }

pub lacks-place : (number : ℕ) (rows : List FileCount) (place : ℕ) → IsPlaceOf number rows (Err place) → Contains (numbers_of rows) number → ⊥
lacks-place number rows place at has =
    let within : has.0 < length rows = omega (arith, has.1, length-map rows (λ (row : FileCount). row.number)) in
    absent-rows number rows place at has.0 (no_row number) within (sym (get_or-map (λ row. row.number) rows has.0 (no_row number) number within) ∙ has.2)
  where
    no_row : ℕ → FileCount
    no_row n = record { number = n; size = 0; live = 0 }

-- a filter that keeps all, and one that keeps none
filter-all : (p : FileCount → Bool) (rows : List FileCount) → All (λ row. p row ≡ true) rows → filter p rows ≡ rows
filter-all p [] all = refl
filter-all p (row ∷ rows) all = ap (λ b. cond b (row ∷ filter p rows) (filter p rows)) (All-head (λ row. p row ≡ true) row rows all) ∙ ap (λ (rs : List FileCount). row ∷ rs) (filter-all p rows (All-tail (λ row. p row ≡ true) row rows all))

filter-none : (p : FileCount → Bool) (rows : List FileCount) → All (λ row. p row ≡ false) rows → filter p rows ≡ []
filter-none p [] all = refl
filter-none p (row ∷ rows) all = ap (λ b. cond b (row ∷ filter p rows) (filter p rows)) (All-head (λ row. p row ≡ false) row rows all) ∙ filter-none p rows (All-tail (λ row. p row ≡ false) row rows all)

-- what holds of the rows before a place, and of those from it on
all-before : (P : FileCount → Type 0) (rows : List FileCount) (place : ℕ) → AllWithin P rows 0 place → All P (take place rows)
all-before P rows place all k d inside =
    let within : k < place = omega (arith, length-take place rows) in
    subst P (sym (get_or-take place rows k d within)) (all k d (omega arith) within)

all-behind : (P : FileCount → Type 0) (rows : List FileCount) (place : ℕ) → AllWithin P rows place (length rows) → All P (drop place rows)
all-behind P rows place all k d inside = subst P (sym (get_or-drop place rows k d)) (all (place + k) d (omega arith) (omega (arith, length-drop place rows)))

-- a row comes in at its place
pub insert-new : (new : FileCount) (rows : List FileCount) (place : ℕ) → IsPlaceOf new.number rows (Err place) → insert rows place new ≡ with_new new rows
insert-new new rows place at =
    ap (λ (front : List FileCount). front ++ new ∷ drop place rows) (sym front) ∙ ap (λ (back : List FileCount). filter low rows ++ new ∷ back) (sym back)
  where
    low : FileCount → Bool
    low row = nat_lt row.number new.number

    high : FileCount → Bool
    high row = nat_lt new.number row.number

    front : filter low rows ≡ take place rows
    front =
        ap (filter low) (sym (take-append-drop place rows)) ∙ filter-append low (take place rows) (drop place rows)
        ∙ ap (λ (fs : List FileCount). fs ++ filter low (drop place rows)) (filter-all low (take place rows) (All-weaker (λ row. row.number < new.number) (λ row. low row ≡ true) (λ row less. lower row.number new.number less) (take place rows) (all-before (λ row. row.number < new.number) rows place at.1)))
        ∙ ap (λ (bs : List FileCount). take place rows ++ bs) (filter-none low (drop place rows) (All-weaker (λ row. new.number < row.number) (λ row. low row ≡ false) (λ row more. not_lower row.number new.number (omega arith)) (drop place rows) (all-behind (λ row. new.number < row.number) rows place at.2)))
        ∙ append-nil (take place rows)

    back : filter high rows ≡ drop place rows
    back =
        ap (filter high) (sym (take-append-drop place rows)) ∙ filter-append high (take place rows) (drop place rows)
        ∙ ap (λ (fs : List FileCount). fs ++ filter high (drop place rows)) (filter-none high (take place rows) (All-weaker (λ row. row.number < new.number) (λ row. high row ≡ false) (λ row less. not_lower new.number row.number (omega arith)) (take place rows) (all-before (λ row. row.number < new.number) rows place at.1)))
        ∙ filter-all high (drop place rows) (All-weaker (λ row. new.number < row.number) (λ row. high row ≡ true) (λ row more. lower new.number row.number more) (drop place rows) (all-behind (λ row. new.number < row.number) rows place at.2))

-- the row of a file goes
pub remove-row : (number : ℕ) (rows : List FileCount) (place : ℕ) → IsStrictlyIncreasing (numbers_of rows) → IsPlaceOf number rows (Ok place) → remove rows place ≡ without number rows
remove-row number rows place up at =
    sym (ap (filter other) (sym (take-append-drop place rows)) ∙ filter-append other (take place rows) (drop place rows)
    ∙ ap (λ (fs : List FileCount). fs ++ filter other (drop place rows)) (filter-all other (take place rows) before)
    ∙ ap (λ (bs : List FileCount). take place rows ++ filter other bs) (drop_more rows place no_row at.0 ∙ ap (λ n. get_or rows place no_row ∷ drop n rows) (add-one place))
    ∙ ap (λ b. take place rows ++ cond b (get_or rows place no_row ∷ filter other (drop (suc place) rows)) (filter other (drop (suc place) rows))) (ap not (at_row (get_or rows place no_row).number number (at.1 no_row)))
    ∙ ap (λ (bs : List FileCount). take place rows ++ bs) (filter-all other (drop (suc place) rows) behind))
  where
    no_row : FileCount
    no_row = record { number = 0; size = 0; live = 0 }

    other : FileCount → Bool
    other row = not (row.number == number)

    differs : (k : ℕ) (d : FileCount) → k < length rows → (k ≡ place → ⊥) → other (get_or rows k d) ≡ true
    differs k d within apart' = ap not (apart (get_or rows k d).number number (others-differ number rows place up at k d within apart'))

    before : All (λ row. other row ≡ true) (take place rows)
    before = all-before (λ row. other row ≡ true) rows place (λ k d low high. differs k d (omega (arith, at.0)) (λ same. omega arith))

    behind : All (λ row. other row ≡ true) (drop (suc place) rows)
    behind = all-behind (λ row. other row ≡ true) rows (suc place) (λ k d low high. differs k d high (λ same. omega arith))

-- a file without a row has none to go
pub none-removed : (number : ℕ) (rows : List FileCount) (place : ℕ) → IsPlaceOf number rows (Err place) → without number rows ≡ rows
none-removed number rows place at = filter-all (λ row. not (row.number == number)) rows (All-weaker (λ row. row.number ≡ number → ⊥) (λ row. not (row.number == number) ≡ true) (λ row differs. ap not (apart row.number number differs)) rows (absent-rows number rows place at))

-- a row is given other figures: the numbers stay
pub counts-set : (rows : List FileCount) (place : ℕ) (new : FileCount) → AreCounts rows → place < length rows → HoldsAt (λ old. old.number ≡ new.number) rows place → new.live ≤ new.size → AreCounts (set rows place new)
counts-set rows place new counts within same live = record {
  ascend = subst (λ (ns : List ℕ). IsStrictlyIncreasing ns) (sym numbers) counts.ascend;
  live = All-set (λ row. row.live ≤ row.size) rows place new live counts.live;
}
  where
    numbers : numbers_of (set rows place new) ≡ numbers_of rows
    numbers =
        map-set (λ row. row.number) rows place new ∙ ap (λ n. set (numbers_of rows) place n) (sym (number-at rows place new within ∙ same new))
        ∙ set-get_or (numbers_of rows) place 0

-- a number comes in between lower and higher ones
insert-ascends : (ns : List ℕ) (place n : ℕ) → place ≤ length ns → IsStrictlyIncreasing ns → ((k : ℕ) → k < place → get_or ns k 0 < n) → ((k : ℕ) → place ≤ k → k < length ns → n < get_or ns k 0) → IsStrictlyIncreasing (insert ns place n)
insert-ascends ns place n within up low high k inside =
    let count = length-insert ns place n within in
    ⊎_elim
    (λ below. ⊎_elim (λ deep. let step = up k (omega arith) in omega (arith, step, get_or-insert_below ns place n 0 k below within, get_or-insert_below ns place n 0 (k + 1) deep within))
    (λ next. let here : k + 1 ≡ place = omega arith in
    let step = low k below in
    let at : get_or (insert ns place n) (k + 1) 0 ≡ n = ap (λ j. get_or (insert ns place n) j 0) here ∙ get_or-insert_at ns place n 0 within in
    omega (arith, step, at, get_or-insert_below ns place n 0 k below within)) (cases_lt (k + 1) place))
    (λ from. ⊎_elim
    (λ same. let step = high place (omega arith) (omega arith) in
    let at : get_or (insert ns place n) k 0 ≡ n = ap (λ j. get_or (insert ns place n) j 0) same ∙ get_or-insert_at ns place n 0 within in
    let next : get_or (insert ns place n) (k + 1) 0 ≡ get_or ns place 0 = ap (λ j. get_or (insert ns place n) (j + 1) 0) same ∙ get_or-insert_above ns place n 0 place (omega arith) within in
    omega (arith, step, at, next))
    (λ other. let before : k ≡ k - 1 + 1 = omega arith in
    let step = up (k - 1) (omega arith) in
    let at : get_or (insert ns place n) k 0 ≡ get_or ns (k - 1) 0 = ap (λ j. get_or (insert ns place n) j 0) before ∙ get_or-insert_above ns place n 0 (k - 1) (omega arith) within in
    let next : get_or (insert ns place n) (k + 1) 0 ≡ get_or ns (k - 1 + 1) 0 = get_or-insert_above ns place n 0 k from within ∙ ap (λ j. get_or ns j 0) before in
    omega (arith, step, at, next))
    (cases_eq k place))
    (cases_lt k place)

pub counts-insert : (new : FileCount) (rows : List FileCount) (place : ℕ) → AreCounts rows → IsPlaceOf new.number rows (Err place) → new.live ≤ new.size → AreCounts (insert rows place new)
counts-insert new rows place counts at live = record {
  ascend = subst (λ (ns : List ℕ). IsStrictlyIncreasing ns) (sym numbers) (insert-ascends (numbers_of rows) place new.number (omega (arith, at.0, count)) counts.ascend
      (λ k below. omega (arith, number-at rows k new (omega (arith, at.0)), at.1 k new (omega arith) below))
      (λ k from within. let inside : k < length rows = omega (arith, within, count) in omega (arith, number-at rows k new inside, at.2 k new from inside)));
  live = All-append (λ row. row.live ≤ row.size) (take place rows) (new ∷ drop place rows) (All-take (λ row. row.live ≤ row.size) place rows counts.live)
      (All-cons (λ row. row.live ≤ row.size) new (drop place rows) live (All-drop (λ row. row.live ≤ row.size) place rows counts.live));
}
  where
    count : length (numbers_of rows) ≡ length rows
    count = length-map rows (λ (row : FileCount). row.number)

    numbers : numbers_of (insert rows place new) ≡ insert (numbers_of rows) place new.number
    numbers =
        map-append (λ row. row.number) (take place rows) (new ∷ drop place rows)
        ∙ ap (λ (front : List ℕ). front ++ new.number ∷ numbers_of (drop place rows)) (sym (take-map (λ row. row.number) place rows))
        ∙ ap (λ (back : List ℕ). take place (numbers_of rows) ++ new.number ∷ back) (sym (drop-map (λ row. row.number) place rows))

-- a number goes
remove-ascends : (ns : List ℕ) (place : ℕ) → place < length ns → IsStrictlyIncreasing ns → IsStrictlyIncreasing (remove ns place)
remove-ascends ns place within up k inside =
    let count = length-remove ns place within in
    ⊎_elim
    (λ below. ⊎_elim (λ deep. let step = up k (omega arith) in omega (arith, step, get_or-remove_below ns place 0 k below within, get_or-remove_below ns place 0 (k + 1) deep within))
    (λ next. let step = ascends-far ns up k (k + 1 + 1) (omega arith) (omega arith) in omega (arith, step, get_or-remove_below ns place 0 k below within, get_or-remove_above ns place 0 (k + 1) next within)) (cases_lt (k + 1) place))
    (λ from. let step = up (k + 1) (omega arith) in omega (arith, step, get_or-remove_above ns place 0 k from within, get_or-remove_above ns place 0 (k + 1) (omega arith) within))
    (cases_lt k place)

pub counts-remove : (rows : List FileCount) (place : ℕ) → place < length rows → AreCounts rows → AreCounts (remove rows place)
counts-remove rows place within counts = record {
  ascend = subst (λ (ns : List ℕ). IsStrictlyIncreasing ns) (sym numbers) (remove-ascends (numbers_of rows) place (omega (arith, within, length-map rows (λ (row : FileCount). row.number))) counts.ascend);
  live = All-append (λ row. row.live ≤ row.size) (take place rows) (drop (suc place) rows) (All-take (λ row. row.live ≤ row.size) place rows counts.live) (All-drop (λ row. row.live ≤ row.size) (suc place) rows counts.live);
}
  where
    numbers : numbers_of (remove rows place) ≡ remove (numbers_of rows) place
    numbers =
        map-append (λ row. row.number) (take place rows) (drop (suc place) rows)
        ∙ ap (λ (front : List ℕ). front ++ numbers_of (drop (suc place) rows)) (sym (take-map (λ row. row.number) place rows))
        ∙ ap (λ (back : List ℕ). take place (numbers_of rows) ++ back) (sym (drop-map (λ row. row.number) (suc place) rows))
