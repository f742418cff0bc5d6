-- The rows of the statistics, where a file has more bytes.
use Rattle.std.proofs.Common.{◌≡◌, ⊎_elim, ℕ, ◌+◌, ◌<◌, ◌≤◌, ◌==◌, Bool, true, false, cond, List, [], ◌∷◌, ◌++◌, map, length, get_or, All, Contains, Option, Some, IsSome, refl, sym, ap, subst, ◌∙◌, arith}
use Rattle.std.specs.Prelude.{max, filter, nat_lt, if◌then◌else◌}
use Rattle.std.specs.List.Sorted.{IsStrictlyIncreasing}
use Rattle.std.proofs.lemmas.Bool.{cases_eq, cases_lt}
use Rattle.std.proofs.lemmas.Bool.Decides.{nat_tests}
use Rattle.std.proofs.lemmas.List.{get_or_append_left, get_or_push, length-append, map-append}
use Rattle.std.proofs.lemmas.List.Elements.{All-append, All-contains, All-cons, All-head, All-map, All-nil, All-tail, All-weaker, Contains-append_left, Contains-push}
use Rattle.cache_model.specs.declared.files.FileCount.{FileCount}
use Rattle.cache_model.proofs.Members.{among-map}
use Rattle.file_stats.specs.Figures.{Figures, IsRaised, new_row, numbers_of, raised, raised_by, with_new}

-- a row has the size and the live bytes of its file
abbrev pub IsRowBy : (ℕ → Option ℕ) → (ℕ → ℕ) → FileCount → Type 0
IsRowBy sizes lives row = (sizes row.number ≡ Some row.size) × (row.live ≡ lives row.number)

-- One row for each of some files, of its size and with its live bytes.
pub record AreRows (sizes : ℕ → Option ℕ) (lives : ℕ → ℕ) (rows : List FileCount) : Type 0 where
  pub ascend : IsStrictlyIncreasing (numbers_of rows)
  pub each : (n : ℕ) → IsSome (sizes n) → Contains (numbers_of rows) n
  pub are : All (IsRowBy sizes lives) rows

-- the sizes, where a file has this one
abbrev pub with_size : ℕ → ℕ → (ℕ → Option ℕ) → ℕ → Option ℕ
with_size file size sizes n = if n == file then Some size else sizes n

at_file : (n file : ℕ) → n ≡ file → (n == file) ≡ true
at_file n file same = grind (arith, nat_tests)

off_file : (n file : ℕ) → (n ≡ file → ⊥) → (n == file) ≡ false
off_file n file other = grind (arith, nat_tests)

pub size_here : (file size : ℕ) (sizes : ℕ → Option ℕ) (n : ℕ) → n ≡ file → with_size file size sizes n ≡ Some size
size_here file size sizes n same = ap (λ b. cond b (Some size) (sizes n)) (at_file n file same)

pub size_other : (file size : ℕ) (sizes : ℕ → Option ℕ) (n : ℕ) → (n ≡ file → ⊥) → with_size file size sizes n ≡ sizes n
size_other file size sizes n other = ap (λ b. cond b (Some size) (sizes n)) (off_file n file other)

some_size : (sizes : ℕ → Option ℕ) (n size : ℕ) → sizes n ≡ Some size → IsSome (sizes n)
some_size sizes n size is = subst (λ (s : Option ℕ). IsSome s) (sym is) refl

-- sizes and live bytes that are the same file by file have the same rows
pub same_rows : (p q : ℕ → Option ℕ) (f g : ℕ → ℕ) (rows : List FileCount) → ((n : ℕ) → q n ≡ p n) → ((n : ℕ) → g n ≡ f n) → AreRows p f rows → AreRows q g rows
same_rows p q f g rows sizes lives are = record {
  ascend = are.ascend;
  each = λ n some. are.each n (subst (λ (s : Option ℕ). IsSome s) (sizes n) some);
  are = All-weaker (IsRowBy p f) (IsRowBy q g) (λ row is. (sizes row.number ∙ is.0, is.1 ∙ sym (lives row.number))) rows are.are;
}

-- the rows that were there

raised_here : (file size : ℕ) (row : FileCount) → row.number ≡ file → raised file size row ≡ raised_by size row
raised_here file size row same = ap (λ b. cond b (raised_by size row) row) (at_file row.number file same)

raised_other : (file size : ℕ) (row : FileCount) → (row.number ≡ file → ⊥) → raised file size row ≡ row
raised_other file size row other = ap (λ b. cond b (raised_by size row) row) (off_file row.number file other)

number_raised : (file size : ℕ) (row : FileCount) → (raised file size row).number ≡ row.number
number_raised file size row = ⊎_elim
    (λ same. ap (λ (r : FileCount). r.number) (raised_here file size row same))
    (λ other. ap (λ (r : FileCount). r.number) (raised_other file size row other))
    (cases_eq row.number file)

numbers_raised : (file size : ℕ) (rows : List FileCount) → numbers_of (map (raised file size) rows) ≡ numbers_of rows
numbers_raised file size [] = refl
numbers_raised file size (row ∷ rows) = ap (λ n. n ∷ numbers_of (map (raised file size) rows)) (number_raised file size row) ∙ ap (λ (ns : List ℕ). row.number ∷ ns) (numbers_raised file size rows)

-- a new row behind all others

lower : (m n : ℕ) → m < n → nat_lt m n ≡ true
lower m n less = grind (arith, nat_tests)

not_lower : (m n : ℕ) → n < m → nat_lt m n ≡ false
not_lower m n more = grind (arith, nat_tests)

all_pass : (test : FileCount → Bool) (rows : List FileCount) → All (λ row. test row ≡ true) rows → filter test rows ≡ rows
all_pass test [] all = refl
all_pass test (row ∷ rows) all =
    ap (λ b. cond b (row ∷ filter test rows) (filter test rows)) (All-head (λ r. test r ≡ true) row rows all) ∙ ap (λ (l : List FileCount). row ∷ l) (all_pass test rows (All-tail (λ r. test r ≡ true) row rows all))

none_pass : (test : FileCount → Bool) (rows : List FileCount) → All (λ row. test row ≡ false) rows → filter test rows ≡ []
none_pass test [] all = refl
none_pass test (row ∷ rows) all =
    ap (λ b. cond b (row ∷ filter test rows) (filter test rows)) (All-head (λ r. test r ≡ false) row rows all) ∙ none_pass test rows (All-tail (λ r. test r ≡ false) row rows all)

new_last : (new : FileCount) (rows : List FileCount) → All (λ row. row.number < new.number) rows → with_new new rows ≡ rows ++ new ∷ []
new_last new rows below =
    ap (λ (front : List FileCount). front ++ new ∷ filter (λ row. nat_lt new.number row.number) rows) (all_pass (λ row. nat_lt row.number new.number) rows (All-weaker (λ row. row.number < new.number) (λ row. nat_lt row.number new.number ≡ true) (λ row less. lower row.number new.number less) rows below))
    ∙ ap (λ (back : List FileCount). rows ++ new ∷ back) (none_pass (λ row. nat_lt new.number row.number) rows (All-weaker (λ row. row.number < new.number) (λ row. nat_lt new.number row.number ≡ false) (λ row less. not_lower new.number row.number less) rows below))

ascends_push : (ns : List ℕ) (n : ℕ) → IsStrictlyIncreasing ns → All (λ m. m < n) ns → IsStrictlyIncreasing (ns ++ n ∷ [])
ascends_push ns n up below k within =
    let whole = length-append ns (n ∷ []) in
    let low : k < length ns = omega (arith, within, whole) in
    let first = get_or_append_left ns (n ∷ []) 0 k low in
    ⊎_elim
    (λ deep. let step = up k deep in omega (arith, step, first, get_or_append_left ns (n ∷ []) 0 (k + 1) deep))
    (λ last. let step = below k 0 low in omega (arith, step, first, get_or_push ns n 0 (k + 1) (omega (arith, low, last))))
    (cases_lt (k + 1) (length ns))

module _ (sizes : ℕ → Option ℕ) (lives : ℕ → ℕ) (file size : ℕ) (old new : Figures) (rows : AreRows sizes lives old.rows) (is : IsRaised file size old new) where
  abbrev now : ℕ → Option ℕ
  now = with_size file size sizes

  -- a file that had a row, and no more bytes
  pub raised_rows : (before : ℕ) → sizes file ≡ Some before → before ≤ size → AreRows now lives new.rows
  raised_rows before was grows = subst (AreRows now lives) (sym moved) (record {
    ascend = subst (λ (ns : List ℕ). IsStrictlyIncreasing ns) (sym numbers) rows.ascend;
    each = λ n some. subst (λ (ns : List ℕ). Contains ns n) (sym numbers) (had n some);
    are = All-map (IsRowBy now lives) (raised file size) old.rows (All-weaker (IsRowBy sizes lives) (λ row. IsRowBy now lives (raised file size row)) row_raised old.rows rows.are);
  })
    where
      here : Contains (numbers_of old.rows) file
      here = rows.each file (some_size sizes file before was)

      moved : new.rows ≡ map (raised file size) old.rows
      moved = ap (λ (f : Figures). f.rows) (is.had here)

      numbers : numbers_of (map (raised file size) old.rows) ≡ numbers_of old.rows
      numbers = numbers_raised file size old.rows

      had : (n : ℕ) → IsSome (now n) → Contains (numbers_of old.rows) n
      had n some = ⊎_elim
          (λ same. subst (λ m. Contains (numbers_of old.rows) m) (sym same) here)
          (λ other. rows.each n (subst (λ (s : Option ℕ). IsSome s) (size_other file size sizes n other) some))
          (cases_eq n file)

      longer : (row : FileCount) → IsRowBy sizes lives row → row.number ≡ file → IsRowBy now lives (raised_by size row)
      longer row is' same =
          let one : Some row.size ≡ Some before = sym is'.0 ∙ ap sizes same ∙ was in
          let was_size : row.size ≡ before = cc in
          let more : size ≡ max row.size size = omega (arith, was_size, grows) in
          (size_here file size sizes row.number same ∙ ap (λ n. Some n) more, is'.1)

      row_raised : (row : FileCount) → IsRowBy sizes lives row → IsRowBy now lives (raised file size row)
      row_raised row is' = ⊎_elim
          (λ same. subst (IsRowBy now lives) (sym (raised_here file size row same)) (longer row is' same))
          (λ other. subst (IsRowBy now lives) (sym (raised_other file size row other)) (size_other file size sizes row.number other ∙ is'.0, is'.1))
          (cases_eq row.number file)

  -- a new one, whose number is above those of all others
  pub added_rows : ((n : ℕ) → IsSome (sizes n) → n < file) → lives file ≡ 0 → 1 ≤ old.spare → AreRows now lives new.rows
  added_rows above none room = subst (AreRows now lives) (sym moved) (record {
    ascend = subst (λ (ns : List ℕ). IsStrictlyIncreasing ns) (sym numbers) (ascends_push (numbers_of old.rows) file rows.ascend (All-map (λ n. n < file) (λ (row : FileCount). row.number) old.rows below));
    each = λ n some. subst (λ (ns : List ℕ). Contains ns n) (sym numbers) (has n some);
    are = All-append (IsRowBy now lives) old.rows (new_row file size ∷ []) others
        (All-cons (IsRowBy now lives) (new_row file size) [] (size_here file size sizes file refl, sym none) (All-nil (IsRowBy now lives)));
  })
    where
      below : All (λ row. row.number < file) old.rows
      below = All-weaker (IsRowBy sizes lives) (λ row. row.number < file) (λ row is'. above row.number (some_size sizes row.number row.size is'.0)) old.rows rows.are

      lacks : Contains (numbers_of old.rows) file → ⊥
      lacks has' = let row = among-map (λ (r : FileCount). r.number) old.rows file has' in omega (arith, All-contains (λ r. r.number < file) old.rows row.of below row.among, row.is)

      moved : new.rows ≡ old.rows ++ new_row file size ∷ []
      moved = ap (λ (f : Figures). f.rows) (is.added lacks room) ∙ new_last (new_row file size) old.rows below

      numbers : numbers_of (old.rows ++ new_row file size ∷ []) ≡ numbers_of old.rows ++ file ∷ []
      numbers = map-append (λ (row : FileCount). row.number) old.rows (new_row file size ∷ [])

      has : (n : ℕ) → IsSome (now n) → Contains (numbers_of old.rows ++ file ∷ []) n
      has n some = ⊎_elim
          (λ same. subst (λ m. Contains (numbers_of old.rows ++ file ∷ []) m) (sym same) (Contains-push (numbers_of old.rows) file))
          (λ other. Contains-append_left (numbers_of old.rows) (file ∷ []) n (rows.each n (subst (λ (s : Option ℕ). IsSome s) (size_other file size sizes n other) some)))
          (cases_eq n file)

      others : All (IsRowBy now lives) old.rows
      others k d within =
          let less = below k d within in
          let is' = rows.are k d within in
          (size_other file size sizes (get_or old.rows k d).number (λ same. omega (arith, less, same)) ∙ is'.0, is'.1)
