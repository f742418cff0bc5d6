-- The first class below a limit is that of the least candidate.
use Rattle.std.proofs.Common.{◌≡◌, ⊎_elim, ℕ, ◌+◌, ◌*◌, ◌/◌, ◌<◌, ◌≤◌, ◌==◌, true, false, not, eqb, cond, min, List, length, get_or, Option, Some, None, refl, sym, ap, subst, ◌∙◌, arith}
use Rattle.std.proofs.Math.Nat.{div-lt_iff_lt-mul, mul-zero}
use Rattle.std.proofs.lemmas.Bool.Decides.{nat_tests}
use Rattle.std.specs.Option.{option_eq}
use Rattle.std.proofs.lemmas.Bool.{cases_eq, cases_lt, false≢true}
use Rattle.std.proofs.lemmas.List.{get_or_default, get_or_past}
use Rattle.cache_model.specs.declared.files.FileCount.{FileCount}
use Rattle.file_stats.specs.Classes.{AreClassesOf, IsFirst, IsFirstBelow, class_at, class_of, no_row}
use Rattle.file_stats.specs.Counts.{AreCounts}
use Rattle.file_stats.specs.Figures.{IsCandidate, IsLeastCandidate}
use Rattle.file_stats.proofs.RowLemmas.{rows-ascend}

-- what a comparison of two options tells
pub named-same : (current : Option ℕ) (number : ℕ) → false ≡ not (option_eq eqb current (Some number)) → current ≡ Some number
named-same None number is = absurd (false≢true is)
named-same (Some n) number is = ap Some (same n number is)
  where
    same : (m n : ℕ) → false ≡ not (m == n) → m ≡ n
    same m n is' = grind (arith, nat_tests)

pub named-other : (current : Option ℕ) (number : ℕ) → true ≡ not (option_eq eqb current (Some number)) → current ≡ Some number → ⊥
named-other None number is same = cc
named-other (Some n) number is same = differs n number is (cc)
  where
    differs : (m n : ℕ) → true ≡ not (m == n) → m ≡ n → ⊥
    differs m n is' same' = grind (arith, nat_tests)

class-empty : (row : FileCount) → row.size ≡ 0 → class_of row ≡ 101
class-empty row empty = ap (λ b. cond b 101 (row.live * 100 / row.size)) (test row.size empty)
  where
    test : (n : ℕ) → n ≡ 0 → (n == 0) ≡ true
    test n is = grind (arith, nat_tests)

class-filled : (row : FileCount) → 0 < row.size → class_of row ≡ row.live * 100 / row.size
class-filled row filled = ap (λ b. cond b 101 (row.live * 100 / row.size)) (test row.size filled)
  where
    test : (n : ℕ) → 0 < n → (n == 0) ≡ false
    test n some = grind (arith, nat_tests)

-- no class of a file is above a hundred percent
pub class-most : (live size : ℕ) → live ≤ size → 0 < size → live * 100 / size ≤ 100
class-most live size within some = let below : live * 100 / size < 101 = (div-lt_iff_lt-mul some).1 (omega arith) in omega (arith, below)

-- a file's class is below the limit of a threshold exactly where fewer of its bytes are live
pub sparse-from-class : (threshold : ℕ) (row : FileCount) → class_of row < min threshold 101 → row.live * 100 < threshold * row.size
sparse-from-class threshold row below =
    ⊎_elim (λ empty. absurd (omega (arith, below, class-empty row empty)))
    (λ some. let filled : 0 < row.size = omega (arith, some) in
    (div-lt_iff_lt-mul filled).0 (omega (arith, below, class-filled row filled)))
    (cases_eq row.size 0)

pub class-from-sparse : (threshold : ℕ) (row : FileCount) → row.live ≤ row.size → row.live * 100 < threshold * row.size → class_of row < min threshold 101
class-from-sparse threshold row within sparse =
    ⊎_elim (λ empty. absurd (none threshold row.size (row.live * 100) empty sparse))
    (λ some. let filled : 0 < row.size = omega (arith, some) in
    let low : row.live * 100 / row.size < threshold = (div-lt_iff_lt-mul filled).1 sparse in
    omega (arith, low, class-most row.live row.size within filled, class-filled row filled))
    (cases_eq row.size 0)
  where
    none : (t n m : ℕ) → n ≡ 0 → m < t * n → ⊥
    none t n m is less = let zero' : t * n ≡ 0 = ap (λ k. t * k) is ∙ mul-zero t in omega (arith, zero', less)

-- the class at a place of a row is that of the row
class-row : (rows : List FileCount) (k : ℕ) (d : FileCount) → k < length rows → class_at rows k ≡ class_of (get_or rows k d)
class-row rows k d within = ap class_of (get_or_default rows k no_row d within)

-- a place below the limit has a row
pub row-below : (rows : List FileCount) (classes : List ℕ) (limit place : ℕ) → AreClassesOf rows classes → limit ≤ 101 → place < length classes → get_or classes place 0 < limit → place < length rows
row-below rows classes limit place are most within below =
    ⊎_elim (λ inside. inside) (λ past. let free : class_at rows place ≡ 101 = ap class_of (get_or_past rows place no_row past) in absurd (omega (arith, are place within, free, below, most))) (cases_lt place (length rows))

module _ (rows : List FileCount) (classes : List ℕ) (threshold : ℕ) (counts : AreCounts rows) (within : length rows ≤ length classes) (are : AreClassesOf rows classes) where
  -- a candidate's class is below the limit
  below-of : (current : Option ℕ) (k : ℕ) (d : FileCount) → k < length rows → IsCandidate threshold current (get_or rows k d) → get_or classes k 0 < min threshold 101
  below-of current k d inside is =
      let low = class-from-sparse threshold (get_or rows k d) (counts.live k d inside) is.sparse in
      omega (arith, low, are k (omega arith), class-row rows k d inside)

  sparse-of : (k : ℕ) (d : FileCount) → k < length rows → get_or classes k 0 < min threshold 101 → (get_or rows k d).live * 100 < threshold * (get_or rows k d).size
  sparse-of k d inside below = sparse-from-class threshold (get_or rows k d) (omega (arith, below, are k (omega arith), class-row rows k d inside))

  -- none is below the limit
  pub none-first : (current : Option ℕ) → IsFirstBelow (min threshold 101) 0 (length classes) classes None → IsLeastCandidate threshold current rows None
  none-first current none k d inside is = let above = none k (omega arith) (omega arith) in omega (arith, above, below-of current k d inside is)

  inside-of : (from place : ℕ) → IsFirst (min threshold 101) from (length classes) classes place → place < length rows
  inside-of from place first = row-below rows classes (min threshold 101) place are (omega arith) first.high first.below

  -- the row at a place
  row-at : (place : ℕ) (row d : FileCount) → place < length rows → row ≡ get_or rows place row → row ≡ get_or rows place d
  row-at place row d inside is = is ∙ get_or_default rows place row d inside

  -- rows from a place on have no lower numbers
  least-from : (place : ℕ) (row : FileCount) → row ≡ get_or rows place row → (k : ℕ) (d : FileCount) → place ≤ k → k < length rows → row.number ≤ (get_or rows k d).number
  least-from place row is k d from inside =
      let here : row.number ≡ (get_or rows place d).number = ap (λ (r : FileCount). r.number) (row-at place row d (omega arith) is) in
      ⊎_elim
      (λ same. subst (λ (n : ℕ). row.number ≤ (get_or rows n d).number) (sym same) (omega (arith, here)))
      (λ other. let more = rows-ascend rows counts.ascend place k d (omega (arith, other)) inside in omega (arith, more, here))
      (cases_eq k place)

  candidate-at : (current : Option ℕ) (from place : ℕ) (row : FileCount) → IsFirst (min threshold 101) from (length classes) classes place → row ≡ get_or rows place row → (current ≡ Some row.number → ⊥) → IsCandidate threshold current row
  candidate-at current from place row first is other = record {
    other = other;
    sparse = subst (λ (r : FileCount). r.live * 100 < threshold * r.size) (sym is) (sparse-of place row (inside-of from place first) first.below);
  }

  -- the first one isn't the current file
  pub first-other : (current : Option ℕ) (place : ℕ) (row : FileCount) → IsFirst (min threshold 101) 0 (length classes) classes place → row ≡ get_or rows place row → (current ≡ Some row.number → ⊥) → IsLeastCandidate threshold current rows (Some row.number)
  first-other current place row first is other = (
    (place, row, inside-of 0 place first, sym is, (refl, candidate-at current 0 place row first is other)),
    λ k d inside candidate.
        let below = below-of current k d inside candidate in
        ⊎_elim (λ before. let above = first.first k (omega arith) before in absurd (omega (arith, above, below))) (λ from. least-from place row is k d from inside) (cases_lt k place),
  )

  -- the row of the current file is no candidate
  current-out : (current : Option ℕ) (place : ℕ) (row : FileCount) → row ≡ get_or rows place row → current ≡ Some row.number → (k : ℕ) (d : FileCount) → k < length rows → k ≡ place → IsCandidate threshold current (get_or rows k d) → ⊥
  current-out current place row is same k d inside here candidate =
      candidate.other (same ∙ ap (λ (r : FileCount). Some r.number) (row-at place row d (omega (arith, inside, here)) is) ∙ ap (λ n. Some (get_or rows n d).number) (sym here))

  -- the first one is the current file, and none behind it is below the limit
  pub none-second : (current : Option ℕ) (place : ℕ) (row : FileCount) → IsFirst (min threshold 101) 0 (length classes) classes place → row ≡ get_or rows place row → current ≡ Some row.number → IsFirstBelow (min threshold 101) (place + 1) (length classes) classes None → IsLeastCandidate threshold current rows None
  none-second current place row first is same none k d inside candidate =
      let below = below-of current k d inside candidate in
      ⊎_elim
      (λ here. current-out current place row is same k d inside here candidate)
      (λ other. ⊎_elim
      (λ before. let above = first.first k (omega arith) before in omega (arith, above, below))
      (λ from. let above = none k (omega (arith, from, other)) (omega arith) in omega (arith, above, below))
      (cases_lt k place))
      (cases_eq k place)

  -- the first one behind it
  pub second-other : (current : Option ℕ) (place : ℕ) (row : FileCount) (next : ℕ) (second : FileCount) → IsFirst (min threshold 101) 0 (length classes) classes place → row ≡ get_or rows place row → current ≡ Some row.number → IsFirst (min threshold 101) (place + 1) (length classes) classes next → second ≡ get_or rows next second → IsLeastCandidate threshold current rows (Some second.number)
  second-other current place row next second first is same behind is' = (
    (next, second, inside-of (place + 1) next behind, sym is', (refl, candidate-at current (place + 1) next second behind is' other)),
    λ k d inside candidate.
        let below = below-of current k d inside candidate in
        ⊎_elim
        (λ here. absurd (current-out current place row is same k d inside here candidate))
        (λ differs. ⊎_elim
        (λ before. ⊎_elim
        (λ first'. let above = first.first k (omega arith) first' in absurd (omega (arith, above, below)))
        (λ from. let above = behind.first k (omega (arith, from, differs)) before in absurd (omega (arith, above, below)))
        (cases_lt k place))
        (λ from. least-from next second is' k d from inside)
        (cases_lt k next))
        (cases_eq k place),
  )
    where
      other : current ≡ Some second.number → ⊥
      other named =
          let one : row.number ≡ second.number = some_same (sym same ∙ named) in
          let more = rows-ascend rows counts.ascend place next row (omega (arith, behind.low)) (inside-of (place + 1) next behind) in
          let here = ap (λ (r : FileCount). r.number) (row-at place row row (inside-of 0 place first) is) in
          let there = ap (λ (r : FileCount). r.number) (row-at next second row (inside-of (place + 1) next behind) is') in
          omega (arith, one, more, here, there)
        where
          some_same : Some row.number ≡ Some second.number → row.number ≡ second.number
          some_same same' = cc
