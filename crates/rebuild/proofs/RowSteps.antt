-- How the rows of files go on by one item more.
use Rattle.std.proofs.Common.{◌≡◌, ℕ, ◌+◌, ◌-◌, ◌≤◌, ◌==◌, Bool, true, false, cond, List, length, map, All, Contains, refl, sym, ap, subst, ◌∙◌, arith}
use Rattle.std.proofs.lemmas.Bool.Decides.{nat_tests}
use Rattle.std.proofs.lemmas.List.Elements.{All-map, All-weaker}
use Rattle.cache_model.specs.declared.files.FileCount.{FileCount}
use Rattle.cache_model.specs.Files.{Image, bytes_in}
use Rattle.cache_model.specs.Images.{log_name}
use Rattle.tree_index.specs.Index.{Entries}
use Rattle.rebuild.specs.Rows.{grown, grown_by, new_row, shrunk, shrunk_by}
use Rattle.rebuild.specs.Taking.{Counted, IsRowAmong, bytes_of, live_of}
use Rattle.rebuild.proofs.LiveBytes.{live-most, live-none, part_of}

-- a row keeps its number and its size
grown-number : (number bytes : ℕ) (row : FileCount) → (grown number bytes row).number ≡ row.number
grown-number number bytes row = elim (row.number == number) as (λ b. (cond b (grown_by bytes row) row).number ≡ row.number) [ true ↦ refl | false ↦ refl ]

grown-size : (number bytes : ℕ) (row : FileCount) → (grown number bytes row).size ≡ row.size
grown-size number bytes row = elim (row.number == number) as (λ b. (cond b (grown_by bytes row) row).size ≡ row.size) [ true ↦ refl | false ↦ refl ]

shrunk-number : (number bytes : ℕ) (row : FileCount) → (shrunk number bytes row).number ≡ row.number
shrunk-number number bytes row = elim (row.number == number) as (λ b. (cond b (shrunk_by bytes row) row).number ≡ row.number) [ true ↦ refl | false ↦ refl ]

shrunk-size : (number bytes : ℕ) (row : FileCount) → (shrunk number bytes row).size ≡ row.size
shrunk-size number bytes row = elim (row.number == number) as (λ b. (cond b (shrunk_by bytes row) row).size ≡ row.size) [ true ↦ refl | false ↦ refl ]

same-test : (m n : ℕ) → (m == n) ≡ (n == m)
same-test m n = by (m == n) refl (n == m) refl
  where
    by : (b : Bool) → (m == n) ≡ b → (c : Bool) → (n == m) ≡ c → (m == n) ≡ (n == m)
    by true one true other = one ∙ sym other
    by false one false other = one ∙ sym other
    by true one false other = absurd (grind (arith, nat_tests))
    by false one true other = absurd (grind (arith, nat_tests))

-- the live bytes of a row rise by its part, where it has room for them
grown-live : (number bytes : ℕ) (row : FileCount) → (row.number ≡ number → row.live + bytes ≤ row.size) → (grown number bytes row).live ≡ row.live + part_of number bytes row.number
grown-live number bytes row room = by (row.number == number) refl ∙ ap (λ b. row.live + cond b bytes 0) (same-test row.number number)
  where
    by : (b : Bool) → (row.number == number) ≡ b → (cond (row.number == number) (grown_by bytes row) row).live ≡ row.live + cond (row.number == number) bytes 0
    by true is = rw is (let fits = room (grind (arith, nat_tests)) in omega arith)
    by false is = rw is (omega arith)

-- and fall by it
shrunk-live : (number bytes : ℕ) (row : FileCount) → (shrunk number bytes row).live ≡ row.live - part_of number bytes row.number
shrunk-live number bytes row =
    elim (row.number == number) as (λ b. (cond b (shrunk_by bytes row) row).live ≡ row.live - cond b bytes 0) [ true ↦ refl | false ↦ omega arith ] ∙ ap (λ b. row.live - cond b bytes 0) (same-test row.number number)

module _ (files : Image) (bits : ℕ) (old new : Entries) (counted more : List Counted) where
  -- nothing of the rows changes
  pub rows-same : (rows : List FileCount) → ((number : ℕ) → live_of bits new number more ≡ live_of bits old number counted) → All (IsRowAmong files bits old counted) rows → All (IsRowAmong files bits new more) rows
  rows-same rows live are = All-weaker (IsRowAmong files bits old counted) (IsRowAmong files bits new more) (λ row is. record { size = is.size; live = is.live ∙ sym (live row.number) }) rows are

  -- where a file has room for an item beside these, a row of it has
  room : (number bytes : ℕ) → bytes_of number counted + bytes ≤ length (bytes_in files (log_name number)) → (row : FileCount) → IsRowAmong files bits old counted row → row.number ≡ number → row.live + bytes ≤ row.size
  room number bytes fits row is same =
      let file : bytes_of row.number counted + bytes ≤ length (bytes_in files (log_name row.number)) = subst (λ n. bytes_of n counted + bytes ≤ length (bytes_in files (log_name n))) (sym same) fits in
      omega (arith, file, is.size, is.live, live-most bits row.number old counted)

  -- the row of a file has grown
  pub rows-grown : (number bytes : ℕ) (rows : List FileCount) → bytes_of number counted + bytes ≤ length (bytes_in files (log_name number)) → ((n : ℕ) → live_of bits new n more ≡ live_of bits old n counted + part_of number bytes n)
      → All (IsRowAmong files bits old counted) rows → All (IsRowAmong files bits new more) (map (grown number bytes) rows)
  rows-grown number bytes rows fits live are =
      All-map (IsRowAmong files bits new more) (grown number bytes) rows
      (All-weaker (IsRowAmong files bits old counted) (λ row. IsRowAmong files bits new more (grown number bytes row)) (λ row is. record {
        size = grown-size number bytes row ∙ is.size ∙ ap (λ n. length (bytes_in files (log_name n))) (sym (grown-number number bytes row));
        live = grown-live number bytes row (room number bytes fits row is) ∙ ap (λ n. n + part_of number bytes row.number) is.live ∙ sym (live row.number) ∙ ap (λ n. live_of bits new n more) (sym (grown-number number bytes row));
      }) rows are)

  -- the row of a file has grown, and then one has shrunk
  pub rows-moved : (number bytes from taken : ℕ) (rows : List FileCount) → bytes_of number counted + bytes ≤ length (bytes_in files (log_name number))
      → ((n : ℕ) → live_of bits new n more + part_of from taken n ≡ live_of bits old n counted + part_of number bytes n)
      → All (IsRowAmong files bits old counted) rows → All (IsRowAmong files bits new more) (map (shrunk from taken) (map (grown number bytes) rows))
  rows-moved number bytes from taken rows fits live are =
      All-map (IsRowAmong files bits new more) (shrunk from taken) (map (grown number bytes) rows)
      (All-map (λ row. IsRowAmong files bits new more (shrunk from taken row)) (grown number bytes) rows
      (All-weaker (IsRowAmong files bits old counted) (λ row. IsRowAmong files bits new more (shrunk from taken (grown number bytes row))) (λ row is.
      let mid : FileCount = grown number bytes row in
      let same : (shrunk from taken mid).number ≡ row.number = shrunk-number from taken mid ∙ grown-number number bytes row in
      let grew : mid.live ≡ row.live + part_of number bytes row.number = grown-live number bytes row (room number bytes fits row is) in
      let fell : (shrunk from taken mid).live ≡ mid.live - part_of from taken row.number = shrunk-live from taken mid ∙ ap (λ n. mid.live - part_of from taken n) (grown-number number bytes row) in
      record {
        size = shrunk-size from taken mid ∙ grown-size number bytes row ∙ is.size ∙ ap (λ n. length (bytes_in files (log_name n))) (sym same);
        live = omega (arith, fell, grew, is.live, live row.number) ∙ ap (λ n. live_of bits new n more) (sym same);
      }) rows are))

-- a file whose items are still to be taken
pub row-new : (files : Image) (bits number size : ℕ) (entries : Entries) (counted : List Counted) → size ≡ length (bytes_in files (log_name number)) → ((one : Counted) → Contains counted one → one.number ≡ number → ⊥) → IsRowAmong files bits entries counted (new_row number size)
row-new files bits number size entries counted is other = record { size = is; live = sym (live-none bits number entries counted other) }
