-- The rows of the statistics, once something was written and they were brought up to it.
use Rattle.std.proofs.Common.{◌≡◌, ⊎_elim, ℕ, ◌+◌, ◌<◌, ◌≤◌, ◌==◌, Bool, true, false, List, length, Option, Some, None, IsSome, is_some, refl, sym, ap, subst, ◌∙◌, arith}
use Rattle.std.specs.Prelude.{option_map, if◌then◌else◌}
use Rattle.std.proofs.lemmas.Bool.{cases_eq, cases_lt}
use Rattle.std.proofs.lemmas.Bool.Decides.{nat_tests}
use Rattle.cache_model.specs.declared.files.FileName.{FileName}
use Rattle.cache_model.specs.Files.{Image, file_in}
use Rattle.cache_model.specs.Items.{Item}
use Rattle.cache_model.specs.DataFiles.{Frame}
use Rattle.cache_model.specs.Images.{log_name}
use Rattle.cache_disk.specs.State.{HostState}
use Rattle.data_file.specs.declared.appender.Appender.{Appender}
use Rattle.data_file.specs.Appending.{written}
use Rattle.append_log.specs.Current.{IsFileOf, IsNamed, next_file, tail_by}
use Rattle.file_stats.specs.Figures.{Figures, IsRaised}
use Rattle.soft_index.specs.Counted.{CountsWritten, RaisesTo, closed_size}
use Rattle.soft_index.proofs.Raised.{AreRows, added_rows, raised_rows, same_rows, size_here, size_other, with_size}

-- the size of each data file
abbrev pub sizes_in : Image → ℕ → Option ℕ
sizes_in files n = option_map length (file_in files (log_name n))

pub read_size : (files : Image) (n : ℕ) (bytes : List ℕ) → file_in files (log_name n) ≡ Some bytes → sizes_in files n ≡ Some (length bytes)
read_size files n bytes is = ap (λ (f : Option (List ℕ)). option_map length f) is

no_size : (files : Image) (n : ℕ) → file_in files (log_name n) ≡ None → sizes_in files n ≡ None
no_size files n is = ap (λ (f : Option (List ℕ)). option_map length f) is

same_size : (one other : Image) (n : ℕ) → file_in other (log_name n) ≡ file_in one (log_name n) → sizes_in other n ≡ sizes_in one n
same_size one other n is = ap (λ (f : Option (List ℕ)). option_map length f) is

-- a file with a size has a number below those that no file has
below_next : (files : Image) (next n : ℕ) → ((k : ℕ) → next ≤ k → file_in files (log_name k) ≡ None) → IsSome (sizes_in files n) → n < next
below_next files next n beyond some =
    ⊎_elim (λ less. less) (λ late. let no : false ≡ true = subst (λ (s : Option ℕ). IsSome s) (no_size files n (beyond n late)) some in cc) (cases_lt n next)

-- the size of the current file
current_size : (log : Appender) (n : ℕ) (a : HostState) (frames : List Frame) (records : List Item) → IsNamed 0 (Some log) n → IsFileOf 0 (Some log) n a frames records → sizes_in a.files n ≡ Some log.size
current_size log n a frames records named is =
    read_size a.files n (written frames records) (ap (λ (name : FileName). file_in a.files name) (sym named) ∙ is.reads) ∙ ap (λ (k : ℕ). Some k) (sym is.size)

same_number : (n : ℕ) → (n == n) ≡ true
same_number n = grind (arith, nat_tests)

next_number : (n m : ℕ) → m ≡ n + 1 → (n == m) ≡ false
next_number n m is = grind (arith, nat_tests)

-- a file is new, or it goes on as the current one

module _ (n : ℕ) (a b : HostState) (frames fs : List Frame) (records rs : List Item) (lives : ℕ → ℕ) (old new : Figures)
    (rows : AreRows (sizes_in a.files) lives old.rows)
    (same : (k : ℕ) → (k ≡ n → ⊥) → file_in b.files (log_name k) ≡ file_in a.files (log_name k)) where
  only_here : (size : ℕ) → sizes_in b.files n ≡ Some size → (k : ℕ) → sizes_in b.files k ≡ with_size n size (sizes_in a.files) k
  only_here size is k = ⊎_elim
      (λ here. ap (sizes_in b.files) here ∙ is ∙ sym (size_here n size (sizes_in a.files) k here))
      (λ other. same_size a.files b.files k (same k other) ∙ sym (size_other n size (sizes_in a.files) k other))
      (cases_eq k n)

  pub rows_on : (L M : Option Appender) (u v : Bool)
      → IsNamed 0 L n → IsFileOf 0 L n a frames records → ((k : ℕ) → next_file L n ≤ k → file_in a.files (log_name k) ≡ None)
      → IsNamed 0 M n → IsFileOf 0 M n b fs rs → ((k : ℕ) → next_file M n ≤ k → file_in b.files (log_name k) ≡ None)
      → (is_some L ≡ true → is_some M ≡ true)
      → (is_some L ≡ false → is_some M ≡ true → (lives n ≡ 0) × (1 ≤ old.spare))
      → length (written frames records) ≤ length (written fs rs)
      → CountsWritten (tail_by L n u) (tail_by M n v) old new
      → AreRows (sizes_in b.files) lives new.rows
  rows_on None None u v named is beyond named' is' beyond' there made grows counts =
      same_rows (sizes_in a.files) (sizes_in b.files) lives lives new.rows
      (λ k. ⊎_elim (λ here. same_size a.files b.files k (beyond' k (omega (arith, here)) ∙ sym (beyond k (omega (arith, here))))) (λ other. same_size a.files b.files k (same k other)) (cases_eq k n))
      (λ k. refl)
      (subst (λ (f : Figures). AreRows (sizes_in a.files) lives f.rows) (sym (counts.current ∙ counts.closed)) rows)
  rows_on None (Some log) u v named is beyond named' is' beyond' there made grows counts =
      let raised : IsRaised n log.size old new = subst (λ (f : Figures). IsRaised n log.size f new) counts.closed counts.current in
      let first = made refl refl in
      same_rows (with_size n log.size (sizes_in a.files)) (sizes_in b.files) lives lives new.rows (only_here log.size (current_size log n b fs rs named' is')) (λ k. refl)
      (added_rows (sizes_in a.files) lives n log.size old new rows raised (λ k some. below_next a.files n k beyond some) first.0 first.1)
  rows_on (Some log) None u v named is beyond named' is' beyond' there made grows counts = let no : false ≡ true = there refl in cc
  rows_on (Some log) (Some next) u v named is beyond named' is' beyond' there made grows counts =
      let still : counts.between ≡ old = subst (λ t. RaisesTo (if t then None else Some (n, closed_size log.size u)) old counts.between) (same_number n) counts.closed in
      let raised : IsRaised n next.size old new = subst (λ (f : Figures). IsRaised n next.size f new) still counts.current in
      same_rows (with_size n next.size (sizes_in a.files)) (sizes_in b.files) lives lives new.rows (only_here next.size (current_size next n b fs rs named' is')) (λ k. refl)
      (raised_rows (sizes_in a.files) lives n next.size old new rows raised log.size (current_size log n a frames records named is) (omega (arith, grows, is.size, is'.size)))

-- the current file was closed, and the next one is the current one, or isn't made yet

module _ (n m : ℕ) (a b : HostState) (frames fs : List Frame) (records rs : List Item) (lives : ℕ → ℕ) (old new : Figures)
    (next : m ≡ n + 1)
    (rows : AreRows (sizes_in a.files) lives old.rows)
    (same : (k : ℕ) → (k ≡ n → ⊥) → (k ≡ m → ⊥) → file_in b.files (log_name k) ≡ file_in a.files (log_name k)) where
  pub rows_closed : (log : Appender) (M : Option Appender) (u v : Bool)
      → IsNamed 0 (Some log) n → IsFileOf 0 (Some log) n a frames records → ((k : ℕ) → n + 1 ≤ k → file_in a.files (log_name k) ≡ None)
      → IsNamed 0 M m → IsFileOf 0 M m b fs rs → ((k : ℕ) → next_file M m ≤ k → file_in b.files (log_name k) ≡ None)
      → (is_some M ≡ true → (lives m ≡ 0) × (1 ≤ old.spare))
      → log.size ≤ closed_size log.size u
      → sizes_in b.files n ≡ Some (closed_size log.size u)
      → CountsWritten (tail_by (Some log) n u) (tail_by M m v) old new
      → AreRows (sizes_in b.files) lives new.rows
  rows_closed log None u v named is beyond named' is' beyond' made grows closed counts =
      same_rows (with_size n (closed_size log.size u) (sizes_in a.files)) (sizes_in b.files) lives lives new.rows all (λ k. refl)
      (subst (λ (f : Figures). AreRows (with_size n (closed_size log.size u) (sizes_in a.files)) lives f.rows) (sym counts.current)
      (raised_rows (sizes_in a.files) lives n (closed_size log.size u) old counts.between rows counts.closed log.size (current_size log n a frames records named is) grows))
    where
      all : (k : ℕ) → sizes_in b.files k ≡ with_size n (closed_size log.size u) (sizes_in a.files) k
      all k = ⊎_elim
          (λ here. ap (sizes_in b.files) here ∙ closed ∙ sym (size_here n (closed_size log.size u) (sizes_in a.files) k here))
          (λ other. (⊎_elim
          (λ there. same_size a.files b.files k (beyond' k (omega (arith, there)) ∙ sym (beyond k (omega (arith, there, next)))))
          (λ apart. same_size a.files b.files k (same k other apart))
          (cases_eq k m)) ∙ sym (size_other n (closed_size log.size u) (sizes_in a.files) k other))
          (cases_eq k n)
  rows_closed log (Some after) u v named is beyond named' is' beyond' made grows closed counts =
      let first = made refl in
      same_rows (with_size m after.size mid) (sizes_in b.files) lives lives new.rows all (λ k. refl)
      (added_rows mid lives m after.size counts.between new
      (raised_rows (sizes_in a.files) lives n size old counts.between rows raised log.size was grows)
      counts.current above first.0 (subst (λ (f : Figures). 1 ≤ f.spare) (sym (raised.had (rows.each n (subst (λ (s : Option ℕ). IsSome s) (sym was) refl)))) first.1))
    where
      size : ℕ
      size = closed_size log.size u

      mid : ℕ → Option ℕ
      mid = with_size n size (sizes_in a.files)

      was : sizes_in a.files n ≡ Some log.size
      was = current_size log n a frames records named is

      raised : IsRaised n size old counts.between
      raised = subst (λ t. RaisesTo (if t then None else Some (n, size)) old counts.between) (next_number n m next) counts.closed

      above : (k : ℕ) → IsSome (mid k) → k < m
      above k some = ⊎_elim
          (λ here. omega (arith, here, next))
          (λ other. let less = below_next a.files (n + 1) k beyond (subst (λ (s : Option ℕ). IsSome s) (size_other n size (sizes_in a.files) k other) some) in omega (arith, less, next))
          (cases_eq k n)

      all : (k : ℕ) → sizes_in b.files k ≡ with_size m after.size mid k
      all k = ⊎_elim
          (λ there. ap (sizes_in b.files) there ∙ current_size after m b fs rs named' is' ∙ sym (size_here m after.size mid k there))
          (λ apart. (⊎_elim
          (λ here. ap (sizes_in b.files) here ∙ closed ∙ sym (size_here n size (sizes_in a.files) k here))
          (λ other. same_size a.files b.files k (same k other apart) ∙ sym (size_other n size (sizes_in a.files) k other))
          (cases_eq k n)) ∙ sym (size_other m after.size mid k apart))
          (cases_eq k m)
