-- What is kept beside the rows stays right where a row is changed, comes in or goes.
use Rattle.std.proofs.Common.{◌≡◌, ⊎_elim, ℕ, ◌+◌, ◌-◌, ◌*◌, ◌^◌, ◌<◌, ◌≤◌, suc, List, ◌∷◌, length, get_or, set, take, drop, All, sym, ap, ◌∙◌, arith}
use Rattle.std.specs.Prelude.{insert, remove, sum_by, HoldsAt}
use Rattle.std.proofs.lemmas.Bool.{cases_eq, cases_lt}
use Rattle.std.proofs.lemmas.List.{get_or-set_other, get_or-set_same, get_or-take, get_or_default, get_or_past, length-set, length-take}
use Rattle.std.proofs.lemmas.List.Edits.{length-insert, length-remove}
use Rattle.std.proofs.lemmas.List.Elements.{All-append, All-cons, All-drop, All-set, All-take, All-weaker}
use Rattle.std.proofs.lemmas.List.Sums.{get_or-le-sum_by, sum_by-insert, sum_by-le, sum_by-remove, sum_by-set}
use Rattle.cache_model.specs.declared.files.FileCount.{FileCount}
use Rattle.file_stats.specs.Classes.{AreClassesOf, class_at, class_of, no_row}
use Rattle.file_stats.specs.Counts.{AreCounts}
use Rattle.file_stats.specs.Figures.{bytes_of, live_bytes_of}
use Rattle.file_stats.specs.Keeping.{AreKept}
use Rattle.file_stats.proofs.RowLemmas.{counts-remove, counts-set}

-- one class is changed with its row
classes-set : (rows : List FileCount) (classes : List ℕ) (place : ℕ) (new : FileCount) → place < length rows → length rows ≤ length classes → AreClassesOf rows classes → AreClassesOf (set rows place new) (set classes place (class_of new))
classes-set rows classes place new within room are k inside =
    ⊎_elim
    (λ same. ap (λ n. get_or (set classes place (class_of new)) n 0) same ∙ get_or-set_same classes place (class_of new) 0 (omega arith)
    ∙ sym (ap (λ n. class_at (set rows place new) n) same ∙ ap class_of (get_or-set_same rows place new no_row within)))
    (λ other. get_or-set_other classes place k (class_of new) 0 other ∙ are k (omega (arith, inside, length-set classes place (class_of new)))
    ∙ sym (ap class_of (get_or-set_other rows place k new no_row other)))
    (cases_eq k place)

-- a class is written behind those of the rows before
pub classes-push : (rows : List FileCount) (classes : List ℕ) (place : ℕ) (new : FileCount) → place + 1 ≡ length rows → length rows ≤ length classes → new ≡ get_or rows place new → AreClassesOf (take place rows) classes → AreClassesOf rows (set classes place (class_of new))
classes-push rows classes place new last room is are k inside =
    ⊎_elim
    (λ same. ap (λ n. get_or (set classes place (class_of new)) n 0) same ∙ get_or-set_same classes place (class_of new) 0 (omega arith)
    ∙ ap class_of (is ∙ get_or_default rows place new no_row (omega arith) ∙ ap (λ n. get_or rows n no_row) (sym same)))
    (λ other. get_or-set_other classes place k (class_of new) 0 other ∙ are k (omega (arith, inside, length-set classes place (class_of new)))
    ∙ ap class_of (⊎_elim (λ before. get_or-take place rows k no_row before) (λ past. get_or_past (take place rows) k no_row (omega (arith, past, length-take place rows)) ∙ sym (get_or_past rows k no_row (omega (arith, past, other, last)))) (cases_lt k place)))
    (cases_eq k place)

-- the sums are far from the end of 128 bits
pub bytes-fit : (rows : List FileCount) → All (λ row. row.size < 2 ^ 64) rows → bytes_of rows ≤ length rows * (2 ^ 64 - 1)
bytes-fit rows fit = sum_by-le (λ row. row.size) (2 ^ 64 - 1) rows (All-weaker (λ row. row.size < 2 ^ 64) (λ row. row.size ≤ 2 ^ 64 - 1) (λ row less. omega (arith, less)) rows fit)

pub live-fit : (rows : List FileCount) → AreCounts rows → All (λ row. row.size < 2 ^ 64) rows → live_bytes_of rows ≤ length rows * (2 ^ 64 - 1)
live-fit rows counts fit = sum_by-le (λ row. row.live) (2 ^ 64 - 1) rows (λ k d within. let size = fit k d within in let live = counts.live k d within in omega (arith, size, live))

module _ (rows : List FileCount) (room : ℕ) (classes : List ℕ) (bytes live : ℕ) (kept : AreKept rows room classes bytes live) where
  -- a row is given other figures
  kept-set : (place : ℕ) (old new : FileCount) → place < length rows → old ≡ get_or rows place old → HoldsAt (λ row. row.number ≡ new.number) rows place → new.live ≤ new.size → new.size < 2 ^ 64 → AreKept (set rows place new) room (set classes place (class_of new)) (bytes - old.size + new.size) (live - old.live + new.live)
  kept-set place old new within is same covered fits = record {
    counts = counts-set rows place new kept.counts within same covered;
    fit = All-set (λ row. row.size < 2 ^ 64) rows place new fits kept.fit;
    within = omega (arith, kept.within, length-set rows place new, length-set classes place (class_of new));
    room = omega (arith, kept.room, length-set classes place (class_of new));
    each = classes-set rows classes place new within kept.within kept.each;
    bytes = omega (arith, kept.bytes, sum_by-set (λ row. row.size) rows place new old within, get_or-le-sum_by (λ row. row.size) rows place old within, ap (λ (r : FileCount). r.size) is);
    live = omega (arith, kept.live, sum_by-set (λ row. row.live) rows place new old within, get_or-le-sum_by (λ row. row.live) rows place old within, ap (λ (r : FileCount). r.live) is);
  }

  pub kept-replaced : (place : ℕ) (old new : FileCount) (classes' : List ℕ) (class size size' lives lives' : ℕ) → place < length rows → old ≡ get_or rows place old → HoldsAt (λ row. row.number ≡ new.number) rows place → new.live ≤ new.size → new.size < 2 ^ 64
      → class ≡ class_of new → classes' ≡ set classes place class → size ≡ old.size → size' ≡ new.size → lives ≡ old.live → lives' ≡ new.live → AreKept (set rows place new) room classes' (bytes - size + size') (live - lives + lives')
  kept-replaced place old new classes' class size size' lives lives' within is same covered fits of_new set_one size_is size_is' lives_is lives_is' =
      rw (set_one, of_new, size_is, size_is', lives_is, lives_is') (kept-set place old new within is same covered fits)

  -- a row comes in
  pub kept-insert : (place room' : ℕ) (classes' : List ℕ) (new : FileCount) → place ≤ length rows → length rows < length classes → room ≤ room' → AreCounts (insert rows place new) → new.size < 2 ^ 64 → length classes' ≡ length classes → AreClassesOf (insert rows place new) classes' → AreKept (insert rows place new) room' classes' (bytes + new.size) (live + new.live)
  kept-insert place room' classes' new within spare more counts fits places are = record {
    counts = counts;
    fit = All-append (λ row. row.size < 2 ^ 64) (take place rows) (new ∷ drop place rows) (All-take (λ row. row.size < 2 ^ 64) place rows kept.fit)
        (All-cons (λ row. row.size < 2 ^ 64) new (drop place rows) fits (All-drop (λ row. row.size < 2 ^ 64) place rows kept.fit));
    within = omega (arith, spare, places, length-insert rows place new within);
    room = omega (arith, kept.room, places, more);
    each = are;
    bytes = kept-sum (λ row. row.size) bytes kept.bytes;
    live = kept-sum (λ row. row.live) live kept.live;
  }
    where
      kept-sum : (f : FileCount → ℕ) (n : ℕ) → n ≡ sum_by f rows → n + f new ≡ sum_by f (insert rows place new)
      kept-sum f n is = omega (arith, is, sum_by-insert f rows place new)

  -- a row goes
  pub kept-remove : (place room' : ℕ) (classes' : List ℕ) (old : FileCount) → place < length rows → room ≤ room' → old ≡ get_or rows place old → length classes' ≡ length classes → AreClassesOf (remove rows place) classes' → AreKept (remove rows place) room' classes' (bytes - old.size) (live - old.live)
  kept-remove place room' classes' old within more is places are = record {
    counts = counts-remove rows place within kept.counts;
    fit = All-append (λ row. row.size < 2 ^ 64) (take place rows) (drop (suc place) rows) (All-take (λ row. row.size < 2 ^ 64) place rows kept.fit) (All-drop (λ row. row.size < 2 ^ 64) (suc place) rows kept.fit);
    within = omega (arith, kept.within, places, length-remove rows place within);
    room = omega (arith, kept.room, places, more);
    each = are;
    bytes = kept-sum (λ row. row.size) bytes kept.bytes;
    live = kept-sum (λ row. row.live) live kept.live;
  }
    where
      kept-sum : (f : FileCount → ℕ) (n : ℕ) → n ≡ sum_by f rows → n - f old ≡ sum_by f (remove rows place)
      kept-sum f n same = omega (arith, same, sum_by-remove f rows place old within, ap f is)
