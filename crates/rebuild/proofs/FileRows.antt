-- A file more, of which no item is taken yet.
use Rattle.std.proofs.Common.{◌≡◌, ℕ, List, [], ◌∷◌, ◌++◌, length, All, Contains, Option, Some, None, sym, ap, subst, arith}
use Rattle.std.specs.Prelude.{option_map, unwrap_or}
use Rattle.std.proofs.lemmas.List.Elements.{All-push}
use Rattle.cache_model.specs.Files.{Image, bytes_in}
use Rattle.cache_model.specs.Images.{log_name}
use Rattle.cache_model.specs.DataFiles.{counted_items}
use Rattle.cache_disk.specs.State.{SameFiles}
use Rattle.tree_index.specs.Index.{Entries}
use Rattle.rebuild.specs.declared.figures.Figures.{Figures}
use Rattle.rebuild.specs.Rows.{new_row}
use Rattle.rebuild.specs.Taking.{AreFiguresOf, Counted, IsNextFileOf, IsRowAmong, StandsForItems, counted_in}
use Rattle.rebuild.proofs.ReadRecords.{bytes-same}
use Rattle.rebuild.proofs.RowSteps.{row-new}
use Rattle.rebuild.proofs.Scans.{stands-same}
use Rattle.cache_model.specs.declared.files.FileCount.{FileCount}

-- the size of a file, where one that isn't there has none
pub size-is : (size : Option ℕ) (found : Option (List ℕ)) → size ≡ option_map length found → unwrap_or size 0 ≡ length (unwrap_or found [])
size-is size None is = ap (λ (o : Option ℕ). unwrap_or o 0) is
size-is size (Some bytes) is = ap (λ (o : Option ℕ). unwrap_or o 0) is

pub next-file-same : (a b : Image) (counted : List Counted) (number : ℕ) → SameFiles a b → IsNextFileOf a counted number → IsNextFileOf b counted number
next-file-same a b counted number same next = record {
  within = λ one among. subst (λ (bytes : List ℕ). Contains (counted_items bytes) (one.at, one.item)) (sym (bytes-same a b (log_name one.number) same)) (next.within one among);
  lower = next.lower;
}

-- the figures with the row of the file
pub row-added : (a b : Image) (bits number size : ℕ) (entries : Entries) (before after : Figures) (counted : List Counted) → SameFiles a b → size ≡ length (bytes_in a (log_name number)) → IsNextFileOf a counted number
    → after.rows ≡ before.rows ++ new_row number size ∷ [] → after.next_seq ≡ before.next_seq → after.mark ≡ before.mark
    → StandsForItems a bits entries before counted → StandsForItems b bits entries after counted
row-added a b bits number size entries before after counted same sized next rows seq mark stands = stands-same a b bits entries after counted same (record {
  index = stands.index;
  rows = subst (λ (rs : List FileCount). All (IsRowAmong a bits entries counted) rs) (sym rows)
      (All-push (IsRowAmong a bits entries counted) before.rows (new_row number size) stands.rows (row-new a bits number size entries counted sized (λ one among is. omega (arith, next.lower one among, is))));
  others = subst (λ n. AreFiguresOf counted n after.mark) (sym seq) (subst (AreFiguresOf counted before.next_seq) (sym mark) stands.others);
})

-- what was taken of the same file
pub taken-same : (a b : Image) (bits number : ℕ) (entries : Entries) (figures : Figures) (counted : List Counted) → SameFiles a b
    → StandsForItems b bits entries figures (counted ++ counted_in number (counted_items (bytes_in b (log_name number)))) → StandsForItems a bits entries figures (counted ++ counted_in number (counted_items (bytes_in a (log_name number))))
taken-same a b bits number entries figures counted same stands =
    subst (λ (bytes : List ℕ). StandsForItems a bits entries figures (counted ++ counted_in number (counted_items bytes))) (bytes-same a b (log_name number) same)
    (stands-same b a bits entries figures (counted ++ counted_in number (counted_items (bytes_in b (log_name number)))) (λ name. sym (same name)) stands)
