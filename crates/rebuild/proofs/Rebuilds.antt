-- What is found says just what the files hold.
use Rattle.std.proofs.Common.{◌≡◌, ℕ, ◌^◌, ◌<◌, ◌≤◌, List, [], ◌∷◌, ◌++◌, All, Contains, Option, IsSome, Result, Ok, Err, IfOk, refl, sym, ap, subst, ◌∙◌}
use Rattle.std.specs.Prelude.{◌↔◌}
use Rattle.std.specs.List.Sorted.{IsStrictlyIncreasing}
use Rattle.cache_model.specs.declared.files.FileCount.{FileCount}
use Rattle.cache_model.specs.declared.files.FileName.{FileName}
use Rattle.cache_model.specs.declared.faults.Damage.{Damage}
use Rattle.cache_model.specs.Files.{Image, bytes_in, file_in}
use Rattle.cache_model.specs.DataFiles.{counted_items}
use Rattle.cache_disk.specs.State.{SameFiles}
use Rattle.cache_model.specs.Images.{IsMark, IsSound, log_name}
use Rattle.cache_model.specs.Numbers.{IsNextFile, IsNextSequence}
use Rattle.cache_model.proofs.Members.{all-among, map-among}
use Rattle.file_stats.specs.declared.file_list.Found.{Found}
use Rattle.tree_index.specs.Index.{Entries, Index}
use Rattle.rebuild.specs.declared.figures.Figures.{Figures}
use Rattle.rebuild.specs.Listing.{IsBehind, IsFirstDamageOf, IsNumber}
use Rattle.rebuild.specs.Rebuilt.{AreRowsOf, IsBounded, IsInOrder, IsIndexOf, IsRebuilt, IsRowOf}
use Rattle.rebuild.specs.Rows.{numbers_of}
use Rattle.rebuild.specs.Taking.{Counted, IsRowAmong, StandsForItems, counted_in, counted_of}
use Rattle.rebuild.proofs.ReadRecords.{bytes-same}
use Rattle.rebuild.proofs.Scans.{stands-same}
use Rattle.rebuild.proofs.FileLive.{has-live}
use Rattle.rebuild.proofs.WholeFiles.{AreAllNumbers, has-mark, index-of, is-next, is-next-file}
use Rattle.std.proofs.lemmas.List.Elements.{All-contains}

-- names of just the files that are there
abbrev pub AreNamesOf : Image → List FileName → Type 0
AreNamesOf files names = (name : FileName) → (Contains names name ↔ IsSome (file_in files name))

-- the numbers among the names, which were listed, are those of the data files
pub all-numbers : (files : Image) (names shown : List FileName) (numbers given : List ℕ) → shown ≡ names → given ≡ numbers → AreNamesOf files names → ((n : ℕ) → (Contains numbers n ↔ Contains shown (log_name n))) → AreAllNumbers files given
all-numbers files names shown numbers given same is each among n = (λ number. (each (log_name n)).0 (to number), λ there. from ((each (log_name n)).1 there))
  where
    to : Contains given n → Contains names (log_name n)
    to number = subst (λ (l : List FileName). Contains l (log_name n)) same ((among n).0 (subst (λ (l : List ℕ). Contains l n) is number))

    from : Contains names (log_name n) → Contains given n
    from name = subst (λ (l : List ℕ). Contains l n) (sym is) ((among n).1 (subst (λ (l : List FileName). Contains l (log_name n)) (sym same) name))

-- what holds where the files are the same

pub all-numbers-same : (a b : Image) (numbers : List ℕ) → SameFiles a b → AreAllNumbers a numbers → AreAllNumbers b numbers
all-numbers-same a b numbers same each n = subst (λ (f : Option (List ℕ)). Contains numbers n ↔ IsSome f) (sym (same (log_name n))) (each n)

counted-same : (a b : Image) (numbers : List ℕ) → SameFiles a b → counted_of b numbers ≡ counted_of a numbers
counted-same a b [] same = refl
counted-same a b (n ∷ numbers) same =
    ap (λ (bytes : List ℕ). counted_in n (counted_items bytes) ++ counted_of b numbers) (bytes-same a b (log_name n) same)
    ∙ ap (λ (l : List Counted). counted_in n (counted_items (bytes_in a (log_name n))) ++ l) (counted-same a b numbers same)

pub taken-before : (a b : Image) (bits : ℕ) (entries : Entries) (figures : Figures) (numbers : List ℕ) → SameFiles a b → StandsForItems b bits entries figures (counted_of b numbers) → StandsForItems a bits entries figures (counted_of a numbers)
taken-before a b bits entries figures numbers same stands =
    subst (StandsForItems a bits entries figures) (counted-same a b numbers same) (stands-same b a bits entries figures (counted_of b numbers) (λ name. sym (same name)) stands)

pub sound-before : (a b : Image) → SameFiles a b → IsSound b → IsSound a
sound-before a b same sound n bytes there = sound n bytes (same (log_name n) ∙ there)

pub damage-before : (a b : Image) (damage : Damage) → SameFiles a b → IsFirstDamageOf b damage → IsFirstDamageOf a damage
damage-before a b damage same (named, is) = (
  named,
  record {
    bytes = is.bytes;
    there = sym (same (log_name damage.file.id)) ∙ is.there;
    damage = is.damage;
    first = λ n other less there. is.first n other less (same (log_name n) ∙ there);
  },
)

-- the rows are those of the files
rows-of : (files : Image) (numbers : List ℕ) (bits : ℕ) (entries : Entries) (figures : Figures) → AreAllNumbers files numbers → IsStrictlyIncreasing numbers → numbers_of figures.rows ≡ numbers → StandsForItems files bits entries figures (counted_of files numbers) → AreRowsOf files figures.rows
rows-of files numbers bits entries figures each ascend are stands = record {
  each = λ n. subst (λ (l : List ℕ). Contains l n ↔ IsSome (file_in files (log_name n))) (sym are) (each n);
  figures = all-among (IsRowOf files) figures.rows
      (λ row among.
      let is = All-contains (IsRowAmong files bits entries (counted_of files numbers)) figures.rows row stands.rows among in
      let there : Contains numbers row.number = subst (λ (l : List ℕ). Contains l row.number) are (map-among (λ (r : FileCount). r.number) figures.rows row among) in
      record { size = is.size; live = has-live files numbers bits entries row.number each there stands.index row.live ascend is.live });
}

-- figures and a number that are found
pub found-rebuilt : (files : Image) (numbers : List ℕ) (bits : ℕ) (entries : Entries) (figures : Figures) (next : ℕ) (found : Found) → AreAllNumbers files numbers → IsStrictlyIncreasing numbers → numbers_of figures.rows ≡ numbers → StandsForItems files bits entries figures (counted_of files numbers) → IsBehind numbers next
    → found.files ≡ figures.rows → found.next_file ≡ next → found.next_seq ≡ figures.next_seq → found.mark ≡ figures.mark → IsRebuilt files bits entries found
found-rebuilt files numbers bits entries figures next found each ascend are stands behind rows file seq mark = record {
  index = subst (λ (l : List ℕ). IsIndexOf files l bits entries) (sym (ap numbers_of rows ∙ are)) (index-of files numbers each bits entries stands.index);
  rows = subst (AreRowsOf files) (sym rows) (rows-of files numbers bits entries figures each ascend are stands);
  next_file = subst (IsNextFile files) (sym file) (is-next-file files numbers each next behind);
  next_seq = subst (IsNextSequence files) (sym seq) (is-next files numbers each figures.next_seq figures.mark stands.others);
  mark = subst (IsMark files) (sym mark) (has-mark files numbers each figures.next_seq figures.mark stands.others);
}

-- what is found is in its bounds
pub found-bounded : (bits : ℕ) (tree : Index) (numbers : List ℕ) (figures : Figures) (next : ℕ) (found : Found) → IsInOrder bits tree → All IsNumber numbers → numbers_of figures.rows ≡ numbers → (1 ≤ next) × (next ≤ 4294967295)
    → found.files ≡ figures.rows → found.next_file ≡ next → found.next_seq ≡ figures.next_seq → found.mark ≡ figures.mark → IsBounded bits tree found
found-bounded bits tree numbers figures next found order within are range rows file seq mark = record {
  index = order;
  files = subst (λ (l : List ℕ). All IsNumber l) (sym (ap numbers_of rows ∙ are)) within;
  next_file = subst (λ n. (1 ≤ n) × (n ≤ 4294967295)) (sym file) range;
  next_seq = subst (λ n. (1 ≤ n) × (n ≤ 2 ^ 62)) (sym seq) (figures.next_some, figures.next_fits);
  mark = subst (λ n. n < 2 ^ 61) (sym mark) figures.mark_fits;
}

-- four facts of an answer give one
pub if-ok-four : {T E : Type 0} (answer : Result T E) (P Q R S U : T → Type 0) → IfOk answer P → IfOk answer Q → IfOk answer R → IfOk answer S → ((x : T) → P x → Q x → R x → S x → U x) → IfOk answer U
if-ok-four (Ok x) P Q R S U p q r s goes = goes x p q r s
if-ok-four (Err fault) P Q R S U p q r s goes = tt
