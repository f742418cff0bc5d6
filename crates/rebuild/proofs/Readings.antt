-- Reading data files one after another.
use Rattle.std.proofs.Common.{◌≡◌, ℕ, ◌<◌, ⊎_elim, List, [], ◌∷◌, ◌++◌, length, take, get_or, slice_index, All, Contains, sym, ap, subst, ◌∙◌, arith}
use Rattle.std.specs.List.Sorted.{IsStrictlyIncreasing}
use Rattle.std.proofs.lemmas.Grind.{flat_map-append}
use Rattle.std.proofs.lemmas.List.{append-nil, get_or-take, get_or_default, length-take}
use Rattle.std.proofs.lemmas.List.Elements.{All-contains, Contains-push_cases}
use Rattle.std.proofs.lemmas.Map.Keys.{below_from_sorted, sorted_from_strictly_increasing}
use Rattle.cache_model.specs.declared.faults.Damage.{Damage}
use Rattle.cache_model.specs.Files.{Image, bytes_in}
use Rattle.cache_model.specs.DataFiles.{counted_items, first_damage, IsUndamaged}
use Rattle.cache_model.specs.Images.{log_name}
use Rattle.cache_model.proofs.Members.{among-none, among-flat_map, among-map}
use Rattle.cache_disk.specs.State.{SameFiles}
use Rattle.tree_index.specs.Index.{Index}
use Rattle.rebuild.specs.declared.figures.Figures.{Figures}
use Rattle.rebuild.specs.Listing.{AreUndamaged, IsDamageAmong, NamesDamageOf}
use Rattle.rebuild.specs.Taking.{Counted, IsNextFileOf, StandsForItems, counted_in, counted_of}
use Rattle.rebuild.proofs.ReadRecords.{bytes-same}
use Rattle.rebuild.proofs.IndexSteps.{index-none}
use Rattle.rebuild.proofs.Scans.{item_at, stands-same}
use Rattle.rebuild.proofs.Taken.{figures-none}
use Rattle.rebuild.proofs.FileRows.{next-file-same}

-- the numbers in front of one of some that ascend are below it
pub all-below : (numbers : List ℕ) (index d : ℕ) → IsStrictlyIncreasing numbers → index < length numbers → All (λ n. n < get_or numbers index d) (take index numbers)
all-below numbers index d ascend within k e short =
    let front : k < index = omega (arith, short, length-take index numbers) in
    let less = below_from_sorted numbers k index d (sorted_from_strictly_increasing numbers ascend) front within in
    omega (arith, less, get_or-take index numbers k e front, get_or_default numbers k e d (omega arith))

-- what counts in files with lower numbers
pub next-file-of : (files : Image) (numbers : List ℕ) (number : ℕ) → All (λ n. n < number) numbers → IsNextFileOf files (counted_of files numbers) number
next-file-of files numbers number below = record {
  within = λ one among. (image_of one among).0;
  lower = λ one among. (image_of one among).1;
}
  where
    image_of : (one : Counted) → Contains (counted_of files numbers) one → Contains (counted_items (bytes_in files (log_name one.number))) (one.at, one.item) × (one.number < number)
    image_of one among =
        let part = among-flat_map (λ n. counted_in n (counted_items (bytes_in files (log_name n)))) numbers one among in
        let image = among-map (item_at part.of) (counted_items (bytes_in files (log_name part.of))) one part.within in
        subst (λ (c : Counted). Contains (counted_items (bytes_in files (log_name c.number))) (c.at, c.item) × (c.number < number)) image.is
        (image.among, All-contains (λ n. n < number) numbers part.of below part.among)

-- The files so far are read, and undamaged.
pub record HaveRead (files : Image) (bits : ℕ) (numbers : List ℕ) (tree : Index) (figures : Figures) : Type 0 where
  pub stands : StandsForItems files bits tree.entries figures (counted_of files numbers)
  pub undamaged : AreUndamaged files numbers

pub read-none : (files : Image) (bits : ℕ) (tree : Index) (figures : Figures) → tree.entries ≡ [] → figures.rows ≡ [] → figures.next_seq ≡ 1 → figures.mark ≡ 0 → HaveRead files bits [] tree figures
read-none files bits tree figures empty rows next mark = record {
  stands = record { index = index-none bits tree empty; rows = rw rows (λ k d within. absurd (omega arith)); others = figures-none figures.next_seq figures.mark next mark };
  undamaged = λ n among. absurd (among-none n among);
}

-- what the next file is read behind
pub read-next : (files now : Image) (bits : ℕ) (numbers : List ℕ) (number : ℕ) (tree : Index) (figures : Figures) → SameFiles files now → All (λ n. n < number) numbers → HaveRead files bits numbers tree figures
    → (counted : List Counted) × StandsForItems now bits tree.entries figures counted × IsNextFileOf now counted number
read-next files now bits numbers number tree figures same below read = (
  counted_of files numbers,
  stands-same files now bits tree.entries figures (counted_of files numbers) same read.stands,
  next-file-same files now (counted_of files numbers) number same (next-file-of files numbers number below),
)

-- one file more
pub read-more : (files now : Image) (bits : ℕ) (numbers : List ℕ) (n : ℕ) (tree new : Index) (figures after : Figures)
    → SameFiles files now
    → All (λ m. m < n) numbers
    → HaveRead files bits numbers tree figures
    → ((counted : List Counted) → StandsForItems now bits tree.entries figures counted → IsNextFileOf now counted n → StandsForItems now bits new.entries after (counted ++ counted_in n (counted_items (bytes_in now (log_name n)))))
    → IsUndamaged (bytes_in now (log_name n))
    → HaveRead files bits (numbers ++ n ∷ []) new after
read-more files now bits numbers n tree new figures after same below read takes sound = record {
  stands =
      let counted = counted_of files numbers in
      let before = stands-same files now bits tree.entries figures counted same read.stands in
      let next = next-file-same files now counted n same (next-file-of files numbers n below) in
      let more = stands-same now files bits new.entries after (counted ++ counted_in n (counted_items (bytes_in now (log_name n)))) (λ name. sym (same name)) (takes counted before next) in
      subst (StandsForItems files bits new.entries after) (sym whole) (subst (λ (bytes : List ℕ). StandsForItems files bits new.entries after (counted_of files numbers ++ counted_in n (counted_items bytes))) bytes more);
  undamaged = λ k among.
      ⊎_elim
      (λ before. read.undamaged k before)
      (λ is. subst (λ m. IsUndamaged (bytes_in files (log_name m))) is (subst IsUndamaged bytes sound))
      (Contains-push_cases numbers n k among);
}
  where
    bytes : bytes_in now (log_name n) ≡ bytes_in files (log_name n)
    bytes = bytes-same files now (log_name n) same

    whole : counted_of files (numbers ++ n ∷ []) ≡ counted_of files numbers ++ counted_in n (counted_items (bytes_in files (log_name n)))
    whole = flat_map-append (λ m. counted_in m (counted_items (bytes_in files (log_name m)))) numbers (n ∷ []) ∙ ap (λ l. counted_of files numbers ++ l) (append-nil (counted_in n (counted_items (bytes_in files (log_name n)))))

-- the damage of the file in hand is that of one among all
pub damage-among : (files now : Image) (bits : ℕ) (numbers : List ℕ) (index : ℕ) (tree : Index) (figures : Figures) (damage : Damage)
    → index < length numbers
    → SameFiles files now
    → HaveRead files bits (take index numbers) tree figures
    → NamesDamageOf (slice_index numbers index) (first_damage (bytes_in now (log_name (slice_index numbers index)))) damage
    → IsDamageAmong files numbers damage
damage-among files now bits numbers index tree figures damage within same read names = record {
  index = index;
  within = within;
  names = subst (λ bytes. NamesDamageOf (slice_index numbers index) (first_damage bytes) damage) (bytes-same files now (log_name (slice_index numbers index)) same) names;
  before = read.undamaged;
}
