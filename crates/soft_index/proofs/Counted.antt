-- What the statistics are of, by the rows.
use Rattle.std.proofs.Common.{◌≡◌, ⊎_elim, inl, inr, ℕ, ◌+◌, ◌<◌, ◌≤◌, ◌==◌, true, false, cond, List, [], ◌∷◌, ◌++◌, map, length, get_or, All, Contains, Option, Some, None, IsSome, is_some, refl, sym, ap, subst, ◌∙◌, arith}
use Rattle.std.specs.Prelude.{◌↔◌, unwrap_or, option_and_then, option_map}
use Rattle.std.specs.List.Sorted.{IsStrictlyIncreasing}
use Rattle.std.proofs.lemmas.List.{get_or-map, length-map}
use Rattle.std.proofs.lemmas.Bool.{cases_eq}
use Rattle.std.proofs.lemmas.Bool.Decides.{nat_tests}
use Rattle.std.proofs.lemmas.List.Elements.{All-contains, All-weaker, Contains-get_or}
use Rattle.std.proofs.lemmas.List.Sums.{sum_by_push}
use Rattle.cache_model.specs.declared.files.FileCount.{FileCount}
use Rattle.cache_model.specs.declared.files.FileName.{FileName}
use Rattle.cache_model.specs.declared.index.IndexKey.{IndexKey}
use Rattle.cache_model.specs.declared.index.IndexValue.{IndexValue}
use Rattle.cache_model.specs.Files.{Image, file_in, bytes_in}
use Rattle.cache_model.specs.Hash.{hash}
use Rattle.cache_model.specs.Items.{Item, spelling}
use Rattle.cache_model.specs.DataFiles.{Frame, counted_items}
use Rattle.cache_model.specs.Images.{log_name, key_of}
use Rattle.cache_model.proofs.Members.{among-map, map-among}
use Rattle.cache_disk.specs.State.{HostState}
use Rattle.data_file.specs.declared.appender.Appender.{Appender}
use Rattle.data_file.proofs.Frame.{placed_of}
use Rattle.data_file.proofs.Laid.{AreLaid, counted-laid, laid-total}
use Rattle.file_stats.specs.Figures.{numbers_of}
use Rattle.tree_index.specs.Index.{Index, value_at}
use Rattle.compactor.specs.declared.parts.Parts.{Parts}
use Rattle.compactor.specs.Counting.{Counts, Kept, counts_in}
use Rattle.compactor.specs.Figuring.{AreFigured, has_entry, item_bytes, items_of, live_in, live_part, sizes_of}
use Rattle.compactor.specs.Indexing.{IsEntryOf}
use Rattle.soft_index.specs.declared.log_store.LogStore.{LogStore}
use Rattle.soft_index.specs.Counted.{AreCounted}
use Rattle.soft_index.specs.Store.{HoldsLog, IsFileOf, IsNamed, main_files, number, writer}
use Rattle.soft_index.proofs.Laid.{laid_apart, placed_laid}
use Rattle.soft_index.proofs.Raised.{AreRows, IsRowBy}
use Rattle.soft_index.proofs.Sizes.{sizes_in}
use Rattle.soft_index.proofs.There.{stands_whole}

-- items of a file

pub items_here : (kept : Kept) (n : ℕ) → n ≡ kept.number → items_of kept n ≡ kept.items
items_here kept n same = ap (λ b. cond b kept.items (counted_items (bytes_in kept.files (log_name n)))) (test n kept.number same)
  where
    test : (k m : ℕ) → k ≡ m → (k == m) ≡ true
    test k m is = grind (arith, nat_tests)

pub items_other : (kept : Kept) (n : ℕ) → (n ≡ kept.number → ⊥) → items_of kept n ≡ counted_items (bytes_in kept.files (log_name n))
items_other kept n other = ap (λ b. cond b kept.items (counted_items (bytes_in kept.files (log_name n)))) (test n kept.number other)
  where
    test : (k m : ℕ) → (k ≡ m → ⊥) → (k == m) ≡ false
    test k m is = grind (arith, nat_tests)

-- the bytes of a file that is there
pub size_of_file : (files : Image) (n : ℕ) → IsSome (file_in files (log_name n)) → sizes_in files n ≡ Some (length (bytes_in files (log_name n)))
size_of_file files n there = by (file_in files (log_name n)) there
  where
    by : (found : Option (List ℕ)) → IsSome found → option_map length found ≡ Some (length (unwrap_or found []))
    by None some = cc
    by (Some bytes) some = refl

pub size_there : (files : Image) (n : ℕ) → IsSome (sizes_in files n) → IsSome (file_in files (log_name n))
size_there files n some = by (file_in files (log_name n)) some
  where
    by : (found : Option (List ℕ)) → IsSome (option_map length found) → IsSome found
    by None some' = some'
    by (Some bytes) some' = refl

there_size : (files : Image) (n : ℕ) → IsSome (file_in files (log_name n)) → IsSome (sizes_in files n)
there_size files n there = subst (λ (s : Option ℕ). IsSome s) (sym (size_of_file files n there)) refl

-- how many bytes of each file the index has entries of
abbrev pub lives_of : Kept → Index → ℕ → ℕ
lives_of kept index n = live_in index n (items_of kept n)

-- The rows that were counted.
pub counted_rows : (kept : Kept) (parts : Parts) → AreCounted kept parts → AreRows (sizes_in kept.files) (lives_of kept parts.tree) parts.stats.rows
counted_rows kept parts counted = record {
  ascend = counted.ascend;
  each = λ n some. (counted.each n).1 (size_there kept.files n some);
  are = λ k d within.
      let row = get_or parts.stats.rows k d in
      let there : IsSome (file_in kept.files (log_name row.number)) = (counted.each row.number).0 (map-among (λ (r : FileCount). r.number) parts.stats.rows row (Contains-get_or parts.stats.rows k d within)) in
      (size_of_file kept.files row.number there ∙ ap (λ n. Some n) (sym (counted.sizes k d within)), (counted.live.rows k d within).live);
}

numbers_sizes : (rows : List FileCount) → map (λ (p : ℕ × ℕ). p.0) (sizes_of rows) ≡ numbers_of rows
numbers_sizes [] = refl
numbers_sizes (row ∷ rows) = ap (λ (ns : List ℕ). row.number ∷ ns) (numbers_sizes rows)

-- where the files and their sizes stay, the rows go along with their live bytes
pub sizes_counted : (kept : Kept) (old new : Parts) → sizes_of new.stats.rows ≡ sizes_of old.stats.rows → AreCounted kept old → AreFigured kept new → AreCounted kept new
sizes_counted kept old new same counted figured = record {
  ascend = subst (λ (ns : List ℕ). IsStrictlyIncreasing ns) (sym numbers) counted.ascend;
  each = λ n. subst (λ (ns : List ℕ). Contains ns n ↔ IsSome (file_in kept.files (log_name n))) (sym numbers) (counted.each n);
  sizes = λ k d within.
      let row = get_or new.stats.rows k d in
      let long : k < length old.stats.rows = omega (arith, within, length-map new.stats.rows sized, length-map old.stats.rows sized, ap length same) in
      let here : (row.number, row.size) ≡ ((get_or old.stats.rows k d).number, (get_or old.stats.rows k d).size) =
      sym (get_or-map sized new.stats.rows k d (d.number, d.size) within) ∙ ap (λ (l : List (ℕ × ℕ)). get_or l k (d.number, d.size)) same ∙ get_or-map sized old.stats.rows k d (d.number, d.size) long in
      ap (λ (p : ℕ × ℕ). p.1) here ∙ counted.sizes k d long ∙ ap (λ n. length (bytes_in kept.files (log_name n))) (sym (ap (λ (p : ℕ × ℕ). p.0) here));
  live = figured;
}
  where
    sized : FileCount → ℕ × ℕ
    sized row = (row.number, row.size)

    numbers : numbers_of new.stats.rows ≡ numbers_of old.stats.rows
    numbers = sym (numbers_sizes new.stats.rows) ∙ ap (λ (l : List (ℕ × ℕ)). map (λ (p : ℕ × ℕ). p.0) l) same ∙ numbers_sizes old.stats.rows

-- one item more of which the index has no entry
pub live_push : (index : Index) (n : ℕ) (items : List (ℕ × Item)) (one : ℕ × Item) → has_entry index n one ≡ false → live_in index n (items ++ one ∷ []) ≡ live_in index n items
live_push index n items one none = sum_by_push (live_part index n) items one ∙ ap (λ b. live_in index n items + cond b (length (spelling one.1)) 0) none ∙ omega arith

-- the index has no entry of a place where no record counted
pub no_entry : (counts : Counts) (index : Index) (n at : ℕ)
    → ((place : IndexKey) (value : IndexValue) → value_at index.entries place ≡ Some value → (key : List ℕ) × IsEntryOf counts index.bits key place value)
    → ((other : Item) (key : List ℕ) → counts n at other → key_of other ≡ Some key → ⊥)
    → (item : Item) → has_entry index n (at, item) ≡ false
no_entry counts index n at indexed fresh item = by_key (key_of item)
  where
    by_value : (place : IndexKey) → place.file ≡ n → place.at ≡ at → (found : Option IndexValue) → value_at index.entries place ≡ found → is_some found ≡ false
    by_value place file offset None is = refl
    by_value place file offset (Some value) is =
        let own = indexed place value is in
        absurd (fresh own.1.placed.item own.0 (subst (λ k. counts k at own.1.placed.item) file (subst (λ k. counts place.file k own.1.placed.item) offset own.1.placed.counted)) own.1.placed.of_key)

    by_key : (key : Option (List ℕ)) → is_some (option_and_then (λ k. value_at index.entries (record { hash = hash index.bits k; file = n; at = at })) key) ≡ false
    by_key None = refl
    by_key (Some key) = by_value (record { hash = hash index.bits key; file = n; at = at }) refl refl (value_at index.entries (record { hash = hash index.bits key; file = n; at = at })) refl

-- where the log holds its file

current_there : (log : Option Appender) (n : ℕ) (a : HostState) (frames : List Frame) (records : List Item) (one : ℕ × Item) → IsNamed 0 log n → IsFileOf 0 log n a frames records → Contains (placed_of frames records) one → IsSome (file_in a.files (log_name n))
current_there None n a frames records one named is among =
    let none = subst (λ (l : List Item). Contains (placed_of [] l) one) is.1 (subst (λ (l : List Frame). Contains (placed_of l records) one) is.0 among) in
    absurd (omega (arith, none.1))
current_there (Some log) n a frames records one named is among = subst (λ (found : Option (List ℕ)). IsSome found) (sym (ap (λ (name : FileName). file_in a.files name) (sym named) ∙ is.reads)) refl

module _ (T : LogStore) (b : HostState) (fs : List Frame) (rs : List Item) (log : HoldsLog (main_files T) b fs rs) (named : IsNamed 0 (writer T) (number T)) where
  abbrev kept : Kept
  kept = record { number = number T; items = placed_of fs rs; files = b.files }

  laid_in : (n : ℕ) → AreLaid (bytes_in b.files (log_name n)) 0 (items_of kept n)
  laid_in n = ⊎_elim
      (λ here. subst (λ (l : List (ℕ × Item)). AreLaid (bytes_in b.files (log_name n)) 0 l) (sym (items_here kept n here))
      (placed_laid (bytes_in b.files (log_name n)) fs rs (λ one among. (stands_whole T b fs rs log named n one.0 one.1 (inl (here, among))).there)))
      (λ other. subst (λ (l : List (ℕ × Item)). AreLaid (bytes_in b.files (log_name n)) 0 l) (sym (items_other kept n other)) (counted-laid (bytes_in b.files (log_name n))))
      (cases_eq n (number T))

  fits_in : (n : ℕ) → item_bytes (items_of kept n) ≤ length (bytes_in b.files (log_name n))
  fits_in n = let total = laid-total (bytes_in b.files (log_name n)) 0 (items_of kept n) (laid_in n) in omega (arith, total)

  there_in : (n at : ℕ) (item : Item) → counts_in kept n at item → IsSome (file_in b.files (log_name n))
  there_in n at item (inl here) =
      subst (λ k. IsSome (file_in b.files (log_name k))) (sym here.0) (current_there (writer T) (number T) b fs rs (at, item) named log.1.current here.1)
  there_in n at item (inr other) = subst (λ (found : Option (List ℕ)). IsSome found) (sym other.1.there) refl

  -- the rows are counted
  pub counted_by : AreRows (sizes_in b.files) (lives_of kept T.parts.tree) T.parts.stats.rows → AreCounted kept T.parts
  counted_by rows = record {
    ascend = rows.ascend;
    each = λ n. (has n, λ there. rows.each n (there_size b.files n there));
    sizes = sized;
    live = record {
      rows = λ k d within. record {
        live = (rows.are k d within).1;
        fits = let size = sized k d within in omega (arith, size, fits_in (get_or T.parts.stats.rows k d).number);
      };
      apart = λ n. laid_apart (bytes_in b.files (log_name n)) 0 (items_of kept n) (laid_in n);
      listed = λ n at item key counts of_key. rows.each n (there_size b.files n (there_in n at item counts));
    };
  }
    where
      row_there : (row : FileCount) → IsRowBy (sizes_in b.files) (lives_of kept T.parts.tree) row → IsSome (file_in b.files (log_name row.number))
      row_there row is = size_there b.files row.number (subst (λ (s : Option ℕ). IsSome s) (sym is.0) refl)

      sized : All (λ row. row.size ≡ length (bytes_in b.files (log_name row.number))) T.parts.stats.rows
      sized = All-weaker (IsRowBy (sizes_in b.files) (lives_of kept T.parts.tree)) (λ row. row.size ≡ length (bytes_in b.files (log_name row.number)))
          (λ row is. let same : Some row.size ≡ Some (length (bytes_in b.files (log_name row.number))) = sym is.0 ∙ size_of_file b.files row.number (row_there row is) in cc)
          T.parts.stats.rows rows.are

      has : (n : ℕ) → Contains (numbers_of T.parts.stats.rows) n → IsSome (file_in b.files (log_name n))
      has n contains =
          let row = among-map (λ (r : FileCount). r.number) T.parts.stats.rows n contains in
          subst (λ k. IsSome (file_in b.files (log_name k))) row.is (row_there row.of (All-contains (IsRowBy (sizes_in b.files) (lives_of kept T.parts.tree)) T.parts.stats.rows row.of rows.are row.among))
