-- What a store stands for without a closed data file of which no record is its key's newest.
use Rattle.std.proofs.Common.{◌≡◌, ⊎_elim, inl, inr, ℕ, ◌≤◌, ◌==◌, true, false, Bool, cond, not, List, [], ◌∷◌, ◌++◌, length, get_or, All, Contains, Option, Some, None, IsSome, refl, sym, ◌∙◌, ap, subst, arith}
use Rattle.std.specs.Prelude.{Ok, filter, option_map, unwrap_or}
use Rattle.std.specs.List.Sorted.{IsStrictlyIncreasing}
use Rattle.std.proofs.lemmas.Bool.Decides.{nat_tests}
use Rattle.std.proofs.lemmas.List.Elements.{All-filter, All-nil, filter_passes}
use Rattle.std.proofs.lemmas.List.Kept.{IsStrictlyIncreasing-filter}
use Rattle.cache_model.specs.declared.files.FileCount.{FileCount}
use Rattle.cache_model.specs.declared.index.IndexKey.{IndexKey}
use Rattle.cache_model.specs.declared.index.IndexValue.{IndexValue}
use Rattle.cache_model.specs.Files.{file_in}
use Rattle.cache_model.specs.Items.{Item, end}
use Rattle.cache_model.specs.DataFiles.{Frame, counted_items}
use Rattle.cache_model.specs.Images.{log_name}
use Rattle.cache_disk.specs.State.{HostState}
use Rattle.cache_disk.specs.Calls.{AllLeft, Unmakes}
use Rattle.cache_disk.proofs.Runs.{left_still}
use Rattle.data_file.proofs.Frame.{placed_of}
use Rattle.append_log.proofs.Holding.{holds_without}
use Rattle.file_stats.specs.Figures.{Figures, numbers_of, without}
use Rattle.temporary_table.specs.declared.requests.Request.{Request}
use Rattle.temporary_table.specs.declared.requests.Request.TheVariants.{Swap}
use Rattle.temporary_table.specs.Places.{Places, place_of}
use Rattle.tree_index.specs.Index.{Index, value_at}
use Rattle.compactor.specs.Counting.{Counts, HasReading, IsNewestBy, Kept}
use Rattle.compactor.specs.Figuring.{live_in}
use Rattle.compactor.specs.Indexing.{AreApart, AreIndexed, IsEntryOf, IsIndexed, IsPut}
use Rattle.compactor.proofs.Entries.{among-filter}
use Rattle.compactor.proofs.Rows.{reading_once}
use Rattle.store_trait.specs.Meaning.{Reading, read_in}
use Rattle.store_trait.specs.Keeping.{SameContent}
use Rattle.soft_index.specs.declared.log_store.LogStore.{LogStore}
use Rattle.soft_index.specs.Counted.{AreCounted}
use Rattle.soft_index.specs.Store.{Holds, HoldsLog, LogStands, SameOthers, content_of, main_files, number}
use Rattle.soft_index.specs.Taken.{MayBeTaken, TakesAway}
use Rattle.soft_index.specs.Laws.{cases_file}
use Rattle.soft_index.proofs.Counted.{counted_by, counted_rows, lives_of}
use Rattle.soft_index.proofs.Images.{other_name}
use Rattle.soft_index.proofs.Raised.{AreRows, IsRowBy}
use Rattle.soft_index.proofs.Recounted.{no_place}
use Rattle.soft_index.proofs.Sizes.{sizes_in}
use Rattle.soft_index.proofs.Standing.{content_by}
use Rattle.soft_index.proofs.There.{there_by}

-- the rows of the other files

module _ (file : ℕ) where
  abbrev is_other : ℕ → Bool
  is_other n = not (n == file)

  other_passes : (n : ℕ) → (n ≡ file → ⊥) → is_other n ≡ true
  other_passes n apart = grind (arith, nat_tests)

  passes_other : (n m : ℕ) → not (n == m) ≡ true → n ≡ m → ⊥
  passes_other n m passes is = grind (arith, nat_tests)

  numbers_without : (rows : List FileCount) → numbers_of (without file rows) ≡ filter is_other (numbers_of rows)
  numbers_without [] = refl
  numbers_without (row ∷ rows) = by (is_other row.number) (numbers_without rows)
    where
      by : (t : Bool) → numbers_of (without file rows) ≡ filter is_other (numbers_of rows)
          → numbers_of (cond t (row ∷ without file rows) (without file rows)) ≡ cond t (row.number ∷ filter is_other (numbers_of rows)) (filter is_other (numbers_of rows))
      by true rest = ap (λ (ns : List ℕ). row.number ∷ ns) rest
      by false rest = rest

  pub without_rows : (sizes more : ℕ → Option ℕ) (lives others : ℕ → ℕ) (rows : List FileCount)
      → more file ≡ None → ((n : ℕ) → (n ≡ file → ⊥) → more n ≡ sizes n) → ((n : ℕ) → (n ≡ file → ⊥) → others n ≡ lives n)
      → AreRows sizes lives rows → AreRows more others (without file rows)
  without_rows sizes more lives others rows gone same alike are = record {
    ascend = subst (λ (ns : List ℕ). IsStrictlyIncreasing ns) (sym (numbers_without rows)) (IsStrictlyIncreasing-filter is_other (numbers_of rows) are.ascend);
    each = λ n some.
        let apart = away n some in
        subst (λ (ns : List ℕ). Contains ns n) (sym (numbers_without rows))
        (among-filter is_other (numbers_of rows) n (are.each n (subst (λ (s : Option ℕ). IsSome s) (same n apart) some)) (other_passes n apart));
    are = λ k d within.
        let row = get_or (without file rows) k d in
        let was = All-filter (λ (r : FileCount). is_other r.number) (IsRowBy sizes lives) rows are.are k d within in
        let apart = passes_other row.number file (filter_passes (λ (r : FileCount). is_other r.number) rows k d within) in
        (same row.number apart ∙ was.0, was.1 ∙ sym (alike row.number apart));
  }
    where
      away : (n : ℕ) → IsSome (more n) → n ≡ file → ⊥
      away n some is = let no : false ≡ true = subst (λ (s : Option ℕ). IsSome s) (ap more is ∙ gone) some in cc

-- what counts

no_request : (before after : List Request) (request : Request) → [] ≡ before ++ request ∷ after → ⊥
no_request [] after request is = cc
no_request (one ∷ before) after request is = cc

-- The records of one file don't count any more, none of which was its key's newest.
module _ (counts less : Counts) (file : ℕ)
    (kept : (n a : ℕ) (item : Item) → (n ≡ file → ⊥) → counts n a item → less n a item)
    (only : (n a : ℕ) (item : Item) → less n a item → counts n a item × (n ≡ file → ⊥))
    (past : (key : List ℕ) (a : ℕ) (item : Item) → IsNewestBy counts key file a item → ⊥) where
  newest_apart : (key : List ℕ) (n a : ℕ) (item : Item) → IsNewestBy counts key n a item → n ≡ file → ⊥
  newest_apart key n a item newest is = past key a item (subst (λ (k : ℕ). IsNewestBy counts key k a item) is newest)

  newest_stays : (key : List ℕ) (n a : ℕ) (item : Item) → IsNewestBy counts key n a item → IsNewestBy less key n a item
  newest_stays key n a item newest = record {
    counted = kept n a item (newest_apart key n a item newest) newest.counted;
    of_key = newest.of_key;
    newest = λ m b other holds of_key. newest.newest m b other (only m b other holds).0 of_key;
  }

  -- each key reads the same
  pub reading_without : (key : List ℕ) (reading : Reading) → HasReading counts key reading → HasReading less key reading
  reading_without key reading (inl none) = inl (λ n a item holds of_key. none.0 n a item (only n a item holds).0 of_key, none.1)
  reading_without key reading (inr some) = inr (some.0, some.1, some.2, newest_stays key some.0 some.1 some.2 some.3, some.4)

  abbrev entry_stays : (bits : ℕ) (key : List ℕ) (at : IndexKey) (value : IndexValue) → (at.file ≡ file → ⊥) → IsEntryOf counts bits key at value → IsEntryOf less bits key at value
  entry_stays bits key at value apart entry = record {
    hash_is = entry.hash_is;
    placed = record {
      item = entry.placed.item;
      counted = kept at.file at.at entry.placed.item apart entry.placed.counted;
      of_key = entry.placed.of_key;
      long = entry.placed.long;
      gone_is = entry.placed.gone_is;
    };
    some = entry.some;
  }

  entry_back : (bits : ℕ) (key : List ℕ) (at : IndexKey) (value : IndexValue) → IsEntryOf less bits key at value → IsEntryOf counts bits key at value
  entry_back bits key at value entry = record {
    hash_is = entry.hash_is;
    placed = record {
      item = entry.placed.item;
      counted = (only at.file at.at entry.placed.item entry.placed.counted).0;
      of_key = entry.placed.of_key;
      long = entry.placed.long;
      gone_is = entry.placed.gone_is;
    };
    some = entry.some;
  }

  -- where nothing waits, the index has no entry of the file, and stands for the rest
  pub indexed_without : (places : Places) (index : Index) (waiting : List Request) → waiting ≡ [] → IsIndexed counts places index waiting → IsIndexed less places index waiting
  indexed_without places index waiting empty is = record {
    queued = is.queued;
    requested = subst (λ (w : List Request). All (IsPut less) w) (sym empty) (All-nil (IsPut less));
    apart = subst (λ (w : List Request). AreApart w) (sym empty) tt;
    swaps = λ key from to before after split. absurd (no_request before after (Swap key from to) (sym empty ∙ split));
    placed = λ key place gone at. let no : None ≡ Some (place, gone) = sym (nowhere key) ∙ at in cc;
    indexed = λ at value there.
        let own = is.indexed at value there in
        (own.0, entry_stays index.bits own.0 at value (entry_apart at value there) own.1);
    single = λ one other v w key first second entry also.
        is.single one other v w key first second (entry_back index.bits key one v entry) (entry_back index.bits key other w also);
    newest = λ key away n a item holds of_key.
        let found = is.newest key away n a item (only n a item holds).0 of_key in (
          found.0,
          found.1,
          record {
            there = found.2.there;
            entry = entry_stays index.bits key found.0 found.1 (newest_apart key found.0.file found.0.at found.2.entry.placed.item found.2.newest) found.2.entry;
            newest = newest_stays key found.0.file found.0.at found.2.entry.placed.item found.2.newest;
          },
        );
  }
    where
      nowhere : (key : List ℕ) → place_of places key ≡ None
      nowhere = no_place counts places index waiting is empty

      -- an entry is that of its key's newest record
      entry_apart : (at : IndexKey) (value : IndexValue) → value_at index.entries at ≡ Some value → at.file ≡ file → ⊥
      entry_apart at value there in_file =
          let own = is.indexed at value there in
          let found = is.newest own.0 (nowhere own.0) at.file at.at own.1.placed.item own.1.placed.counted own.1.placed.of_key in
          let same : found.0 ≡ at = is.single found.0 at found.1 value own.0 found.2.there there found.2.entry own.1 in
          newest_apart own.0 found.0.file found.0.at found.2.entry.placed.item found.2.newest (ap (λ (k : IndexKey). k.file) same ∙ in_file)

-- the store

module _ (S : LogStore) (figures : Figures) (a b : HostState) (frames : List Frame) (records : List Item) (file moment : ℕ)
    (stands : LogStands S a frames records)
    (may : MayBeTaken S a.files frames records file)
    (away : TakesAway {R = Unit {0}} (log_name file) a b (Ok tt))
    (empty : S.parts.requests.waiting ≡ [])
    (rows : figures.rows ≡ without file S.parts.stats.rows)
    (late : S.latest ≤ moment) where
  abbrev after : LogStore
  after = record S { parts = record S.parts { stats = figures }; latest = moment }

  abbrev items : List (ℕ × Item)
  items = placed_of frames records

  other_files : (n : ℕ) → (n ≡ file → ⊥) → file_in b.files (log_name n) ≡ file_in a.files (log_name n)
  other_files n apart = away.files (log_name n) (other_name file n apart)

  kept : (n at : ℕ) (item : Item) → (n ≡ file → ⊥) → Holds (number S) items a.files n at item → Holds (number S) items b.files n at item
  kept n at item apart (inl here) = inl here
  kept n at item apart (inr other) = inr (other.0, record { bytes = other.1.bytes; there = other_files n apart ∙ other.1.there; counted = other.1.counted })

  only : (n at : ℕ) (item : Item) → Holds (number S) items b.files n at item → Holds (number S) items a.files n at item × (n ≡ file → ⊥)
  only n at item (inl here) = (inl here, λ is. may.closed (sym is ∙ here.0))
  only n at item (inr other) =
      let apart : n ≡ file → ⊥ = (λ is. let no : None ≡ Some other.1.bytes = sym away.gone ∙ ap (λ (k : ℕ). file_in b.files (log_name k)) (sym is) ∙ other.1.there in cc) in
      (inr (other.0, record { bytes = other.1.bytes; there = sym (other_files n apart) ∙ other.1.there; counted = other.1.counted }), apart)

  log : HoldsLog (main_files after) b frames records
  log = (
    stands.log.0,
    holds_without (main_files S) file a b (Unmakes (log_name file)) may.closed away.gone other_files away.images (λ d c took. took.unmade)
        (λ n apart d c took. took.others (log_name n) (other_name file n apart)) (record { closed = stands.log.0; frames = frames; records = records }) stands.named stands.log.1,
  )

  images : AllLeft b (λ image. SameOthers (number S) b.files image)
  images image left n other = ⊎_elim
      (λ is. ap (λ (k : ℕ). file_in image (log_name k)) is ∙ away.settled image left ∙ sym away.gone ∙ ap (λ (k : ℕ). file_in b.files (log_name k)) (sym is))
      (λ apart.
      left_still a b (Unmakes (log_name file)) (λ c. file_in c (log_name n) ≡ file_in b.files (log_name n)) away.images
      (λ c was. stands.others c was n other ∙ sym (other_files n apart))
      (λ d c was took. took.others (log_name n) (other_name file n apart) ∙ was)
      image left)
      (cases_file n file)

  indexed : AreIndexed (Holds (number S) items b.files) after.parts
  indexed = indexed_without (Holds (number S) items a.files) (Holds (number S) items b.files) file kept only may.past S.parts.table S.parts.tree S.parts.requests.waiting empty stands.indexed

  counted : AreCounted (record { number = number S; items = items; files = b.files }) after.parts
  counted =
      counted_by after b frames records log stands.named
      (subst (λ (l : List FileCount). AreRows (sizes_in b.files) (lives_of now S.parts.tree) l) (sym rows)
      (without_rows file (sizes_in a.files) (sizes_in b.files) (lives_of before S.parts.tree) (lives_of now S.parts.tree) S.parts.stats.rows
      (ap (λ (found : Option (List ℕ)). option_map length found) away.gone)
      (λ n apart. ap (λ (found : Option (List ℕ)). option_map length found) (other_files n apart))
      (λ n apart. ap (λ (found : Option (List ℕ)). live_in S.parts.tree n (cond (n == number S) items (counted_items (unwrap_or found [])))) (other_files n apart))
      (counted_rows before S.parts stands.counted)))
    where
      before : Kept
      before = record { number = number S; items = items; files = a.files }

      now : Kept
      now = record { number = number S; items = items; files = b.files }

  pub stands_without : LogStands after b frames records
  stands_without = record {
    main = stands.main;
    log = log;
    named = stands.named;
    others = images;
    sound = λ n bytes other there.
        let apart : n ≡ file → ⊥ = (λ is. let no : None ≡ Some bytes = sym away.gone ∙ ap (λ (k : ℕ). file_in b.files (log_name k)) (sym is) ∙ there in cc) in
        stands.sound n bytes other (sym (other_files n apart) ∙ there);
    indexed = indexed;
    content = content_by after b frames records log stands.named indexed;
    counted = counted;
    above = λ n at item key holds. stands.above n at item key (only n at item holds).0;
    mark = λ n at m holds. let was = stands.mark n at m (only n at (end m) holds).0 in omega (arith, was, late);
  }

  pub content_without : SameContent (content_of S a.files) (content_of after b.files)
  content_without key =
      reading_once (Holds (number S) items b.files) b.files key (read_in (content_of after b.files) key) (read_in (content_of S a.files) key) (there_by after b frames records log stands.named)
      (stands_without.content key)
      (reading_without (Holds (number S) items a.files) (Holds (number S) items b.files) file kept only may.past key (read_in (content_of S a.files) key) (stands.content key))
