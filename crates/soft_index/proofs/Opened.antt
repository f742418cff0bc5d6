-- A store that was made of what was found stands for what its files hold.
use Rattle.std.proofs.Common.{◌≡◌, inl, inr, ℕ, ◌≤◌, ◌<◌, false, true, List, [], length, get_or, All, Contains, Option, Some, None, IsSome, refl, sym, ◌∙◌, ap, subst, arith}
use Rattle.std.specs.Prelude.{◌↔◌, IsTrue, unwrap_or}
use Rattle.std.proofs.lemmas.List.Elements.{All-contains, Contains-get_or}
use Rattle.cache_model.specs.declared.files.FileCount.{FileCount}
use Rattle.cache_model.specs.declared.settings.Settings.{Settings}
use Rattle.cache_model.specs.Files.{Image, bytes_in, file_in}
use Rattle.cache_model.specs.Items.{Item, end, spelling}
use Rattle.cache_model.specs.DataFiles.{counted_items}
use Rattle.cache_model.proofs.Members.{map-among}
use Rattle.cache_model.specs.Images.{log_name, IsCounted, IsMark, IsSound}
use Rattle.cache_model.specs.Numbers.{IsNextFile, IsNextSequence}
use Rattle.cache_disk.specs.State.{HostState, SameFiles}
use Rattle.cache_disk.specs.Calls.{AllLeft}
use Rattle.data_file.specs.declared.appender.Appender.{Appender}
use Rattle.data_file.proofs.Frame.{placed_of}
use Rattle.append_log.specs.Current.{IsEnded}
use Rattle.append_log.specs.Standing.{Stands as HoldsFiles, nothing_held}
use Rattle.file_stats.specs.declared.file_list.Found.{Found}
use Rattle.file_stats.specs.Figures.{numbers_of}
use Rattle.tree_index.specs.Index.{Entries, Index}
use Rattle.compactor.specs.Counting.{CountSame, Kept}
use Rattle.compactor.specs.Figuring.{has_entry, live_in}
use Rattle.compactor.specs.Recounting.{IsLiveIn}
use Rattle.compactor.specs.Indexing.{AreIndexed, IsIndexed}
use Rattle.compactor.proofs.Rows.{rows_read}
use Rattle.rebuild.specs.Listing.{IsNumber, SameLogs}
use Rattle.rebuild.specs.Rebuilt.{IsLive, IsRebuilt, IsRowOf}
use Rattle.store_trait.specs.Meaning.{read_in}
use Rattle.soft_index.specs.declared.log_store.LogStore.{LogStore}
use Rattle.soft_index.specs.Counted.{AreCounted}
use Rattle.soft_index.specs.Laws.{reading-same}
use Rattle.soft_index.specs.Opening.{IsMadeOf}
use Rattle.soft_index.specs.Store.{HasReading, Holds, HoldsLog, IsFileOf, IsNamed, IsOpened, content_of, main_files, next_file, next_of, number, writer}
use Rattle.soft_index.proofs.Counted.{counted_by, items_other, lives_of, size_of_file, size_there}
use Rattle.soft_index.proofs.Raised.{AreRows, IsRowBy}
use Rattle.soft_index.proofs.Rebuilt.{indexed_rebuilt}
use Rattle.soft_index.proofs.Recounted.{entry_is_live, sum_passing}
use Rattle.soft_index.proofs.Sizes.{sizes_in}
use Rattle.soft_index.proofs.Standing.{indexed_by}
use Rattle.soft_index.proofs.There.{there_by}

-- a file whose number is no less than the next one isn't there
beyond_next : (files : Image) (next n : ℕ) → IsNextFile files next → next ≤ n → file_in files (log_name n) ≡ None
beyond_next files next n is late = from (file_in files (log_name n)) (λ there. is.above n there)
  where
    from : (found : Option (List ℕ)) → (IsSome found → n < next) → found ≡ None
    from None less = refl
    from (Some bytes) less = absurd (omega (arith, less refl, late))

-- there is no data file with the number 0
pub no_zero : (files now : Image) (bits : ℕ) (entries : Entries) (found : Found) → IsRebuilt files bits entries found → All IsNumber (numbers_of found.files) → SameFiles files now → file_in now (log_name 0) ≡ None
no_zero files now bits entries found rebuilt are same = same (log_name 0) ∙ from (file_in files (log_name 0)) (rebuilt.rows.each 0).1
  where
    from : (f : Option (List ℕ)) → (IsSome f → Contains (numbers_of found.files) 0) → f ≡ None
    from None among = refl
    from (Some bytes) among = let number : IsNumber 0 = All-contains IsNumber (numbers_of found.files) 0 are (among refl) in absurd (omega (arith, number.0))

-- What was found of the files, as they read before the opening, makes this store. Since then they were told to outlast a
-- crash.
module _ (a b : HostState) (found : Found) (tree : Index) (settings : Settings) (store : LogStore)
    (rebuilt : IsRebuilt a.files settings.hash_bits tree.entries found)
    (sound : IsSound a.files)
    (same : SameFiles a.files b.files)
    (images : AllLeft b (SameLogs a.files))
    (made : IsMadeOf found tree settings store) where
  there : (n : ℕ) → file_in b.files (log_name n) ≡ file_in a.files (log_name n)
  there n = same (log_name n)

  next_file_is : IsNextFile a.files (number store)
  next_file_is = subst (λ (n : ℕ). IsNextFile a.files n) (sym made.number_is) rebuilt.next_file

  next_is : IsNextSequence a.files (next_of store)
  next_is = subst (λ (n : ℕ). IsNextSequence a.files n) (sym made.next) rebuilt.next_seq

  mark_is : IsMark a.files store.latest
  mark_is = subst (λ (m : ℕ). IsMark a.files m) (sym made.latest) rebuilt.mark

  -- no file has the number of the next one, or a greater one
  beyond : (n : ℕ) → number store ≤ n → file_in a.files (log_name n) ≡ None
  beyond n late = beyond_next a.files (number store) n next_file_is late

  -- no file is current
  first : next_file (writer store) (number store) ≡ number store
  first = ap (λ (log : Option Appender). next_file log (number store)) made.made

  holds : HoldsFiles (main_files store) b nothing_held
  holds = record {
    current = subst (λ (log : Option Appender). IsFileOf 0 log (number store) b [] []) (sym made.made) (refl, refl, λ image left. images image left (number store) ∙ beyond (number store) (omega arith));
    closed = tt;
    below = tt;
    rising = tt;
    beyond = λ n late. there n ∙ beyond n (omega (arith, late, first));
    absent = λ n late image left. images image left n ∙ beyond n (omega (arith, late, first));
    pending = made.unsealed;
    last = subst (λ (log : Option Appender). IsEnded log (main_files store).last (main_files store).mark) made.made made.usable.log.ended;
    rests = λ is image left. images image left (number store) ∙ sym (there (number store));
  }

  log : HoldsLog (main_files store) b [] []
  log = ([], holds)

  named : IsNamed 0 (writer store) (number store)
  named = subst (λ (log : Option Appender). IsNamed 0 log (number store)) (sym made.made) tt

  -- what counts is what counted

  kept : (n at : ℕ) (item : Item) → IsCounted a.files n at item → Holds (number store) (placed_of [] []) b.files n at item
  kept n at item counted =
      inr (
        λ is. let no : None ≡ Some counted.bytes = sym (beyond n (omega (arith, is))) ∙ counted.there in cc,
        record { bytes = counted.bytes; there = there n ∙ counted.there; counted = counted.counted },
      )

  only : (n at : ℕ) (item : Item) → Holds (number store) (placed_of [] []) b.files n at item → IsCounted a.files n at item
  only n at item (inl here) = absurd (omega (arith, here.1.1))
  only n at item (inr other) = record { bytes = other.1.bytes; there = sym (there n) ∙ other.1.there; counted = other.1.counted }

  same_records : CountSame (IsCounted a.files) (Holds (number store) (placed_of [] []) b.files)
  same_records = record { kept = λ n at item key counted of_key. kept n at item counted; only = λ n at item key holds of_key. only n at item holds }

  indexed : AreIndexed (Holds (number store) (placed_of [] []) b.files) store.parts
  indexed =
      indexed_by store same_records
      (subst (λ (t : Index). IsIndexed (IsCounted a.files) store.parts.table t store.parts.requests.waiting) (sym made.tree_is)
      (indexed_rebuilt a.files settings.hash_bits tree found (sym (ap (λ (t : Index). t.bits) made.tree_is) ∙ made.goes_by.bits) rebuilt store.parts.table store.parts.requests.waiting made.unplaced made.empty))

  reads : (key : List ℕ) → HasReading (Holds (number store) (placed_of [] []) b.files) key (read_in (content_of store b.files) key)
  reads = rows_read (Holds (number store) (placed_of [] []) b.files) b.files store.parts.table store.parts.tree store.parts.requests.waiting indexed (there_by store b [] [] log named)

  -- the statistics

  abbrev kept_now : Kept
  kept_now = record { number = number store; items = placed_of [] []; files = b.files }

  bytes_there : (n : ℕ) → bytes_in b.files (log_name n) ≡ bytes_in a.files (log_name n)
  bytes_there n = ap (λ (found : Option (List ℕ)). unwrap_or found []) (there n)

  -- what is live of a file is what the index has entries of
  live_there : (n : ℕ) (one : ℕ × Item) → Contains (counted_items (bytes_in a.files (log_name n))) one → (n ≡ number store → ⊥) → (IsLive a.files n one ↔ IsTrue (has_entry store.parts.tree n one))
  live_there n one among other = (
    λ live. entry.1 (
      live.0,
      record {
        counted = kept n one.0 one.1 live.1.counted;
        of_key = live.1.of_key;
        newest = λ m at item counts of_key. live.1.newest m at item (only m at item counts) of_key;
      },
    ),
    λ some. let live = entry.0 some in (
      live.0,
      record {
        counted = only n one.0 one.1 live.1.counted;
        of_key = live.1.of_key;
        newest = λ m at item counts of_key. live.1.newest m at item (kept m at item counts) of_key;
      },
    ),
  )
    where
      entry : IsTrue (has_entry store.parts.tree n one) ↔ IsLiveIn kept_now n one
      entry = entry_is_live kept_now b.files store.parts.table store.parts.tree store.parts.requests.waiting indexed (there_by store b [] [] log named) made.empty n one
          (subst (λ (l : List (ℕ × Item)). Contains l one) (sym (items_other kept_now n other ∙ ap counted_items (bytes_there n))) among)

  rows_there : AreRows (sizes_in b.files) (lives_of kept_now store.parts.tree) found.files
  rows_there = record {
    ascend = made.ascend;
    each = λ n some. (rebuilt.rows.each n).1 (subst (λ (f : Option (List ℕ)). IsSome f) (there n) (size_there b.files n some));
    are = λ k d within. row_there (get_or found.files k d) ((rebuilt.rows.each (get_or found.files k d).number).0 (map-among (λ (row : FileCount). row.number) found.files (get_or found.files k d) (Contains-get_or found.files k d within))) (rebuilt.rows.figures k d within);
  }
    where
      row_there : (row : FileCount) → IsSome (file_in a.files (log_name row.number)) → IsRowOf a.files row → IsRowBy (sizes_in b.files) (lives_of kept_now store.parts.tree) row
      row_there row some is =
          let other : row.number ≡ number store → ⊥ = λ here. let no : false ≡ true = subst (λ (f : Option (List ℕ)). IsSome f) (beyond row.number (omega (arith, here))) some in cc in (
            size_of_file b.files row.number (subst (λ (f : Option (List ℕ)). IsSome f) (sym (there row.number)) some) ∙ ap (λ n. Some n) (ap length (bytes_there row.number) ∙ sym is.size),
            is.live.adds_up
                ∙ sum_passing is.live.is_live (has_entry store.parts.tree row.number) (λ one. length (spelling one.1)) (counted_items (bytes_in a.files (log_name row.number)))
                (λ one among. let just = is.live.just one among in let live = live_there row.number one among other in (λ x. live.0 (just.0 x), λ x. just.1 (live.1 x)))
                ∙ ap (λ (l : List (ℕ × Item)). live_in store.parts.tree row.number l) (sym (items_other kept_now row.number other ∙ ap counted_items (bytes_there row.number))),
          )

  counted : AreCounted kept_now store.parts
  counted = counted_by store b [] [] log named (subst (AreRows (sizes_in b.files) (lives_of kept_now store.parts.tree)) (sym made.rows_are) rows_there)

  -- The store is opened.
  pub opened_of : IsOpened a.files b settings store store.latest
  opened_of = record {
    stands = record {
      main = made.usable.main;
      log = log;
      named = named;
      others = λ image left n other. images image left n ∙ sym (there n);
      sound = λ n bytes other is. sound n bytes (sym (there n) ∙ is);
      indexed = indexed;
      content = reads;
      counted = counted;
      above = λ n at item key counted of_key. next_is.above n at item key (only n at item counted) of_key;
      mark = λ n at m counted. mark_is.bound n at m (only n at (end m) counted);
    };
    content = λ key.
        reading-same (Holds (number store) (placed_of [] []) b.files) (IsCounted a.files) key (read_in (content_of store b.files) key)
        (λ n at item of_key counted. only n at item counted)
        (λ n at item of_key counted. kept n at item counted)
        (reads key);
    mark_is = mark_is;
    latest = refl;
    sound = sound;
    next = next_is;
    number = next_file_is;
    made = made.made;
    empty = made.empty;
    goes_by = made.goes_by;
  }
