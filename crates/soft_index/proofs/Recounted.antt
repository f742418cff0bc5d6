-- What the statistics say is a recount, once the index has all.
use Rattle.std.proofs.Common.{◌≡◌, ⊎_elim, inl, inr, ℕ, ◌+◌, ◌≤◌, Bool, true, false, cond, List, [], ◌∷◌, length, get_or, Contains, Option, Some, None, IsSome, is_some, refl, sym, ap, subst, ◌∙◌, arith}
use Rattle.std.specs.Prelude.{◌↔◌, IsTrue, filter, sum_by, unwrap_or, option_map, option_and_then}
use Rattle.std.proofs.lemmas.Bool.{cases_eq}
use Rattle.std.proofs.lemmas.List.Sums.{sum_by-cons}
use Rattle.cache_model.specs.declared.files.FileCount.{FileCount}
use Rattle.cache_model.specs.declared.files.FileName.{FileName}
use Rattle.cache_model.specs.declared.index.IndexKey.{IndexKey}
use Rattle.cache_model.specs.declared.index.IndexValue.{IndexValue}
use Rattle.cache_model.specs.Files.{Image, file_in, bytes_in}
use Rattle.cache_model.specs.Hash.{hash}
use Rattle.cache_model.specs.Items.{Item, spelling}
use Rattle.cache_model.specs.DataFiles.{Frame, counted_items}
use Rattle.cache_model.specs.Images.{log_name, key_of, IsCounted}
use Rattle.cache_model.proofs.Members.{among-here, among-later, among-none}
use Rattle.cache_disk.specs.State.{HostState}
use Rattle.data_file.specs.declared.appender.Appender.{Appender}
use Rattle.data_file.proofs.Frame.{placed_of}
use Rattle.append_log.specs.Current.{next_file}
use Rattle.temporary_table.specs.declared.requests.Request.{Request}
use Rattle.temporary_table.specs.Places.{Places, Seat, place_of}
use Rattle.tree_index.specs.Index.{Index, value_at}
use Rattle.compactor.specs.declared.parts.Parts.{Parts}
use Rattle.compactor.specs.Counting.{AreThere, Counts, IsNewestBy, Kept, counts_in}
use Rattle.compactor.specs.Figuring.{has_entry, items_of, live_in}
use Rattle.compactor.specs.Indexing.{IsEntryOf, IsIndexed, last_put}
use Rattle.compactor.specs.Recounting.{AreRowsIn, IsCurrent, IsLiveIn, IsRecounted}
use Rattle.compactor.proofs.Rows.{newest_place, placed_once}
use Rattle.soft_index.specs.declared.log_store.LogStore.{LogStore}
use Rattle.soft_index.specs.Counted.{AreCounted}
use Rattle.soft_index.specs.Store.{IsFileOf, IsNamed, LogStands, current_of, number, writer}
use Rattle.soft_index.proofs.Counted.{items_here, items_other}

-- sums of the items that pass a test

-- what the items add up to that pass one of two tests, which say the same of each
pub sum_passing : (one other : ℕ × Item → Bool) (f : ℕ × Item → ℕ) (items : List (ℕ × Item)) → ((item : ℕ × Item) → Contains items item → (IsTrue (one item) ↔ IsTrue (other item)))
    → sum_by f (filter one items) ≡ sum_by (λ item. cond (other item) (f item) 0) items
sum_passing one other f [] same = refl
sum_passing one other f (item ∷ items) same =
    by (one item) (other item) (same item (among-here item items)) (sum_passing one other f items (λ x among. same x (among-later item x items among))) ∙ sym (sum_by-cons (λ x. cond (other x) (f x) 0) item items)
  where
    by : (p q : Bool) → (IsTrue p ↔ IsTrue q) → sum_by f (filter one items) ≡ sum_by (λ x. cond (other x) (f x) 0) items
        → sum_by f (cond p (item ∷ filter one items) (filter one items)) ≡ cond q (f item) 0 + sum_by (λ x. cond (other x) (f x) 0) items
    by true true is rest = sum_by-cons f item (filter one items) ∙ ap (λ n. f item + n) rest
    by false false is rest = rest ∙ omega arith
    by true false is rest = let no : false ≡ true = is.0 refl in cc
    by false true is rest = let no : false ≡ true = is.1 refl in cc

-- an item of a file counts there
item_counts : (kept : Kept) (n : ℕ) (one : ℕ × Item) → Contains (items_of kept n) one → counts_in kept n one.0 one.1
item_counts kept n one among = ⊎_elim
    (λ here. inl (here, subst (λ (l : List (ℕ × Item)). Contains l one) (items_here kept n here) among))
    (λ other. inr (other, by (file_in kept.files (log_name n)) refl (subst (λ (l : List (ℕ × Item)). Contains l one) (items_other kept n other) among)))
    (cases_eq n kept.number)
  where
    by : (found : Option (List ℕ)) → file_in kept.files (log_name n) ≡ found → Contains (counted_items (bytes_in kept.files (log_name n))) one → IsCounted kept.files n one.0 one.1
    by None is within = absurd (among-none one (subst (λ (f : Option (List ℕ)). Contains (counted_items (unwrap_or f [])) one) is within))
    by (Some bytes) is within = record { bytes = bytes; there = is; counted = subst (λ (f : Option (List ℕ)). Contains (counted_items (unwrap_or f [])) one) is within }

-- where nothing waits for the index no key has a place
pub no_place : (counts : Counts) (places : Places) (index : Index) (waiting : List Request) → IsIndexed counts places index waiting → waiting ≡ [] → (key : List ℕ) → place_of places key ≡ None
no_place counts places index waiting indexed empty key = by (place_of places key) (indexed.queued key ∙ ap (λ (w : List Request). last_put key w) empty)
  where
    by : (seat : Seat) → option_map (λ s. s.0) seat ≡ None → seat ≡ None
    by None is = refl
    by (Some s) is = cc

-- Where nothing waits for the index, it has an entry of an item exactly where that is the newest record of its key.
module _ (kept : Kept) (files : Image) (places : Places) (index : Index) (waiting : List Request)
    (indexed : IsIndexed (counts_in kept) places index waiting)
    (there : AreThere (counts_in kept) files)
    (empty : waiting ≡ []) where
  nowhere : (key : List ℕ) → place_of places key ≡ None
  nowhere = no_place (counts_in kept) places index waiting indexed empty

  -- an entry is that of the newest record of its key
  entry_newest : (n at : ℕ) (item : Item) (key : List ℕ) (place : IndexKey) (value : IndexValue) → counts_in kept n at item → key_of item ≡ Some key → place.file ≡ n → place.at ≡ at
      → value_at index.entries place ≡ Some value → IsNewestBy (counts_in kept) key n at item
  entry_newest n at item key place value counts of_key file offset is =
      let own = indexed.indexed place value is in
      let here : counts_in kept n at own.1.placed.item =
      subst (λ k. counts_in kept k at own.1.placed.item) file (subst (λ k. counts_in kept place.file k own.1.placed.item) offset own.1.placed.counted) in
      let same : own.1.placed.item ≡ item = placed_once (counts_in kept) files there n at own.1.placed.item item own.0 key here own.1.placed.of_key counts of_key in
      let keys : Some own.0 ≡ Some key = sym own.1.placed.of_key ∙ ap key_of same ∙ of_key in
      let one : own.0 ≡ key = cc in
      let entry : IsEntryOf (counts_in kept) index.bits key place value = subst (λ k. IsEntryOf (counts_in kept) index.bits k place value) one own.1 in
      let newest = indexed.newest key (nowhere key) n at item counts of_key in
      let single : newest.0 ≡ place = indexed.single newest.0 place newest.1 value key newest.2.there is newest.2.entry entry in
      let found : IsNewestBy (counts_in kept) key n at newest.2.entry.placed.item =
      subst (λ k. IsNewestBy (counts_in kept) key k at newest.2.entry.placed.item) (ap (λ (p : IndexKey). p.file) single ∙ file)
      (subst (λ k. IsNewestBy (counts_in kept) key newest.0.file k newest.2.entry.placed.item) (ap (λ (p : IndexKey). p.at) single ∙ offset) newest.2.newest) in
      let last : newest.2.entry.placed.item ≡ item = placed_once (counts_in kept) files there n at newest.2.entry.placed.item item key key found.counted found.of_key counts of_key in
      subst (λ (i : Item). IsNewestBy (counts_in kept) key n at i) last found

  -- and the newest record of a key has its entry
  newest_entry : (n at : ℕ) (item : Item) (key : List ℕ) → IsNewestBy (counts_in kept) key n at item → IsSome (value_at index.entries (record { hash = hash index.bits key; file = n; at = at }))
  newest_entry n at item key newest =
      let found = indexed.newest key (nowhere key) n at item newest.counted newest.of_key in
      let same = newest_place (counts_in kept) key found.0.file n found.0.at at found.2.entry.placed.item item found.2.newest newest in
      let place : found.0 ≡ record { hash = hash index.bits key; file = n; at = at } =
      ap (λ h. record { hash = h; file = found.0.file; at = found.0.at }) found.2.entry.hash_is
      ∙ ap (λ f. record { hash = hash index.bits key; file = f; at = found.0.at }) same.0
      ∙ ap (λ o. record { hash = hash index.bits key; file = n; at = o }) same.1 in
      subst (λ (v : Option IndexValue). IsSome v) (sym (ap (λ (p : IndexKey). value_at index.entries p) (sym place) ∙ found.2.there)) refl

  pub entry_is_live : (n : ℕ) (one : ℕ × Item) → Contains (items_of kept n) one → (IsTrue (has_entry index n one) ↔ IsLiveIn kept n one)
  entry_is_live n one among = (to (key_of one.1) refl, from)
    where
      counts : counts_in kept n one.0 one.1
      counts = item_counts kept n one among

      at_key : (key : Option (List ℕ)) → Bool
      at_key key = is_some (option_and_then (λ k. value_at index.entries (record { hash = hash index.bits k; file = n; at = one.0 })) key)

      by : (key : List ℕ) (value : Option IndexValue) → key_of one.1 ≡ Some key → value_at index.entries (record { hash = hash index.bits key; file = n; at = one.0 }) ≡ value → IsTrue (is_some value) → IsLiveIn kept n one
      by key None of_key is some = let no : false ≡ true = some in cc
      by key (Some value) of_key is some = (key, entry_newest n one.0 one.1 key (record { hash = hash index.bits key; file = n; at = one.0 }) value counts of_key refl refl is)

      to : (key : Option (List ℕ)) → key_of one.1 ≡ key → IsTrue (at_key (key_of one.1)) → IsLiveIn kept n one
      to None is some = let no : false ≡ true = subst (λ (k : Option (List ℕ)). IsTrue (at_key k)) is some in cc
      to (Some key) is some = by key (value_at index.entries (record { hash = hash index.bits key; file = n; at = one.0 })) is refl (subst (λ (k : Option (List ℕ)). IsTrue (at_key k)) is some)

      from : IsLiveIn kept n one → IsTrue (at_key (key_of one.1))
      from live = subst (λ (k : Option (List ℕ)). IsTrue (at_key k)) (sym live.1.of_key) (some_true (value_at index.entries (record { hash = hash index.bits live.0; file = n; at = one.0 })) (newest_entry n one.0 one.1 live.0 live.1))
        where
          some_true : (value : Option IndexValue) → IsSome value → IsTrue (is_some value)
          some_true None some = some
          some_true (Some value) some = refl

  -- the rows are those of a recount
  pub rows_recounted : (parts : Parts) → parts.tree ≡ index → AreCounted kept parts → AreRowsIn kept parts.stats.rows
  rows_recounted parts tree counted = record {
    ascend = counted.ascend;
    each = counted.each;
    figures = λ k d within.
        let row = get_or parts.stats.rows k d in
        let was = counted.live.rows k d within in
        record {
          size = counted.sizes k d within;
          live = record {
            is_live = has_entry index row.number;
            just = entry_is_live row.number;
            adds_up = was.live ∙ ap (λ (i : Index). live_in i row.number (items_of kept row.number)) tree
                ∙ sym (sum_passing (has_entry index row.number) (has_entry index row.number) (λ one. length (spelling one.1)) (items_of kept row.number) (λ item among. (λ x. x, λ x. x)));
          };
        };
  }

-- what is written to the files

written_current : (log : Option Appender) (n : ℕ) (a : HostState) (frames : List Frame) (records : List Item) → IsNamed 0 log n → IsFileOf 0 log n a frames records → ((k : ℕ) → next_file log n ≤ k → file_in a.files (log_name k) ≡ None)
    → IsCurrent a.files (current_of log n) (record { number = n; items = placed_of frames records; files = a.files })
written_current None n a frames records named is beyond = (beyond n (omega arith), ap (λ (l : List Frame). placed_of l records) is.0 ∙ ap (λ (l : List Item). placed_of [] l) is.1)
written_current (Some log) n a frames records named is beyond = (
  refl,
  record {
    frames = frames;
    records = records;
    in_grammar = is.in_grammar;
    are_records = is.are_records;
    reads = ap (λ (name : FileName). file_in a.files name) (sym named) ∙ is.reads;
    items_are = refl;
  },
)

-- A store's rows are those of a recount.
pub recounted : (S : LogStore) (a : HostState) (frames : List Frame) (records : List Item) (rows : List FileCount) → LogStands S a frames records
    → AreRowsIn (record { number = number S; items = placed_of frames records; files = a.files }) rows → IsRecounted a.files (current_of (writer S) (number S)) rows
recounted S a frames records rows stands are = record {
  kept = record { number = number S; items = placed_of frames records; files = a.files };
  written_are = record { files_are = refl; current_is = written_current (writer S) (number S) a frames records stands.named stands.log.1.current stands.log.1.beyond };
  rows_are = are;
}
