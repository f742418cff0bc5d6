-- What is read at a key's place, or among the entries of its hash, is its newest record.
use Rattle.std.proofs.Common.{◌≡◌, ℕ, ◌≤◌, ◌+◌, Bool, true, false, List, Contains, All, length, Option, Some, None, sym, ◌∙◌, ap, subst, arith}
use Rattle.std.specs.Prelude.{Result, Ok, Err}
use Rattle.std.proofs.lemmas.List.Elements.{All-contains}
use Rattle.std.proofs.lemmas.Slice.Eq.{bytes_eq-Decides}
use Rattle.cache_model.specs.declared.faults.StoreFault.{StoreFault}
use Rattle.cache_model.specs.declared.faults.StoreFault.TheVariants as fault
use Rattle.cache_model.specs.declared.faults.Damage.{Damage}
use Rattle.cache_model.specs.declared.files.Place.{Place}
use Rattle.cache_model.specs.declared.index.IndexKey.{IndexKey}
use Rattle.cache_model.specs.declared.index.IndexValue.{IndexValue}
use Rattle.cache_model.specs.Files.{Image, bytes_in}
use Rattle.cache_model.specs.Hash.{hash}
use Rattle.cache_model.specs.Items.{Item, put, removal, end, spelling, whole}
use Rattle.cache_model.specs.Images.{log_name, key_of}
use Rattle.cache_model.proofs.Members.{all-among}
use Rattle.cache_disk.specs.State.{HostState, Rose}
use Rattle.record_format.specs.declared.items.OwnItem.{OwnItem}
use Rattle.record_format.specs.Meaning.{own_item}
use Rattle.data_file.specs.Fetching.{Fetches}
use Rattle.temporary_table.specs.declared.requests.Request.{Request}
use Rattle.temporary_table.specs.Places.{Places, Seat, place_of}
use Rattle.tree_index.specs.Index.{Entries, Index, AreOrdered, entries_of, value_at}
use Rattle.compactor.specs.declared.finding.FoundEntry.{FoundEntry}
use Rattle.compactor.specs.declared.parts.Parts.{Parts}
use Rattle.compactor.specs.Counting.{Counts, HasNone, IsNewestBy, AreThere}
use Rattle.compactor.specs.Finding.{has_key, entry_place, entry_front, IsOfOther, IsDamagedEntry, LieWithin, Searches}
use Rattle.compactor.specs.Indexing.{IsPlaced, IsEntryOf, IsIndexed, AreIndexed}
use Rattle.compactor.specs.Looking.{bytes_by, look_bytes, Finds}
use Rattle.compactor.proofs.Entries.{held, among_held}
use Rattle.compactor.proofs.Placed.{reads_item, reads_sound, lies_within}
use Rattle.compactor.proofs.Rows.{placed_once}
use Rattle.compactor.proofs.Searching.{same_fault}

-- what has a key has it as its own
key_had : (key : List ℕ) (item : Item) → has_key key item ≡ true → key_of item ≡ Some key
key_had key (put seq until named value) is = ap Some ((bytes_eq-Decides named key).0 is)
key_had key (removal seq named) is = ap Some ((bytes_eq-Decides named key).0 is)
key_had key (end moment) is = cc

has_own : (key : List ℕ) (item : Item) → key_of item ≡ Some key → has_key key item ≡ true
has_own key (put seq until named value) is = let same : named ≡ key = cc in (bytes_eq-Decides named key).1 same
has_own key (removal seq named) is = let same : named ≡ key = cc in (bytes_eq-Decides named key).1 same
has_own key (end moment) is = cc

pub same_keys : (one other : List ℕ) (item : Item) → key_of item ≡ Some one → key_of item ≡ Some other → one ≡ other
same_keys one other item is too = let both : Some one ≡ Some other = sym is ∙ too in cc

module _ (counts : Counts) (files : Image) (places : Places) (index : Index) (waiting : List Request) (is : IsIndexed counts places index waiting) (there : AreThere counts files) (ordered : AreOrdered index.entries) where
  -- what an entry of a hash reads is the record that it stands for
  entry_is : (h : ℕ) (e : IndexKey × IndexValue) → Contains (entries_of h index.entries) e → (key : List ℕ) × IsEntryOf counts index.bits key e.0 e.1
  entry_is h e among = is.indexed e.0 e.1 (held index.entries ordered h e among).0

  -- an entry that is found is the key's, with its record
  pub found_is : (key : List ℕ) (at : IndexKey) (value : IndexValue) (item : Item) → Contains (entries_of (hash index.bits key) index.entries) (at, value)
      → entry_front files at value ≡ whole item value.length → has_key key item ≡ true → (entry : IsEntryOf counts index.bits key at value) × (item ≡ entry.placed.item)
  found_is key at value item among read has =
      let entry = entry_is (hash index.bits key) (at, value) among in
      let same : item ≡ entry.1.placed.item = reads_item counts files there entry.0 (entry_place at value) value.gone entry.1.placed item read in
      let own : entry.0 ≡ key = same_keys entry.0 key entry.1.placed.item entry.1.placed.of_key (ap key_of (sym same) ∙ key_had key item has) in
      subst (λ (k : List ℕ). (e : IsEntryOf counts index.bits k at value) × (item ≡ e.placed.item)) own (entry.1, same)

  -- where the records of all entries of the hash are of other keys, none is the key's
  pub none_is : (key : List ℕ) → All (IsOfOther files key) (entries_of (hash index.bits key) index.entries) → (at : IndexKey) (value : IndexValue) → value_at index.entries at ≡ Some value → IsEntryOf counts index.bits key at value → ⊥
  none_is key others at value here entry =
      let other = All-contains (IsOfOther files key) (entries_of (hash index.bits key) index.entries) (at, value) others (among_held index.entries (hash index.bits key) at value here entry.hash_is) in
      let same : other.item ≡ entry.placed.item = reads_item counts files there key (entry_place at value) value.gone entry.placed other.item other.read in
      let yes : has_key key other.item ≡ true = has_own key other.item (ap key_of same ∙ entry.placed.of_key) in
      let both : true ≡ false = sym yes ∙ other.other in
      cc

  -- nothing is damaged
  pub none_damaged : (h : ℕ) (d : Damage) → IsDamagedEntry files (entries_of h index.entries) d → ⊥
  none_damaged h d damaged =
      let entry = entry_is h damaged.0 damaged.1 in
      let both : None ≡ Some d.kind = sym (reads_sound counts files there entry.0 (entry_place damaged.0.0 damaged.0.1) damaged.0.1.gone entry.1.placed) ∙ damaged.2 in
      cc

  -- and all lie within the files
  pub lie_within : (h : ℕ) → LieWithin files (entries_of h index.entries)
  lie_within h = all-among (λ e. e.0.at + e.1.length ≤ length (bytes_in files (log_name e.0.file))) (entries_of h index.entries) (λ e among.
      let entry = entry_is h e among in
      lies_within counts files there entry.0 (entry_place e.0 e.1) e.1.gone entry.1.placed)

  -- the entry of a key that has no place is that of its newest record
  pub newest_is : (key : List ℕ) → place_of places key ≡ None → (at : IndexKey) (value : IndexValue) → value_at index.entries at ≡ Some value → (entry : IsEntryOf counts index.bits key at value) → IsNewestBy counts key at.file at.at entry.placed.item
  newest_is key unplaced at value here entry =
      let newest = is.newest key unplaced at.file at.at entry.placed.item entry.placed.counted entry.placed.of_key in
      let item : Item = newest.2.entry.placed.item in
      let same : newest.0 ≡ at = is.single newest.0 at newest.1 value key newest.2.there here newest.2.entry entry in
      let here_newest : IsNewestBy counts key at.file at.at item = subst (λ (k : IndexKey). IsNewestBy counts key k.file k.at item) same newest.2.newest in
      let same_item : item ≡ entry.placed.item = placed_once counts files there at.file at.at item entry.placed.item key key here_newest.counted here_newest.of_key entry.placed.counted entry.placed.of_key in
      subst (λ (i : Item). IsNewestBy counts key at.file at.at i) same_item here_newest

  -- a key that has neither a place nor an entry has no record
  has_none : (key : List ℕ) → place_of places key ≡ None → All (IsOfOther files key) (entries_of (hash index.bits key) index.entries) → HasNone counts key
  has_none key unplaced others n a item counted of_key =
      let newest = is.newest key unplaced n a item counted of_key in
      none_is key others newest.0 newest.1 newest.2.there newest.2.entry

module _ (counts : Counts) (parts : Parts) (is : AreIndexed counts parts) (a b : HostState) (there : AreThere counts a.files) (key : List ℕ) where
  -- what is fetched at the key's place
  module _ (place : Place) (gone : Bool) (at : place_of parts.table key ≡ Some (place, gone)) where
    held_there : (p : IsPlaced counts key place gone) × IsNewestBy counts key place.file place.at p.item
    held_there = is.placed key place gone at

    looks_at : (n : ℕ) → n ≤ a.asked a.turn + place.length → n ≤ a.asked a.turn + look_bytes parts key
    looks_at n most = subst (λ (seat : Seat). n ≤ a.asked a.turn + bytes_by seat (entries_of (hash parts.tree.bits key) parts.tree.entries)) (sym at) most

    pub placed_finds : (item : OwnItem) → Fetches (log_name place.file) place a b (Ok item) → Finds counts key parts a b (Ok (Some item))
    placed_finds item fetches =
        let held_here = held_there in
        let same : own_item item ≡ held_here.0.item = reads_item counts a.files there key place gone held_here.0 (own_item item) fetches.given in
        record {
          newest = (place.file, place.at, subst (λ (i : Item). IsNewestBy counts key place.file place.at i) (sym same) held_here.1);
          undamaged = λ d err. cc;
          most = λ whole_reads. looks_at (b.asked a.turn) (fetches.most (lies_within counts a.files there key place gone held_here.0) whole_reads);
          fetched = omega (arith, fetches.asked, held_here.0.long, ap (λ (i : Item). length (spelling i)) same);
        }

    pub placed_fails : (f : StoreFault) → Fetches (log_name place.file) place a b (Err f) → Finds counts key parts a b (Err f)
    placed_fails f fetches =
        let held_here = held_there in
        record {
          newest = tt;
          undamaged = λ d err. (let both : None ≡ Some d.kind = sym (reads_sound counts a.files there key place gone held_here.0) ∙ (fetches.damaged d (same_fault f (fault.Damaged d) err)).2 in cc);
          most = λ whole_reads. looks_at (b.asked a.turn) (fetches.most (lies_within counts a.files there key place gone held_here.0) whole_reads);
          fetched = tt;
        }

  -- what is found among the entries of its hash
  module _ (ordered : AreOrdered parts.tree.entries) (unplaced : place_of parts.table key ≡ None) where
    abbrev found : Entries
    found = entries_of (hash parts.tree.bits key) parts.tree.entries

    looks_among : (result : Result (Option FoundEntry) StoreFault) → Searches key found a b result → (Rose a.short_reads b.short_reads → ⊥) → b.asked a.turn ≤ a.asked a.turn + look_bytes parts key
    looks_among result searches whole_reads =
        subst (λ (seat : Seat). b.asked a.turn ≤ a.asked a.turn + bytes_by seat found) (sym unplaced)
        (searches.most whole_reads (lie_within counts a.files parts.table parts.tree parts.requests.waiting is there ordered (hash parts.tree.bits key)))

    pub entry_finds : (entry : FoundEntry) → Searches key found a b (Ok (Some entry)) → Finds counts key parts a b (Ok (Some entry.item))
    entry_finds entry searches =
        let own = found_is counts a.files parts.table parts.tree parts.requests.waiting is there ordered key entry.at entry.value (own_item entry.item) searches.found.0 searches.found.1 searches.found.2 in
        let here = (held parts.tree.entries ordered (hash parts.tree.bits key) (entry.at, entry.value) searches.found.0).0 in
        let newest = newest_is counts a.files parts.table parts.tree parts.requests.waiting is there ordered key unplaced entry.at entry.value here own.0 in
        record {
          newest = (entry.at.file, entry.at.at, subst (λ (i : Item). IsNewestBy counts key entry.at.file entry.at.at i) (sym own.1) newest);
          undamaged = λ d err. cc;
          most = looks_among (Ok (Some entry)) searches;
          fetched = omega (arith, searches.fetched, own.0.placed.long, ap (λ (i : Item). length (spelling i)) own.1);
        }

    pub none_finds : Searches key found a b (Ok None) → Finds counts key parts a b (Ok None)
    none_finds searches = record {
      newest = has_none counts a.files parts.table parts.tree parts.requests.waiting is there ordered key unplaced searches.found;
      undamaged = λ d err. cc;
      most = looks_among (Ok None) searches;
      fetched = searches.fetched;
    }

    pub entry_fails : (f : StoreFault) → Searches key found a b (Err f) → Finds counts key parts a b (Err f)
    entry_fails f searches = record {
      newest = tt;
      undamaged = λ d err. none_damaged counts a.files parts.table parts.tree parts.requests.waiting is there ordered (hash parts.tree.bits key) d (searches.damaged d (same_fault f (fault.Damaged d) err));
      most = looks_among (Err f) searches;
      fetched = tt;
    }
