-- What is known of the next key is its newest record, where the parts stand for the records that count.
use Rattle.std.proofs.Common.{◌≡◌, ◌⊎◌, inl, inr, ℕ, true, List, Option, Some, None, IsSome, Contains, refl, sym, ◌∙◌, ap, subst}
use Rattle.std.specs.Prelude.{Result, Ok, Err, IfOk, MatchOption}
use Rattle.cache_model.specs.declared.faults.Damage.{Damage}
use Rattle.cache_model.specs.declared.faults.StoreFault.{StoreFault}
use Rattle.cache_model.specs.declared.faults.StoreFault.TheVariants as fault
use Rattle.cache_model.specs.declared.index.IndexKey.{IndexKey}
use Rattle.cache_model.specs.declared.index.IndexValue.{IndexValue}
use Rattle.cache_model.specs.Files.{Image}
use Rattle.cache_model.specs.Items.{Item}
use Rattle.cache_model.specs.Images.{key_of}
use Rattle.cache_model.specs.Hash.{follows, precedes}
use Rattle.record_format.specs.declared.items.OwnItem.{OwnItem}
use Rattle.record_format.specs.Meaning.{own_item}
use Rattle.temporary_table.specs.declared.requests.Request.{Request}
use Rattle.temporary_table.specs.Queue.{Queue}
use Rattle.temporary_table.specs.Places.{Places, Seat, place_of}
use Rattle.temporary_table.proofs.Ordered.{never}
use Rattle.tree_index.specs.Index.{Index, AreOrdered, value_at}
use Rattle.compactor.specs.declared.parts.Parts.{Parts}
use Rattle.compactor.specs.declared.walking.Known.TheVariants.{Placed, Read}
use Rattle.compactor.specs.Counting.{Counts, HasNone, IsNewestBy, AreThere}
use Rattle.compactor.specs.Finding.{entry_place, IsDamagedEntry}
use Rattle.compactor.specs.Indexing.{IsEntryOf, IsIndexed, AreIndexed}
use Rattle.compactor.specs.Looking.{IsKnownBehind, IsNextRecord, Looks, Walks}
use Rattle.compactor.specs.Walking.{HasKeyAt, AreHashed, IsKnown, IsFirstKnown, IsNextKnown, Seeks, GivesNewest}
use Rattle.compactor.proofs.Entries.{held_all, among_if_held}
use Rattle.compactor.proofs.FirstKey.{some_key}
use Rattle.compactor.proofs.Looked.{newest_is}
use Rattle.compactor.proofs.Placed.{reads_whole, reads_item, reads_sound}
use Rattle.compactor.proofs.Searching.{same_fault}

module _ (counts : Counts) (files : Image) (places : Places) (index : Index) (waiting : List Request) (is : IsIndexed counts places index waiting) (there : AreThere counts files) (ordered : AreOrdered index.entries) where
  -- an entry of the index is that of a record that counts
  entry_is : (e : IndexKey × IndexValue) → Contains index.entries e → (key : List ℕ) × IsEntryOf counts index.bits key e.0 e.1
  entry_is e within = is.indexed e.0 e.1 (held_all index.entries ordered e within)

  has_key : (e : IndexKey × IndexValue) → Contains index.entries e → (key : List ℕ) (entry : IsEntryOf counts index.bits key e.0 e.1) → HasKeyAt files index.entries e key entry.placed.item
  has_key e within key entry = record {
    within = within;
    read = reads_whole counts files there key (entry_place e.0 e.1) e.1.gone entry.placed;
    of_key = entry.placed.of_key;
  }

  -- Each entry has a record, of a key with its hash,
  pub are_hashed : AreHashed files index.bits index.entries
  are_hashed e within = let entry = entry_is e within in (entry.0, entry.1.placed.item, has_key e within entry.0 entry.1, entry.1.hash_is)

  -- and none is damaged.
  pub undamaged : (d : Damage) → IsDamagedEntry files index.entries d → ⊥
  undamaged d damaged =
      let entry = entry_is damaged.0 damaged.1 in
      let both : None ≡ Some d.kind = sym (reads_sound counts files there entry.0 (entry_place damaged.0.0 damaged.0.1) damaged.0.1.gone entry.1.placed) ∙ damaged.2 in
      cc

  -- A key that has a record that counts is known.
  known : (key : List ℕ) (n a : ℕ) (item : Item) → counts n a item → key_of item ≡ Some key → IsKnown files places index.entries key
  known key n a item counted of_key = by (place_of places key) refl
    where
      by : (seat : Seat) → place_of places key ≡ seat → IsKnown files places index.entries key
      by (Some seat) at = inl (subst (λ (o : Seat). IsSome o) (sym at) refl)
      by None away =
          let newest = is.newest key away n a item counted of_key in
          inr ((newest.0, newest.1), newest.2.entry.placed.item, has_key (newest.0, newest.1) (among_if_held index.entries newest.0 newest.1 newest.2.there) key newest.2.entry)

  -- The record that an entry has of a key without a place is its newest.
  read_newest : (key : List ℕ) (item : Item) (e : IndexKey × IndexValue) → place_of places key ≡ None → HasKeyAt files index.entries e key item → IsNewestBy counts key e.0.file e.0.at item
  read_newest key item e away has =
      let here = held_all index.entries ordered e has.within in
      let entry = is.indexed e.0 e.1 here in
      let same : item ≡ entry.1.placed.item = reads_item counts files there entry.0 (entry_place e.0 e.1) e.1.gone entry.1.placed item has.read in
      let own : entry.0 ≡ key = some_key entry.0 key (sym entry.1.placed.of_key ∙ ap key_of (sym same) ∙ has.of_key) in
      newest_at (subst (λ (k : List ℕ). (x : IsEntryOf counts index.bits k e.0 e.1) × (item ≡ x.placed.item)) own (entry.1, same)) here
    where
      newest_at : (entry : IsEntryOf counts index.bits key e.0 e.1) × (item ≡ entry.placed.item) → value_at index.entries e.0 ≡ Some e.1 → IsNewestBy counts key e.0.file e.0.at item
      newest_at entry here = subst (λ (i : Item). IsNewestBy counts key e.0.file e.0.at i) (sym entry.1) (newest_is counts files places index waiting is there ordered key away e.0 e.1 here entry.0)

  -- A key that has a place has a newest record.
  placed_some : (key : List ℕ) → IsSome (place_of places key) → HasNone counts key → ⊥
  placed_some key some none = by (place_of places key) refl some
    where
      by : (seat : Seat) → place_of places key ≡ seat → IsSome seat → ⊥
      by None at has = cc
      by (Some seat) at has = let held = is.placed key seat.0 seat.1 at in none seat.0.file seat.0.at held.0.item held.0.counted held.0.of_key

  module _ (after : Option (List ℕ)) where
    -- no key that counts is before the first that is known
    first_counts : (key : List ℕ) → IsFirstKnown files index.bits places index.entries after key → (other : List ℕ) → IsKnownBehind counts index.bits after other → (other ≡ key) ⊎ (precedes index.bits key other ≡ true)
    first_counts key first other behind = first.first other (known other behind.number behind.at behind.item behind.counted behind.of_key) behind.behind

    -- So where none is known behind, none counts,
    pub walks_none : IsNextKnown files index.bits places index.entries after None → Walks counts index.bits after (Ok None)
    walks_none none = record {
      next = λ key behind. never (sym behind.behind ∙ none key (known key behind.number behind.at behind.item behind.counted behind.of_key));
      undamaged = λ d err. cc;
    }

    -- the record that was read is the newest,
    pub walks_read : (key : List ℕ) (item : OwnItem) → IsNextKnown files index.bits places index.entries after (Some (Read key item)) → Walks counts index.bits after (Ok (Some (key, item)))
    walks_read key item read = record {
      next = (read.2.behind, (read.1.0.0.file, read.1.0.0.at, read_newest key (own_item item) read.1.0 read.0 read.1.1), first_counts key read.2);
      undamaged = λ d err. cc;
    }

    -- and of a key with a place it is fetched.
    pub walks_placed : (key : List ℕ) (result : Result (Option (List ℕ × OwnItem)) StoreFault) → IsNextKnown files index.bits places index.entries after (Some (Placed key)) → GivesNewest counts key result → Walks counts index.bits after result
    walks_placed key result next gives = record { next = by result gives.given; undamaged = gives.undamaged }
      where
        some : (found : List ℕ × OwnItem) → found.0 ≡ key → (n : ℕ) × (a : ℕ) × IsNewestBy counts key n a (own_item found.1) → IsNextRecord counts index.bits after (Some found)
        some found same newest = (
          subst (λ (k : List ℕ). follows index.bits after k ≡ true) (sym same) next.1.behind,
          subst (λ (k : List ℕ). (n : ℕ) × (a : ℕ) × IsNewestBy counts k n a (own_item found.1)) (sym same) newest,
          λ other behind. subst (λ (k : List ℕ). (other ≡ k) ⊎ (precedes index.bits k other ≡ true)) (sym same) (first_counts key next.1 other behind),
        )

        by : (r : Result (Option (List ℕ × OwnItem)) StoreFault) → IfOk r (λ found. MatchOption found (HasNone counts key) (λ f. (f.0 ≡ key) × ((n : ℕ) × (a : ℕ) × IsNewestBy counts key n a (own_item f.1)))) → IfOk r (IsNextRecord counts index.bits after)
        by (Ok None) none = absurd (placed_some key next.0 none)
        by (Ok (Some found)) given = some found given.0 given.1
        by (Err f) given = tt

    -- A fault is no damage.
    pub walks_fail : (f : StoreFault) → Seeks (IsNextKnown files index.bits places index.entries after) index.entries files (Err f) → Walks counts index.bits after (Err f)
    walks_fail f seeks = record { next = tt; undamaged = λ d err. undamaged d (seeks.damaged d (same_fault f (fault.Damaged d) err)) }

-- Where a look changed nothing, the parts stand for the same.
pub indexed_looks : {R : Type 0} (counts : Counts) (old new : Parts) (result : Result R StoreFault) → Looks old new result → AreIndexed counts old → AreIndexed counts new
indexed_looks counts old new result looks is =
    subst (λ (places : Places). IsIndexed counts places new.tree new.requests.waiting) (sym looks.table)
    (subst (λ (index : Index). IsIndexed counts old.table index new.requests.waiting) (sym looks.tree)
    (subst (λ (queue : Queue). IsIndexed counts old.table old.tree queue.waiting) (sym looks.requests) is))
