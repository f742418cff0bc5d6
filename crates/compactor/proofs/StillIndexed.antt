-- After the oldest request put its key's entry, the parts stand for the same records.
use Rattle.std.proofs.Common.{◌≡◌, ◌⊎◌, inl, inr, ⊎_elim, ℕ, Bool, true, false, List, ◌∷◌, ◌++◌, Option, Some, None, refl, sym, ◌∙◌, ap, subst}
use Rattle.std.specs.Option.{option_or}
use Rattle.std.specs.Str.{bytes_eq}
use Rattle.std.proofs.lemmas.List.Elements.{All-tail}
use Rattle.std.proofs.lemmas.Slice.Eq.{bytes_eq-Decides}
use Rattle.cache_model.specs.declared.files.Place.{Place}
use Rattle.cache_model.specs.declared.index.IndexKey.{IndexKey}
use Rattle.cache_model.specs.declared.index.IndexValue.{IndexValue}
use Rattle.cache_model.specs.Files.{Image}
use Rattle.cache_model.specs.Hash.{hash}
use Rattle.cache_model.specs.Items.{Item}
use Rattle.cache_model.specs.Images.{key_of}
use Rattle.record_format.specs.Meaning.{own_item}
use Rattle.temporary_table.specs.declared.requests.Request.{Request}
use Rattle.temporary_table.specs.declared.requests.Request.TheVariants.{Swap}
use Rattle.temporary_table.specs.Places.{Places, place_of}
use Rattle.temporary_table.specs.Queue as queue
use Rattle.tree_index.specs.Index.{Index, AreOrdered, entries_of, is_key, value_at}
use Rattle.compactor.specs.declared.finding.FoundEntry.{FoundEntry}
use Rattle.compactor.specs.Counting.{Counts, IsNewestBy, AreThere}
use Rattle.compactor.specs.Entering.{Drops, Puts, SettlesAt, entry_key, stale_by}
use Rattle.compactor.specs.Finding.{IsEntryFor}
use Rattle.compactor.specs.Indexing.{HasEntryAt, IsPut, IsEntryOf, IsNewestEntry, IsIndexed, StandsAt, last_put, put_by, puts_to}
use Rattle.compactor.proofs.Entries.{held, key_itself, same_key}
use Rattle.compactor.proofs.Looked.{same_keys, found_is, none_is}
use Rattle.compactor.proofs.Reindexed.{is_found, holds_fresh, held_before, held_still}
use Rattle.compactor.proofs.Rows.{placed_once}
use Rattle.compactor.proofs.Stepped.{other_placed, own_place, put_named, still_placed, still_queued}

module _ (counts : Counts) (files : Image) (places : Places) (index : Index) (waiting : List Request) (is : IsIndexed counts places index waiting) (there : AreThere counts files) (ordered : AreOrdered index.entries) where
  -- an entry of a key under the same place as one of another is of that other
  pub one_key : (k l : List ℕ) (at : IndexKey) (v w : IndexValue) → IsEntryOf counts index.bits k at v → IsEntryOf counts index.bits l at w → k ≡ l
  one_key k l at v w one other =
      let same = placed_once counts files there at.file at.at one.placed.item other.placed.item k l one.placed.counted one.placed.of_key other.placed.counted other.placed.of_key in
      same_keys k l other.placed.item (ap key_of (sym same) ∙ one.placed.of_key) other.placed.of_key

  module _ (key : List ℕ) (found : Option FoundEntry) (finds : IsEntryFor files key (entries_of (hash index.bits key) index.entries) found) where
    -- the entry that was found is the key's
    of_found : (at : IndexKey) (value : IndexValue) (k : List ℕ) → IsEntryOf counts index.bits k at value → is_found found at ≡ true → k ≡ key
    of_found at value k entry = by found finds
      where
        by : (f : Option FoundEntry) → IsEntryFor files key (entries_of (hash index.bits key) index.entries) f → is_found f at ≡ true → k ≡ key
        by None among same = cc
        by (Some f) among same =
            let own = found_is counts files places index waiting is there ordered key f.at f.value (own_item f.item) among.0 among.1 among.2 in
            one_key k key at value f.value entry (subst (λ (x : IndexKey). IsEntryOf counts index.bits key x f.value) (same_key f.at at same) own.0)

    -- and the key has no other
    pub lone : (at : IndexKey) (value : IndexValue) → value_at index.entries at ≡ Some value → IsEntryOf counts index.bits key at value → is_found found at ≡ true
    lone at value here entry = by found finds
      where
        by : (f : Option FoundEntry) → IsEntryFor files key (entries_of (hash index.bits key) index.entries) f → is_found f at ≡ true
        by None none = absurd (none_is counts files places index waiting is there ordered key none at value here entry)
        by (Some f) among =
            let own = found_is counts files places index waiting is there ordered key f.at f.value (own_item f.item) among.0 among.1 among.2 in
            let same : f.at ≡ at = is.single f.at at f.value value key (held index.entries ordered (hash index.bits key) (f.at, f.value) among.0).0 here own.0 entry in
            ap (λ (x : IndexKey). is_key f.at x) (sym same) ∙ key_itself f.at

    module _ (to : Place) (entry : IndexValue) (own : IsEntryOf counts index.bits key (entry_key index.bits key to) entry) (mid new : Index)
        (puts : Puts (Some (entry_key index.bits key to, entry)) index mid) (drops : Drops (stale_by found (Some (entry_key index.bits key to, entry))) mid new) where
      abbrev fresh_at : IndexKey
      fresh_at = entry_key index.bits key to

      -- the new index, by the old one's bits
      abbrev pub after : Index
      after = record { bits = index.bits; entries = new.entries }

      -- what is held now is the key's new entry or another key's old one
      abbrev Before : IndexKey → IndexValue → Type 0
      Before at value = ((at ≡ fresh_at) × (value ≡ entry)) ⊎ ((value_at index.entries at ≡ Some value) × (is_found found at ≡ false))

      pub before : (at : IndexKey) (value : IndexValue) → value_at new.entries at ≡ Some value → Before at value
      before = held_before fresh_at entry found index mid new puts drops

      indexed : (at : IndexKey) (value : IndexValue) → value_at new.entries at ≡ Some value → (k : List ℕ) × IsEntryOf counts index.bits k at value
      indexed at value here = ⊎_elim
          (λ same. (key, subst (λ (v : IndexValue). IsEntryOf counts index.bits key at v) (sym same.1) (subst (λ (x : IndexKey). IsEntryOf counts index.bits key x entry) (sym same.0) own)))
          (λ old. is.indexed at value old.0)
          (before at value here)

      -- an old entry under the new one's key is no other's
      alone : (k : List ℕ) (at other : IndexKey) (v w : IndexValue) → at ≡ fresh_at → IsEntryOf counts index.bits k at v → value_at index.entries other ≡ Some w → is_found found other ≡ false → IsEntryOf counts index.bits k other w → ⊥
      alone k at other v w same one here not_found entry_too =
          let named : k ≡ key = one_key k key fresh_at v entry (subst (λ (x : IndexKey). IsEntryOf counts index.bits k x v) same one) own in
          let yes : is_found found other ≡ true = lone other w here (subst (λ (l : List ℕ). IsEntryOf counts index.bits l other w) named entry_too) in
          let both : true ≡ false = sym yes ∙ not_found in
          cc

      single : (one other : IndexKey) (v w : IndexValue) (k : List ℕ) → value_at new.entries one ≡ Some v → value_at new.entries other ≡ Some w → IsEntryOf counts index.bits k one v → IsEntryOf counts index.bits k other w → one ≡ other
      single one other v w k here too first second = by (before one v here) (before other w too)
        where
          by : Before one v → Before other w → one ≡ other
          by (inl new_one) (inl new_other) = new_one.0 ∙ sym new_other.0
          by (inl new_one) (inr old) = absurd (alone k one other v w new_one.0 first old.0 old.1 second)
          by (inr old) (inl new_other) = absurd (alone k other one w v new_other.0 second old.0 old.1 first)
          by (inr old) (inr old_too) = is.single one other v w k old.0 old_too.0 first second

      -- an entry of another key stays
      pub other_stays : (k : List ℕ) (at : IndexKey) (value : IndexValue) → bytes_eq key k ≡ false → value_at index.entries at ≡ Some value → IsEntryOf counts index.bits k at value → value_at new.entries at ≡ Some value
      other_stays k at value unlike here entry_too = held_still fresh_at entry found index mid new puts drops at value here not_fresh not_found
        where
          never : key ≡ k → ⊥
          never same = let both : true ≡ false = sym ((bytes_eq-Decides key k).1 same) ∙ unlike in cc

          not_fresh : fresh_at ≡ at → ⊥
          not_fresh same = never (one_key key k at entry value (subst (λ (x : IndexKey). IsEntryOf counts index.bits key x entry) same own) entry_too)

          not_found : is_found found at ≡ false
          not_found = by (is_found found at) refl
            where
              by : (b : Bool) → is_found found at ≡ b → is_found found at ≡ false
              by true found_it = absurd (never (sym (of_found at value k entry_too found_it)))
              by false it = it

      -- the new entry of the key
      pub own_there : value_at new.entries fresh_at ≡ Some entry
      own_there = holds_fresh fresh_at entry found index mid new puts drops

-- a request that puts its key to a place is applied
module _ (counts : Counts) (files : Image) (places : Places) (index : Index) (request : Request) (rest : List Request) (is : IsIndexed counts places index (request ∷ rest)) (there : AreThere counts files) (ordered : AreOrdered index.entries)
    (key : List ℕ) (to : Place) (named : queue.key_of request ≡ key) (put : puts_to request ≡ Some to) (found : Option FoundEntry) (finds : IsEntryFor files key (entries_of (hash index.bits key) index.entries) found)
    (entry : IndexValue) (own : IsEntryOf counts index.bits key (entry_key index.bits key to) entry) (mid new : Index)
    (puts : Puts (Some (entry_key index.bits key to, entry)) index mid) (drops : Drops (stale_by found (Some (entry_key index.bits key to, entry))) mid new)
    (new_places : Places) (settles : SettlesAt key to places new_places) where
  abbrev new_index : Index
  new_index = record { bits = index.bits; entries = new.entries }

  stays : (k : List ℕ) (at : IndexKey) (value : IndexValue) → bytes_eq key k ≡ false → value_at index.entries at ≡ Some value → IsEntryOf counts index.bits k at value → value_at new.entries at ≡ Some value
  stays = other_stays counts files places index (request ∷ rest) is there ordered key found finds to entry own mid new puts drops

  here_now : value_at new.entries (entry_key index.bits key to) ≡ Some entry
  here_now = own_there counts files places index (request ∷ rest) is there ordered key found finds to entry own mid new puts drops

  own_newest : place_of new_places key ≡ None → IsNewestEntry counts new_index key (entry_key index.bits key to) entry
  own_newest unplaced =
      let was = own_place key to request named put places new_places rest settles is.queued is.apart.0 unplaced in
      let newest = is.placed key to was.0 was.1 in
      let same : newest.0.item ≡ own.placed.item = placed_once counts files there to.file to.at newest.0.item own.placed.item key key newest.0.counted newest.0.of_key own.placed.counted own.placed.of_key in
      record {
        there = here_now;
        entry = own;
        newest = subst (λ (i : Item). IsNewestBy counts key to.file to.at i) same newest.1;
      }

  newest : (k : List ℕ) → place_of new_places k ≡ None → (n a : ℕ) (item : Item) → counts n a item → key_of item ≡ Some k → (at : IndexKey) × (value : IndexValue) × IsNewestEntry counts new_index k at value
  newest k unplaced n a item counted of_key = by (bytes_eq key k) refl
    where
      by : (b : Bool) → bytes_eq key k ≡ b → (at : IndexKey) × (value : IndexValue) × IsNewestEntry counts new_index k at value
      by true same_name =
          let same : key ≡ k = (bytes_eq-Decides key k).0 same_name in
          subst (λ (l : List ℕ). (at : IndexKey) × (value : IndexValue) × IsNewestEntry counts new_index l at value) same
          (entry_key index.bits key to, entry, own_newest (subst (λ (l : List ℕ). place_of new_places l ≡ None) (sym same) unplaced))
      by false unlike =
          let old = is.newest k (sym (other_placed key to places new_places settles k unlike) ∙ unplaced) n a item counted of_key in
          (old.0, old.1, record { there = stays k old.0 old.1 unlike old.2.there old.2.entry; entry = old.2.entry; newest = old.2.newest })

  -- the Swaps behind it find their keys as before
  swaps : (k : List ℕ) (from at : Place) (front after : List Request) → rest ≡ front ++ Swap k from at ∷ after → StandsAt counts new_index k (last_put k front) from
  swaps k from at front after split = by (last_put k front) (bytes_eq key k) refl (is.swaps k from at (request ∷ front) after (ap (λ (l : List Request). request ∷ l) split))
    where
      by_name : (b : Bool) → bytes_eq key k ≡ b → StandsAt counts index k (put_by k request) from → HasEntryAt counts new_index k from
      by_name true same_name stands =
          let same : key ≡ k = (bytes_eq-Decides key k).0 same_name in
          let here : put_by k request ≡ Some to = put_named key to request named put k true same_name in
          let stood : (to.file ≡ from.file) × (to.at ≡ from.at) = subst (λ (o : Option Place). StandsAt counts index k o from) here stands in
          subst (λ (l : List ℕ). HasEntryAt counts new_index l from) same (record { at = entry_key index.bits key to; value = entry; there = here_now; entry = own; file_is = stood.0; at_is = stood.1 })
      by_name false unlike stands =
          let none : put_by k request ≡ None = put_named key to request named put k false unlike in
          let stood : HasEntryAt counts index k from = subst (λ (o : Option Place). StandsAt counts index k o from) none stands in
          record { at = stood.at; value = stood.value; there = stays k stood.at stood.value unlike stood.there stood.entry; entry = stood.entry; file_is = stood.file_is; at_is = stood.at_is }

      by : (last : Option Place) (b : Bool) → bytes_eq key k ≡ b → StandsAt counts index k (option_or last (put_by k request)) from → StandsAt counts new_index k last from
      by (Some last) b is_named stands = stands
      by None b is_named stands = by_name b is_named stands

  pub put_indexed : new.bits ≡ index.bits → IsIndexed counts new_places new rest
  put_indexed same_bits = subst (λ (bits : ℕ). IsIndexed counts new_places (record { bits = bits; entries = new.entries }) rest) (sym same_bits) (record {
    queued = still_queued key to request named put places new_places rest settles is.queued is.apart.0;
    requested = All-tail (IsPut counts) request rest is.requested;
    apart = is.apart.1;
    swaps = swaps;
    placed = λ k place removed at. is.placed k place removed (still_placed key to places new_places settles k place removed at);
    indexed = indexed counts files places index (request ∷ rest) is there ordered key found finds to entry own mid new puts drops;
    single = single counts files places index (request ∷ rest) is there ordered key found finds to entry own mid new puts drops;
    newest = newest;
  })
