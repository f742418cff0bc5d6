-- How the counts of keys go on with the index.
use Rattle.std.proofs.Common.{◌≡◌, inl, inr, ⊎_elim, ℕ, ◌≤◌, Bool, true, false, List, Option, Some, None, refl, sym, ◌∙◌, ap, subst}
use Rattle.std.specs.Prelude.{cond}
use Rattle.std.specs.Str.{bytes_eq}
use Rattle.std.proofs.lemmas.Slice.Eq.{bytes_eq-Decides}
use Rattle.cache_model.specs.declared.files.Place.{Place}
use Rattle.cache_model.specs.declared.index.IndexKey.{IndexKey}
use Rattle.cache_model.specs.declared.index.IndexValue.{IndexValue}
use Rattle.cache_model.specs.Files.{Image}
use Rattle.cache_model.specs.Hash.{hash}
use Rattle.record_format.specs.Meaning.{own_item}
use Rattle.temporary_table.specs.declared.requests.Request.{Request}
use Rattle.temporary_table.specs.Places.{Places}
use Rattle.tree_index.specs.Index.{Index, AreOrdered, Sets, entries_of, is_key, value_at}
use Rattle.compactor.specs.declared.finding.FoundEntry.{FoundEntry}
use Rattle.compactor.specs.Counting.{Counts, AreThere}
use Rattle.compactor.specs.Entering.{Drops, Puts, entry_key, stale_by}
use Rattle.compactor.specs.Finding.{IsEntryFor}
use Rattle.compactor.specs.Indexing.{IsEntryOf, IsIndexed}
use Rattle.compactor.specs.Raising.{HasEntryWith, HasNoEntry, HasCount}
use Rattle.compactor.proofs.Entries.{held, same_key}
use Rattle.compactor.proofs.Looked.{found_is}
use Rattle.compactor.proofs.Passed.{with_count, entry_recounted, was_held}
use Rattle.compactor.proofs.Reindexed.{is_found}
use Rattle.compactor.proofs.StillIndexed.{before, lone, one_key, other_stays, own_there}

-- how many records the entry that was found counts, 0 where none was
abbrev pub count_of : Option FoundEntry → ℕ
count_of None = 0
count_of (Some found) = found.value.count

-- what a key has once another key's count or its own went on
abbrev pub moved_to : List ℕ → ℕ → List ℕ → ℕ → ℕ
moved_to key many k count = cond (bytes_eq key k) many count

module _ (counts : Counts) (files : Image) (places : Places) (index : Index) (waiting : List Request) (is : IsIndexed counts places index waiting) (there : AreThere counts files) (ordered : AreOrdered index.entries) (key : List ℕ) where
  -- by whether it is the key that is named
  by_name : (new : Index) (many : ℕ) (k : List ℕ) (count : ℕ) → (HasCount counts index key count → HasCount counts new key many) → (bytes_eq key k ≡ false → HasCount counts index k count → HasCount counts new k count)
      → HasCount counts index k count → HasCount counts new k (moved_to key many k count)
  by_name new many k count own other has = by (bytes_eq key k) refl
    where
      by : (b : Bool) → bytes_eq key k ≡ b → HasCount counts new k (cond (bytes_eq key k) many count)
      by true named =
          let same : key ≡ k = (bytes_eq-Decides key k).0 named in
          rw named (subst (λ (l : List ℕ). HasCount counts new l many) same (own (subst (λ (l : List ℕ). HasCount counts index l count) (sym same) has)))
      by false unlike = rw unlike (other unlike has)

  module _ (found : Option FoundEntry) (finds : IsEntryFor files key (entries_of (hash index.bits key) index.entries) found) where
    -- what was counted is what the entry that was found says, or nothing
    pub counted : (count : ℕ) → HasCount counts index key count → count ≡ count_of found
    counted count has = ⊎_elim some none has
      where
        some : HasEntryWith counts index key count → count ≡ count_of found
        some entry = by found finds (lone counts files places index waiting is there ordered key found finds entry.at entry.value entry.there entry.entry)
          where
            by : (f : Option FoundEntry) → IsEntryFor files key (entries_of (hash index.bits key) index.entries) f → is_found f entry.at ≡ true → count ≡ count_of f
            by None among same = cc
            by (Some f) among same =
                let here : value_at index.entries f.at ≡ Some f.value = (held index.entries ordered (hash index.bits key) (f.at, f.value) among.0).0 in
                let both : Some f.value ≡ Some entry.value = sym here ∙ ap (λ (k : IndexKey). value_at index.entries k) (same_key f.at entry.at same) ∙ entry.there in
                let value : f.value ≡ entry.value = cc in
                sym entry.count_is ∙ ap (λ (v : IndexValue). v.count) (sym value)

        none : HasNoEntry counts index key × (count ≡ 0) → count ≡ count_of found
        none nothing = by found finds
          where
            by : (f : Option FoundEntry) → IsEntryFor files key (entries_of (hash index.bits key) index.entries) f → count ≡ count_of f
            by None among = nothing.1
            by (Some f) among =
                absurd (nothing.0 f.at f.value (held index.entries ordered (hash index.bits key) (f.at, f.value) among.0).0 (found_is counts files places index waiting is there ordered key f.at f.value (own_item f.item) among.0 among.1 among.2).0)

    -- the key's new entry was put
    module _ (to : Place) (entry : IndexValue) (own : IsEntryOf counts index.bits key (entry_key index.bits key to) entry) (mid new : Index)
        (puts : Puts (Some (entry_key index.bits key to, entry)) index mid) (drops : Drops (stale_by found (Some (entry_key index.bits key to, entry))) mid new) where
      abbrev after : Index
      after = record { bits = index.bits; entries = new.entries }

      own_raised : (count : ℕ) → HasCount counts index key count → HasCount counts after key entry.count
      own_raised count has = inl (record {
        at = entry_key index.bits key to;
        value = entry;
        there = own_there counts files places index waiting is there ordered key found finds to entry own mid new puts drops;
        entry = own;
        count_is = refl;
      })

      other_kept : (k : List ℕ) (count : ℕ) → bytes_eq key k ≡ false → HasCount counts index k count → HasCount counts after k count
      other_kept k count unlike (inl has) = inl (record {
        at = has.at;
        value = has.value;
        there = other_stays counts files places index waiting is there ordered key found finds to entry own mid new puts drops k has.at has.value unlike has.there has.entry;
        entry = has.entry;
        count_is = has.count_is;
      })
      other_kept k count unlike (inr nothing) = inr (
        λ at value here of_k. ⊎_elim
            (λ fresh. (
            let same : k ≡ key = one_key counts files places index waiting is there ordered k key (entry_key index.bits key to) value entry (subst (λ (x : IndexKey). IsEntryOf counts index.bits k x value) fresh.0 of_k) own in
            let both : true ≡ false = sym ((bytes_eq-Decides key k).1 (sym same)) ∙ unlike in
            cc))
            (λ old. nothing.0 at value old.0 of_k)
            (before counts files places index waiting is there ordered key found finds to entry own mid new puts drops at value here),
        nothing.1,
      )

      pub put_counted : new.bits ≡ index.bits → (k : List ℕ) (count : ℕ) → HasCount counts index k count → HasCount counts new k (moved_to key entry.count k count)
      put_counted same_bits k count has =
          subst (λ (bits : ℕ). HasCount counts (record { bits = bits; entries = new.entries }) k (moved_to key entry.count k count)) (sym same_bits)
          (by_name after entry.count k count (own_raised count) (other_kept k count) has)

  -- the key's entry got another count
  module _ (at : IndexKey) (value : IndexValue) (count : ℕ) (held_there : value_at index.entries at ≡ Some value) (some : 1 ≤ count) (own : IsEntryOf counts index.bits key at value) (new : Index) (sets : Sets at (Some (with_count value count)) index new) where
    abbrev recounted : Index
    recounted = record { bits = index.bits; entries = new.entries }

    own_recounted : HasCount counts recounted key count
    own_recounted = inl (record { at = at; value = with_count value count; there = sets.here; entry = entry_recounted counts index.bits key at value count some own; count_is = refl })

    other_recounted : (k : List ℕ) (c : ℕ) → bytes_eq key k ≡ false → HasCount counts index k c → HasCount counts recounted k c
    other_recounted k c unlike (inl has) = inl (record { at = has.at; value = has.value; there = sets.each has.at ∙ ap (λ (b : Bool). cond b (Some (with_count value count)) (value_at index.entries has.at)) apart ∙ has.there; entry = has.entry; count_is = has.count_is })
      where
        apart : is_key at has.at ≡ false
        apart = by (is_key at has.at) refl
          where
            by : (b : Bool) → is_key at has.at ≡ b → is_key at has.at ≡ false
            by true same =
                let named : k ≡ key = one_key counts files places index waiting is there ordered k key at has.value value (subst (λ (x : IndexKey). IsEntryOf counts index.bits k x has.value) (sym (same_key at has.at same)) has.entry) own in
                let both : true ≡ false = sym ((bytes_eq-Decides key k).1 (sym named)) ∙ unlike in
                cc
            by false it = it
    other_recounted k c unlike (inr nothing) = inr (
      λ other v here of_k.
          let was = was_held counts places index waiting is at value count held_there some new sets other v here in
          nothing.0 other was.0 was.1 (was.2 k of_k),
      nothing.1,
    )

    pub recounted_counted : (k : List ℕ) (c : ℕ) → HasCount counts index k c → HasCount counts new k (moved_to key count k c)
    recounted_counted k c has =
        subst (λ (bits : ℕ). HasCount counts (record { bits = bits; entries = new.entries }) k (moved_to key count k c)) (sym sets.bits)
        (by_name recounted count k c (λ any. own_recounted) (other_recounted k c) has)
