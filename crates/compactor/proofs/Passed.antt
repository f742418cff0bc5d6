-- What a request that puts no key anywhere leaves: the parts stand for the same records.
use Rattle.std.proofs.Common.{◌≡◌, ℕ, ◌≤◌, Bool, true, false, List, ◌∷◌, ◌++◌, Option, Some, None, refl, sym, ◌∙◌, ap, subst}
use Rattle.std.specs.Prelude.{cond, if◌then◌else◌}
use Rattle.std.specs.Option.{option_or}
use Rattle.std.specs.Str.{bytes_eq}
use Rattle.std.proofs.lemmas.List.Elements.{All-tail}
use Rattle.cache_model.specs.declared.files.Place.{Place}
use Rattle.cache_model.specs.declared.index.IndexKey.{IndexKey}
use Rattle.cache_model.specs.declared.index.IndexValue.{IndexValue}
use Rattle.temporary_table.specs.declared.requests.Request.{Request}
use Rattle.temporary_table.specs.declared.requests.Request.TheVariants.{Swap}
use Rattle.temporary_table.specs.Places.{Places}
use Rattle.temporary_table.specs.Queue as queue
use Rattle.tree_index.specs.Index.{Index, Sets, is_key, value_at}
use Rattle.compactor.specs.Counting.{Counts}
use Rattle.compactor.specs.Indexing.{IsPut, IsEntryOf, IsIndexed, StandsAt, last_put, put_by, puts_to}
use Rattle.compactor.proofs.Entries.{same_key}

pub put_nowhere : (request : Request) → puts_to request ≡ None → (key : List ℕ) → put_by key request ≡ None
put_nowhere request nowhere key = by (bytes_eq (queue.key_of request) key) (puts_to request) nowhere
  where
    by : (b : Bool) (place : Option Place) → place ≡ None → (if b then place else None) ≡ None
    by true place none = none
    by false place none = refl

or_nothing : (last : Option Place) → option_or last None ≡ last
or_nothing None = refl
or_nothing (Some last) = refl

-- the last places of the others are those of all
pub last_behind : (request : Request) (rest : List Request) → puts_to request ≡ None → (key : List ℕ) → last_put key (request ∷ rest) ≡ last_put key rest
last_behind request rest nowhere key = ap (λ (o : Option Place). option_or (last_put key rest) o) (put_nowhere request nowhere key) ∙ or_nothing (last_put key rest)

-- it is taken from the queue
pub passed : (counts : Counts) (places : Places) (index : Index) (request : Request) (rest : List Request) → puts_to request ≡ None → IsIndexed counts places index (request ∷ rest) → IsIndexed counts places index rest
passed counts places index request rest nowhere is = record {
  queued = λ key. is.queued key ∙ last_behind request rest nowhere key;
  requested = All-tail (IsPut counts) request rest is.requested;
  apart = is.apart.1;
  swaps = λ key from to before after split.
      subst (λ (last : Option Place). StandsAt counts index key last from) (last_behind request before nowhere key)
      (is.swaps key from to (request ∷ before) after (ap (λ (l : List Request). request ∷ l) split));
  placed = is.placed;
  indexed = is.indexed;
  single = is.single;
  newest = is.newest;
}

-- an entry with another count
abbrev pub with_count : IndexValue → ℕ → IndexValue
with_count value count = record { length = value.length; count = count; gone = value.gone }

-- is one of the same record
abbrev pub entry_recounted : (counts : Counts) (bits : ℕ) (key : List ℕ) (at : IndexKey) (value : IndexValue) (count : ℕ) → 1 ≤ count → IsEntryOf counts bits key at value → IsEntryOf counts bits key at (with_count value count)
entry_recounted counts bits key at value count some entry = record { hash_is = entry.hash_is; placed = entry.placed; some = some }

-- and has its own count back
pub entry_was : (counts : Counts) (bits : ℕ) (key : List ℕ) (at : IndexKey) (value : IndexValue) (count : ℕ) → 1 ≤ value.count → IsEntryOf counts bits key at (with_count value count) → IsEntryOf counts bits key at value
entry_was counts bits key at value count some entry = record { hash_is = entry.hash_is; placed = entry.placed; some = some }

-- an entry gets another count
module _ (counts : Counts) (places : Places) (index : Index) (waiting : List Request) (is : IsIndexed counts places index waiting) (at : IndexKey) (value : IndexValue) (count : ℕ) (held : value_at index.entries at ≡ Some value) (some : 1 ≤ count)
    (new : Index) (sets : Sets at (Some (with_count value count)) index new) where
  abbrev after : Index
  after = record { bits = index.bits; entries = new.entries }

  some_was : 1 ≤ value.count
  some_was = (is.indexed at value held).1.some

  -- what is held is an entry that was held, or that one
  pub was_held : (other : IndexKey) (v : IndexValue) → value_at new.entries other ≡ Some v → (w : IndexValue) × (value_at index.entries other ≡ Some w) × ((key : List ℕ) → IsEntryOf counts index.bits key other v → IsEntryOf counts index.bits key other w) × ((key : List ℕ) → IsEntryOf counts index.bits key other w → IsEntryOf counts index.bits key other v)
  was_held other v here = by (is_key at other) refl (sym (sets.each other) ∙ here)
    where
      by : (b : Bool) → is_key at other ≡ b → cond b (Some (with_count value count)) (value_at index.entries other) ≡ Some v
          → (w : IndexValue) × (value_at index.entries other ≡ Some w) × ((key : List ℕ) → IsEntryOf counts index.bits key other v → IsEntryOf counts index.bits key other w) × ((key : List ℕ) → IsEntryOf counts index.bits key other w → IsEntryOf counts index.bits key other v)
      by true same holds =
          let v_is : with_count value count ≡ v = (let both : Some (with_count value count) ≡ Some v = holds in cc) in (
            value,
            ap (λ (k : IndexKey). value_at index.entries k) (sym (same_key at other same)) ∙ held,
            λ key entry. entry_was counts index.bits key other value count some_was (subst (λ (x : IndexValue). IsEntryOf counts index.bits key other x) (sym v_is) entry),
            λ key entry. subst (λ (x : IndexValue). IsEntryOf counts index.bits key other x) v_is (entry_recounted counts index.bits key other value count some entry),
          )
      by false apart holds = (v, holds, λ key entry. entry, λ key entry. entry)

  -- the same of what was held: it is, as an entry of the same record
  pub now_held : (other : IndexKey) (w : IndexValue) → value_at index.entries other ≡ Some w → (c : ℕ) × (1 ≤ w.count → 1 ≤ c) × (value_at new.entries other ≡ Some (with_count w c))
  now_held other w here = by (is_key at other) refl
    where
      by : (b : Bool) → is_key at other ≡ b → (c : ℕ) × (1 ≤ w.count → 1 ≤ c) × (value_at new.entries other ≡ Some (with_count w c))
      by true same =
          let both : Some value ≡ Some w = sym held ∙ ap (λ (k : IndexKey). value_at index.entries k) (same_key at other same) ∙ here in
          let w_is : value ≡ w = cc in
          (count, λ more. some, ap (λ (k : IndexKey). value_at new.entries k) (sym (same_key at other same)) ∙ sets.here ∙ ap (λ (x : IndexValue). Some (with_count x count)) w_is)
      by false apart = (w.count, λ more. more, sets.each other ∙ ap (λ (b : Bool). cond b (Some (with_count value count)) (value_at index.entries other)) apart ∙ here)

  swaps : (key : List ℕ) (from to : Place) (front behind : List Request) → waiting ≡ front ++ Swap key from to ∷ behind → StandsAt counts after key (last_put key front) from
  swaps key from to front behind split = by (last_put key front) (is.swaps key from to front behind split)
    where
      by : (last : Option Place) → StandsAt counts index key last from → StandsAt counts after key last from
      by (Some last) stands = stands
      by None stands =
          let now = now_held stands.at stands.value stands.there in
          record { at = stands.at; value = with_count stands.value now.0; there = now.2; entry = entry_recounted counts index.bits key stands.at stands.value now.0 (now.1 stands.entry.some) stands.entry; file_is = stands.file_is; at_is = stands.at_is }

  pub recounted_indexed : IsIndexed counts places new waiting
  recounted_indexed = subst (λ (bits : ℕ). IsIndexed counts places (record { bits = bits; entries = new.entries }) waiting) (sym sets.bits) (record {
    queued = is.queued;
    requested = is.requested;
    apart = is.apart;
    swaps = swaps;
    placed = is.placed;
    indexed = λ other v here.
        let was = was_held other v here in
        let entry = is.indexed other was.0 was.1 in
        (entry.0, was.3 entry.0 entry.1);
    single = λ one other v w key here too first second.
        let was = was_held one v here in
        let was_too = was_held other w too in
        is.single one other was.0 was_too.0 key was.1 was_too.1 (was.2 key first) (was_too.2 key second);
    newest = λ key unplaced n a item counted of_key.
        let old = is.newest key unplaced n a item counted of_key in
        let now = now_held old.0 old.1 old.2.there in
        (old.0, with_count old.1 now.0, record { there = now.2; entry = entry_recounted counts index.bits key old.0 old.1 now.0 (now.1 old.2.entry.some) old.2.entry; newest = old.2.newest });
  })
