-- What the index holds once a request was applied: the parts stand for the same records, and the counts went on.
use Rattle.std.proofs.Common.{◌≡◌, ℕ, ◌<◌, ◌≤◌, Bool, true, false, List, [], ◌∷◌, Option, Some, None, refl, sym, ◌∙◌, ap, subst, arith}
use Rattle.std.specs.Prelude.{cond, nat_lt, if◌then◌else◌}
use Rattle.std.specs.Str.{bytes_eq}
use Rattle.std.proofs.lemmas.Bool.Decides.{nat_tests}
use Rattle.std.proofs.lemmas.List.Elements.{All-head}
use Rattle.std.proofs.lemmas.Slice.Eq.{bytes_eq-Decides}
use Rattle.cache_model.specs.declared.files.Place.{Place}
use Rattle.cache_model.specs.declared.index.IndexKey.{IndexKey}
use Rattle.cache_model.specs.declared.index.IndexValue.{IndexValue}
use Rattle.cache_model.specs.Files.{Image}
use Rattle.cache_model.specs.Hash.{hash}
use Rattle.record_format.specs.Meaning.{own_item}
use Rattle.temporary_table.specs.declared.requests.Request.{Request}
use Rattle.temporary_table.specs.declared.requests.Request.TheVariants.{Set, Swap, Drop, Less}
use Rattle.temporary_table.specs.Places.{Places}
use Rattle.temporary_table.specs.Queue as queue
use Rattle.tree_index.specs.Index.{Index, AreOrdered, Sets, entries_of, value_at}
use Rattle.compactor.specs.declared.finding.FoundEntry.{FoundEntry}
use Rattle.compactor.specs.Counting.{Counts, AreThere}
use Rattle.compactor.specs.Entering.{Row, Drops, Puts, Settles, count_behind, entry_key, one_less, one_more, recounted, row_by, stale_by, stands_at, swapped}
use Rattle.compactor.specs.Finding.{IsEntryFor}
use Rattle.compactor.specs.Indexing.{is_removal, HasEntryAt, IsCopied, IsPlaced, IsPut, IsEntryOf, IsIndexed, IsPutToFile}
use Rattle.compactor.specs.Raising.{HasCount, raised}
use Rattle.compactor.proofs.Entries.{held, key_itself, same_key}
use Rattle.compactor.proofs.Looked.{found_is, none_is}
use Rattle.compactor.proofs.Passed.{passed, recounted_indexed, with_count}
use Rattle.compactor.proofs.Raised.{count_of, counted, moved_to, put_counted, recounted_counted}
use Rattle.compactor.proofs.Reindexed.{same_bits}
use Rattle.compactor.proofs.Rows.{placed_once}
use Rattle.compactor.proofs.Standing.{stands}
use Rattle.compactor.proofs.StillIndexed.{lone, put_indexed}

-- counts

count_some : (found : Option FoundEntry) → 1 ≤ count_behind found
count_some None = omega arith
count_some (Some found) = omega arith

more_some : (count : ℕ) → 1 ≤ one_more count
more_some count = omega arith

less_some : (count : ℕ) → 1 ≤ count → 1 ≤ one_less count
less_some count some = by (nat_lt 1 count) refl
  where
    by : (b : Bool) → nat_lt 1 count ≡ b → 1 ≤ one_less count
    by true more = let above : 1 < count = grind (arith, nat_tests) in rw more (omega (arith, above))
    by false least = rw least some

behind_more : (found : Option FoundEntry) → count_behind found ≡ one_more (count_of found)
behind_more None = refl
behind_more (Some found) = refl

-- one more for the key of a request that raises, and one less for that of one that lowers
raised_named : (many less : ℕ) (key k : List ℕ) (count : ℕ) → moved_to key many k count ≡ (if bytes_eq key k then many else if false then less else count)
raised_named many less key k count = by (bytes_eq key k)
  where
    by : (b : Bool) → cond b many count ≡ (if b then many else if false then less else count)
    by true = refl
    by false = refl

module _ (counts : Counts) (files : Image) (places : Places) (index : Index) (rest : List Request) (there : AreThere counts files) (ordered : AreOrdered index.entries) where
  -- what an entry that is found is of
  module _ (request : Request) (is : IsIndexed counts places index (request ∷ rest)) (key : List ℕ) where
    own_of : (f : FoundEntry) → IsEntryFor files key (entries_of (hash index.bits key) index.entries) (Some f) → IsEntryOf counts index.bits key f.at f.value
    own_of f among = (found_is counts files places index (request ∷ rest) is there ordered key f.at f.value (own_item f.item) among.0 among.1 among.2).0

    -- what it counts goes on as what the key has
    step_on : (found : Option FoundEntry) → IsEntryFor files key (entries_of (hash index.bits key) index.entries) found → (step : ℕ → ℕ) (many : ℕ) → many ≡ step (count_of found)
        → (k : List ℕ) (count : ℕ) → HasCount counts index k count → moved_to key many k count ≡ moved_to key (step count) k count
    step_on found finds step many many_is k count has = by (bytes_eq key k) refl
      where
        by : (b : Bool) → bytes_eq key k ≡ b → moved_to key many k count ≡ moved_to key (step count) k count
        by true named =
            let same : key ≡ k = (bytes_eq-Decides key k).0 named in
            let count_is : count ≡ count_of found = counted counts files places index (request ∷ rest) is there ordered key found finds count (subst (λ (l : List ℕ). HasCount counts index l count) (sym same) has) in
            ap (λ (n : ℕ). cond (bytes_eq key k) n count) (many_is ∙ ap step (sym count_is))
        by false unlike = ap (λ (b : Bool). cond b many count) unlike ∙ ap (λ (b : Bool). cond b (step count) count) (sym unlike)

    held_of : (f : FoundEntry) → IsEntryFor files key (entries_of (hash index.bits key) index.entries) (Some f) → value_at index.entries f.at ≡ Some f.value
    held_of f among = (held index.entries ordered (hash index.bits key) (f.at, f.value) among.0).0

  -- a Swap finds its key where it names it
  module _ (key : List ℕ) (from to : Place) (is : IsIndexed counts places index (Swap key from to ∷ rest)) where
    stood : HasEntryAt counts index key from
    stood = is.swaps key from to [] rest refl

    not_none : IsEntryFor files key (entries_of (hash index.bits key) index.entries) None → ⊥
    not_none none = none_is counts files places index (Swap key from to ∷ rest) is there ordered key none stood.at stood.value stood.there stood.entry

    found_there : (f : FoundEntry) → IsEntryFor files key (entries_of (hash index.bits key) index.entries) (Some f) → stands_at f.at.file f.at.at from ≡ true
    found_there f among =
        let same : f.at ≡ stood.at = same_key f.at stood.at (lone counts files places index (Swap key from to ∷ rest) is there ordered key (Some f) among stood.at stood.value stood.there stood.entry) in
        stands f.at.file f.at.at from (ap (λ (k : IndexKey). k.file) same ∙ stood.file_is) (ap (λ (k : IndexKey). k.at) same ∙ stood.at_is)

    abbrev entry_of : FoundEntry → IndexValue
    entry_of f = record { length = to.length; count = one_more f.value.count; gone = f.value.gone }

    moved : (f : FoundEntry) → IsEntryFor files key (entries_of (hash index.bits key) index.entries) (Some f) → swapped index.bits key from to f ≡ (entry_key index.bits key to, entry_of f)
    moved f among = ap (λ (b : Bool). cond b (entry_key index.bits key to, entry_of f) (recounted f (one_more f.value.count))) (found_there f among)

    own_moved : (f : FoundEntry) → IsEntryFor files key (entries_of (hash index.bits key) index.entries) (Some f) → IsEntryOf counts index.bits key (entry_key index.bits key to) (entry_of f)
    own_moved f among =
        let copied : IsCopied counts key from to = All-head (IsPut counts) (Swap key from to) rest is.requested in
        let own = stood.entry.placed in
        let same_value : Some f.value ≡ Some stood.value = sym (held_of (Swap key from to) is key f among) ∙ ap (λ (k : IndexKey). value_at index.entries k) (same_key f.at stood.at (lone counts files places index (Swap key from to ∷ rest) is there ordered key (Some f) among stood.at stood.value stood.there stood.entry)) ∙ stood.there in
        let value : f.value ≡ stood.value = cc in
        let counted_there : counts from.file from.at own.item = subst (λ (n : ℕ). counts n from.at own.item) stood.file_is (subst (λ (n : ℕ). counts stood.at.file n own.item) stood.at_is own.counted) in
        let same = placed_once counts files there from.file from.at own.item copied.item key key counted_there own.of_key copied.was copied.of_key in
        record {
          hash_is = refl;
          placed = record {
            item = copied.item;
            counted = copied.counted;
            of_key = copied.of_key;
            long = copied.long;
            gone_is = ap (λ (v : IndexValue). v.gone) value ∙ own.gone_is ∙ ap is_removal same;
          };
          some = more_some f.value.count;
        }

  module _ (mid new : Index) (new_places : Places) where
    -- what is put for a request, and what is stale then
    abbrev PutsBy : Request → Option FoundEntry → Type 0
    PutsBy request found = Puts (row_by index.bits request found) index mid

    abbrev DropsBy : Request → Option FoundEntry → Type 0
    DropsBy request found = Drops (stale_by found (row_by index.bits request found)) mid new

    -- an entry with another count is stale for none
    recounted_sets : (f : FoundEntry) (count : ℕ) → Puts (Some (recounted f count)) index mid → Drops (stale_by (Some f) (Some (recounted f count))) mid new → Sets f.at (Some (with_count f.value count)) index new
    recounted_sets f count puts drops =
        let none : Drops None mid new = subst (λ (b : Bool). Drops (cond b None (Some (f.at, f.value))) mid new) (key_itself f.at) drops in
        subst (λ (i : Index). Sets f.at (Some (with_count f.value count)) index i) (sym none) puts

    pub applied_indexed : (request : Request) (found : Option FoundEntry) → IsIndexed counts places index (request ∷ rest) → IsPutToFile request → IsEntryFor files (queue.key_of request) (entries_of (hash index.bits (queue.key_of request)) index.entries) found
        → PutsBy request found → DropsBy request found → Settles request places new_places → IsIndexed counts new_places new rest
    applied_indexed (Set key to gone) found is to_file finds puts drops settles =
        let put : IsPlaced counts key to gone = All-head (IsPut counts) (Set key to gone) rest is.requested in
        put_indexed counts files places index (Set key to gone) rest is there ordered key to refl refl found finds (record { length = to.length; count = count_behind found; gone = gone })
        (record { hash_is = refl; placed = put; some = count_some found }) mid new puts drops new_places settles (same_bits (row_by index.bits (Set key to gone) found) _ index mid new puts drops)
    applied_indexed (Swap key from to) None is to_file finds puts drops settles = absurd (not_none key from to is finds)
    applied_indexed (Swap key from to) (Some f) is to_file finds puts drops settles =
        let there_put = subst (λ (row : Row). Puts (Some row) index mid) (moved key from to is f finds) puts in
        let there_dropped = subst (λ (row : Row). Drops (stale_by (Some f) (Some row)) mid new) (moved key from to is f finds) drops in
        put_indexed counts files places index (Swap key from to) rest is there ordered key to refl refl (Some f) finds (entry_of key from to is f) (own_moved key from to is f finds) mid new there_put there_dropped new_places settles
        (same_bits (row_by index.bits (Swap key from to) (Some f)) _ index mid new puts drops)
    applied_indexed (Drop key from) found is to_file finds puts drops settles = absurd to_file
    applied_indexed (Less key) None is to_file finds puts drops settles =
        subst (λ (p : Places). IsIndexed counts p new rest) (sym settles) (subst (λ (i : Index). IsIndexed counts places i rest) (sym (drops ∙ puts)) (passed counts places index (Less key) rest refl is))
    applied_indexed (Less key) (Some f) is to_file finds puts drops settles =
        let own = own_of (Less key) is key f finds in
        subst (λ (p : Places). IsIndexed counts p new rest) (sym settles)
        (recounted_indexed counts places index rest (passed counts places index (Less key) rest refl is) f.at f.value (one_less f.value.count) (held_of (Less key) is key f finds) (less_some f.value.count own.some) new (recounted_sets f (one_less f.value.count) puts drops))

    pub applied_raised : (request : Request) (found : Option FoundEntry) → IsIndexed counts places index (request ∷ rest) → IsPutToFile request → IsEntryFor files (queue.key_of request) (entries_of (hash index.bits (queue.key_of request)) index.entries) found
        → PutsBy request found → DropsBy request found → (k : List ℕ) (count : ℕ) → HasCount counts index k count → HasCount counts new k (raised request k count)
    applied_raised (Set key to gone) found is to_file finds puts drops k count has =
        let put : IsPlaced counts key to gone = All-head (IsPut counts) (Set key to gone) rest is.requested in
        let now = put_counted counts files places index (Set key to gone ∷ rest) is there ordered key found finds to (record { length = to.length; count = count_behind found; gone = gone })
        (record { hash_is = refl; placed = put; some = count_some found }) mid new puts drops (same_bits (row_by index.bits (Set key to gone) found) _ index mid new puts drops) k count has
        in
        subst (λ (n : ℕ). HasCount counts new k n) (step_on (Set key to gone) is key found finds one_more (count_behind found) (behind_more found) k count has ∙ raised_named (one_more count) (one_less count) key k count) now
    applied_raised (Swap key from to) None is to_file finds puts drops k count has = absurd (not_none key from to is finds)
    applied_raised (Swap key from to) (Some f) is to_file finds puts drops k count has =
        let there_put = subst (λ (row : Row). Puts (Some row) index mid) (moved key from to is f finds) puts in
        let there_dropped = subst (λ (row : Row). Drops (stale_by (Some f) (Some row)) mid new) (moved key from to is f finds) drops in
        let now = put_counted counts files places index (Swap key from to ∷ rest) is there ordered key (Some f) finds to (entry_of key from to is f) (own_moved key from to is f finds) mid new there_put there_dropped
        (same_bits (row_by index.bits (Swap key from to) (Some f)) _ index mid new puts drops) k count has
        in
        subst (λ (n : ℕ). HasCount counts new k n) (step_on (Swap key from to) is key (Some f) finds one_more (one_more f.value.count) refl k count has ∙ raised_named (one_more count) (one_less count) key k count) now
    applied_raised (Drop key from) found is to_file finds puts drops k count has = absurd to_file
    applied_raised (Less key) None is to_file finds puts drops k count has =
        subst (λ (i : Index). HasCount counts i k (moved_to key (one_less count) k count)) (sym (drops ∙ puts))
        (subst (λ (n : ℕ). HasCount counts index k n) (still ∙ step_on (Less key) is key None finds one_less 0 refl k count has) has)
      where
        still : count ≡ moved_to key 0 k count
        still = by (bytes_eq key k) refl
          where
            by : (b : Bool) → bytes_eq key k ≡ b → count ≡ moved_to key 0 k count
            by true named =
                let same : key ≡ k = (bytes_eq-Decides key k).0 named in
                counted counts files places index (Less key ∷ rest) is there ordered key None finds count (subst (λ (l : List ℕ). HasCount counts index l count) (sym same) has) ∙ ap (λ (b : Bool). cond b 0 count) (sym named)
            by false unlike = ap (λ (b : Bool). cond b 0 count) (sym unlike)
    applied_raised (Less key) (Some f) is to_file finds puts drops k count has =
        let own = own_of (Less key) is key f finds in
        subst (λ (n : ℕ). HasCount counts new k n) (step_on (Less key) is key (Some f) finds one_less (one_less f.value.count) refl k count has)
        (recounted_counted counts files places index (Less key ∷ rest) is there ordered key f.at f.value (one_less f.value.count) (held_of (Less key) is key f finds) (less_some f.value.count own.some) own new (recounted_sets f (one_less f.value.count) puts drops) k count has)
