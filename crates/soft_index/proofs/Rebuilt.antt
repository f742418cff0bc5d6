-- An index that was rebuilt stands for the newest records.
use Rattle.std.proofs.Common.{◌≡◌, ⊎_elim, ℕ, ◌≤◌, true, Bool, cond, List, [], ◌∷◌, ◌++◌, Option, Some, None, Contains, IsSome, refl, sym, ◌∙◌, ap, subst, arith}
use Rattle.std.specs.Prelude.{option_map, sum_by, unwrap_or}
use Rattle.std.specs.Map.{lookup}
use Rattle.std.specs.Str.{bytes_eq}
use Rattle.std.proofs.lemmas.List.Elements.{All-nil}
use Rattle.std.proofs.lemmas.List.Sums.{sum_by-cons}
use Rattle.std.proofs.lemmas.Slice.Eq.{bytes_eq-Decides}
use Rattle.cache_model.specs.declared.files.Place.{Place}
use Rattle.cache_model.specs.declared.index.IndexKey.{IndexKey}
use Rattle.cache_model.specs.declared.index.IndexValue.{IndexValue}
use Rattle.cache_model.specs.Hash.{hash}
use Rattle.cache_model.specs.Files.{Image, file_in, bytes_in}
use Rattle.cache_model.specs.Items.{Item, put, removal, end}
use Rattle.cache_model.specs.DataFiles.{counted_items}
use Rattle.cache_model.specs.Images.{log_name, key_of, IsCounted, IsNewest}
use Rattle.cache_model.proofs.Members.{among-none, among-cases}
use Rattle.file_stats.specs.declared.file_list.Found.{Found}
use Rattle.tree_index.specs.Index.{Index, value_at}
use Rattle.temporary_table.specs.declared.requests.Request.{Request}
use Rattle.temporary_table.specs.declared.requests.Request.TheVariants.{Swap}
use Rattle.temporary_table.specs.Places.{Places, Seat, placed, place_of}
use Rattle.compactor.specs.Counting.{IsNewestBy}
use Rattle.compactor.specs.Indexing.{IsPlaced, IsPut, IsEntryOf, IsIndexed, IsNewestEntry}
use Rattle.compactor.specs.Indexing as parts
use Rattle.rebuild.specs.Rebuilt.{count_in, count_of, is_of, is_removal, IsRebuilt}
use Rattle.rebuild.specs.Rebuilt as rebuilt
use Rattle.rebuild.specs.Rows.{numbers_of}
use Rattle.soft_index.proofs.SingleEntries.{one_counts}

-- the counts of keys

-- no summand is greater than the sum
part_of_sum : {X : Type 0} (f : X → ℕ) (x : X) (xs : List X) → Contains xs x → f x ≤ sum_by f xs
part_of_sum f x [] within = absurd (among-none x within)
part_of_sum f x (one ∷ xs) within =
    ⊎_elim
    (λ first. omega (arith, ap f first, sum_by-cons f one xs))
    (λ later. omega (arith, part_of_sum f x xs later, sum_by-cons f one xs))
    (among-cases one x xs within)

-- a record of a key is one
is_record_of : (key : List ℕ) (item : Item) → key_of item ≡ Some key → is_of key item ≡ true
is_record_of key (put seq until other value) is = let same : other ≡ key = cc in (bytes_eq-Decides other key).1 same
is_record_of key (removal seq other) is = let same : other ≡ key = cc in (bytes_eq-Decides other key).1 same
is_record_of key (end moment) is = let no : None ≡ Some key = is in cc

-- a key with a record that counts in one of the files has some
some_count : (files : Image) (numbers : List ℕ) (key : List ℕ) (n at : ℕ) (item : Item) → Contains numbers n → IsCounted files n at item → key_of item ≡ Some key → 1 ≤ count_of files numbers key
some_count files numbers key n at item among counted of_key =
    let bytes : bytes_in files (log_name n) ≡ counted.bytes = ap (λ (found : Option (List ℕ)). unwrap_or found []) counted.there in
    let within : Contains (counted_items (bytes_in files (log_name n))) (at, item) = subst (λ (l : List ℕ). Contains (counted_items l) (at, item)) (sym bytes) counted.counted in
    let here = part_of_sum (λ (one : ℕ × Item). cond (is_of key one.1) 1 0) (at, item) (counted_items (bytes_in files (log_name n))) within in
    let all = part_of_sum (count_in files key) n numbers among in
    omega (arith, subst (λ (b : Bool). cond b 1 0 ≤ count_in files key n) (is_record_of key item of_key) here, all)

-- the entries

newest_by : (files : Image) (key : List ℕ) (n at : ℕ) (item : Item) → IsNewest files key n at item → IsNewestBy (IsCounted files) key n at item
newest_by files key n at item is = record { counted = is.counted; of_key = is.of_key; newest = is.newest }

same_removal : (item : Item) → is_removal item ≡ parts.is_removal item
same_removal (put seq until key value) = refl
same_removal (removal seq key) = refl
same_removal (end moment) = refl

module _ (files : Image) (bits : ℕ) (index : Index) (found : Found) (same_bits : index.bits ≡ bits) (is : IsRebuilt files bits index.entries found) where
  -- an entry that was rebuilt is that of a key's newest record
  abbrev entry_by : (key : List ℕ) (at : IndexKey) (value : IndexValue) → rebuilt.IsEntryOf files (numbers_of found.files) bits key at value → IsEntryOf (IsCounted files) index.bits key at value
  entry_by key at value entry =
      let there : IsSome (file_in files (log_name at.file)) = subst (λ (f : Option (List ℕ)). IsSome f) (sym entry.newest.counted.there) refl in
      record {
        hash_is = entry.hashed ∙ ap (λ (b : ℕ). hash b key) (sym same_bits);
        placed = record { item = entry.item; counted = entry.newest.counted; of_key = entry.newest.of_key; long = entry.long; gone_is = entry.gone ∙ same_removal entry.item };
        some = omega (arith, entry.many, some_count files (numbers_of found.files) key at.file at.at entry.item ((is.rows.each at.file).1 there) entry.newest.counted entry.newest.of_key);
      }

  -- whatever key's record an entry is, it is that of the newest
  own_entry : (key : List ℕ) (at : IndexKey) (value : IndexValue) → value_at index.entries at ≡ Some value → IsEntryOf (IsCounted files) index.bits key at value → rebuilt.IsEntryOf files (numbers_of found.files) bits key at value
  own_entry key at value there entry =
      let own = is.index.newest at value there in
      let same : entry.placed.item ≡ own.1.item = one_counts files at.file at.at entry.placed.item own.1.item entry.placed.counted own.1.newest.counted in
      let keys : Some key ≡ Some own.0 = sym entry.placed.of_key ∙ ap key_of same ∙ own.1.newest.of_key in
      let one : own.0 ≡ key = cc in
      subst (λ (k : List ℕ). rebuilt.IsEntryOf files (numbers_of found.files) bits k at value) one own.1

  -- With it, and where no key has a place and nothing waits, the parts stand for the records of the files.
  pub indexed_rebuilt : (places : Places) (waiting : List Request) → places.seats ≡ [] → waiting ≡ [] → IsIndexed (IsCounted files) places index waiting
  indexed_rebuilt places waiting unplaced empty = subst (λ (w : List Request). IsIndexed (IsCounted files) places index w) (sym empty) (record {
    queued = λ key. ap (λ (seat : Seat). option_map (λ (s : Place × Bool). s.0) seat) (nowhere key);
    requested = All-nil (IsPut (IsCounted files));
    apart = tt;
    swaps = λ key from to before after split. absurd (none_split before after (Swap key from to) split);
    placed = λ key place gone at. let no : None ≡ Some (place, gone) = sym (nowhere key) ∙ at in cc;
    indexed = λ at value there. let own = is.index.newest at value there in (own.0, entry_by own.0 at value own.1);
    single = λ one other v w key there here first second. is.index.single key one other v w there (own_entry key one v there first) here (own_entry key other w here second);
    newest = λ key away n a item counted of_key.
        let own = is.index.whole n a item key counted of_key in
        (own.0, own.1, record { there = own.2; entry = entry_by key own.0 own.1 own.3; newest = newest_by files key own.0.file own.0.at own.3.item own.3.newest });
  })
    where
      none_split : (before after : List Request) (one : Request) → [] ≡ before ++ one ∷ after → ⊥
      none_split [] after one split = cc
      none_split (first ∷ before) after one split = cc

      nowhere : (key : List ℕ) → place_of places key ≡ None
      nowhere key = ap (λ (seats : List (List ℕ × Seat)). placed (lookup (λ other. bytes_eq other key) seats)) unplaced
