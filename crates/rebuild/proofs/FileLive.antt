-- The live bytes of a file, by its items alone.
use Rattle.std.proofs.Common.{◌≡◌, ◌⊎◌, inl, inr, ⊎_elim, ℕ, ◌+◌, ◌<◌, ◌==◌, ◌&&◌, Bool, true, false, cond, List, [], ◌∷◌, length, Contains, Option, Some, None, is_some, refl, sym, ap, subst, ◌∙◌, arith}
use Rattle.std.specs.Prelude.{filter, sum_by, if◌then◌else◌}
use Rattle.std.specs.List.{AllByRecursion}
use Rattle.std.specs.List.Sorted.{IsStrictlyIncreasing, IsStrictlySortedBy}
use Rattle.std.specs.Ordering.{nat_cmp}
use Rattle.std.specs.declared.cmp.Ordering.TheVariants.{Less}
use Rattle.std.proofs.lemmas.Bool.Decides.{nat_tests}
use Rattle.std.proofs.lemmas.Cmp.{ranked}
use Rattle.std.proofs.lemmas.List.Sums.{sum_by-append, sum_by-cons}
use Rattle.std.proofs.lemmas.Map.Keys.{sorted_from_strictly_increasing, sorted_head, sorted_tail}
use Rattle.cache_model.specs.declared.index.IndexKey.{IndexKey}
use Rattle.cache_model.specs.declared.index.IndexValue.{IndexValue}
use Rattle.cache_model.specs.Files.{Image, bytes_in}
use Rattle.cache_model.specs.Hash.{hash}
use Rattle.cache_model.specs.Items.{Item, spelling}
use Rattle.cache_model.specs.DataFiles.{counted_items}
use Rattle.cache_model.specs.Images.{log_name, IsNewest, key_of}
use Rattle.cache_model.proofs.Members.{among-none, among-cases, among-flat_map, among-map, flat_map-among, map-among}
use Rattle.tree_index.specs.Index.{Entries, value_at}
use Rattle.rebuild.specs.Rebuilt.{HasLive, IsLive}
use Rattle.rebuild.specs.Taking.{Counted, IsIndexAmong, counted_in, counted_of, has_entry, live_of, live_part}
use Rattle.rebuild.proofs.Indexing.{same-item}
use Rattle.rebuild.proofs.LiveBytes.{live-none}
use Rattle.rebuild.proofs.Scans.{item_at}
use Rattle.rebuild.proofs.WholeFiles.{AreAllNumbers, newest-of, one-newest}

-- a sum of some parts is that of the elements that pass
sum-filter : (test : ℕ × Item → Bool) (f : ℕ × Item → ℕ) (items : List (ℕ × Item)) → sum_by (λ one. cond (test one) (f one) 0) items ≡ sum_by f (filter test items)
sum-filter test f [] = refl
sum-filter test f (one ∷ items) = sum_by-cons (λ (x : ℕ × Item). cond (test x) (f x) 0) one items ∙ by (test one) (sum-filter test f items)
  where
    by : (b : Bool) → sum_by (λ (x : ℕ × Item). cond (test x) (f x) 0) items ≡ sum_by f (filter test items) → cond b (f one) 0 + sum_by (λ (x : ℕ × Item). cond (test x) (f x) 0) items ≡ sum_by f (cond b (one ∷ filter test items) (filter test items))
    by true rest = ap (λ n. f one + n) rest ∙ sym (sum_by-cons f one (filter test items))
    by false rest = omega (arith, rest)

-- the number in front of some that ascend is below each of them
below-rest : (number : ℕ) (numbers : List ℕ) (n : ℕ) → AllByRecursion (λ y. nat_cmp number y ≡ Less) numbers → Contains numbers n → number < n
below-rest number [] n behind among = absurd (among-none n among)
below-rest number (m ∷ numbers) n behind among =
    ⊎_elim
    (λ same. let less : number < m = ranked number m Less (sym behind.0) in omega (arith, less, same))
    (λ later. below-rest number numbers n behind.1 later)
    (among-cases m n numbers among)

-- what counts in some files is of one of them
of-file : (files : Image) (numbers : List ℕ) (one : Counted) → Contains (counted_of files numbers) one → Contains numbers one.number
of-file files numbers one among =
    let part = among-flat_map (λ n. counted_in n (counted_items (bytes_in files (log_name n)))) numbers one among in
    let image = among-map (item_at part.of) (counted_items (bytes_in files (log_name part.of))) one part.within in
    subst (λ (c : Counted). Contains numbers c.number) image.is part.among

module _ (files : Image) (bits : ℕ) (entries : Entries) (number : ℕ) where
  abbrev items : List (ℕ × Item)
  items = counted_items (bytes_in files (log_name number))

  -- whether an item of the file has an entry
  abbrev pub is_kept : ℕ × Item → Bool
  is_kept one = has_entry bits entries number one.0 (key_of one.1)

  -- what counts in a file
  abbrev of_number : ℕ → List Counted
  of_number n = counted_in n (counted_items (bytes_in files (log_name n)))

  -- how many bytes the kept items of the file have
  abbrev own : ℕ
  own = sum_by (λ one. cond (is_kept one) (length (spelling one.1)) 0) items

  -- the live bytes of the file's own items
  live-own : (placed : List (ℕ × Item)) → live_of bits entries number (counted_in number placed) ≡ sum_by (λ one. cond (is_kept one) (length (spelling one.1)) 0) placed
  live-own [] = refl
  live-own (one ∷ placed) =
      let same : (number == number) ≡ true = grind (arith, nat_tests) in
      let here : live_part bits entries number (item_at number one) ≡ cond (is_kept one) (length (spelling one.1)) 0 = ap (λ b. if b && is_kept one then length (spelling one.1) else 0) same in
      sum_by-cons (live_part bits entries number) (item_at number one) (counted_in number placed)
      ∙ ap (λ n. n + live_of bits entries number (counted_in number placed)) here
      ∙ ap (λ n. cond (is_kept one) (length (spelling one.1)) 0 + n) (live-own placed)
      ∙ sym (sum_by-cons (λ (one : ℕ × Item). cond (is_kept one) (length (spelling one.1)) 0) one placed)

  -- are those of all files
  live-files : (numbers : List ℕ) → IsStrictlySortedBy nat_cmp numbers → Contains numbers number → live_of bits entries number (counted_of files numbers) ≡ sum_by (λ one. cond (is_kept one) (length (spelling one.1)) 0) items
  live-files [] ascend among = absurd (among-none number among)
  live-files (n ∷ numbers) ascend among = by (among-cases n number numbers among) (λ later. live-files numbers (sorted_tail nat_cmp n numbers ascend) later)
    where
      head : AllByRecursion (λ y. nat_cmp n y ≡ Less) numbers
      head = sorted_head nat_cmp n numbers ascend

      parts : live_of bits entries number (counted_of files (n ∷ numbers)) ≡ live_of bits entries number (of_number n) + live_of bits entries number (counted_of files numbers)
      parts = sum_by-append (live_part bits entries number) (of_number n) (counted_of files numbers)

      by : (n ≡ number) ⊎ Contains numbers number → (Contains numbers number → live_of bits entries number (counted_of files numbers) ≡ own) → live_of bits entries number (counted_of files (n ∷ numbers)) ≡ own
      by (inl same) rest =
          let here : live_of bits entries number (of_number n) ≡ own = subst (λ m. live_of bits entries number (counted_in m (counted_items (bytes_in files (log_name m)))) ≡ own) (sym same) (live-own items) in
          let none = live-none bits number entries (counted_of files numbers) (λ one within is. let above = below-rest n numbers one.number head (of-file files numbers one within) in omega (arith, above, same, is)) in
          parts ∙ omega (arith, here, none)
      by (inr later) rest =
          let above = below-rest n numbers number head later in
          let none = live-none bits number entries (of_number n) (λ one within is. let image = among-map (item_at n) (counted_items (bytes_in files (log_name n))) one within in omega (arith, above, ap (λ (c : Counted). c.number) image.is, is)) in
          parts ∙ omega (arith, none, rest later)

module _ (files : Image) (numbers : List ℕ) (bits : ℕ) (entries : Entries) (number : ℕ) (each : AreAllNumbers files numbers) (among : Contains numbers number) (index : IsIndexAmong (counted_of files numbers) bits entries) where
  -- an item of the file was taken
  item-taken : (one : ℕ × Item) → Contains (counted_items (bytes_in files (log_name number))) one → Contains (counted_of files numbers) (item_at number one)
  item-taken one within = flat_map-among (λ n. counted_in n (counted_items (bytes_in files (log_name n)))) numbers number (item_at number one) among (map-among (item_at number) (counted_items (bytes_in files (log_name number))) one within)

  -- one that has an entry is the newest of its key
  kept-live : (one : ℕ × Item) → Contains (counted_items (bytes_in files (log_name number))) one → is_kept files bits entries number one ≡ true → IsLive files number one
  kept-live one within kept = by_key (key_of one.1) refl kept
    where
      live_by : (place : IndexKey) (value : IndexValue) → value_at entries place ≡ Some value → place.file ≡ number → place.at ≡ one.0 → IsLive files number one
      live_by place value held file at =
          let entry = index.newest place value held in
          let newest = newest-of files numbers each bits entry.0 place value entry.1 in
          let same = same-item (counted_of files numbers) index.apart _ (item_at number one) entry.1.among (item-taken one within) (file, at) in
          (entry.0, subst (λ (c : Counted). IsNewest files entry.0 c.number c.at c.item) same newest)

      by_value : (place : IndexKey) (found : Option IndexValue) → value_at entries place ≡ found → place.file ≡ number → place.at ≡ one.0 → is_some found ≡ true → IsLive files number one
      by_value place None is file at some = cc
      by_value place (Some value) is file at some = live_by place value is file at

      by_key : (found : Option (List ℕ)) → key_of one.1 ≡ found → has_entry bits entries number one.0 found ≡ true → IsLive files number one
      by_key None is has = cc
      by_key (Some key) is has = by_value (record { hash = hash bits key; file = number; at = one.0 }) (value_at entries (record { hash = hash bits key; file = number; at = one.0 })) refl refl refl has

  -- and the newest of its key has an entry
  live-kept : (one : ℕ × Item) → Contains (counted_items (bytes_in files (log_name number))) one → IsLive files number one → is_kept files bits entries number one ≡ true
  live-kept one within live =
      let key : List ℕ = live.0 in
      let entry = index.whole (item_at number one) key (item-taken one within) live.1.of_key in
      let place : IndexKey = entry.0 in
      let newest = newest-of files numbers each bits key place entry.1 entry.3 in
      let same = one-newest files key place.file number place.at one.0 entry.3.item one.1 newest live.1 in
      let there : value_at entries (record { hash = hash bits key; file = number; at = one.0 }) ≡ Some entry.1 =
      ap (λ n. value_at entries (record { hash = n; file = number; at = one.0 })) (sym entry.3.hashed)
      ∙ ap (λ n. value_at entries (record { hash = place.hash; file = n; at = one.0 })) (sym same.0)
      ∙ ap (λ n. value_at entries (record { hash = place.hash; file = place.file; at = n })) (sym same.1)
      ∙ entry.2
      in
      ap (λ found. has_entry bits entries number one.0 found) live.1.of_key ∙ ap (λ (o : Option IndexValue). is_some o) there

  -- so the test of entries tells which items are live
  pub has-live : (live : ℕ) → IsStrictlyIncreasing numbers → live ≡ live_of bits entries number (counted_of files numbers) → HasLive files number live
  has-live live ascend is = record {
    is_live = is_kept files bits entries number;
    just = λ one within. (kept-live one within, live-kept one within);
    adds_up = is ∙ live-files files bits entries number numbers (sorted_from_strictly_increasing numbers ascend) among ∙ sum-filter (is_kept files bits entries number) (λ one. length (spelling one.1)) (counted_items (bytes_in files (log_name number)));
  }
