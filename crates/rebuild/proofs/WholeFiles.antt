-- From the items that were taken to what the files hold.
use Rattle.std.proofs.Common.{◌≡◌, inl, inr, ⊎_elim, ℕ, ◌+◌, ◌-◌, ◌^◌, ◌<◌, true, false, cond, List, [], ◌∷◌, length, take, min, Contains, Option, Some, None, IsSome, slice_index, slice_index_or, refl, sym, ap, subst, ◌∙◌, arith}
use Rattle.std.specs.Prelude.{◌↔◌, count_by, unwrap_or}
use Rattle.std.specs.List.Sorted.{IsStrictlyIncreasing}
use Rattle.std.proofs.lemmas.Bool.{cases_lt}
use Rattle.std.proofs.lemmas.List.{get_or-take, get_or_default, length-take-le}
use Rattle.std.proofs.lemmas.List.Elements.{All-contains, Contains-get_or}
use Rattle.std.proofs.lemmas.List.Sums.{sum_by-append, sum_by-cons}
use Rattle.std.proofs.lemmas.Map.Keys.{non_decreasing_from_sorted, sorted_from_strictly_increasing}
use Rattle.cache_model.specs.declared.faults.Damage.{Damage}
use Rattle.cache_model.specs.declared.files.FileName.{FileName}
use Rattle.cache_model.specs.declared.index.IndexKey.{IndexKey}
use Rattle.cache_model.specs.declared.index.IndexValue.{IndexValue}
use Rattle.cache_model.specs.Files.{Image, file_in, bytes_in}
use Rattle.cache_model.specs.Hash.{hash}
use Rattle.cache_model.specs.Items.{Item, end}
use Rattle.cache_model.specs.DataFiles.{counted_items, IsUndamaged}
use Rattle.cache_model.specs.Images.{log_name, IsCounted, IsFirstDamage, IsMark, IsNewest, IsSound, sequence_of}
use Rattle.cache_model.specs.Numbers.{IsNextFile, IsNextSequence}
use Rattle.cache_model.proofs.Members.{among-map, map-among, among-flat_map, flat_map-among}
use Rattle.tree_index.specs.Index.{Entries}
use Rattle.rebuild.specs.Listing.{AreUndamaged, IsBehind, IsDamageAmong, IsFirstDamageOf}
use Rattle.rebuild.specs.Rebuilt.{IsEntryOf, IsIndexOf, count_in, count_of, is_of}
use Rattle.rebuild.specs.Taking.{AreFiguresOf, Counted, IsEntryAmong, IsIndexAmong, counted_in, counted_of}
use Rattle.rebuild.proofs.Ranks.{same-rank}
use Rattle.rebuild.proofs.Scans.{item_at}

-- the numbers of all data files
abbrev pub AreAllNumbers : Image → List ℕ → Type 0
AreAllNumbers files numbers = (n : ℕ) → (Contains numbers n ↔ IsSome (file_in files (log_name n)))

-- a file that is there has the bytes that are read
there-bytes : (found : Option (List ℕ)) → IsSome found → found ≡ Some (unwrap_or found [])
there-bytes None there = let some : false ≡ true = there in cc
there-bytes (Some bytes) there = refl

-- how many records of a key are among the items of a file
count-placed : (key : List ℕ) (number : ℕ) (placed : List (ℕ × Item)) → count_by (λ (c : Counted). is_of key c.item) (counted_in number placed) ≡ count_by (λ (p : ℕ × Item). is_of key p.1) placed
count-placed key number [] = refl
count-placed key number (one ∷ placed) =
    sum_by-cons (λ (c : Counted). cond (is_of key c.item) 1 0) (item_at number one) (counted_in number placed)
    ∙ ap (λ n. cond (is_of key one.1) 1 0 + n) (count-placed key number placed)
    ∙ sym (sum_by-cons (λ (p : ℕ × Item). cond (is_of key p.1) 1 0) one placed)

-- and among those of several
count-files : (files : Image) (key : List ℕ) (numbers : List ℕ) → count_by (λ (c : Counted). is_of key c.item) (counted_of files numbers) ≡ count_of files numbers key
count-files files key [] = refl
count-files files key (n ∷ numbers) =
    let items : List (ℕ × Item) = counted_items (bytes_in files (log_name n)) in
    sum_by-append (λ (c : Counted). cond (is_of key c.item) 1 0) (counted_in n items) (counted_of files numbers)
    ∙ ap (λ m. m + count_by (λ (c : Counted). is_of key c.item) (counted_of files numbers)) (count-placed key n items)
    ∙ ap (λ m. count_in files key n + m) (count-files files key numbers)
    ∙ sym (sum_by-cons (count_in files key) n numbers)

-- a key has one newest record
pub one-newest : (files : Image) (key : List ℕ) (n m a b : ℕ) (one other : Item) → IsNewest files key n a one → IsNewest files key m b other → (n ≡ m) × (a ≡ b)
one-newest files key n m a b one other first second = same-rank (sequence_of one, n, a) (sequence_of other, m, b) (second.newest n a one first.counted first.of_key) (first.newest m b other second.counted second.of_key)

-- so it has one entry
single-of : (files : Image) (numbers : List ℕ) (bits : ℕ) (key : List ℕ) (one other : IndexKey) (v w : IndexValue) → IsEntryOf files numbers bits key one v → IsEntryOf files numbers bits key other w → one ≡ other
single-of files numbers bits key one other v w a b =
    let same = one-newest files key one.file other.file one.at other.at a.item b.item a.newest b.newest in
    ap (λ n. named n one.file one.at) (a.hashed ∙ sym b.hashed) ∙ ap (λ n. named other.hash n one.at) same.0 ∙ ap (λ n. named other.hash other.file n) same.1
  where
    named : ℕ → ℕ → ℕ → IndexKey
    named hash file at = record { hash = hash; file = file; at = at }

module _ (files : Image) (numbers : List ℕ) (each : AreAllNumbers files numbers) where
  abbrev all : List Counted
  all = counted_of files numbers

  -- what was taken counts
  pub counts : (one : Counted) → Contains all one → IsCounted files one.number one.at one.item
  counts one among =
      let part = among-flat_map (λ m. counted_in m (counted_items (bytes_in files (log_name m)))) numbers one among in
      let image = among-map (item_at part.of) (counted_items (bytes_in files (log_name part.of))) one part.within in
      subst (λ (c : Counted). IsCounted files c.number c.at c.item) image.is
      (record { bytes = bytes_in files (log_name part.of); there = there-bytes (file_in files (log_name part.of)) ((each part.of).0 part.among); counted = image.among })

  -- and all that counts was taken
  pub is-taken : (n a : ℕ) (item : Item) → IsCounted files n a item → Contains all (record { number = n; at = a; item = item })
  is-taken n a item counted =
      let there : IsSome (file_in files (log_name n)) = subst (λ (f : Option (List ℕ)). IsSome f) (sym counted.there) refl in
      let bytes : bytes_in files (log_name n) ≡ counted.bytes = ap (λ (f : Option (List ℕ)). unwrap_or f []) counted.there in
      let items : Contains (counted_items (bytes_in files (log_name n))) (a, item) = subst (λ (b : List ℕ). Contains (counted_items b) (a, item)) (sym bytes) counted.counted in
      flat_map-among (λ m. counted_in m (counted_items (bytes_in files (log_name m)))) numbers n _ ((each n).1 there) (map-among (item_at n) (counted_items (bytes_in files (log_name n))) (a, item) items)

  -- the mark of the files
  pub has-mark : (next mark : ℕ) → AreFiguresOf all next mark → IsMark files mark
  has-mark next mark are = record {
    bound = λ n a m counted. are.bound n a m (is-taken n a (end m) counted);
    reached = ⊎_elim (λ none. inl none) (λ some. inr (some.0, some.1, counts _ some.2)) are.reached;
  }

  -- one above the greatest number of a record, or 1
  pub is-next : (next mark : ℕ) → AreFiguresOf all next mark → IsNextSequence files next
  is-next next mark are = record {
    above = λ n a item key counted of_key. are.above (record { number = n; at = a; item = item }) key (is-taken n a item counted) of_key;
    reached = ⊎_elim (λ first. inl first) (λ some. inr (some.0.number, some.0.at, some.0.item, some.1, counts some.0 some.2, some.3, some.4)) are.reached_next;
  }

  -- one above the greatest number of a data file, or 1
  pub is-next-file : (file : ℕ) → IsBehind numbers file → IsNextFile files file
  is-next-file file behind = record {
    above = λ n there. All-contains (λ k. k < file) numbers n behind.above ((each n).1 there);
    reached = ⊎_elim (λ first. inl first) (λ last. inr ((each (file - 1)).0 last)) behind.reached;
  }

  -- each data file is undamaged
  pub is-sound : AreUndamaged files numbers → IsSound files
  is-sound undamaged n bytes there =
      let some : IsSome (file_in files (log_name n)) = subst (λ (f : Option (List ℕ)). IsSome f) (sym there) refl in
      let is : bytes_in files (log_name n) ≡ bytes = ap (λ (f : Option (List ℕ)). unwrap_or f []) there in
      subst IsUndamaged is (undamaged n ((each n).1 some))

  -- the first of these that has damage is the first of all
  pub first-damage : (damage : Damage) → IsStrictlyIncreasing numbers → IsDamageAmong files numbers damage → IsFirstDamageOf files damage
  first-damage damage ascend among =
      let number = slice_index numbers among.index in
      let id : number ≡ damage.file.id = sym (ap (λ (f : FileName). f.id) among.names.file) in
      subst (λ n. (damage.file ≡ log_name n) × IsFirstDamage files n damage.at damage.kind) id (
        among.names.file,
        record {
          bytes = bytes_in files (log_name number);
          there = there-bytes (file_in files (log_name number)) ((each number).0 (Contains-get_or numbers among.index 0 among.within));
          damage = among.names.is;
          first = λ n other less there.
              let some : IsSome (file_in files (log_name n)) = subst (λ (f : Option (List ℕ)). IsSome f) (sym there) refl in
              let is : bytes_in files (log_name n) ≡ other = ap (λ (f : Option (List ℕ)). unwrap_or f []) there in
              subst IsUndamaged is (among.before n (earlier n less ((each n).1 some)));
        },
      )
    where
      earlier : (n : ℕ) → n < slice_index numbers among.index → Contains numbers n → Contains (take among.index numbers) n
      earlier n less here =
          let j = here.0 in
          let rising = non_decreasing_from_sorted numbers (sorted_from_strictly_increasing numbers ascend) in
          let same : slice_index_or numbers among.index n ≡ slice_index numbers among.index = get_or_default numbers among.index n 0 among.within in
          let before : j < among.index =
          ⊎_elim
          (λ lt. lt)
          (λ le. let order = rising among.index j n le here.1 in absurd (omega (arith, order, same, here.2, less)))
          (cases_lt j among.index)
          in
          let short : length (take among.index numbers) ≡ among.index = length-take-le among.index numbers (omega (arith, among.within)) in
          (j, omega (arith, before, short), get_or-take among.index numbers j n before ∙ here.2)

  -- the newest record among the items is the newest of all
  pub newest-of : (bits : ℕ) (key : List ℕ) (place : IndexKey) (value : IndexValue) → (entry : IsEntryAmong all bits key place value) → IsNewest files key place.file place.at entry.item
  newest-of bits key place value entry = record {
    counted = counts _ entry.among;
    of_key = entry.of_key;
    newest = λ n a other counted of_key. entry.newest (record { number = n; at = a; item = other }) (is-taken n a other counted) of_key;
  }

  -- and its entry is one of the files
  pub entry-of : (bits : ℕ) (key : List ℕ) (place : IndexKey) (value : IndexValue) → IsEntryAmong all bits key place value → IsEntryOf files numbers bits key place value
  entry-of bits key place value entry = record {
    item = entry.item;
    newest = newest-of bits key place value entry;
    hashed = entry.hashed;
    long = entry.long;
    gone = entry.gone;
    many = entry.many ∙ ap (λ n. min n (2 ^ 64 - 1)) (count-files files key numbers);
  }

  -- an index of the items is one of the files
  pub index-of : (bits : ℕ) (entries : Entries) → IsIndexAmong all bits entries → IsIndexOf files numbers bits entries
  index-of bits entries index = record {
    newest = λ place value held. let entry = index.newest place value held in (entry.0, entry-of bits entry.0 place value entry.1);
    whole = λ n a item key counted of_key. let entry = index.whole (record { number = n; at = a; item = item }) key (is-taken n a item counted) of_key in (entry.0, entry.1, entry.2, entry-of bits key entry.0 entry.1 entry.3);
    single = λ key one other v w held a there b. single-of files numbers bits key one other v w a b;
  }
