-- The live bytes of the files go along with the entries of the index.
use Rattle.std.proofs.Common.{◌≡◌, ◌⊎◌, inl, inr, ℕ, ◌+◌, ◌≤◌, ◌==◌, Bool, true, false, List, [], ◌∷◌, Contains, All, length, Option, Some, None, unwrap_or, refl, sym, ◌∙◌, ap, subst, arith}
use Rattle.std.specs.Prelude.{cond, map, is_some, option_and_then, sum_by}
use Rattle.std.proofs.lemmas.Bool.Decides.{nat_tests}
use Rattle.std.proofs.lemmas.List.Elements.{All-map, All-weaker}
use Rattle.std.proofs.lemmas.List.Sums.{sum_by-cons, sum_by-le-sum_by}
use Rattle.cache_model.specs.declared.files.FileCount.{FileCount}
use Rattle.cache_model.specs.declared.index.IndexKey.{IndexKey}
use Rattle.cache_model.specs.declared.index.IndexValue.{IndexValue}
use Rattle.cache_model.specs.Files.{bytes_in}
use Rattle.cache_model.specs.Hash.{hash}
use Rattle.cache_model.specs.Items.{Item, spelling}
use Rattle.cache_model.specs.Images.{log_name, key_of}
use Rattle.cache_model.proofs.Members.{among-none, among-here, among-later, among-cases}
use Rattle.file_stats.specs.Figures.{grown, grown_by, numbers_of, shrunk, shrunk_by}
use Rattle.tree_index.specs.Index.{Index, Sets, is_key, value_at}
use Rattle.compactor.specs.Counting.{Kept, counts_in}
use Rattle.compactor.specs.Entering.{Row, Drops, Puts, fresh_by, with_dead, with_live}
use Rattle.compactor.specs.Figuring.{IsFigured, StandApart, has_entry, item_bytes, items_of, live_in, live_part, sizes_of}
use Rattle.compactor.specs.Indexing.{IsEntryOf}
use Rattle.compactor.proofs.Entries.{same_key}

-- sums

sum-same : (f g : ℕ × Item → ℕ) (items : List (ℕ × Item)) → ((one : ℕ × Item) → Contains items one → g one ≡ f one) → sum_by g items ≡ sum_by f items
sum-same f g [] same = refl
sum-same f g (first ∷ items) same =
    sum_by-cons g first items
    ∙ ap (λ n. n + sum_by g items) (same first (among-here first items))
    ∙ ap (λ n. f first + n) (sum-same f g items (λ one among. same one (among-later first one items among)))
    ∙ sym (sum_by-cons f first items)

-- where the part of one item alone differs, the sums differ by that
sum-flip : (f g : ℕ × Item → ℕ) (items : List (ℕ × Item)) (one : ℕ × Item) → StandApart items → Contains items one → ((other : ℕ × Item) → Contains items other → (other.0 ≡ one.0 → ⊥) → g other ≡ f other)
    → sum_by g items + f one ≡ sum_by f items + g one
sum-flip f g [] one apart among same = absurd (among-none one among)
sum-flip f g (first ∷ items) one apart among same = by (among-cases first one items among) (λ later. sum-flip f g items one apart.1 later (λ other there. same other (among-later first other items there)))
  where
    heads : sum_by g (first ∷ items) + f one ≡ (g first + sum_by g items) + f one
    heads = ap (λ n. n + f one) (sum_by-cons g first items)

    tails : (f first + sum_by f items) + g one ≡ sum_by f (first ∷ items) + g one
    tails = ap (λ n. n + g one) (sym (sum_by-cons f first items))

    by : (first ≡ one) ⊎ Contains items one → (Contains items one → sum_by g items + f one ≡ sum_by f items + g one) → sum_by g (first ∷ items) + f one ≡ sum_by f (first ∷ items) + g one
    by (inl is) rest =
        let others = sum-same f g items (λ other there. same other (among-later first other items there) (λ place. apart.0 other there (place ∙ sym (ap (λ (c : ℕ × Item). c.0) is)))) in
        heads ∙ omega (arith, others, ap f is, ap g is) ∙ tails
    by (inr later) rest =
        let differs = λ (place : first.0 ≡ one.0). apart.0 one later (sym place) in
        heads ∙ omega (arith, rest later, same first (among-here first items) differs) ∙ tails

-- no more bytes of a file are live than its items have
live_most : (index : Index) (number : ℕ) (items : List (ℕ × Item)) → live_in index number items ≤ item_bytes items
live_most index number items = sum_by-le-sum_by (live_part index number) (λ one. length (spelling one.1)) items (λ one. by (has_entry index number one) (length (spelling one.1)))
  where
    by : (b : Bool) (n : ℕ) → cond b n 0 ≤ n
    by true n = omega arith
    by false n = omega arith

-- what counts is among its file's items
counted_among : (kept : Kept) (n a : ℕ) (item : Item) → counts_in kept n a item → Contains (items_of kept n) (a, item)
counted_among kept n a item (inl own) =
    let same : (n == kept.number) ≡ true = (let is : n ≡ kept.number = own.0 in grind (arith, nat_tests)) in
    rw same own.1
counted_among kept n a item (inr other) =
    let apart : (n == kept.number) ≡ false = (let is = other.0 in grind (arith, nat_tests)) in
    let bytes : bytes_in kept.files (log_name n) ≡ other.1.bytes = ap (λ (file : Option (List ℕ)). unwrap_or file []) other.1.there in
    rw (apart, bytes) other.1.counted

-- the bytes of an entry, in its file
abbrev part : Row → ℕ → ℕ
part row number = cond (row.0.file == number) row.1.length 0

module _ (kept : Kept) (less more : Index) (row : Row) (key : List ℕ) (bits : more.bits ≡ less.bits) (own : IsEntryOf (counts_in kept) less.bits key row.0 row.1)
    (others : (k : IndexKey) → (row.0 ≡ k → ⊥) → value_at more.entries k ≡ value_at less.entries k) (has : value_at more.entries row.0 ≡ Some row.1) (none : value_at less.entries row.0 ≡ None) where
  -- an item that stands elsewhere has an entry as before
  same_entry : (number : ℕ) (one : ℕ × Item) → ((row.0.file ≡ number) → (row.0.at ≡ one.0) → ⊥) → has_entry more number one ≡ has_entry less number one
  same_entry number one elsewhere = by (key_of one.1)
    where
      place : ℕ → List ℕ → IndexKey
      place b k = record { hash = hash b k; file = number; at = one.0 }

      by : (found : Option (List ℕ)) → is_some (option_and_then (λ k. value_at more.entries (record { hash = hash more.bits k; file = number; at = one.0 })) found) ≡ is_some (option_and_then (λ k. value_at less.entries (record { hash = hash less.bits k; file = number; at = one.0 })) found)
      by None = refl
      by (Some k) =
          ap (λ (b : ℕ). is_some (value_at more.entries (record { hash = hash b k; file = number; at = one.0 }))) bits
          ∙ ap (λ (o : Option IndexValue). is_some o) (others (record { hash = hash less.bits k; file = number; at = one.0 }) (λ same. elsewhere (ap (λ (p : IndexKey). p.file) same) (ap (λ (p : IndexKey). p.at) same)))

  -- the item of the entry
  abbrev item : ℕ × Item
  item = (row.0.at, own.placed.item)

  entry_of_item : (index : Index) (found : Option IndexValue) → index.bits ≡ less.bits → value_at index.entries row.0 ≡ found → has_entry index row.0.file item ≡ is_some found
  entry_of_item index found same_bits is =
      ap (λ (o : Option (List ℕ)). is_some (option_and_then (λ k. value_at index.entries (record { hash = hash index.bits k; file = row.0.file; at = row.0.at })) o)) own.placed.of_key
      ∙ ap (λ (b : ℕ). is_some (value_at index.entries (record { hash = hash b key; file = row.0.file; at = row.0.at }))) same_bits
      ∙ ap (λ (h : ℕ). is_some (value_at index.entries (record { hash = h; file = row.0.file; at = row.0.at }))) (sym own.hash_is)
      ∙ ap (λ (o : Option IndexValue). is_some o) is

  -- the live bytes of its file are more by its own
  live_own : StandApart (items_of kept row.0.file) → live_in more row.0.file (items_of kept row.0.file) ≡ live_in less row.0.file (items_of kept row.0.file) + row.1.length
  live_own apart =
      let among = counted_among kept row.0.file row.0.at own.placed.item own.placed.counted in
      let flip = sum-flip (live_part less row.0.file) (live_part more row.0.file) (items_of kept row.0.file) item apart among
      (λ other there differs. ap (λ (b : Bool). cond b (length (spelling other.1)) 0) (same_entry row.0.file other (λ file at. differs (sym at))))
      in
      let was : live_part less row.0.file item ≡ 0 = ap (λ (b : Bool). cond b (length (spelling own.placed.item)) 0) (entry_of_item less None refl none) in
      let now : live_part more row.0.file item ≡ length (spelling own.placed.item) = ap (λ (b : Bool). cond b (length (spelling own.placed.item)) 0) (entry_of_item more (Some row.1) bits has) in
      omega (arith, flip, was, now, own.placed.long)

  pub live_more : (number : ℕ) → StandApart (items_of kept number) → live_in more number (items_of kept number) ≡ live_in less number (items_of kept number) + part row number
  live_more number apart = by (row.0.file == number) refl
    where
      by : (b : Bool) → (row.0.file == number) ≡ b → live_in more number (items_of kept number) ≡ live_in less number (items_of kept number) + cond b row.1.length 0
      by true is =
          let same : row.0.file ≡ number = grind (arith, nat_tests) in
          subst (λ (n : ℕ). live_in more n (items_of kept n) ≡ live_in less n (items_of kept n) + row.1.length) same (live_own (subst (λ (n : ℕ). StandApart (items_of kept n)) (sym same) apart))
      by false is =
          let differs : row.0.file ≡ number → ⊥ = (λ same. let yes : (row.0.file == number) ≡ true = grind (arith, nat_tests) in cc) in
          let parts = sum-same (live_part less number) (live_part more number) (items_of kept number) (λ one among. ap (λ (b : Bool). cond b (length (spelling one.1)) 0) (same_entry number one (λ file at. differs file))) in
          omega (arith, parts)

  -- the figures of a file, where the entry came in
  figured_grown : ((number : ℕ) → StandApart (items_of kept number)) → (r : FileCount) → IsFigured kept less r → IsFigured kept more (grown row.0.file row.1.length r)
  figured_grown apart r is = by (r.number == row.0.file) refl
    where
      fits : live_in more r.number (items_of kept r.number) ≤ r.size
      fits = omega (arith, live_most more r.number (items_of kept r.number), is.fits)

      by : (b : Bool) → (r.number == row.0.file) ≡ b → IsFigured kept more (cond b (grown_by row.1.length r) r)
      by true same =
          let yes : (row.0.file == r.number) ≡ true = grind (arith, nat_tests) in
          let parts : live_in more r.number (items_of kept r.number) ≡ live_in less r.number (items_of kept r.number) + row.1.length = live_more r.number (apart r.number) ∙ ap (λ (b : Bool). live_in less r.number (items_of kept r.number) + cond b row.1.length 0) yes in
          record { live = omega (arith, parts, is.live, fits); fits = is.fits }
      by false differs =
          let no : (row.0.file == r.number) ≡ false = grind (arith, nat_tests) in
          let parts : live_in more r.number (items_of kept r.number) ≡ live_in less r.number (items_of kept r.number) + 0 = live_more r.number (apart r.number) ∙ ap (λ (b : Bool). live_in less r.number (items_of kept r.number) + cond b row.1.length 0) no in
          record { live = omega (arith, parts, is.live); fits = is.fits }

  -- and where it went
  figured_shrunk : ((number : ℕ) → StandApart (items_of kept number)) → (r : FileCount) → IsFigured kept more r → IsFigured kept less (shrunk row.0.file row.1.length r)
  figured_shrunk apart r is = by (r.number == row.0.file) refl
    where
      by : (b : Bool) → (r.number == row.0.file) ≡ b → IsFigured kept less (cond b (shrunk_by row.1.length r) r)
      by true same =
          let yes : (row.0.file == r.number) ≡ true = grind (arith, nat_tests) in
          let parts : live_in more r.number (items_of kept r.number) ≡ live_in less r.number (items_of kept r.number) + row.1.length = live_more r.number (apart r.number) ∙ ap (λ (b : Bool). live_in less r.number (items_of kept r.number) + cond b row.1.length 0) yes in
          record { live = omega (arith, parts, is.live); fits = is.fits }
      by false differs =
          let no : (row.0.file == r.number) ≡ false = grind (arith, nat_tests) in
          let parts : live_in more r.number (items_of kept r.number) ≡ live_in less r.number (items_of kept r.number) + 0 = live_more r.number (apart r.number) ∙ ap (λ (b : Bool). live_in less r.number (items_of kept r.number) + cond b row.1.length 0) no in
          record { live = omega (arith, parts, is.live); fits = is.fits }

module _ (kept : Kept) (apart : (number : ℕ) → StandApart (items_of kept number)) where
  -- an index that has an entry at the same keys
  figured_alike : (old new : Index) → new.bits ≡ old.bits → ((k : IndexKey) → is_some (value_at new.entries k) ≡ is_some (value_at old.entries k)) → (r : FileCount) → IsFigured kept old r → IsFigured kept new r
  figured_alike old new bits same r is = record { live = is.live ∙ sym (sum-same (live_part old r.number) (live_part new r.number) (items_of kept r.number) (λ one among. ap (λ (b : Bool). cond b (length (spelling one.1)) 0) (entry one (key_of one.1)))); fits = is.fits }
    where
      entry : (one : ℕ × Item) (found : Option (List ℕ)) → is_some (option_and_then (λ k. value_at new.entries (record { hash = hash new.bits k; file = r.number; at = one.0 })) found)
          ≡ is_some (option_and_then (λ k. value_at old.entries (record { hash = hash old.bits k; file = r.number; at = one.0 })) found)
      entry one None = refl
      entry one (Some k) = ap (λ (b : ℕ). is_some (value_at new.entries (record { hash = hash b k; file = r.number; at = one.0 }))) bits ∙ same (record { hash = hash old.bits k; file = r.number; at = one.0 })

  other_key : (row : Row) (value : Option IndexValue) (old new : Index) → Sets row.0 value old new → (k : IndexKey) → (row.0 ≡ k → ⊥) → value_at new.entries k ≡ value_at old.entries k
  other_key row value old new sets k differs = sets.each k ∙ by (is_key row.0 k) refl
    where
      by : (b : Bool) → is_key row.0 k ≡ b → cond b value (value_at old.entries k) ≡ value_at old.entries k
      by true same = absurd (differs (same_key row.0 k same))
      by false unlike = refl

  -- an entry is put
  pub figured_put : (put : Option Row) (old new : Index) → Puts put old new → ((row : Row) → put ≡ Some row → (key : List ℕ) × IsEntryOf (counts_in kept) old.bits key row.0 row.1) → (rows : List FileCount) → All (IsFigured kept old) rows
      → All (IsFigured kept new) (with_live (fresh_by old.entries put) rows)
  figured_put None old new same own rows figured = subst (λ (i : Index). All (IsFigured kept i) rows) (sym same) figured
  figured_put (Some row) old new sets own rows figured = by (value_at old.entries row.0) refl
    where
      by : (found : Option IndexValue) → value_at old.entries row.0 ≡ found → All (IsFigured kept new) (with_live (cond (is_some found) None (Some row)) rows)
      by None none =
          let of_key = own row refl in
          All-map (IsFigured kept new) (grown row.0.file row.1.length) rows
          (All-weaker (IsFigured kept old) (λ r. IsFigured kept new (grown row.0.file row.1.length r)) (figured_grown kept old new row of_key.0 sets.bits of_key.1 (other_key row (Some row.1) old new sets) sets.here none apart) rows figured)
      by (Some value) some = All-weaker (IsFigured kept old) (IsFigured kept new) (figured_alike old new sets.bits alike) rows figured
        where
          alike : (k : IndexKey) → is_some (value_at new.entries k) ≡ is_some (value_at old.entries k)
          alike k = ap (λ (o : Option IndexValue). is_some o) (sets.each k) ∙ there (is_key row.0 k) refl
            where
              there : (b : Bool) → is_key row.0 k ≡ b → is_some (cond b (Some row.1) (value_at old.entries k)) ≡ is_some (value_at old.entries k)
              there true same = sym (ap (λ (o : Option IndexValue). is_some o) (ap (λ (x : IndexKey). value_at old.entries x) (sym (same_key row.0 k same)) ∙ some))
              there false unlike = refl

  -- and one is taken out
  pub figured_taken : (taken : Option Row) (old new : Index) → Drops taken old new → ((row : Row) → taken ≡ Some row → (value_at old.entries row.0 ≡ Some row.1) × ((key : List ℕ) × IsEntryOf (counts_in kept) new.bits key row.0 row.1))
      → (rows : List FileCount) → All (IsFigured kept old) rows → All (IsFigured kept new) (with_dead taken rows)
  figured_taken None old new same own rows figured = subst (λ (i : Index). All (IsFigured kept i) rows) (sym same) figured
  figured_taken (Some row) old new sets own rows figured =
      let of_key = own row refl in
      All-map (IsFigured kept new) (shrunk row.0.file row.1.length) rows
      (All-weaker (IsFigured kept old) (λ r. IsFigured kept new (shrunk row.0.file row.1.length r))
      (figured_shrunk kept new old row of_key.1.0 (sym sets.bits) of_key.1.1 (λ k differs. sym (other_key row None old new sets k differs)) of_key.0 sets.here apart) rows figured)

-- what the figures of each file keep, those of all do
kept_map : {X : Type 0} (of : FileCount → X) (f : FileCount → FileCount) → ((r : FileCount) → of (f r) ≡ of r) → (rows : List FileCount) → map of (map f rows) ≡ map of rows
kept_map of f same [] = refl
kept_map of f same (r ∷ rows) = ap (λ x. x ∷ map of (map f rows)) (same r) ∙ ap (λ l. of r ∷ l) (kept_map of f same rows)

module _ {X : Type 0} (of : FileCount → X) (kept_grown : (bytes : ℕ) (r : FileCount) → of (grown_by bytes r) ≡ of r) (kept_shrunk : (bytes : ℕ) (r : FileCount) → of (shrunk_by bytes r) ≡ of r) where
  kept_live : (put : Option Row) (rows : List FileCount) → map of (with_live put rows) ≡ map of rows
  kept_live None rows = refl
  kept_live (Some row) rows = kept_map of (grown row.0.file row.1.length) (λ r. by r (r.number == row.0.file)) rows
    where
      by : (r : FileCount) (b : Bool) → of (cond b (grown_by row.1.length r) r) ≡ of r
      by r true = kept_grown row.1.length r
      by r false = refl

  kept_dead : (taken : Option Row) (rows : List FileCount) → map of (with_dead taken rows) ≡ map of rows
  kept_dead None rows = refl
  kept_dead (Some row) rows = kept_map of (shrunk row.0.file row.1.length) (λ r. by r (r.number == row.0.file)) rows
    where
      by : (r : FileCount) (b : Bool) → of (cond b (shrunk_by row.1.length r) r) ≡ of r
      by r true = kept_shrunk row.1.length r
      by r false = refl

  kept_moved : (put taken : Option Row) (rows : List FileCount) → map of (with_dead taken (with_live put rows)) ≡ map of rows
  kept_moved put taken rows = kept_dead taken (with_live put rows) ∙ kept_live put rows

-- the files stay the same,
pub same_numbers : (put taken : Option Row) (rows : List FileCount) → numbers_of (with_dead taken (with_live put rows)) ≡ numbers_of rows
same_numbers = kept_moved (λ r. r.number) (λ bytes r. refl) (λ bytes r. refl)

-- and their sizes
pub same_sizes : (put taken : Option Row) (rows : List FileCount) → sizes_of (with_dead taken (with_live put rows)) ≡ sizes_of rows
same_sizes = kept_moved (λ r. (r.number, r.size)) (λ bytes r. refl) (λ bytes r. refl)
