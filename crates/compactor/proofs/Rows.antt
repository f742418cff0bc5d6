-- What keys read of the files: at a place stands one record, a key has one reading, and the rows of the parts have it.
use Rattle.std.proofs.Common.{◌≡◌, inl, inr, ℕ, Bool, true, false, List, [], ◌∷◌, ◌++◌, length, drop, Option, Some, None, refl, sym, ◌∙◌, ap, subst, arith}
use Rattle.std.specs.Prelude.{cond, filter_map, option_map, option_and_then, unwrap_or}
use Rattle.std.specs.List.{cons_option}
use Rattle.std.specs.Map.{lookup}
use Rattle.std.specs.Option.{option_or}
use Rattle.std.specs.Str.{bytes_eq}
use Rattle.std.proofs.lemmas.Option.{some_pair_parts}
use Rattle.std.proofs.lemmas.Slice.Eq.{bytes_eq-Decides}
use Rattle.cache_model.specs.declared.entries.Entry.{Entry}
use Rattle.cache_model.specs.declared.files.Place.{Place}
use Rattle.cache_model.specs.declared.index.IndexKey.{IndexKey}
use Rattle.cache_model.specs.Files.{Image, file_in}
use Rattle.cache_model.specs.Items.{Item, spelling, whole, front}
use Rattle.cache_model.specs.Images.{log_name, key_of, sequence_of, entry_by, IsNoNewer}
use Rattle.temporary_table.specs.declared.requests.Request.{Request}
use Rattle.temporary_table.specs.Places.{Places, Seat, placed, place_of}
use Rattle.temporary_table.proofs.Ordered.{itself}
use Rattle.tree_index.specs.Index.{Index, index_cmp, is_key, value_at}
use Rattle.compactor.specs.Counting.{Counts, IsNewestBy, HasNone, HasReading, AreThere}
use Rattle.compactor.specs.Indexing.{IsEntryOf, IsIndexed}
use Rattle.compactor.proofs.Entries.{index_total, same_key}
use Rattle.compactor.specs.Rows.{KeyRow, row_of_front, row_at, placed_row, rows_of}

-- Two items with a key that count at one place are the same.
pub placed_once : (counts : Counts) (files : Image) → AreThere counts files → (n a : ℕ) (one other : Item) (k l : List ℕ)
    → counts n a one → key_of one ≡ Some k → counts n a other → key_of other ≡ Some l → one ≡ other
placed_once counts files is n a one other k l counted key counted_too key_too =
    let both : whole one (length (spelling one)) ≡ whole other (length (spelling other)) = sym (is.there n a one k counted key) ∙ is.there n a other l counted_too key_too in
    cc

-- one reading of a key

no_newer_both : (s t m n a b : ℕ) → IsNoNewer (s, m, a) (t, n, b) → IsNoNewer (t, n, b) (s, m, a) → (m ≡ n) × (a ≡ b)
no_newer_both s t m n a b one other = (omega arith, omega arith)

-- The newest record of a key stands at one place.
pub newest_place : (counts : Counts) (key : List ℕ) (m n a b : ℕ) (one other : Item) → IsNewestBy counts key m a one → IsNewestBy counts key n b other → (m ≡ n) × (a ≡ b)
newest_place counts key m n a b one other is is_too = no_newer_both (sequence_of one) (sequence_of other) m n a b (is_too.newest m a one is.counted is.of_key) (is.newest n b other is_too.counted is_too.of_key)

-- A key has one newest record,
pub newest_once : (counts : Counts) (files : Image) → AreThere counts files → (key : List ℕ) (m n a b : ℕ) (one other : Item)
    → IsNewestBy counts key m a one → IsNewestBy counts key n b other → one ≡ other
newest_once counts files there key m n a b one other is is_too =
    let same = newest_place counts key m n a b one other is is_too in
    let here : counts m a other = subst (λ (at : ℕ). counts m at other) (sym same.1) (subst (λ (number : ℕ). counts number b other) (sym same.0) is_too.counted) in
    placed_once counts files there m a one other key key is.counted is.of_key here is_too.of_key

-- and so one reading.
pub reading_once : (counts : Counts) (files : Image) (key : List ℕ) (r s : Option (Option Entry)) → AreThere counts files → HasReading counts key r → HasReading counts key s → r ≡ s
reading_once counts files key r s there (inl none) (inl none_too) = none.1 ∙ sym none_too.1
reading_once counts files key r s there (inl none) (inr some) = absurd (none.0 some.0 some.1 some.2 some.3.counted some.3.of_key)
reading_once counts files key r s there (inr some) (inl none) = absurd (none.0 some.0 some.1 some.2 some.3.counted some.3.of_key)
reading_once counts files key r s there (inr some) (inr some_too) =
    some.4 ∙ ap (λ (item : Item). Some (entry_by item)) (newest_once counts files there key some.0 some_too.0 some.1 some_too.1 some.2 some_too.2 some.3 some_too.3) ∙ sym some_too.4

-- look-ups in lists

lookup_both : {K X : Type 0} (test : K → Bool) (one other : List (K × X)) → lookup test (one ++ other) ≡ option_or (lookup test one) (lookup test other)
lookup_both test [] other = refl
lookup_both {K = K} {X = X} test (e ∷ one) other = by (test e.0) (lookup_both test one other)
  where
    by : (b : Bool) → lookup test (one ++ other) ≡ option_or (lookup test one) (lookup test other)
        → cond b (Some e.1) (lookup test (one ++ other)) ≡ option_or (cond b (Some e.1) (lookup test one)) (lookup test other)
    by true rest = refl
    by false rest = rest

module _ {K X Y : Type 0} (row : K → Option (List ℕ × Y)) (key : List ℕ) where
  -- the first row of a key
  abbrev first_row : List (K × X) → Option Y
  first_row entries = lookup (λ other. bytes_eq other key) (filter_map (λ (e : K × X). row e.0) entries)

  -- What is found is the row of some entry,
  is_row : (is : K → K → Bool) → ((k : K) → is k k ≡ true) → (entries : List (K × X)) (y : Y) → first_row entries ≡ Some y → (k : K) × (x : X) × (row k ≡ Some (key, y)) × (lookup (is k) entries ≡ Some x)
  is_row is itself [] y found = let no : None ≡ Some y = found in cc
  is_row is itself (e ∷ entries) y found = by (is_row is itself entries y) (row e.0) refl found
    where
      behind : (k : K) × (x : X) × (row k ≡ Some (key, y)) × (lookup (is k) entries ≡ Some x) → (k : K) × (x : X) × (row k ≡ Some (key, y)) × (cond (is k e.0) (Some e.1) (lookup (is k) entries) ≡ Some x)
      behind later = here (is later.0 e.0) refl
        where
          here : (b : Bool) → is later.0 e.0 ≡ b → (k : K) × (x : X) × (row k ≡ Some (key, y)) × (cond (is k e.0) (Some e.1) (lookup (is k) entries) ≡ Some x)
          here true same = (later.0, e.1, later.2, rw same refl)
          here false apart = (later.0, later.1, later.2, rw apart later.3)

      first : (r : List ℕ × Y) → row e.0 ≡ Some r → (b : Bool) → bytes_eq r.0 key ≡ b → cond b (Some r.1) (first_row entries) ≡ Some y
          → (first_row entries ≡ Some y → (k : K) × (x : X) × (row k ≡ Some (key, y)) × (lookup (is k) entries ≡ Some x))
          → (k : K) × (x : X) × (row k ≡ Some (key, y)) × (cond (is k e.0) (Some e.1) (lookup (is k) entries) ≡ Some x)
      first r some true same found rest =
          let own : r.0 ≡ key = (bytes_eq-Decides r.0 key).0 same in
          let value : r.1 ≡ y = cc in
          (e.0, e.1, some ∙ ap Some (rw (sym own, sym value) refl), rw (itself e.0) refl)
      first r some false apart found rest = behind (rest found)

      by : (first_row entries ≡ Some y → (k : K) × (x : X) × (row k ≡ Some (key, y)) × (lookup (is k) entries ≡ Some x)) → (o : Option (List ℕ × Y)) → row e.0 ≡ o
          → lookup (λ other. bytes_eq other key) (cons_option o (filter_map (λ (d : K × X). row d.0) entries)) ≡ Some y
          → (k : K) × (x : X) × (row k ≡ Some (key, y)) × (cond (is k e.0) (Some e.1) (lookup (is k) entries) ≡ Some x)
      by rest None none found = behind (rest found)
      by rest (Some r) some found = first r some (bytes_eq r.0 key) refl found rest

  -- and where none is found, no entry's is one of the key.
  no_row : (entries : List (K × X)) → first_row entries ≡ None → (k : K) (y : Y) → row k ≡ Some (key, y) → (test : K → Bool) → ((other : K) → test other ≡ true → other ≡ k) → lookup test entries ≡ None
  no_row [] none k y is test exact = refl
  no_row (e ∷ entries) none k y is test exact = by (λ left. no_row entries left k y is test exact) (row e.0) refl none
    where
      passes_none : (row e.0 ≡ Some (key, y) → ⊥) → (b : Bool) → test e.0 ≡ b → lookup test entries ≡ None → cond b (Some e.1) (lookup test entries) ≡ None
      passes_none not true passes behind = absurd (not (ap row (exact e.0 passes) ∙ is))
      passes_none not false fails behind = behind

      unlike : (r : List ℕ × Y) → bytes_eq r.0 key ≡ false → Some r ≡ Some (key, y) → ⊥
      unlike r apart own =
          let same : r ≡ (key, y) = cc in
          let no : true ≡ false = sym ((bytes_eq-Decides r.0 key).1 (ap (λ (p : List ℕ × Y). p.0) same)) ∙ apart in
          cc

      here : (first_row entries ≡ None → lookup test entries ≡ None) → (r : List ℕ × Y) → row e.0 ≡ Some r → (b : Bool) → bytes_eq r.0 key ≡ b → cond b (Some r.1) (first_row entries) ≡ None
          → cond (test e.0) (Some e.1) (lookup test entries) ≡ None
      here rest r some true same left = let never : Some r.1 ≡ None = left in cc
      here rest r some false apart left = passes_none (λ own. unlike r apart (sym some ∙ own)) (test e.0) refl (rest left)

      by : (first_row entries ≡ None → lookup test entries ≡ None) → (o : Option (List ℕ × Y)) → row e.0 ≡ o
          → lookup (λ other. bytes_eq other key) (cons_option o (filter_map (λ (d : K × X). row d.0) entries)) ≡ None → cond (test e.0) (Some e.1) (lookup test entries) ≡ None
      by rest None none_here left = passes_none (λ some. let never : None ≡ Some (key, y) = sym none_here ∙ some in cc) (test e.0) refl (rest left)
      by rest (Some r) some left = here rest r some (bytes_eq r.0 key) refl left

-- A record that counts has its row at its place.
pub row_counted : (counts : Counts) (files : Image) → AreThere counts files → (number at : ℕ) (item : Item) (key : List ℕ) → counts number at item → key_of item ≡ Some key → row_at files number at ≡ Some (key, entry_by item)
row_counted counts files is number at item key counted of_key =
    ap row_of_front (is.there number at item key counted of_key) ∙ ap (λ (k : Option (List ℕ)). option_map (λ key. (key, entry_by item)) k) of_key

module _ (counts : Counts) (files : Image) (places : Places) (index : Index) (waiting : List Request) (is : IsIndexed counts places index waiting) (there : AreThere counts files) where
  -- what a key's seat has is the row of its newest record
  seat_row : (key : List ℕ) (seat : Seat) → place_of places key ≡ seat → (r : KeyRow) → placed_row files seat ≡ Some r → (number : ℕ) × (at : ℕ) × (item : Item) × IsNewestBy counts key number at item × (r ≡ (key, entry_by item))
  seat_row key None at r row = let no : None ≡ Some r = row in cc
  seat_row key (Some seat) at r row =
      let held = is.placed key seat.0 seat.1 at in
      let same : Some r ≡ Some (key, entry_by held.0.item) = sym row ∙ row_counted counts files there seat.0.file seat.0.at held.0.item key held.0.counted held.0.of_key in
      (seat.0.file, seat.0.at, held.0.item, held.1, (let same_row : r ≡ (key, entry_by held.0.item) = cc in same_row))

  -- the row of each key by its seat, and of each entry of the index
  abbrev seat_rows : List ℕ → Option KeyRow
  seat_rows key = placed_row files (place_of places key)

  abbrev entry_rows : IndexKey → Option KeyRow
  entry_rows at = row_at files at.file at.at

  -- A key that has a place reads it,
  by_place : (key : List ℕ) (found : Option Entry) → first_row seat_rows key places.seats ≡ Some found → HasReading counts key (Some found)
  by_place key found row =
      let own = is_row seat_rows key bytes_eq (λ k. (bytes_eq-Decides k k).1 refl) places.seats found row in
      let held = seat_row own.0 (place_of places own.0) refl (key, found) own.2 in
      let same : key ≡ own.0 = ap (λ (r : KeyRow). r.0) held.4 in
      inr (held.0, held.1, held.2, subst (λ (k : List ℕ). IsNewestBy counts k held.0 held.1 held.2) (sym same) held.3, ap (λ (r : KeyRow). Some r.1) held.4)

  placed_found : (key : List ℕ) (seat : Place × Bool) → first_row seat_rows key places.seats ≡ None → place_of places key ≡ Some seat → ⊥
  placed_found key seat none at =
      let held = is.placed key seat.0 seat.1 at in
      let row : seat_rows key ≡ Some (key, entry_by held.0.item) = ap (placed_row files) at ∙ row_counted counts files there seat.0.file seat.0.at held.0.item key held.0.counted held.0.of_key in
      let away : lookup (λ other. bytes_eq other key) places.seats ≡ None = no_row seat_rows key places.seats none key (entry_by held.0.item) row (λ other. bytes_eq other key) (λ other passes. (bytes_eq-Decides other key).0 passes) in
      let never : None ≡ Some seat = sym (ap placed away) ∙ at in
      cc

  unplaced : (key : List ℕ) → first_row seat_rows key places.seats ≡ None → place_of places key ≡ None
  unplaced key none = by (place_of places key) refl
    where
      by : (seat : Seat) → place_of places key ≡ seat → place_of places key ≡ None
      by None at = at
      by (Some seat) at = absurd (placed_found key seat none at)

  -- another one that has a record reads its entry of the index,
  by_entry : (key : List ℕ) (found : Option Entry) → place_of places key ≡ None → first_row entry_rows key index.entries ≡ Some found → HasReading counts key (Some found)
  by_entry key found away row =
      let own = is_row entry_rows key is_key (itself index_cmp index_total) index.entries found row in
      let at : IndexKey = own.0 in
      let held = is.indexed at own.1 own.3 in
      let item : Item = held.1.placed.item in
      let same : Some (key, found) ≡ Some (held.0, entry_by item) = sym own.2 ∙ row_counted counts files there at.file at.at item held.0 held.1.placed.counted held.1.placed.of_key in
      let parts = some_pair_parts key held.0 found (entry_by item) same in
      let entry : IsEntryOf counts index.bits key at own.1 = subst (λ (k : List ℕ). IsEntryOf counts index.bits k at own.1) (sym parts.0) held.1 in
      let newest = is.newest key away at.file at.at item held.1.placed.counted (held.1.placed.of_key ∙ ap Some (sym parts.0)) in
      let here : newest.0 ≡ at = is.single newest.0 at newest.1 own.1 key newest.2.there own.3 newest.2.entry entry in
      let newest_item : Item = newest.2.entry.placed.item in
      let item_is : item ≡ newest_item =
      placed_once counts files there at.file at.at item newest_item held.0 key held.1.placed.counted held.1.placed.of_key
      (subst (λ (k : IndexKey). counts k.file k.at newest_item) here newest.2.entry.placed.counted) newest.2.entry.placed.of_key
      in
      inr (newest.0.file, newest.0.at, newest_item, newest.2.newest, ap Some parts.1 ∙ ap (λ (i : Item). Some (entry_by i)) item_is)

  -- and no other has a record.
  by_none : (key : List ℕ) → place_of places key ≡ None → first_row entry_rows key index.entries ≡ None → HasReading counts key None
  by_none key away none = inl (nothing, refl)
    where
      nothing : HasNone counts key
      nothing n a item counted of_key =
          let newest = is.newest key away n a item counted of_key in
          let there_is = newest.2.entry.placed in
          let row : entry_rows newest.0 ≡ Some (key, entry_by there_is.item) = row_counted counts files there newest.0.file newest.0.at there_is.item key there_is.counted there_is.of_key in
          let missing : value_at index.entries newest.0 ≡ None = no_row entry_rows key index.entries none newest.0 (entry_by there_is.item) row (is_key newest.0) (λ other passes. sym (same_key newest.0 other passes)) in
          let never : None ≡ Some newest.1 = sym missing ∙ newest.2.there in
          cc

  first_reads : (key : List ℕ) → HasReading counts key (option_or (first_row seat_rows key places.seats) (first_row entry_rows key index.entries))
  first_reads key = by (first_row seat_rows key places.seats) refl
    where
      behind : place_of places key ≡ None → (o : Option (Option Entry)) → first_row entry_rows key index.entries ≡ o → HasReading counts key o
      behind away None row = by_none key away row
      behind away (Some found) row = by_entry key found away row

      by : (o : Option (Option Entry)) → first_row seat_rows key places.seats ≡ o → HasReading counts key (option_or o (first_row entry_rows key index.entries))
      by (Some found) row = by_place key found row
      by None row = behind (unplaced key row) (first_row entry_rows key index.entries) refl

-- The first row of a key is its reading.
pub rows_read : (counts : Counts) (files : Image) (places : Places) (index : Index) (waiting : List Request) → IsIndexed counts places index waiting → AreThere counts files
    → (key : List ℕ) → HasReading counts key (lookup (λ other. bytes_eq other key) (rows_of files places index))
rows_read counts files places index waiting is there key =
    subst (HasReading counts key)
    (sym (lookup_both (λ other. bytes_eq other key) (filter_map (λ seat. placed_row files (place_of places seat.0)) places.seats) (filter_map (λ entry. row_at files entry.0.file entry.0.at) index.entries)))
    (first_reads counts files places index waiting is there key)

-- Images that read alike have the same rows.
pub rows_same : (a b : Image) (places : Places) (index : Index) → ((n : ℕ) → file_in b (log_name n) ≡ file_in a (log_name n)) → rows_of b places index ≡ rows_of a places index
rows_same a b places index same = ap rows_by (λ i number at. same_row number at i)
  where
    same_row : (number at : ℕ) → row_at b number at ≡ row_at a number at
    same_row number at = ap (λ (file : Option (List ℕ)). row_of_front (front (drop at (unwrap_or file [])))) (same number)

    rows_by : (ℕ → ℕ → Option KeyRow) → List KeyRow
    rows_by row =
        filter_map (λ seat. option_and_then (λ placed. row placed.0.file placed.0.at) (place_of places seat.0)) places.seats
        ++ filter_map (λ entry. row entry.0.file entry.0.at) index.entries
