-- Each key of an image has a newest record, or none that counts; and each image has a mark.
use Rattle.std.proofs.Common.{◌≡◌, ◌⊎◌, inl, inr, ⊎_elim, ℕ, ◌<◌, ◌≤◌, Bool, true, false, cond, List, [], ◌∷◌, map, Contains, refl, sym, ◌∙◌, ap, subst, arith}
use Rattle.std.specs.Prelude.{◌||◌, Option, Some, None, unwrap_or, nat_lt, nat_le}
use Rattle.std.specs.Str.{bytes_eq}
use Rattle.std.specs.Bool.{Decides}
use Rattle.std.proofs.lemmas.Slice.Eq.{bytes_eq-Decides}
use Rattle.std.specs.List.{flat_map, list_any}
use Rattle.std.specs.Map.{lookup}
use Rattle.std.proofs.lemmas.Bool.Decides.{nat_tests}
use Rattle.std.proofs.lemmas.Bool.{cases_lt}
use Rattle.std.proofs.lemmas.Option.{same_Some}
use Rattle.cache_model.specs.declared.files.FileName.{FileName}
use Rattle.cache_model.specs.Files.{Image, file_in, bytes_in, is_name}
use Rattle.cache_model.specs.Items.{Item, put, removal, end}
use Rattle.cache_model.specs.DataFiles.{counted_items}
use Rattle.cache_model.specs.Images.{log_name, IsCounted, key_of, sequence_of, IsNoNewer, IsNewest, HasNoRecord, IsMark}
use Rattle.cache_model.proofs.Members.{among-none, among-here, among-later, among-cases, among-map, map-among, among-flat_map, flat_map-among}

-- an item with the number of its file and its offset
abbrev pub Placed : Type 0
Placed = ℕ × ℕ × Item

abbrev pub placed : ℕ → ℕ → Item → Placed
placed number at item = (number, at, item)

-- the counted items of a file with this name, were it a data file
abbrev pub placed_in : Image → FileName × List ℕ → List Placed
placed_in image file = map (λ (one : ℕ × Item). placed file.0.id one.0 one.1) (counted_items (bytes_in image (log_name file.0.id)))

-- all counted items of an image
abbrev pub all_placed : Image → List Placed
all_placed image = flat_map (placed_in image) image

counted-bytes : (image : Image) (number at : ℕ) (item : Item) (found : Option (List ℕ)) → file_in image (log_name number) ≡ found → Contains (counted_items (unwrap_or found [])) (at, item) → IsCounted image number at item
counted-bytes image number at item None is within = absurd (among-none (at, item) within)
counted-bytes image number at item (Some bytes) is within = record { bytes = bytes; there = is; counted = within }

-- each of them counts
placed-counts : (image : Image) (one : Placed) → Contains (all_placed image) one → IsCounted image one.0 one.1 one.2
placed-counts image one among =
    let part = among-flat_map (placed_in image) image one among in
    let image_of = among-map (λ (x : ℕ × Item). placed part.of.0.id x.0 x.1) (counted_items (bytes_in image (log_name part.of.0.id))) one part.within in
    subst (λ (p : Placed). IsCounted image p.0 p.1 p.2) image_of.is
    (counted-bytes image part.of.0.id image_of.of.0 image_of.of.1 (file_in image (log_name part.of.0.id)) refl image_of.among)

-- a name that is found is among the names
found-among : (name : FileName) (files : Image) (bytes : List ℕ) → lookup (is_name name) files ≡ Some bytes → (file : FileName × List ℕ) × Contains files file × (is_name name file.0 ≡ true)
found-among name [] bytes found = cc
found-among name (file ∷ files) bytes found = by_test (is_name name file.0) refl (λ later. found-among name files bytes later)
  where
    by_test : (b : Bool) → is_name name file.0 ≡ b → (lookup (is_name name) files ≡ Some bytes → (one : FileName × List ℕ) × Contains files one × (is_name name one.0 ≡ true))
        → (one : FileName × List ℕ) × Contains (file ∷ files) one × (is_name name one.0 ≡ true)
    by_test true is rest = (file, among-here file files, is)
    by_test false is rest =
        let other = rest (sym (ap (λ (b : Bool). cond b (Some file.1) (lookup (is_name name) files)) is) ∙ found) in
        (other.0, among-later file other.0 files other.1, other.2)

same-id : (number : ℕ) (name : FileName) → is_name (log_name number) name ≡ true → number ≡ name.id
same-id number name is = grind (arith, nat_tests)

-- what counts is among them
counts-placed : (image : Image) (number at : ℕ) (item : Item) → IsCounted image number at item → Contains (all_placed image) (placed number at item)
counts-placed image number at item counted =
    let found = found-among (log_name number) image counted.bytes counted.there in
    let same : number ≡ found.0.0.id = same-id number found.0.0 found.2 in
    let bytes : counted.bytes ≡ bytes_in image (log_name number) = sym (ap (λ (o : Option (List ℕ)). unwrap_or o []) counted.there) in
    let within : Contains (counted_items (bytes_in image (log_name number))) (at, item) = subst (λ (b : List ℕ). Contains (counted_items b) (at, item)) bytes counted.counted in
    let mapped : Contains (map (λ (one : ℕ × Item). placed number one.0 one.1) (counted_items (bytes_in image (log_name number)))) (placed number at item) = map-among (λ (one : ℕ × Item). placed number one.0 one.1) (counted_items (bytes_in image (log_name number))) (at, item) within in
    flat_map-among (placed_in image) image found.0 (placed number at item) found.1
    (subst (λ (n : ℕ). Contains (map (λ (one : ℕ × Item). placed n one.0 one.1) (counted_items (bytes_in image (log_name n)))) (placed number at item)) same mapped)

-- The key's newest of some placed items: it is among them, and none of the key is newer.
record IsNewestOf (key : List ℕ) (items : List Placed) (one : Placed) : Type 0 where
  among : Contains items one
  of_key : key_of one.2 ≡ Some key
  newest : (other : Placed) → Contains items other → key_of other.2 ≡ Some key → IsNoNewer (sequence_of other.2, other.0, other.1) (sequence_of one.2, one.0, one.1)

either : (one other : ℕ × ℕ × ℕ) → IsNoNewer one other ⊎ IsNoNewer other one
either one other = by_test (nat_lt one.0 other.0) (nat_lt other.0 one.0) (nat_lt one.1 other.1) (nat_lt other.1 one.1) (nat_le one.2 other.2) refl refl refl refl refl
  where
    by_test : (b0 b1 b2 b3 b4 : Bool) → nat_lt one.0 other.0 ≡ b0 → nat_lt other.0 one.0 ≡ b1 → nat_lt one.1 other.1 ≡ b2 → nat_lt other.1 one.1 ≡ b3 → nat_le one.2 other.2 ≡ b4 → IsNoNewer one other ⊎ IsNoNewer other one
    by_test true b1 b2 b3 b4 h0 h1 h2 h3 h4 = inl (inl (grind (arith, nat_tests)))
    by_test false true b2 b3 b4 h0 h1 h2 h3 h4 = inr (inl (grind (arith, nat_tests)))
    by_test false false true b3 b4 h0 h1 h2 h3 h4 = inl (inr (grind (arith, nat_tests), inl (grind (arith, nat_tests))))
    by_test false false false true b4 h0 h1 h2 h3 h4 = inr (inr (grind (arith, nat_tests), inl (grind (arith, nat_tests))))
    by_test false false false false true h0 h1 h2 h3 h4 = inl (inr (grind (arith, nat_tests), inr (grind (arith, nat_tests), grind (arith, nat_tests))))
    by_test false false false false false h0 h1 h2 h3 h4 = inr (inr (grind (arith, nat_tests), inr (grind (arith, nat_tests), grind (arith, nat_tests))))

pub through : (one two three : ℕ × ℕ × ℕ) → IsNoNewer one two → IsNoNewer two three → IsNoNewer one three
through one two three (inl a) (inl b) = inl (omega (arith, a, b))
through one two three (inl a) (inr b) = inl (omega (arith, a, b.0))
through one two three (inr a) (inl b) = inl (omega (arith, a.0, b))
through one two three (inr a) (inr b) = inr (a.0 ∙ b.0, files a.1 b.1)
  where
    files : (one.1 < two.1) ⊎ ((one.1 ≡ two.1) × (one.2 ≤ two.2)) → (two.1 < three.1) ⊎ ((two.1 ≡ three.1) × (two.2 ≤ three.2)) → (one.1 < three.1) ⊎ ((one.1 ≡ three.1) × (one.2 ≤ three.2))
    files (inl c) (inl d) = inl (omega (arith, c, d))
    files (inl c) (inr d) = inl (omega (arith, c, d.0))
    files (inr c) (inl d) = inl (omega (arith, c.0, d))
    files (inr c) (inr d) = inr (c.0 ∙ d.0, omega (arith, c.1, d.1))

pub itself : (one : ℕ × ℕ × ℕ) → IsNoNewer one one
itself one = inr (refl, inr (refl, omega arith))

decided : {P : Type 0} (b : Bool) → Decides b P → P ⊎ (P → ⊥)
decided true is = inl (is.0 refl)
decided false is = inr (λ p. let no : false ≡ true = is.1 p in cc)

-- whether an item is a record of the key
of_this : (key : List ℕ) (item : Item) → (key_of item ≡ Some key) ⊎ (key_of item ≡ Some key → ⊥)
of_this key (put seq until other value) = ⊎_elim (λ same. inl (ap Some same)) (λ not. inr (λ same. not (same_Some _ _ same))) (decided (bytes_eq other key) (bytes_eq-Decides other key))
of_this key (removal seq other) = ⊎_elim (λ same. inl (ap Some same)) (λ not. inr (λ same. not (same_Some _ _ same))) (decided (bytes_eq other key) (bytes_eq-Decides other key))
of_this key (end moment) = inr (λ same. cc)

-- none of the key, or a newest one
newest-of : (key : List ℕ) (items : List Placed) → ((one : Placed) → Contains items one → key_of one.2 ≡ Some key → ⊥) ⊎ ((one : Placed) × IsNewestOf key items one)
newest-of key [] = inl (λ one among of_key. among-none one among)
newest-of key (first ∷ items) = with_rest (of_this key first.2) (newest-of key items)
  where
    with_rest : (key_of first.2 ≡ Some key) ⊎ (key_of first.2 ≡ Some key → ⊥) → ((one : Placed) → Contains items one → key_of one.2 ≡ Some key → ⊥) ⊎ ((one : Placed) × IsNewestOf key items one)
        → ((one : Placed) → Contains (first ∷ items) one → key_of one.2 ≡ Some key → ⊥) ⊎ ((one : Placed) × IsNewestOf key (first ∷ items) one)
    with_rest (inl of_key) (inl none) = inr (
      first,
      record {
        among = among-here first items;
        of_key = of_key;
        newest = λ other among is. ⊎_elim
            (λ same. subst (λ (p : Placed). IsNoNewer (sequence_of p.2, p.0, p.1) (sequence_of first.2, first.0, first.1)) same (itself (sequence_of first.2, first.0, first.1)))
            (λ later. absurd (none other later is))
            (among-cases first other items among);
      },
    )
    with_rest (inl of_key) (inr rest) = ⊎_elim
        (λ lower. inr (
          rest.0,
          record {
            among = among-later first rest.0 items rest.1.among;
            of_key = rest.1.of_key;
            newest = λ other among is. ⊎_elim
                (λ same. subst (λ (p : Placed). IsNoNewer (sequence_of p.2, p.0, p.1) (sequence_of rest.0.2, rest.0.0, rest.0.1)) same lower)
                (λ later. rest.1.newest other later is)
                (among-cases first other items among);
          },
        ))
        (λ higher. inr (
          first,
          record {
            among = among-here first items;
            of_key = of_key;
            newest = λ other among is. ⊎_elim
                (λ same. subst (λ (p : Placed). IsNoNewer (sequence_of p.2, p.0, p.1) (sequence_of first.2, first.0, first.1)) same (itself (sequence_of first.2, first.0, first.1)))
                (λ later. through (sequence_of other.2, other.0, other.1) (sequence_of rest.0.2, rest.0.0, rest.0.1) (sequence_of first.2, first.0, first.1) (rest.1.newest other later is) higher)
                (among-cases first other items among);
          },
        ))
        (either (sequence_of first.2, first.0, first.1) (sequence_of rest.0.2, rest.0.0, rest.0.1))
    with_rest (inr not) (inl none) = inl (λ one among is. ⊎_elim
        (λ same. not (subst (λ (p : Placed). key_of p.2 ≡ Some key) (sym same) is))
        (λ later. none one later is)
        (among-cases first one items among))
    with_rest (inr not) (inr rest) = inr (
      rest.0,
      record {
        among = among-later first rest.0 items rest.1.among;
        of_key = rest.1.of_key;
        newest = λ other among is. ⊎_elim
            (λ same. absurd (not (subst (λ (p : Placed). key_of p.2 ≡ Some key) (sym same) is)))
            (λ later. rest.1.newest other later is)
            (among-cases first other items among);
      },
    )

-- each key of an image has a newest record, or none counts
pub newest_exists : (image : Image) (key : List ℕ) → HasNoRecord image key ⊎ ((number : ℕ) × (at : ℕ) × (item : Item) × IsNewest image key number at item)
newest_exists image key = ⊎_elim
    (λ none. inl (λ n a item counted of_key. none (placed n a item) (counts-placed image n a item counted) of_key))
    (λ some. inr (
      some.0.0,
      some.0.1,
      some.0.2,
      record {
        counted = placed-counts image some.0 some.1.among;
        of_key = some.1.of_key;
        newest = λ n a other counted of_key. some.1.newest (placed n a other) (counts-placed image n a other counted) of_key;
      },
    ))
    (newest-of key (all_placed image))

-- the keys of some placed items, those of a later item behind
abbrev with_key : Option (List ℕ) → List (List ℕ) → List (List ℕ)
with_key None keys = keys
with_key (Some key) keys = key ∷ keys

abbrev keys_of : List Placed → List (List ℕ)
keys_of [] = []
keys_of (one ∷ items) = with_key (key_of one.2) (keys_of items)

-- whether a key is among some
abbrev pub has_key : List ℕ → List (List ℕ) → Bool
has_key key keys = list_any (λ one. bytes_eq one key) keys

key-among : (items : List Placed) (one : Placed) (key : List ℕ) → Contains items one → key_of one.2 ≡ Some key → has_key key (keys_of items) ≡ true
key-among [] one key among is = absurd (among-none one among)
key-among (first ∷ items) one key among is = by (key_of first.2) refl (λ later. key-among items one key later is) (among-cases first one items among)
  where
    front : (found : List ℕ) → found ≡ key → (bytes_eq found key || has_key key (keys_of items)) ≡ true
    front found same = ap (λ (b : Bool). b || has_key key (keys_of items)) ((bytes_eq-Decides found key).1 same)

    behind : (b : Bool) → has_key key (keys_of items) ≡ true → (b || has_key key (keys_of items)) ≡ true
    behind true later = refl
    behind false later = later

    by : (found : Option (List ℕ)) → key_of first.2 ≡ found → (Contains items one → has_key key (keys_of items) ≡ true) → (first ≡ one) ⊎ Contains items one → has_key key (with_key found (keys_of items)) ≡ true
    by None at rest (inl same) = let no : None ≡ Some key = sym at ∙ ap (λ (p : Placed). key_of p.2) same ∙ is in cc
    by None at rest (inr later) = rest later
    by (Some found) at rest (inl same) = front found (same_Some found key (sym at ∙ ap (λ (p : Placed). key_of p.2) same ∙ is))
    by (Some found) at rest (inr later) = behind (bytes_eq found key) (rest later)

-- there are keys among which is that of each record that counts
pub keys_exist : (image : Image) → (keys : List (List ℕ)) × ((key : List ℕ) → has_key key keys ≡ false → HasNoRecord image key)
keys_exist image = (
  keys_of (all_placed image),
  λ key none n a item counted of_key. let no : true ≡ false = sym (key-among (all_placed image) (placed n a item) key (counts-placed image n a item counted) of_key) ∙ none in cc,
)

-- The greatest moment of the ends among some placed items, or 0.
record IsGreatestOf (items : List Placed) (mark : ℕ) : Type 0 where
  bound : (n a m : ℕ) → Contains items (placed n a (end m)) → m ≤ mark
  reached : (mark ≡ 0) ⊎ ((n : ℕ) × (a : ℕ) × Contains items (placed n a (end mark)))

same_end : (n a m number at moment : ℕ) → placed number at (end moment) ≡ placed n a (end m) → moment ≡ m
same_end n a m number at moment same = by (ap (λ (p : Placed). p.2) same)
  where
    by : end moment ≡ end m → moment ≡ m
    by is = cc

greatest-of : (items : List Placed) → (mark : ℕ) × IsGreatestOf items mark
greatest-of [] = (0, record { bound = λ n a m among. absurd (among-none (placed n a (end m)) among); reached = inl refl })
greatest-of ((number, at, item) ∷ items) = with_rest item refl (greatest-of items)
  where
    kept : (rest : (mark : ℕ) × IsGreatestOf items mark) → ((n a m : ℕ) → (number, at, item) ≡ placed n a (end m) → m ≤ rest.0) → (mark : ℕ) × IsGreatestOf ((number, at, item) ∷ items) mark
    kept rest none = (
      rest.0,
      record {
        bound = λ n a m among. ⊎_elim (λ same. none n a m same) (λ later. rest.1.bound n a m later) (among-cases (number, at, item) (placed n a (end m)) items among);
        reached = ⊎_elim (λ zero. inl zero) (λ some. inr (some.0, some.1, among-later (number, at, item) (placed some.0 some.1 (end rest.0)) items some.2)) rest.1.reached;
      },
    )

    no_end : (other : Item) → item ≡ other → ((m : ℕ) → other ≡ end m → ⊥) → (n a m k : ℕ) → (number, at, item) ≡ placed n a (end m) → m ≤ k
    no_end other is none n a m k same = absurd (none m (sym is ∙ ap (λ (p : Placed). p.2) same))

    with_rest : (other : Item) → item ≡ other → ((mark : ℕ) × IsGreatestOf items mark) → (mark : ℕ) × IsGreatestOf ((number, at, item) ∷ items) mark
    with_rest (put seq until key value) is rest = kept rest (λ n a m same. no_end (put seq until key value) is (λ k h. cc) n a m rest.0 same)
    with_rest (removal seq key) is rest = kept rest (λ n a m same. no_end (removal seq key) is (λ k h. cc) n a m rest.0 same)
    with_rest (end moment) is rest = ⊎_elim
        (λ above. (
          moment,
          record {
            bound = λ n a m among. ⊎_elim
                (λ same. omega (arith, same_end n a m number at moment (ap (λ (x : Item). placed number at x) (sym is) ∙ same)))
                (λ later. omega (arith, rest.1.bound n a m later, above))
                (among-cases (number, at, item) (placed n a (end m)) items among);
            reached = inr (number, at, subst (λ (x : Item). Contains ((number, at, item) ∷ items) (placed number at x)) is (among-here (number, at, item) items));
          },
        ))
        (λ below. kept rest (λ n a m same. omega (arith, same_end n a m number at moment (ap (λ (x : Item). placed number at x) (sym is) ∙ same), below)))
        (cases_lt rest.0 moment)

-- each image has a mark
pub mark_exists : (image : Image) → (mark : ℕ) × IsMark image mark
mark_exists image =
    let greatest = greatest-of (all_placed image) in (
      greatest.0,
      record {
        bound = λ n a m counted. greatest.1.bound n a m (counts-placed image n a (end m) counted);
        reached = ⊎_elim (λ zero. inl zero) (λ some. inr (some.0, some.1, placed-counts image (placed some.0 some.1 (end greatest.0)) some.2)) greatest.1.reached;
      },
    )

-- and no other one
pub mark_is_single : (image : Image) (one other : ℕ) → IsMark image one → IsMark image other → one ≡ other
mark_is_single image one other first second = omega (arith, no_more one other first second, no_more other one second first)
  where
    no_more : (m n : ℕ) → IsMark image m → IsMark image n → m ≤ n
    no_more m n is bound = ⊎_elim (λ zero. omega (arith, zero)) (λ some. bound.bound some.0 some.1 m some.2) is.reached
