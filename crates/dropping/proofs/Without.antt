-- What an image says without one of its data files.
use Rattle.std.proofs.Common.{◌≡◌, ◌⊎◌, inl, inr, ⊎_elim, ℕ, ◌≤◌, ◌==◌, Bool, true, false, cond, List, Option, Some, None, refl, sym, ◌∙◌, ap, subst, arith}
use Rattle.std.specs.Prelude.{◌<◌, ◌↔◌, nat_lt}
use Rattle.std.proofs.lemmas.Bool.Decides.{nat_tests}
use Rattle.cache_model.specs.declared.entries.Entry.{Entry}
use Rattle.cache_model.specs.declared.entries.Until.{Until}
use Rattle.cache_model.specs.declared.entries.Until.TheVariants.{Never, At as Till}
use Rattle.cache_model.specs.Files.{Image, file_in, is_name}
use Rattle.cache_model.specs.Items.{Item, end}
use Rattle.cache_model.specs.Plain.{visible_at, is_visible}
use Rattle.cache_model.specs.Images.{log_name, IsCounted, sequence_of, entry_by, IsNoNewer, IsNewest, HasNoRecord, HasEntry, IsMark}
use Rattle.cache_model.proofs.Existing.{through, newest_exists}
use Rattle.dropping.specs.Going.{IsRecordOf, IsWithout, IsOutdone, IsHidden, IsAllOutdone, LosesNothing, ReadsAlike, MayGo, AreAlike}

-- one number, or not
same_or_not : (n m : ℕ) → (n ≡ m) ⊎ (n ≡ m → ⊥)
same_or_not n m = by_test (n == m) refl
  where
    by_test : (b : Bool) → (n == m) ≡ b → (n ≡ m) ⊎ (n ≡ m → ⊥)
    by_test true is = inl (grind (arith, nat_tests))
    by_test false is = inr (λ same. grind (arith, nat_tests))

-- other numbers make other names
other_name : (n m : ℕ) → (m ≡ n → ⊥) → is_name (log_name n) (log_name m) ≡ false
other_name n m apart = by_test (n == m) refl
  where
    by_test : (b : Bool) → (n == m) ≡ b → is_name (log_name n) (log_name m) ≡ false
    by_test true is = absurd (apart (grind (arith, nat_tests)))
    by_test false is = grind (arith, nat_tests)

-- two records, neither of them newer, stand in one file
same_file : (one other : ℕ × ℕ × ℕ) → IsNoNewer one other → IsNoNewer other one → one.1 ≡ other.1
same_file one other (inl less) (inl more) = absurd (omega (arith, less, more))
same_file one other (inl less) (inr back) = absurd (omega (arith, less, back.0))
same_file one other (inr level) (inl more) = absurd (omega (arith, level.0, more))
same_file one other (inr level) (inr back) = in_file level.1 back.1
  where
    in_file : (one.1 < other.1) ⊎ ((one.1 ≡ other.1) × (one.2 ≤ other.2)) → (other.1 < one.1) ⊎ ((other.1 ≡ one.1) × (other.2 ≤ one.2)) → one.1 ≡ other.1
    in_file (inl less) (inl more) = absurd (omega (arith, less, more))
    in_file (inl less) (inr file) = sym file.0
    in_file (inr file) also = file.0

-- the newest records of a key stand in one file
newest_file : (image : Image) (key : List ℕ) (n a m b : ℕ) (item other : Item) → IsNewest image key n a item → IsNewest image key m b other → n ≡ m
newest_file image key n a m b item other is also =
    same_file (sequence_of item, n, a) (sequence_of other, m, b) (also.newest n a item is.counted is.of_key) (is.newest m b other also.counted also.of_key)

-- none that is visible at a moment is none that is visible later
none_later : (mark moment : ℕ) (entry : Option Entry) → visible_at mark entry ≡ None → mark ≤ moment → visible_at moment entry ≡ None
none_later mark moment None none le = refl
none_later mark moment (Some entry) none le = by_until entry.until refl
  where
    by_until : (until : Until) → entry.until ≡ until → visible_at moment (Some entry) ≡ None
    by_until Never is = absurd (let shown = ap (λ (u : Until). cond (is_visible u mark) (Some entry) None) is in cc)
    by_until (Till last) is = by_test (nat_lt mark last) (nat_lt moment last) refl refl
      where
        by_test : (b c : Bool) → nat_lt mark last ≡ b → nat_lt moment last ≡ c → visible_at moment (Some entry) ≡ None
        by_test true c before now = absurd (let shown = ap (λ (u : Until). cond (is_visible u mark) (Some entry) None) is in let then = ap (λ (b : Bool). cond b (Some entry) None) before in cc)
        by_test false true before now = absurd (grind (arith, nat_tests))
        by_test false false before now = ap (λ (u : Until). cond (is_visible u moment) (Some entry) None) is ∙ ap (λ (b : Bool). cond b (Some entry) None) now

-- a key has the same entries in both images
abbrev pub SameEntries : Image → Image → List ℕ → Type 0
SameEntries one other key = (entry : Option Entry) → (HasEntry one key entry ↔ HasEntry other key entry)

-- a newest record in this file, of which this holds
abbrev IsLost : Image → ℕ → List ℕ → Type 0 → Type 0
IsLost image number key holds = (a : ℕ) × (item : Item) × IsNewest image key number a item × holds

module _ (image lesser : Image) (number : ℕ) (without : IsWithout number image lesser) where
  -- what counts without the file stands in another one
  not_there : (a : ℕ) (item : Item) → IsCounted lesser number a item → ⊥
  not_there a item counted = let gone : file_in lesser (log_name number) ≡ None = without.gone in let there = counted.there in cc

  elsewhere : (n a : ℕ) (item : Item) → IsCounted lesser n a item → n ≡ number → ⊥
  elsewhere n a item counted same = not_there a item (subst (λ (k : ℕ). IsCounted lesser k a item) same counted)

  -- and counted before
  before : (n a : ℕ) (item : Item) → IsCounted lesser n a item → IsCounted image n a item
  before n a item counted = record {
    bytes = counted.bytes;
    there = sym (without.others (log_name n) (other_name number n (elsewhere n a item counted))) ∙ counted.there;
    counted = counted.counted;
  }

  -- what counts in another file counts without this one
  after : (n a : ℕ) (item : Item) → (n ≡ number → ⊥) → IsCounted image n a item → IsCounted lesser n a item
  after n a item apart counted = record {
    bytes = counted.bytes;
    there = without.others (log_name n) (other_name number n apart) ∙ counted.there;
    counted = counted.counted;
  }

  none_after : (key : List ℕ) → HasNoRecord image key → HasNoRecord lesser key
  none_after key none n a item counted of_key = none n a item (before n a item counted) of_key

  -- a newest record in another file is the newest one without this file
  newest_after : (key : List ℕ) (n a : ℕ) (item : Item) → (n ≡ number → ⊥) → IsNewest image key n a item → IsNewest lesser key n a item
  newest_after key n a item apart is = record {
    counted = after n a item apart is.counted;
    of_key = is.of_key;
    newest = λ m b other counted of_key. is.newest m b other (before m b other counted) of_key;
  }

  -- and the newest one without this file is the newest of all
  newest_before : (key : List ℕ) (n a m b : ℕ) (item other : Item) → (m ≡ number → ⊥) → IsNewest image key m b other → IsNewest lesser key n a item → IsNewest image key n a item
  newest_before key n a m b item other apart is also = record {
    counted = before n a item also.counted;
    of_key = also.of_key;
    newest = λ k c one counted of_key. through (sequence_of one, k, c) (sequence_of other, m, b) (sequence_of item, n, a) (is.newest k c one counted of_key)
        (also.newest m b other (after m b other apart is.counted) is.of_key);
  }

  -- a key without a record has the same entries
  same_none : (key : List ℕ) → HasNoRecord image key → SameEntries image lesser key
  same_none key none entry = (
    ⊎_elim (λ has. inl (none_after key none, has.1)) (λ some. absurd (none some.0 some.1 some.2 some.3.counted some.3.of_key)),
    ⊎_elim (λ has. inl (none, has.1)) (λ some. absurd (none some.0 some.1 some.2 (before some.0 some.1 some.2 some.3.counted) some.3.of_key)),
  )

  -- and so has one whose newest record stands in another file
  same_some : (key : List ℕ) (m b : ℕ) (other : Item) → (m ≡ number → ⊥) → IsNewest image key m b other → SameEntries image lesser key
  same_some key m b other apart is entry = (
    ⊎_elim
        (λ none. absurd (none.0 m b other is.counted is.of_key))
        (λ some. inr (some.0, some.1, some.2, newest_after key some.0 some.1 some.2 (λ same. apart (newest_file image key m b some.0 some.1 other some.2 is some.3 ∙ same)) some.3, some.4)),
    ⊎_elim
        (λ none. absurd (none.0 m b other (after m b other apart is.counted) is.of_key))
        (λ some. inr (some.0, some.1, some.2, newest_before key some.0 some.1 m b some.2 other apart is some.3, some.4)),
  )

  -- a record that is outdone isn't the newest
  not_outdone : (key : List ℕ) (a : ℕ) (item : Item) → IsNewest image key number a item → IsOutdone image key number a item → ⊥
  not_outdone key a item is outdone = outdone.elsewhere (same_file (sequence_of outdone.other, outdone.file, outdone.place) (sequence_of item, number, a)
      (is.newest outdone.file outdone.place outdone.other outdone.there.counted outdone.there.of_key)
      outdone.newer)

  -- where each record of a key in the file is outdone, or something else holds, the key has the same entries, or it holds
  -- and the key's newest record stands in the file
  same_or_lost : (key : List ℕ) (holds : Type 0) → ((a : ℕ) (item : Item) → IsRecordOf image key number a item → IsOutdone image key number a item ⊎ holds)
      → SameEntries image lesser key ⊎ IsLost image number key holds
  same_or_lost key holds each = ⊎_elim
      (λ none. inl (same_none key none))
      (λ some. ⊎_elim
      (λ same. in_file some.1 some.2 (subst (λ (k : ℕ). IsNewest image key k some.1 some.2) same some.3))
      (λ apart. inl (same_some key some.0 some.1 some.2 apart some.3))
      (same_or_not some.0 number))
      (newest_exists image key)
    where
      in_file : (a : ℕ) (item : Item) → IsNewest image key number a item → SameEntries image lesser key ⊎ IsLost image number key holds
      in_file a item is = ⊎_elim
          (λ outdone. absurd (not_outdone key a item is outdone))
          (λ held. inr (a, item, is, held))
          (each a item (record { counted = is.counted; of_key = is.of_key }))

  pub same_entries : IsAllOutdone image number → (key : List ℕ) → SameEntries image lesser key
  same_entries outdone key = ⊎_elim (λ same. same) (λ lost. absurd lost.3) (same_or_lost key ⊥ (λ a item is. inl (outdone key a item is)))

  -- a hidden key shows nothing from the moment on, and has no record without the file
  shows_none : (key : List ℕ) (mark moment a : ℕ) (item : Item) (entry : Option Entry) → mark ≤ moment → IsNewest image key number a item → IsHidden image key number mark
      → HasEntry image key entry → visible_at moment entry ≡ None
  shows_none key mark moment a item entry le is hidden (inl none) = absurd (none.0 number a item is.counted is.of_key)
  shows_none key mark moment a item entry le is hidden (inr some) =
      ap (visible_at moment) some.4 ∙ none_later mark moment (entry_by some.2) (hidden.hidden some.0 some.1 some.2 some.3) le

  no_record : (key : List ℕ) (mark : ℕ) → IsHidden image key number mark → HasNoRecord lesser key
  no_record key mark hidden n a item counted of_key =
      elsewhere n a item counted (hidden.alone n a item (record { counted = before n a item counted; of_key = of_key }))

  pub reads_alike : (mark : ℕ) → LosesNothing image number mark → ReadsAlike mark image lesser
  reads_alike mark loses key moment reading le = ⊎_elim
      (λ same. (
        λ is. record { entry = is.entry; has = (same is.entry).0 is.has; shown = is.shown },
        λ is. record { entry = is.entry; has = (same is.entry).1 is.has; shown = is.shown },
      ))
      (λ lost. (
        λ is. record { entry = None; has = inl (no_record key mark lost.3, refl); shown = sym (shows_none key mark moment lost.0 lost.1 is.entry le lost.2 lost.3 is.has) ∙ is.shown },
        λ is. ⊎_elim
            (λ none. record {
              entry = entry_by lost.1;
              has = inr (number, lost.0, lost.1, lost.2, refl);
              shown = shows_none key mark moment lost.0 lost.1 (entry_by lost.1) le lost.2 lost.3 (inr (number, lost.0, lost.1, lost.2, refl)) ∙ sym (ap (visible_at moment) none.1) ∙ is.shown;
            })
            (λ some. absurd (no_record key mark lost.3 some.0 some.1 some.2 some.3.counted some.3.of_key))
            is.has,
      ))
      (same_or_lost key (IsHidden image key number mark) (loses key))

  -- where a frame elsewhere is no earlier than each in the file, the mark stays
  mark_after : MayGo image number → (mark : ℕ) → IsMark image mark → IsMark lesser mark
  mark_after may mark is = record {
    bound = λ n a m counted. is.bound n a m (before n a (end m) counted);
    reached = ⊎_elim (λ zero. inl zero) (λ some. inr (by some (same_or_not some.0 number))) is.reached;
  }
    where
      by : (some : (n : ℕ) × (a : ℕ) × IsCounted image n a (end mark)) → (some.0 ≡ number) ⊎ (some.0 ≡ number → ⊥) → (n : ℕ) × (a : ℕ) × IsCounted lesser n a (end mark)
      by some (inr apart) = (some.0, some.1, after some.0 some.1 (end mark) apart some.2)
      by some (inl same) =
          let low : mark ≤ may.moment = may.latest some.1 mark (subst (λ (k : ℕ). IsCounted image k some.1 (end mark)) same some.2) in
          let high : may.moment ≤ mark = is.bound may.stamped may.at may.moment may.stamp in
          let level : may.moment ≡ mark = omega (arith, low, high) in
          (may.stamped, may.at, after may.stamped may.at (end mark) may.elsewhere (subst (λ (m : ℕ). IsCounted image may.stamped may.at (end m)) level may.stamp))

  mark_before : MayGo image number → (mark : ℕ) → IsMark lesser mark → IsMark image mark
  mark_before may mark is = record {
    bound = λ n a m counted. by n a m counted (same_or_not n number);
    reached = ⊎_elim (λ zero. inl zero) (λ some. inr (some.0, some.1, before some.0 some.1 (end mark) some.2)) is.reached;
  }
    where
      by : (n a m : ℕ) → IsCounted image n a (end m) → (n ≡ number) ⊎ (n ≡ number → ⊥) → m ≤ mark
      by n a m counted (inr apart) = is.bound n a m (after n a (end m) apart counted)
      by n a m counted (inl same) =
          let high : may.moment ≤ mark = is.bound may.stamped may.at may.moment (after may.stamped may.at (end may.moment) may.elsewhere may.stamp) in
          omega (arith, high, may.latest a m (subst (λ (k : ℕ). IsCounted image k a (end m)) same counted))

  pub alike_without : MayGo image number → AreAlike image lesser
  alike_without may = record {
    marks = λ mark. (mark_after may mark, mark_before may mark);
    readings = λ mark is key moment reading le.
        let high : may.moment ≤ mark = is.bound may.stamped may.at may.moment may.stamp in
        reads_alike may.moment may.loses key moment reading (omega (arith, high, le));
  }
