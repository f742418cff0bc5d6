-- How an index goes on by one item more.
use Rattle.std.proofs.Common.{◌≡◌, ⊎_elim, ℕ, ◌+◌, ◌-◌, ◌^◌, List, [], ◌∷◌, ◌++◌, length, min, Some, None, Contains, refl, sym, ap, subst, ◌∙◌, arith}
use Rattle.std.proofs.lemmas.Option.{same_Some}
use Rattle.std.proofs.lemmas.List.Elements.{Contains-push_cases}
use Rattle.cache_model.specs.declared.index.IndexKey.{IndexKey}
use Rattle.cache_model.specs.declared.index.IndexValue.{IndexValue}
use Rattle.cache_model.specs.Items.{spelling}
use Rattle.cache_model.specs.Images.{IsNoNewer, key_of, sequence_of}
use Rattle.cache_model.proofs.Existing.{through}
use Rattle.tree_index.specs.Index.{Index, Sets, value_at}
use Rattle.rebuild.specs.Rebuilt.{is_removal}
use Rattle.rebuild.specs.Reading.{one_more, raised}
use Rattle.rebuild.specs.Taking.{AreApart, Counted, IsEntryAmong, IsInFrontOf, IsIndexAmong, IsIndexedAmong, IsSamePlace}
use Rattle.rebuild.proofs.Lookups.{cases-key, other-key}
use Rattle.rebuild.proofs.Ranks.{cases-text}
use Rattle.rebuild.proofs.Indexing.{apart-push, count-none, entry-kept, entry-new, entry-raised, in-front-apart, one-key, place_of, single-entry}

-- an index of no items
pub index-none : (bits : ℕ) (tree : Index) → tree.entries ≡ [] → IsIndexAmong [] bits tree.entries
index-none bits tree none = record {
  newest = λ place value held. let no : None ≡ Some value = sym (ap (λ es. value_at es place) none) ∙ held in cc;
  whole = λ one key among. absurd (omega (arith, among.1));
  apart = tt;
}

module _ (counted : List Counted) (one : Counted) (bits : ℕ) (old : Index) (index : IsIndexAmong counted bits old.entries) (behind : (other : Counted) → Contains counted other → IsInFrontOf other one) where
  abbrev more : List Counted
  more = counted ++ one ∷ []

  fresh : (other : Counted) → Contains counted other → IsSamePlace other one → ⊥
  fresh other among = in-front-apart other one (behind other among)

  apart : AreApart more
  apart = apart-push counted one index.apart fresh

  -- no entry stands where the item does
  pub place-free : (key : List ℕ) (value : IndexValue) → value_at old.entries (place_of bits key one) ≡ Some value → ⊥
  place-free key value held = let entry = index.newest (place_of bits key one) value held in fresh _ entry.1.among (refl, refl)

  -- an end changes nothing
  pub index-end : ((key : List ℕ) → key_of one.item ≡ Some key → ⊥) → IsIndexAmong more bits old.entries
  index-end no_key = record {
    newest = λ place value held. let entry = index.newest place value held in (entry.0, entry-kept counted one bits entry.0 place value (no_key entry.0) entry.1);
    whole = λ other key among of_key. ⊎_elim
        (λ before. let entry = index.whole other key before of_key in (entry.0, entry.1, entry.2, entry-kept counted one bits key entry.0 entry.1 (no_key key) entry.3))
        (λ (is : one ≡ other). absurd (no_key key (ap (λ (c : Counted). key_of c.item) is ∙ of_key)))
        (Contains-push_cases counted one other among);
    apart = apart;
  }

  module _ (key : List ℕ) (of_key : key_of one.item ≡ Some key) where
    -- it isn't of another key
    other_of : (k : List ℕ) → (k ≡ key → ⊥) → key_of one.item ≡ Some k → ⊥
    other_of k differs is = differs (same_Some k key (sym is ∙ of_key))

    abbrev here : IndexKey
    here = place_of bits key one

    -- the first record of its key
    pub index-first : (new : Index) (value : IndexValue) → ((place : IndexKey) (v : IndexValue) → value_at old.entries place ≡ Some v → IsEntryAmong counted bits key place v → ⊥) → Sets here (Some value) old new
        → value.length ≡ length (spelling one.item)
        → value.gone ≡ is_removal one.item
        → value.count ≡ 1
        → IsIndexAmong more bits new.entries
    index-first new value none sets long gone count = record { newest = newest; whole = whole; apart = apart }
      where
        no_record : (other : Counted) → Contains counted other → key_of other.item ≡ Some key → ⊥
        no_record other among is = let entry = index.whole other key among is in none entry.0 entry.1 entry.2 entry.3

        entry : IsEntryAmong more bits key here value
        entry = entry-new counted one bits key value of_key (λ other among is. absurd (no_record other among is)) long gone (count ∙ ap (λ n. min (n + 1) (2 ^ 64 - 1)) (sym (count-none key counted no_record)))

        newest : (place : IndexKey) (v : IndexValue) → value_at new.entries place ≡ Some v → (k : List ℕ) × IsEntryAmong more bits k place v
        newest place v held = ⊎_elim
            (λ (is : here ≡ place).
            let same : value ≡ v = same_Some value v (sym sets.here ∙ ap (λ p. value_at new.entries p) is ∙ held) in
            (key, subst (λ p. IsEntryAmong more bits key p v) is (subst (λ w. IsEntryAmong more bits key here w) same entry)))
            (λ differs.
            let was = other-key here (Some value) old new place sets differs.0 in
            let before = index.newest place v (sym was ∙ held) in
            let apart_key = λ (is : before.0 ≡ key). none place v (sym was ∙ held) (subst (λ k. IsEntryAmong counted bits k place v) is before.1) in
            (before.0, entry-kept counted one bits before.0 place v (other_of before.0 apart_key) before.1))
            (cases-key here place)

        whole : (other : Counted) (k : List ℕ) → Contains more other → key_of other.item ≡ Some k → IsIndexedAmong more bits new.entries k
        whole other k among is = ⊎_elim
            (λ before.
            let was = index.whole other k before is in
            let differs = λ (same : k ≡ key). no_record other before (subst (λ x. key_of other.item ≡ Some x) same is) in
            let beside = λ (same : here ≡ was.0). place-free key was.1 (ap (λ p. value_at old.entries p) same ∙ was.2) in
            (was.0, was.1, other-key here (Some value) old new was.0 sets beside ∙ was.2, entry-kept counted one bits k was.0 was.1 (other_of k differs) was.3))
            (λ (same : one ≡ other).
            let key_is : key ≡ k = same_Some key k (sym of_key ∙ ap (λ (c : Counted). key_of c.item) same ∙ is) in
            subst (λ x. IsIndexedAmong more bits new.entries x) key_is (here, value, sets.here, entry))
            (Contains-push_cases counted one other among)

    module _ (place0 : IndexKey) (value0 : IndexValue) (held0 : value_at old.entries place0 ≡ Some value0) (entry0 : IsEntryAmong counted bits key place0 value0) where
      -- an entry elsewhere is of another key
      elsewhere : (place : IndexKey) (v : IndexValue) (k : List ℕ) → (place0 ≡ place → ⊥) → IsEntryAmong counted bits k place v → k ≡ key → ⊥
      elsewhere place v k differs entry same = differs (single-entry counted bits key place0 place value0 v entry0 (subst (λ x. IsEntryAmong counted bits x place v) same entry))

      -- an entry of another key is elsewhere
      beside : (place : IndexKey) (v : IndexValue) (k : List ℕ) → (k ≡ key → ⊥) → IsEntryAmong counted bits k place v → place0 ≡ place → ⊥
      beside place v k differs entry same = differs (one-key counted bits k key place v value0 index.apart entry (subst (λ p. IsEntryAmong counted bits key p value0) same entry0))

      pub apart-place : here ≡ place0 → ⊥
      apart-place same = place-free key value0 (ap (λ p. value_at old.entries p) same ∙ held0)

      -- an older record is counted
      pub index-raised : (new : Index) → IsNoNewer (sequence_of one.item, one.number, one.at) (sequence_of entry0.item, place0.file, place0.at) → Sets place0 (Some (raised value0)) old new → IsIndexAmong more bits new.entries
      index-raised new older sets = record { newest = newest; whole = whole; apart = apart }
        where
          entry : IsEntryAmong more bits key place0 (raised value0)
          entry = entry-raised counted one bits key place0 value0 of_key entry0 older

          newest : (place : IndexKey) (v : IndexValue) → value_at new.entries place ≡ Some v → (k : List ℕ) × IsEntryAmong more bits k place v
          newest place v held = ⊎_elim
              (λ (is : place0 ≡ place).
              let same : raised value0 ≡ v = same_Some (raised value0) v (sym sets.here ∙ ap (λ p. value_at new.entries p) is ∙ held) in
              (key, subst (λ p. IsEntryAmong more bits key p v) is (subst (λ w. IsEntryAmong more bits key place0 w) same entry)))
              (λ differs.
              let was = other-key place0 (Some (raised value0)) old new place sets differs.0 in
              let before = index.newest place v (sym was ∙ held) in
              (before.0, entry-kept counted one bits before.0 place v (other_of before.0 (elsewhere place v before.0 differs.0 before.1)) before.1))
              (cases-key place0 place)

          whole : (other : Counted) (k : List ℕ) → Contains more other → key_of other.item ≡ Some k → IsIndexedAmong more bits new.entries k
          whole other k among is = ⊎_elim
              (λ (same : k ≡ key). subst (λ x. IsIndexedAmong more bits new.entries x) (sym same) (place0, raised value0, sets.here, entry))
              (λ differs. ⊎_elim
              (λ before.
              let was = index.whole other k before is in
              (was.0, was.1, other-key place0 (Some (raised value0)) old new was.0 sets (beside was.0 was.1 k differs was.3) ∙ was.2, entry-kept counted one bits k was.0 was.1 (other_of k differs) was.3))
              (λ (same : one ≡ other). absurd (other_of k differs (ap (λ (c : Counted). key_of c.item) same ∙ is)))
              (Contains-push_cases counted one other among))
              (cases-text k key)

      -- a newer record takes the place of the older one
      pub index-replaced : (between new : Index) (value : IndexValue) → IsNoNewer (sequence_of entry0.item, place0.file, place0.at) (sequence_of one.item, one.number, one.at) → Sets here (Some value) old between → Sets place0 None between new
          → value.length ≡ length (spelling one.item)
          → value.gone ≡ is_removal one.item
          → value.count ≡ one_more value0.count
          → IsIndexAmong more bits new.entries
      index-replaced between new value newer puts takes long gone count = record { newest = newest; whole = whole; apart = apart }
        where
          entry : IsEntryAmong more bits key here value
          entry = entry-new counted one bits key value of_key
              (λ other among is. through (sequence_of other.item, other.number, other.at) (sequence_of entry0.item, place0.file, place0.at) (sequence_of one.item, one.number, one.at) (entry0.newest other among is) newer)
              long gone (omega (arith, count, entry0.many))

          now : value_at new.entries here ≡ Some value
          now = other-key place0 None between new here takes (λ same. apart-place (sym same)) ∙ puts.here

          newest : (place : IndexKey) (v : IndexValue) → value_at new.entries place ≡ Some v → (k : List ℕ) × IsEntryAmong more bits k place v
          newest place v held = ⊎_elim
              (λ (is : place0 ≡ place). let no : None ≡ Some v = sym takes.here ∙ ap (λ p. value_at new.entries p) is ∙ held in cc)
              (λ differs. ⊎_elim
              (λ (is : here ≡ place).
              let same : value ≡ v = same_Some value v (sym now ∙ ap (λ p. value_at new.entries p) is ∙ held) in
              (key, subst (λ p. IsEntryAmong more bits key p v) is (subst (λ w. IsEntryAmong more bits key here w) same entry)))
              (λ other.
              let was : value_at new.entries place ≡ value_at old.entries place = other-key place0 None between new place takes differs.0 ∙ other-key here (Some value) old between place puts other.0 in
              let before = index.newest place v (sym was ∙ held) in
              (before.0, entry-kept counted one bits before.0 place v (other_of before.0 (elsewhere place v before.0 differs.0 before.1)) before.1))
              (cases-key here place))
              (cases-key place0 place)

          whole : (other : Counted) (k : List ℕ) → Contains more other → key_of other.item ≡ Some k → IsIndexedAmong more bits new.entries k
          whole other k among is = ⊎_elim
              (λ (same : k ≡ key). subst (λ x. IsIndexedAmong more bits new.entries x) (sym same) (here, value, now, entry))
              (λ differs. ⊎_elim
              (λ before.
              let was = index.whole other k before is in
              let free = λ (same : here ≡ was.0). place-free key was.1 (ap (λ p. value_at old.entries p) same ∙ was.2) in (
                was.0,
                was.1,
                other-key place0 None between new was.0 takes (beside was.0 was.1 k differs was.3) ∙ other-key here (Some value) old between was.0 puts free ∙ was.2,
                entry-kept counted one bits k was.0 was.1 (other_of k differs) was.3,
              ))
              (λ (same : one ≡ other). absurd (other_of k differs (ap (λ (c : Counted). key_of c.item) same ∙ is)))
              (Contains-push_cases counted one other among))
              (cases-text k key)
