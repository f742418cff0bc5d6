-- What a walk over the records has passed, and that what it shows is the next visible key.
use Rattle.std.proofs.Common.{◌≡◌, ⊎_elim, ℕ, true, List, Option, Some, None, IsSome, refl, sym, ◌∙◌, ap, subst}
use Rattle.std.specs.Ordering.{is_lt}
use Rattle.std.specs.declared.cmp.Ordering.{Ordering}
use Rattle.std.specs.declared.cmp.Ordering.TheVariants.{Less, Equal, Greater}
use Rattle.std.specs.Cmp.{IsTotalOrder}
use Rattle.std.proofs.lemmas.Cmp.{nat_cmp_total, nat_list_cmp_total, on_total, then_total}
use Rattle.cache_model.specs.Files.{Image}
use Rattle.cache_model.specs.Hash.{precedes, follows}
use Rattle.cache_model.specs.Images.{entry_by}
use Rattle.cache_model.specs.Items.{Item}
use Rattle.record_format.specs.declared.items.OwnItem.{OwnItem}
use Rattle.record_format.specs.Meaning.{own_item}
use Rattle.compactor.specs.Counting.{Counts, AreThere, IsNewestBy}
use Rattle.compactor.specs.Looking.{IsKnownBehind, IsNextRecord}
use Rattle.compactor.proofs.Rows.{newest_once}
use Rattle.store_trait.specs.declared.entries.HashedKey.{HashedKey}
use Rattle.store_trait.specs.Meaning.{seen}
use Rattle.store_trait.specs.Places.{hashed, place_cmp}
use Rattle.store_trait.proofs.Walking.{precedes_by}
use Rattle.soft_index.specs.Walking.{IsShownBehind, IsNextShown}

-- walk order goes along

less_of : (o : Ordering) → is_lt o ≡ true → o ≡ Less
less_of Less is = refl
less_of Equal is = cc
less_of Greater is = cc

place_total : IsTotalOrder place_cmp
place_total = then_total (on_total (λ (place : HashedKey). place.hash) nat_cmp_total) (on_total (λ (place : HashedKey). place.key) nat_list_cmp_total)

before : (bits : ℕ) (one other : List ℕ) → precedes bits one other ≡ true → place_cmp (hashed bits one) (hashed bits other) ≡ Less
before bits one other is = less_of (place_cmp (hashed bits one) (hashed bits other)) (sym (precedes_by bits one other) ∙ is)

precedes_trans : (bits : ℕ) (a b c : List ℕ) → precedes bits a b ≡ true → precedes bits b c ≡ true → precedes bits a c ≡ true
precedes_trans bits a b c ab bc = precedes_by bits a c ∙ ap is_lt (place_total.trans (hashed bits a) (hashed bits b) (hashed bits c) (before bits a b ab) (before bits b c bc))

-- what stands behind a key that stands behind another stands behind that one
follows_trans : (bits : ℕ) (from : Option (List ℕ)) (key other : List ℕ) → follows bits from key ≡ true → follows bits (Some key) other ≡ true → follows bits from other ≡ true
follows_trans bits None key other behind later = refl
follows_trans bits (Some start) key other behind later = precedes_trans bits start key other behind later

-- A walk that began behind one key goes on behind another: every visible key of its way is still ahead.
pub record HasPassed (counts : Counts) (bits moment : ℕ) (after from : Option (List ℕ)) : Type 0 where
  pub on : (key : List ℕ) → follows bits from key ≡ true → follows bits after key ≡ true
  pub ahead : (key : List ℕ) → IsShownBehind counts bits moment after key → follows bits from key ≡ true

pub passed_none : (counts : Counts) (bits moment : ℕ) (after : Option (List ℕ)) → HasPassed counts bits moment after after
passed_none counts bits moment after = record { on = λ key behind. behind; ahead = λ key shown. shown.behind }

module _ (counts : Counts) (files : Image) (there : AreThere counts files) (bits moment : ℕ) (after from : Option (List ℕ)) (passed : HasPassed counts bits moment after from) where
  -- a key that is shown has a record ahead
  known : (key : List ℕ) → IsShownBehind counts bits moment after key → IsKnownBehind counts bits from key
  known key shown = record {
    number = shown.number;
    at = shown.at;
    item = shown.item;
    counted = shown.newest.counted;
    of_key = shown.newest.of_key;
    behind = passed.ahead key shown;
  }

  -- the next record is passed, where nothing visible is put
  pub passed_one : (key : List ℕ) (item : OwnItem) → IsNextRecord counts bits from (Some (key, item)) → (IsSome (seen moment (Some (entry_by (own_item item)))) → ⊥) → HasPassed counts bits moment after (Some key)
  passed_one key item next hidden = record {
    on = λ other later. passed.on other (follows_trans bits from key other next.0 later);
    ahead = λ other shown. ⊎_elim (λ same. absurd (hidden (visible other shown same))) (λ later. later) (next.2 other (known other shown));
  }
    where
      visible : (other : List ℕ) → IsShownBehind counts bits moment after other → other ≡ key → IsSome (seen moment (Some (entry_by (own_item item))))
      visible other shown same =
          let newest = subst (λ (k : List ℕ). IsNewestBy counts k shown.number shown.at shown.item) same shown.newest in
          let one = newest_once counts files there key shown.number next.1.0 shown.at next.1.1 shown.item (own_item item) newest next.1.2 in
          subst (λ (i : Item). IsSome (seen moment (Some (entry_by i)))) one shown.visible

  -- the next record is that of the next key, where a visible entry is put
  pub shown_one : (key : List ℕ) (item : OwnItem) → IsNextRecord counts bits from (Some (key, item)) → IsSome (seen moment (Some (entry_by (own_item item)))) → IsNextShown counts bits moment after (Some key)
  shown_one key item next visible = (
    record { number = next.1.0; at = next.1.1; item = own_item item; newest = next.1.2; visible = visible; behind = passed.on key next.0 },
    λ other shown. next.2 other (known other shown),
  )

  -- where no record is left there is no next key
  pub shown_none : IsNextRecord counts bits from None → IsNextShown counts bits moment after None
  shown_none next other shown = next other (known other shown)
