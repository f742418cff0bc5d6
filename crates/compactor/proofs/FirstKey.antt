-- The first key of the records of some entries, by the keys' bytes, as it is searched entry by entry.
use Rattle.std.proofs.Common.{◌≡◌, ◌⊎◌, inl, inr, ⊎_elim, ℕ, Bool, true, false, List, [], ◌∷◌, ◌++◌, Option, Some, None, refl, sym, ◌∙◌, ap, subst}
use Rattle.std.specs.Prelude.{◌&&◌, cond, option_and_then}
use Rattle.std.specs.Ordering.{nat_cmp, is_lt, ordering_reverse}
use Rattle.std.specs.Cmp.Lexicographic.{slice_cmp}
use Rattle.std.specs.declared.cmp.Ordering.{Ordering}
use Rattle.std.specs.declared.cmp.Ordering.TheVariants.{Less, Equal, Greater}
use Rattle.std.proofs.lemmas.Cmp.{nat_list_cmp_total}
use Rattle.std.proofs.lemmas.List.Elements.{Contains-append_left, Contains-push, Contains-push_cases}
use Rattle.std.proofs.lemmas.Map.Lookups.{exact_bytes}
use Rattle.cache_model.specs.declared.index.IndexKey.{IndexKey}
use Rattle.cache_model.specs.declared.index.IndexValue.{IndexValue}
use Rattle.cache_model.proofs.Members.{among-none}
use Rattle.cache_model.specs.Files.{Image}
use Rattle.cache_model.specs.Items.{Item, whole}
use Rattle.cache_model.specs.Images.{key_of}
use Rattle.record_format.specs.declared.items.OwnItem.{OwnItem}
use Rattle.record_format.specs.Meaning.{own_item}
use Rattle.temporary_table.proofs.Walks.{less_of}
use Rattle.temporary_table.proofs.Ordered.{never}
use Rattle.tree_index.specs.Index.{Entries}
use Rattle.compactor.specs.Finding.{entry_front}
use Rattle.compactor.specs.Walking.{HasKeyAt, IsFirstKey, is_lower, is_above, is_under, is_nearer, nearer}

-- a key is another, or it is lower
abbrev pub IsNoHigher : List ℕ → List ℕ → Type 0
IsNoHigher key other = (other ≡ key) ⊎ (is_lower key other ≡ true)

pub lower_chain : (one two three : List ℕ) → is_lower one two ≡ true → IsNoHigher two three → is_lower one three ≡ true
lower_chain one two three lower (inl same) = subst (λ (k : List ℕ). is_lower one k ≡ true) (sym same) lower
lower_chain one two three lower (inr later) =
    ap is_lt (nat_list_cmp_total.trans one two three (less_of (slice_cmp nat_cmp one two) lower) (less_of (slice_cmp nat_cmp two three) later))

-- of two keys, one is no higher than the other
pub lower_or : (one other : List ℕ) → is_lower one other ≡ false → IsNoHigher other one
lower_or one other not = by (slice_cmp nat_cmp one other) refl
  where
    by : (o : Ordering) → slice_cmp nat_cmp one other ≡ o → IsNoHigher other one
    by Less is = absurd (never (sym (ap is_lt is) ∙ not))
    by Equal is = inl (exact_bytes one other is)
    by Greater is = inr (ap is_lt (nat_list_cmp_total.antisymm other one ∙ ap ordering_reverse is))

-- at a place stands one record
pub read_once : (files : Image) (e : IndexKey × IndexValue) (one other : Item) (n m : ℕ) → entry_front files e.0 e.1 ≡ whole one n → entry_front files e.0 e.1 ≡ whole other m → one ≡ other
read_once files e one other n m is is_too = let both : whole one n ≡ whole other m = sym is ∙ is_too in cc

pub some_key : (one other : List ℕ) → Some one ≡ Some other → one ≡ other
some_key one other same = cc

module _ (files : Image) (after : Option (List ℕ)) where
  -- so far none was read
  pub first_none : IsFirstKey files (is_above after) is_lower [] None
  first_none = λ e key item has. absurd (among-none e has.within)

  module _ (entries : Entries) (e : IndexKey × IndexValue) (item : OwnItem) (read : entry_front files e.0 e.1 ≡ whole (own_item item) e.1.length) where
    -- an entry is one of those so far, or the one in hand
    which : (d : IndexKey × IndexValue) (key : List ℕ) (other : Item) → HasKeyAt files (entries ++ e ∷ []) d key other → HasKeyAt files entries d key other ⊎ (key_of (own_item item) ≡ Some key)
    which d key other has = ⊎_elim
        (λ within. inl (record { within = within; read = has.read; of_key = has.of_key }))
        (λ here. inr (ap key_of (read_once files e (own_item item) other e.1.length e.1.length read (subst (λ (r : IndexKey × IndexValue). entry_front files r.0 r.1 ≡ whole other r.1.length) (sym here) has.read)) ∙ has.of_key))
        (Contains-push_cases entries e d has.within)

    still : (d : IndexKey × IndexValue) (key : List ℕ) (other : Item) → HasKeyAt files entries d key other → HasKeyAt files (entries ++ e ∷ []) d key other
    still d key other has = record { within = Contains-append_left entries (e ∷ []) d has.within; read = has.read; of_key = has.of_key }

    here : (key : List ℕ) → key_of (own_item item) ≡ Some key → HasKeyAt files (entries ++ e ∷ []) e key (own_item item)
    here key is = record { within = Contains-push entries e; read = read; of_key = is }

    -- One that isn't nearer leaves the best as it is,
    not_above : (best : Option OwnItem) → IsFirstKey files (is_above after) is_lower entries best → ((key : List ℕ) → key_of (own_item item) ≡ Some key → is_above after key ≡ false) → IsFirstKey files (is_above after) is_lower (entries ++ e ∷ []) best
    not_above None first low = λ d key other has. ⊎_elim (λ old. first d key other old) (λ is. low key is) (which d key other has)
    not_above (Some best) first low = (
      first.0,
      first.1,
      still first.0 first.1 (own_item best) first.2,
      first.3,
      λ d key other has above. ⊎_elim (λ old. first.4 d key other old above) (λ is. absurd (never (sym above ∙ low key is))) (which d key other has),
    )

    not_under : (best : OwnItem) (key : List ℕ) → IsFirstKey files (is_above after) is_lower entries (Some best) → key_of (own_item item) ≡ Some key → is_under (key_of (own_item best)) key ≡ false → IsFirstKey files (is_above after) is_lower (entries ++ e ∷ []) (Some best)
    not_under best key first is high = (
      first.0,
      first.1,
      still first.0 first.1 (own_item best) first.2,
      first.3,
      λ d other record_other has above. ⊎_elim (λ old. first.4 d other record_other old above) (λ own. subst (λ (k : List ℕ). IsNoHigher first.1 k) (some_key key other (sym is ∙ own)) (lower_or key first.1 not)) (which d other record_other has),
    )
      where
        not : is_lower key first.1 ≡ false
        not = subst (λ (k : Option (List ℕ)). is_under k key ≡ false) first.2.of_key high

    -- and one that is becomes the best.
    nearer_now : (best : Option OwnItem) (key : List ℕ) → IsFirstKey files (is_above after) is_lower entries best → key_of (own_item item) ≡ Some key → is_above after key ≡ true
        → is_under (option_and_then (λ (b : OwnItem). key_of (own_item b)) best) key ≡ true → IsFirstKey files (is_above after) is_lower (entries ++ e ∷ []) (Some item)
    nearer_now best key first is above under = (e, key, here key is, above, λ d other record_other has passes. by d other record_other passes (which d other record_other has))
      where
        behind : (o : Option OwnItem) → IsFirstKey files (is_above after) is_lower entries o → is_under (option_and_then (λ (b : OwnItem). key_of (own_item b)) o) key ≡ true
            → (d : IndexKey × IndexValue) (other : List ℕ) (record_other : Item) → is_above after other ≡ true → HasKeyAt files entries d other record_other → IsNoHigher key other
        behind None none low d other record_other passes old = absurd (never (sym passes ∙ none d other record_other old))
        behind (Some b) first low d other record_other passes old =
            let lower : is_lower key first.1 ≡ true = subst (λ (k : Option (List ℕ)). is_under k key ≡ true) first.2.of_key low in
            inr (lower_chain key first.1 other lower (first.4 d other record_other old passes))

        by : (d : IndexKey × IndexValue) (other : List ℕ) (record_other : Item) → is_above after other ≡ true → HasKeyAt files entries d other record_other ⊎ (key_of (own_item item) ≡ Some other) → IsNoHigher key other
        by d other record_other passes (inl old) = behind best first under d other record_other passes old
        by d other record_other passes (inr own) = inl (some_key other key (sym own ∙ is))

    -- So the best of them all is that of those so far and the one in hand.
    pub first_more : (best : Option OwnItem) → IsFirstKey files (is_above after) is_lower entries best
        → IsFirstKey files (is_above after) is_lower (entries ++ e ∷ []) (nearer after best item)
    first_more best first = by_key (key_of (own_item item)) refl
      where
        by_under : (b : Option OwnItem) → IsFirstKey files (is_above after) is_lower entries b → (key : List ℕ) → key_of (own_item item) ≡ Some key → (u : Bool) → is_under (option_and_then (λ (x : OwnItem). key_of (own_item x)) b) key ≡ u
            → is_above after key ≡ true → IsFirstKey files (is_above after) is_lower (entries ++ e ∷ []) (cond u (Some item) b)
        by_under b first key is true under above = nearer_now b key first is above under
        by_under None first key is false high above = absurd (never high)
        by_under (Some b) first key is false high above = not_under b key first is high

        by_above : (key : List ℕ) → key_of (own_item item) ≡ Some key → (a : Bool) → is_above after key ≡ a
            → IsFirstKey files (is_above after) is_lower (entries ++ e ∷ []) (cond (a && is_under (option_and_then (λ (x : OwnItem). key_of (own_item x)) best) key) (Some item) best)
        by_above key is true above = by_under best first key is (is_under (option_and_then (λ (x : OwnItem). key_of (own_item x)) best) key) refl above
        by_above key is false low = not_above best first (λ other own. subst (λ (k : List ℕ). is_above after k ≡ false) (some_key key other (sym is ∙ own)) low)

        by_key : (o : Option (List ℕ)) → key_of (own_item item) ≡ o → IsFirstKey files (is_above after) is_lower (entries ++ e ∷ []) (cond (is_nearer after (option_and_then (λ (x : OwnItem). key_of (own_item x)) best) o) (Some item) best)
        by_key None none = not_above best first (λ other own. let no_key : None ≡ Some other = sym none ∙ own in cc)
        by_key (Some key) is = by_above key is (is_above after key) refl
