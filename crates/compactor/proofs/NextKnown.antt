-- The nearer of the table's next key and the index's is the next that is known.
use Rattle.std.proofs.Common.{◌≡◌, inl, inr, ⊎_elim, ℕ, Bool, true, false, List, Option, Some, None, IsSome, refl, sym, ◌∙◌, ap, subst}
use Rattle.std.specs.Prelude.{option_map, if◌then◌else◌, Result, Ok, Err, IfOk, IfErr}
use Rattle.std.specs.Ordering.{is_lt, ordering_reverse}
use Rattle.std.specs.declared.cmp.Ordering.{Ordering}
use Rattle.std.specs.declared.cmp.Ordering.TheVariants.{Less, Equal, Greater}
use Rattle.cache_model.specs.declared.faults.StoreFault.{StoreFault}
use Rattle.cache_model.specs.declared.faults.StoreFault.TheVariants as fault
use Rattle.cache_model.specs.Files.{Image}
use Rattle.cache_model.specs.Hash.{precedes, follows}
use Rattle.record_format.specs.declared.items.OwnItem.{OwnItem}
use Rattle.temporary_table.specs.Places.{Places, Seat, place_of}
use Rattle.temporary_table.specs.Walking.{IsAhead, IsNextPlaced}
use Rattle.temporary_table.proofs.Ordered.{never}
use Rattle.temporary_table.proofs.Scans.{IsNotBefore, chain, either, precedes_by, walk_cmp, walk_total}
use Rattle.tree_index.specs.Index.{Entries}
use Rattle.compactor.specs.declared.walking.Known.{Known}
use Rattle.compactor.specs.declared.walking.Known.TheVariants.{Placed, Read}
use Rattle.compactor.specs.Walking.{IsFirstKey, IsKnown, IsNextKnown, Seeks, known_by, leads, read_of}

-- of two keys, at most one stands before the other
not_both : (bits : ℕ) (one other : List ℕ) → precedes bits one other ≡ true → precedes bits other one ≡ true → ⊥
not_both bits one other before behind = by (walk_cmp bits one other) (walk_cmp bits other one) ((walk_total bits).antisymm one other) (sym (precedes_by bits one other) ∙ before) (sym (precedes_by bits other one) ∙ behind)
  where
    by : (o p : Ordering) → o ≡ ordering_reverse p → is_lt o ≡ true → is_lt p ≡ true → ⊥
    by o Less is lower lower_too = let no : false ≡ true = ap is_lt (sym is) ∙ lower in cc
    by o Equal is lower lower_too = cc
    by o Greater is lower lower_too = cc

module _ (files : Image) (bits : ℕ) (places : Places) (entries : Entries) (after : Option (List ℕ)) where
  ahead : (key : List ℕ) → IsSome (place_of places key) → follows bits after key ≡ true → IsAhead bits places after key
  ahead key has behind = record { placed = has; behind = behind }

  -- Without a next key of the index it is that of the table,
  none_indexed : IsFirstKey files (follows bits after) (precedes bits) entries None → (placed : Option (List ℕ)) → IsNextPlaced bits places after placed → IsNextKnown files bits places entries after (option_map Placed placed)
  none_indexed none None no_place = λ key known. away key known (follows bits after key) refl
    where
      away : (key : List ℕ) → IsKnown files places entries key → (b : Bool) → follows bits after key ≡ b → b ≡ false
      away key known false is = refl
      away key (inl has) true is = absurd (no_place key (ahead key has is))
      away key (inr entry) true is = sym is ∙ none entry.0 key entry.1 entry.2
  none_indexed none (Some key) next = (next.0.placed, record { behind = next.0.behind; first = first })
    where
      first : (other : List ℕ) → IsKnown files places entries other → follows bits after other ≡ true → IsNotBefore bits key other
      first other (inl has) behind = next.1 other (ahead other has behind)
      first other (inr entry) behind = absurd (never (sym behind ∙ none entry.0 other entry.1 entry.2))

  module _ (item : OwnItem) (best : IsFirstKey files (follows bits after) (precedes bits) entries (Some item)) where
    abbrev key : List ℕ
    key = best.1

    read_is : read_of item ≡ Some (Read key item)
    read_is = ap (λ (o : Option (List ℕ)). option_map (λ k. Read k item) o) best.2.of_key

    -- one that stands before the table's is the next, and has no place,
    unplaced : ((other : List ℕ) → IsAhead bits places after other → precedes bits key other ≡ true) → place_of places key ≡ None
    unplaced before = by (place_of places key) refl
      where
        by : (seat : Seat) → place_of places key ≡ seat → place_of places key ≡ None
        by None is = is
        by (Some place) is =
            let itself = before key (ahead key (subst (λ (o : Seat). IsSome o) (sym is) refl) best.3) in
            absurd (not_both bits key key itself itself)

    led : ((other : List ℕ) → IsAhead bits places after other → precedes bits key other ≡ true) → IsNextKnown files bits places entries after (read_of item)
    led before = subst (IsNextKnown files bits places entries after) (sym read_is) (unplaced before, (best.0, best.2), record { behind = best.3; first = first })
      where
        first : (other : List ℕ) → IsKnown files places entries other → follows bits after other ≡ true → IsNotBefore bits key other
        first other (inl has) behind = inr (before other (ahead other has behind))
        first other (inr entry) behind = best.4 entry.0 other entry.1 entry.2 behind

    -- one that doesn't isn't before the table's.
    placed_first : (placed : List ℕ) → IsNextPlaced bits places after (Some placed) → precedes bits key placed ≡ false → IsNextKnown files bits places entries after (Some (Placed placed))
    placed_first placed next not = (next.0.placed, record { behind = next.0.behind; first = first })
      where
        first : (other : List ℕ) → IsKnown files places entries other → follows bits after other ≡ true → IsNotBefore bits placed other
        first other (inl has) behind = next.1 other (ahead other has behind)
        first other (inr entry) behind = chain bits placed key other (either bits key placed not) (best.4 entry.0 other entry.1 entry.2 behind)

    some_indexed : (placed : Option (List ℕ)) → IsNextPlaced bits places after placed → IsNextKnown files bits places entries after (if leads bits placed (Some key) then read_of item else option_map Placed placed)
    some_indexed None none = led (λ other is. absurd (none other is))
    some_indexed (Some placed) next = by (precedes bits key placed) refl
      where
        behind : precedes bits key placed ≡ true → (other : List ℕ) → IsNotBefore bits placed other → precedes bits key other ≡ true
        behind before other (inl same) = subst (λ (k : List ℕ). precedes bits key k ≡ true) (sym same) before
        behind before other (inr later) = ⊎_elim
            (λ same. absurd (not_both bits key placed before (subst (λ (k : List ℕ). precedes bits placed k ≡ true) same later)))
            (λ less. less)
            (chain bits key placed other (inr before) (inr later))

        by : (b : Bool) → precedes bits key placed ≡ b → IsNextKnown files bits places entries after (if b then read_of item else Some (Placed placed))
        by true before = led (λ other is. behind before other (next.1 other is))
        by false not = placed_first placed next not

  pub next_known : (placed : Option (List ℕ)) (indexed : Option OwnItem) → IsNextPlaced bits places after placed → IsFirstKey files (follows bits after) (precedes bits) entries indexed → IsNextKnown files bits places entries after (known_by bits placed indexed)
  next_known placed None next none = none_indexed none placed next
  next_known placed (Some item) next best =
      subst (λ (key : Option (List ℕ)). IsNextKnown files bits places entries after (if leads bits placed key then read_of item else option_map Placed placed)) (sym best.2.of_key) (some_indexed item best placed next)

  -- What is known by both is sought, and want of memory is no damage.
  pub seeks_known : (n : ℕ) (placed : Option (List ℕ)) (indexed : Option OwnItem) (result : Result (Option Known) StoreFault) → n ≡ bits → IsNextPlaced n places after placed → IsFirstKey files (follows bits after) (precedes bits) entries indexed
      → IfOk result (λ known. known ≡ known_by n placed indexed) → IfErr result (λ given. given ≡ fault.Memory) → Seeks (IsNextKnown files bits places entries after) entries files result
  seeks_known n placed indexed (Ok known) same next best is memory = record {
    given = subst (IsNextKnown files bits places entries after) (sym (is ∙ ap (λ (b : ℕ). known_by b placed indexed) same)) (next_known placed indexed (subst (λ (b : ℕ). IsNextPlaced b places after placed) same next) best);
    damaged = λ d err. cc;
  }
  seeks_known n placed indexed (Err f) same next best is memory = record { given = tt; damaged = λ d err. cc }
