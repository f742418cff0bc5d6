-- The first key that has a place, as it is searched by the buckets, is the next in walk order.
use Rattle.std.proofs.Common.{◌≡◌, ◌⊎◌, inl, inr, ⊎_elim, ℕ, Bool, true, false, List, [], ◌∷◌, Option, Some, None, refl, sym, ◌∙◌, ap, subst, arith}
use Rattle.std.specs.Prelude.{is_some, IsSome, cond, ◌==◌, ◌&&◌, nat_lt, if◌then◌else◌}
use Rattle.std.specs.List.{filter}
use Rattle.std.specs.BTreeMap.{IsOrdered, get}
use Rattle.std.specs.BTreeMap.Range.{range_contains}
use Rattle.std.specs.declared.ops.Bound.{Bound}
use Rattle.std.specs.declared.ops.Bound.TheVariants.{Excluded, Unbounded}
use Rattle.std.specs.declared.cmp.Ordering.{Ordering}
use Rattle.std.specs.declared.cmp.Ordering.TheVariants.{Less, Equal, Greater}
use Rattle.std.specs.Ordering.{nat_cmp, is_lt}
use Rattle.std.proofs.lemmas.Map.Lookups.{exact_unsigned, exact_bytes}
use Rattle.std.proofs.lemmas.Cmp.{nat_cmp_total, nat_list_cmp_total}
use Rattle.std.proofs.lemmas.Bool.Decides.{nat_tests}
use Rattle.cache_model.specs.Hash.{hash, precedes}
use Rattle.temporary_table.specs.Places.{Seat, placed, place_of}
use Rattle.temporary_table.specs.Buckets.{Bucket, key_cmp, seat_in, seat_at, IsKeptWell, places_of}
use Rattle.temporary_table.specs.declared.table.Table.TheInside.{Inside}
use Rattle.temporary_table.specs.Walking.{IsAhead, IsNextPlaced, earlier, first_by}
use Rattle.temporary_table.specs.Searching.{start_after, placed_key, first_in, first_of, first_beside, first_from, next_in}
use Rattle.temporary_table.proofs.Ordered.{at, IsFirst, first_is, first_none, not_none, never}
use Rattle.temporary_table.proofs.Keeping.{reads}

-- a filtered list gives first what the whole list gives where the test is passed
in_range : {E R : Type 0} (test : E → Bool) (f : E → Option R) (entries : List E) → first_by f (filter test entries) ≡ first_by (λ (e : E). cond (test e) (f e) None) entries
in_range {E = E} {R = R} test f [] = refl
in_range {E = E} {R = R} test f (e ∷ entries) = by (test e) refl (in_range test f entries)
  where
    by : (b : Bool) → test e ≡ b → first_by f (filter test entries) ≡ first_by (λ (e : E). cond (test e) (f e) None) entries
        → first_by f (cond b (e ∷ filter test entries) (filter test entries)) ≡ earlier (cond b (f e) None) (first_by (λ (e : E). cond (test e) (f e) None) entries)
    by true is rest = ap (λ (o : Option R). earlier (f e) o) rest
    by false is rest = rest

-- what a guarded function gives
was_given : {X : Type 0} (b : Bool) (o : Option X) (x : X) → cond b o None ≡ Some x → (b ≡ true) × (o ≡ Some x)
was_given true o x is = (refl, is)
was_given false o x is = let no : None ≡ Some x = is in cc

gives : {X : Type 0} (b : Bool) (o : Option X) → b ≡ true → is_some o ≡ true → is_some (cond b o None) ≡ true
gives true o inside some = some
gives false o inside some = cc

-- The first key of a bucket that has a place, behind one of them.
record IsFirstIn (bucket : Bucket) (start : Bound (List ℕ)) (key : List ℕ) : Type 0 where
  has : IsSome (placed (get key_cmp bucket key))
  within : range_contains key_cmp start Unbounded key ≡ true
  least : (other : List ℕ) → IsSome (placed (get key_cmp bucket other)) → range_contains key_cmp start Unbounded other ≡ true → (other ≡ key) ⊎ (key_cmp key other ≡ Less)

-- a seat that has a place is there
there_of : (o : Option Seat) → IsSome (placed o) → (seat : Seat) × ((o ≡ Some seat) × (is_some seat ≡ true))
there_of None some = cc
there_of (Some seat) some = (seat, (refl, some))

bucket_first : (bucket : Bucket) (start : Option (List ℕ)) (key : List ℕ) → IsOrdered key_cmp bucket → first_in start bucket ≡ Some key → IsFirstIn bucket (start_after start) key
bucket_first bucket start key ordered is = subst (λ (k : List ℕ). IsFirstIn bucket (start_after start) k) here (record {
  has = subst (λ (o : Option Seat). IsSome (placed o)) (sym first.here) some;
  within = passed.0;
  least = λ other has within. least other (there_of (get key_cmp bucket other) has) within;
})
  where
    f : List ℕ × Seat → Option (List ℕ)
    f e = cond (range_contains key_cmp (start_after start) Unbounded e.0) (placed_key e) None

    first : IsFirst key_cmp f bucket.entries key
    first = first_is key_cmp nat_list_cmp_total exact_bytes f bucket.entries ordered key (sym (in_range (λ (e : List ℕ × Seat). range_contains key_cmp (start_after start) Unbounded e.0) placed_key bucket.entries) ∙ is)

    passed : (range_contains key_cmp (start_after start) Unbounded first.entry.0 ≡ true) × (placed_key first.entry ≡ Some key)
    passed = was_given (range_contains key_cmp (start_after start) Unbounded first.entry.0) (placed_key first.entry) key first.gives

    key_of : (b : Bool) (k : List ℕ) → cond b (Some k) None ≡ Some key → (b ≡ true) × (k ≡ key)
    key_of true k is = (refl, cc)
    key_of false k is = let no : None ≡ Some key = is in cc

    some : is_some first.entry.1 ≡ true
    some = (key_of (is_some first.entry.1) first.entry.0 passed.1).0

    here : first.entry.0 ≡ key
    here = (key_of (is_some first.entry.1) first.entry.0 passed.1).1

    least : (other : List ℕ) → (seat : Seat) × ((get key_cmp bucket other ≡ Some seat) × (is_some seat ≡ true)) → range_contains key_cmp (start_after start) Unbounded other ≡ true → (other ≡ first.entry.0) ⊎ (key_cmp first.entry.0 other ≡ Less)
    least other seat within = first.least other seat.0 seat.1.0 (gives (range_contains key_cmp (start_after start) Unbounded other) (placed_key (other, seat.0)) within (rw seat.1.1 refl))

bucket_none : (bucket : Bucket) (start : Option (List ℕ)) (other : List ℕ) → first_in start bucket ≡ None → IsSome (placed (get key_cmp bucket other)) → range_contains key_cmp (start_after start) Unbounded other ≡ true → ⊥
bucket_none bucket start other is has within = by (there_of (get key_cmp bucket other) has)
  where
    f : List ℕ × Seat → Option (List ℕ)
    f e = cond (range_contains key_cmp (start_after start) Unbounded e.0) (placed_key e) None

    by : (seat : Seat) × ((get key_cmp bucket other ≡ Some seat) × (is_some seat ≡ true)) → ⊥
    by seat = not_none (f (other, seat.0))
        (first_none key_cmp nat_list_cmp_total exact_bytes f bucket.entries (sym (in_range (λ (e : List ℕ × Seat). range_contains key_cmp (start_after start) Unbounded e.0) placed_key bucket.entries) ∙ is) other seat.0 seat.1.0)
        (gives (range_contains key_cmp (start_after start) Unbounded other) (placed_key (other, seat.0)) within (rw seat.1.1 refl))

-- walk order, by the hashes and the keys

pub less_of : (o : Ordering) → is_lt o ≡ true → o ≡ Less
less_of Less is = refl
less_of Equal is = cc
less_of Greater is = cc

pub lower_test : (m n : ℕ) → is_lt (nat_cmp m n) ≡ nat_lt m n
lower_test m n = by (m == n) (nat_lt m n)
  where
    by : (b a : Bool) → is_lt (cond a Less (cond b Equal Greater)) ≡ a
    by b true = refl
    by true false = refl
    by false false = refl

pub not_both : (m n : ℕ) → (m == n) ≡ true → nat_lt m n ≡ true → ⊥
not_both m n is less = grind (arith, nat_tests)

pub precedes_within : (bits : ℕ) (one other : List ℕ) → hash bits one ≡ hash bits other → is_lt (key_cmp one other) ≡ true → precedes bits one other ≡ true
precedes_within bits one other is less = by (hash bits one == hash bits other) refl
  where
    equal : (hash bits one == hash bits other) ≡ true
    equal = grind (arith, nat_tests)

    by : (b : Bool) → (hash bits one == hash bits other) ≡ b → (if b then is_lt (key_cmp one other) else nat_lt (hash bits one) (hash bits other)) ≡ true
    by true same = less
    by false apart = absurd (never (sym equal ∙ apart))

pub precedes_lower : (bits : ℕ) (one other : List ℕ) → is_lt (nat_cmp (hash bits one) (hash bits other)) ≡ true → precedes bits one other ≡ true
precedes_lower bits one other lower = by (hash bits one == hash bits other) refl
  where
    less : nat_lt (hash bits one) (hash bits other) ≡ true
    less = sym (lower_test (hash bits one) (hash bits other)) ∙ lower

    by : (b : Bool) → (hash bits one == hash bits other) ≡ b → (if b then is_lt (key_cmp one other) else nat_lt (hash bits one) (hash bits other)) ≡ true
    by true same = absurd (not_both (hash bits one) (hash bits other) same less)
    by false apart = less

pub precedes_either : (bits : ℕ) (one other : List ℕ) → precedes bits one other ≡ true
    → ((hash bits one ≡ hash bits other) × (is_lt (key_cmp one other) ≡ true)) ⊎ (is_lt (nat_cmp (hash bits one) (hash bits other)) ≡ true)
precedes_either bits one other is = by (hash bits one == hash bits other) refl is
  where
    by : (b : Bool) → (hash bits one == hash bits other) ≡ b → (if b then is_lt (key_cmp one other) else nat_lt (hash bits one) (hash bits other)) ≡ true
        → ((hash bits one ≡ hash bits other) × (is_lt (key_cmp one other) ≡ true)) ⊎ (is_lt (nat_cmp (hash bits one) (hash bits other)) ≡ true)
    by true same is = let equal : hash bits one ≡ hash bits other = grind (arith, nat_tests) in inl (equal, is)
    by false apart is = inr (lower_test (hash bits one) (hash bits other) ∙ is)

and_true : (b : Bool) → (b && true) ≡ b
and_true true = refl
and_true false = refl

-- The first key of all buckets in a range that has a place.
record IsFirstFrom (inside : Inside) (start : Bound ℕ) (key : List ℕ) : Type 0 where
  has : IsSome (place_of (places_of inside) key)
  within : range_contains nat_cmp start Unbounded (hash inside.bits key) ≡ true
  least : (other : List ℕ) → IsSome (place_of (places_of inside) other) → range_contains nat_cmp start Unbounded (hash inside.bits other) ≡ true → (other ≡ key) ⊎ (precedes inside.bits key other ≡ true)

module _ (inside : Inside) (well : IsKeptWell inside) where
  -- a key that has a place has it in the bucket of its hash
  in_bucket : (o : Option Bucket) (key : List ℕ) → IsSome (placed (seat_in o key)) → (bucket : Bucket) × ((o ≡ Some bucket) × IsSome (placed (get key_cmp bucket key)))
  in_bucket None key some = cc
  in_bucket (Some bucket) key some = (bucket, (refl, some))

  its_bucket : (key : List ℕ) → IsSome (place_of (places_of inside) key) → (bucket : Bucket) × ((get nat_cmp inside.buckets (hash inside.bits key) ≡ Some bucket) × IsSome (placed (get key_cmp bucket key)))
  its_bucket key has = in_bucket (get nat_cmp inside.buckets (hash inside.bits key)) key (subst (λ (o : Option Seat). IsSome (placed o)) (reads inside well key) has)

  seat_there : (o : Option Seat) → IsSome (placed o) → IsSome o
  seat_there None some = cc
  seat_there (Some seat) some = refl

  -- a key in a bucket has its hash
  its_hash : (h : ℕ) (bucket : Bucket) (key : List ℕ) → get nat_cmp inside.buckets h ≡ Some bucket → IsSome (placed (get key_cmp bucket key)) → h ≡ hash inside.bits key
  its_hash h bucket key at has = well.hashed h key (subst (λ (o : Option Bucket). IsSome (seat_in o key)) (sym at) (seat_there (get key_cmp bucket key) has))

  -- and it has a place
  its_place : (h : ℕ) (bucket : Bucket) (key : List ℕ) → get nat_cmp inside.buckets h ≡ Some bucket → IsSome (placed (get key_cmp bucket key)) → IsSome (place_of (places_of inside) key)
  its_place h bucket key at has =
      subst (λ (o : Option Seat). IsSome (placed o)) (sym (reads inside well key))
      (subst (λ (g : ℕ). IsSome (placed (seat_at inside.buckets g key))) (its_hash h bucket key at has)
      (subst (λ (o : Option Bucket). IsSome (placed (seat_in o key))) (sym at) has))

  abbrev guarded : Bound ℕ → ℕ × Bucket → Option (List ℕ)
  guarded start e = cond (range_contains nat_cmp start Unbounded e.0) (first_in None e.1) None

  by_guarded : (start : Bound ℕ) → first_from start inside.buckets ≡ first_by (guarded start) inside.buckets.entries
  by_guarded start = in_range (λ (e : ℕ × Bucket). range_contains nat_cmp start Unbounded e.0) (λ (e : ℕ × Bucket). first_in None e.1) inside.buckets.entries

  -- a bucket where a key has a place gives one
  gives_one : (bucket : Bucket) (key : List ℕ) → IsSome (placed (get key_cmp bucket key)) → IsSome (first_in None bucket)
  gives_one bucket key has = by (first_in None bucket) refl
    where
      by : (o : Option (List ℕ)) → first_in None bucket ≡ o → IsSome o
      by None none = absurd (bucket_none bucket None key none has refl)
      by (Some k) one = refl

  from_first : (start : Bound ℕ) (key : List ℕ) → first_from start inside.buckets ≡ Some key → IsFirstFrom inside start key
  from_first start key is = record {
    has = its_place first.entry.0 first.entry.1 key first.here inner.has;
    within = subst (λ (h : ℕ). range_contains nat_cmp start Unbounded h ≡ true) here passed.0;
    least = λ other has within. least other (its_bucket other has) within;
  }
    where
      first : IsFirst nat_cmp (guarded start) inside.buckets.entries key
      first = first_is nat_cmp nat_cmp_total exact_unsigned (guarded start) inside.buckets.entries well.ordered.hashes key (sym (by_guarded start) ∙ is)

      passed : (range_contains nat_cmp start Unbounded first.entry.0 ≡ true) × (first_in None first.entry.1 ≡ Some key)
      passed = was_given (range_contains nat_cmp start Unbounded first.entry.0) (first_in None first.entry.1) key first.gives

      inner : IsFirstIn first.entry.1 Unbounded key
      inner = bucket_first first.entry.1 None key (well.ordered.keys first.entry.0 first.entry.1 first.here) passed.1

      here : first.entry.0 ≡ hash inside.bits key
      here = its_hash first.entry.0 first.entry.1 key first.here inner.has

      least : (other : List ℕ) → (bucket : Bucket) × ((get nat_cmp inside.buckets (hash inside.bits other) ≡ Some bucket) × IsSome (placed (get key_cmp bucket other)))
          → range_contains nat_cmp start Unbounded (hash inside.bits other) ≡ true → (other ≡ key) ⊎ (precedes inside.bits key other ≡ true)
      least other found within = by (first.least (hash inside.bits other) found.0 found.1.0 (gives (range_contains nat_cmp start Unbounded (hash inside.bits other)) (first_in None found.0) within (gives_one found.0 other found.1.1)))
        where
          same_bucket : hash inside.bits other ≡ first.entry.0 → Some found.0 ≡ Some first.entry.1
          same_bucket same = sym found.1.0 ∙ ap (λ (h : ℕ). get nat_cmp inside.buckets h) same ∙ first.here

          bucket_is : (b : Bucket) → Some found.0 ≡ Some b → found.0 ≡ b
          bucket_is b same = cc

          by : (hash inside.bits other ≡ first.entry.0) ⊎ (nat_cmp first.entry.0 (hash inside.bits other) ≡ Less) → (other ≡ key) ⊎ (precedes inside.bits key other ≡ true)
          by (inl same) = ⊎_elim
              (λ equal. inl equal)
              (λ less. inr (precedes_within inside.bits key other (sym here ∙ sym same) (ap is_lt less)))
              (inner.least other (subst (λ (b : Bucket). IsSome (placed (get key_cmp b other))) (bucket_is first.entry.1 (same_bucket same)) found.1.1) refl)
          by (inr less) = inr (precedes_lower inside.bits key other (ap is_lt (subst (λ (h : ℕ). nat_cmp h (hash inside.bits other) ≡ Less) here less)))

  from_none : (start : Bound ℕ) (other : List ℕ) → first_from start inside.buckets ≡ None → IsSome (place_of (places_of inside) other) → range_contains nat_cmp start Unbounded (hash inside.bits other) ≡ true → ⊥
  from_none start other is has within = by (its_bucket other has)
    where
      by : (bucket : Bucket) × ((get nat_cmp inside.buckets (hash inside.bits other) ≡ Some bucket) × IsSome (placed (get key_cmp bucket other))) → ⊥
      by found = not_none (guarded start (hash inside.bits other, found.0))
          (first_none nat_cmp nat_cmp_total exact_unsigned (guarded start) inside.buckets.entries (sym (by_guarded start) ∙ is) (hash inside.bits other) found.0 found.1.0)
          (gives (range_contains nat_cmp start Unbounded (hash inside.bits other)) (first_in None found.0) within (gives_one found.0 other found.1.1))

  -- What is found first behind no key is the first of all,
  walks_all : (found : Option (List ℕ)) → first_from Unbounded inside.buckets ≡ found → IsNextPlaced inside.bits (places_of inside) None found
  walks_all None is = λ other ahead. from_none Unbounded other is ahead.placed refl
  walks_all (Some key) is =
      let first = from_first Unbounded key is in (
        record { placed = first.has; behind = refl },
        λ other ahead. first.least other ahead.placed refl,
      )

  -- and behind a key the next one.
  module _ (after : List ℕ) where
    abbrev start : Bound ℕ
    start = Excluded (hash inside.bits after)

    first_of_none : (o : Option Bucket) (bucket : Bucket) (other : List ℕ) → o ≡ Some bucket → first_of o after ≡ None → IsSome (placed (get key_cmp bucket other)) → is_lt (key_cmp after other) ≡ true → ⊥
    first_of_none None bucket other is none has less = let no : None ≡ Some bucket = is in cc
    first_of_none (Some b) bucket other is none has less =
        let same : b ≡ bucket = cc in
        bucket_none b (Some after) other none (subst (λ (m : Bucket). IsSome (placed (get key_cmp m other))) (sym same) has) (and_true (is_lt (key_cmp after other)) ∙ less)

    -- none in the bucket of the key's hash, so that whatever is ahead has a later hash
    later : first_beside (hash inside.bits after) after inside.buckets ≡ None → (other : List ℕ) → IsAhead inside.bits (places_of inside) (Some after) other → range_contains nat_cmp start Unbounded (hash inside.bits other) ≡ true
    later none other ahead = ⊎_elim
        (λ within. absurd (beside (its_bucket other ahead.placed) within.0 within.1))
        (λ lower. and_true (is_lt (nat_cmp (hash inside.bits after) (hash inside.bits other))) ∙ lower)
        (precedes_either inside.bits after other ahead.behind)
      where
        beside : (bucket : Bucket) × ((get nat_cmp inside.buckets (hash inside.bits other) ≡ Some bucket) × IsSome (placed (get key_cmp bucket other)))
            → hash inside.bits after ≡ hash inside.bits other → is_lt (key_cmp after other) ≡ true → ⊥
        beside found same less = first_of_none (get nat_cmp inside.buckets (hash inside.bits after)) found.0 other (ap (λ (h : ℕ). get nat_cmp inside.buckets h) same ∙ found.1.0) none found.1.1 less

    walks_on : first_beside (hash inside.bits after) after inside.buckets ≡ None → (found : Option (List ℕ)) → first_from start inside.buckets ≡ found → IsNextPlaced inside.bits (places_of inside) (Some after) found
    walks_on none None is = λ other ahead. from_none start other is ahead.placed (later none other ahead)
    walks_on none (Some key) is =
        let first = from_first start key is in (
          record { placed = first.has; behind = precedes_lower inside.bits after key (sym (and_true (is_lt (nat_cmp (hash inside.bits after) (hash inside.bits key)))) ∙ first.within) },
          λ other ahead. first.least other ahead.placed (later none other ahead),
        )

    walks_beside : (key : List ℕ) (o : Option Bucket) → get nat_cmp inside.buckets (hash inside.bits after) ≡ o → first_of o after ≡ Some key → IsNextPlaced inside.bits (places_of inside) (Some after) (Some key)
    walks_beside key None at is = let no : None ≡ Some key = is in cc
    walks_beside key (Some bucket) at is = (
      record { placed = its_place (hash inside.bits after) bucket key at first.has; behind = precedes_within inside.bits after key here (sym (and_true (is_lt (key_cmp after key))) ∙ first.within) },
      λ other ahead. ⊎_elim (λ within. beside other (its_bucket other ahead.placed) within.0 within.1) (λ lower. inr (precedes_lower inside.bits key other (subst (λ (h : ℕ). is_lt (nat_cmp h (hash inside.bits other)) ≡ true) here lower))) (precedes_either inside.bits after other ahead.behind),
    )
      where
        first : IsFirstIn bucket (Excluded after) key
        first = bucket_first bucket (Some after) key (well.ordered.keys (hash inside.bits after) bucket at) is

        here : hash inside.bits after ≡ hash inside.bits key
        here = its_hash (hash inside.bits after) bucket key at first.has

        bucket_is : (b : Bucket) → Some b ≡ Some bucket → b ≡ bucket
        bucket_is b same = cc

        beside : (other : List ℕ) → (b : Bucket) × ((get nat_cmp inside.buckets (hash inside.bits other) ≡ Some b) × IsSome (placed (get key_cmp b other)))
            → hash inside.bits after ≡ hash inside.bits other → is_lt (key_cmp after other) ≡ true → (other ≡ key) ⊎ (precedes inside.bits key other ≡ true)
        beside other found same less = ⊎_elim
            (λ equal. inl equal)
            (λ less. inr (precedes_within inside.bits key other (sym here ∙ same) (ap is_lt less)))
            (first.least other
            (subst (λ (b : Bucket). IsSome (placed (get key_cmp b other))) (bucket_is found.0 (sym found.1.0 ∙ ap (λ (h : ℕ). get nat_cmp inside.buckets h) (sym same) ∙ at)) found.1.1)
            (and_true (is_lt (key_cmp after other)) ∙ less))

    walks_behind : (found : Option (List ℕ)) → earlier (first_beside (hash inside.bits after) after inside.buckets) (first_from start inside.buckets) ≡ found → IsNextPlaced inside.bits (places_of inside) (Some after) found
    walks_behind found is = by (first_beside (hash inside.bits after) after inside.buckets) refl is
      where
        by : (o : Option (List ℕ)) → first_beside (hash inside.bits after) after inside.buckets ≡ o → earlier o (first_from start inside.buckets) ≡ found → IsNextPlaced inside.bits (places_of inside) (Some after) found
        by None none is = walks_on none found is
        by (Some key) one is = subst (λ (k : Option (List ℕ)). IsNextPlaced inside.bits (places_of inside) (Some after) k) is (walks_beside key (get nat_cmp inside.buckets (hash inside.bits after)) refl one)

  pub walks : (after found : Option (List ℕ)) → found ≡ next_in inside.bits after inside.buckets → IsNextPlaced inside.bits (places_of inside) after found
  walks None found is = walks_all found (sym is)
  walks (Some after) found is = walks_behind after found (sym is)

-- What a call finds with the table's bits.
pub walks_by : (inside : Inside) → IsKeptWell inside → (bits : ℕ) → bits ≡ inside.bits → (after found : Option (List ℕ)) → found ≡ next_in bits after inside.buckets → IsNextPlaced bits (places_of inside) after found
walks_by inside well bits is after found next =
    subst (λ (b : ℕ). IsNextPlaced b (places_of inside) after found) (sym is)
    (walks inside well after found (subst (λ (b : ℕ). found ≡ next_in b after inside.buckets) is next))
