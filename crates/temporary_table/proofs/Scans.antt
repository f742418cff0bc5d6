-- The best of all seats is the next key in walk order.
use Rattle.std.proofs.Common.{◌≡◌, ◌⊎◌, inl, inr, ℕ, Bool, true, false, List, [], ◌∷◌, ◌++◌, Option, Some, None, refl, sym, ◌∙◌, ap, subst}
use Rattle.std.specs.Prelude.{is_some, IsSome, cond, ◌==◌, ◌&&◌, nat_lt, if◌then◌else◌}
use Rattle.std.specs.List.{AllByRecursion}
use Rattle.std.specs.List.Sorted.{IsStrictlySortedBy}
use Rattle.std.specs.Map.{lookup, keys_of}
use Rattle.std.specs.BTreeMap.{get}
use Rattle.std.specs.Str.{bytes_eq}
use Rattle.std.specs.Cmp.{IsTotalOrder}
use Rattle.std.specs.declared.cmp.Ordering.{Ordering}
use Rattle.std.specs.declared.cmp.Ordering.TheVariants.{Less, Equal, Greater}
use Rattle.std.specs.Ordering.{nat_cmp, is_lt, ordering_then, ordering_reverse}
use Rattle.std.proofs.lemmas.Map.Keys.{sorted_tail}
use Rattle.std.proofs.lemmas.Map.Lookups.{CmpEqualImpliesEq, exact_unsigned, exact_bytes}
use Rattle.std.proofs.lemmas.Cmp.{nat_cmp_total, nat_list_cmp_total, on_total, then_total}
use Rattle.std.proofs.lemmas.Slice.Eq.{bytes_eq-Decides}
use Rattle.cache_model.specs.Hash.{hash, precedes, follows}
use Rattle.temporary_table.specs.Places.{Seat, seat_of, placed}
use Rattle.temporary_table.specs.Buckets.{Bucket, key_cmp, seat_in, seat_at, seats_in, IsKeptWell, places_of}
use Rattle.temporary_table.specs.declared.table.Table.TheInside.{Inside}
use Rattle.temporary_table.specs.Walking.{IsAhead, IsNextPlaced}
use Rattle.temporary_table.specs.Scanning.{stands_before, nearer, nearest}
use Rattle.temporary_table.proofs.Ordered.{at, itself, skip, never}
use Rattle.temporary_table.proofs.Keeping.{reads}
use Rattle.temporary_table.proofs.Walks.{less_of, not_both}

-- the best of two lists, one behind the other
pub nearest_both : (bits : ℕ) (after best : Option (List ℕ)) (one other : List (List ℕ × Seat)) → nearest bits after best (one ++ other) ≡ nearest bits after (nearest bits after best one) other
nearest_both bits after best [] other = refl
nearest_both bits after best (e ∷ one) other = nearest_both bits after (nearer bits after best e) one other

-- walk order is a total one

abbrev pub walk_cmp : ℕ → List ℕ → List ℕ → Ordering
walk_cmp bits one other = ordering_then (nat_cmp (hash bits one) (hash bits other)) (key_cmp one other)

pub walk_total : (bits : ℕ) → IsTotalOrder (walk_cmp bits)
walk_total bits = then_total (on_total (hash bits) nat_cmp_total) nat_list_cmp_total

walk_exact : (bits : ℕ) (one other : List ℕ) → walk_cmp bits one other ≡ Equal → one ≡ other
walk_exact bits one other is = by (nat_cmp (hash bits one) (hash bits other)) (key_cmp one other) refl is
  where
    by : (o p : Ordering) → key_cmp one other ≡ p → ordering_then o p ≡ Equal → one ≡ other
    by Less p is both = cc
    by Greater p is both = cc
    by Equal p is both = exact_bytes one other (is ∙ both)

pub precedes_by : (bits : ℕ) (one other : List ℕ) → precedes bits one other ≡ is_lt (walk_cmp bits one other)
precedes_by bits one other = by (hash bits one == hash bits other) refl (nat_lt (hash bits one) (hash bits other)) refl
  where
    by : (b : Bool) → (hash bits one == hash bits other) ≡ b → (a : Bool) → nat_lt (hash bits one) (hash bits other) ≡ a
        → (if b then is_lt (key_cmp one other) else a) ≡ is_lt (ordering_then (cond a Less (cond b Equal Greater)) (key_cmp one other))
    by true same true less = absurd (not_both (hash bits one) (hash bits other) same less)
    by true same false late = refl
    by false apart true less = refl
    by false apart false late = refl

-- a key is another, or stands behind it
abbrev pub IsNotBefore : ℕ → List ℕ → List ℕ → Type 0
IsNotBefore bits key other = (other ≡ key) ⊎ (precedes bits key other ≡ true)

pub chain : (bits : ℕ) (one two three : List ℕ) → IsNotBefore bits one two → IsNotBefore bits two three → IsNotBefore bits one three
chain bits one two three (inl same) later = subst (λ (k : List ℕ). IsNotBefore bits k three) same later
chain bits one two three (inr less) (inl same) = inr (subst (λ (k : List ℕ). precedes bits one k ≡ true) (sym same) less)
chain bits one two three (inr less) (inr later) = inr (precedes_by bits one three ∙ ap is_lt ((walk_total bits).trans one two three
    (less_of (walk_cmp bits one two) (sym (precedes_by bits one two) ∙ less)) (less_of (walk_cmp bits two three) (sym (precedes_by bits two three) ∙ later))))

-- of two keys, one isn't before the other
pub either : (bits : ℕ) (one other : List ℕ) → precedes bits one other ≡ false → IsNotBefore bits other one
either bits one other not = by (walk_cmp bits one other) refl
  where
    by : (o : Ordering) → walk_cmp bits one other ≡ o → IsNotBefore bits other one
    by Less is = absurd (never (sym (precedes_by bits one other ∙ ap is_lt is) ∙ not))
    by Equal is = inl (walk_exact bits one other is)
    by Greater is = inr (precedes_by bits other one ∙ ap is_lt ((walk_total bits).antisymm other one ∙ ap ordering_reverse is))

first_of : (a b : Bool) → (a && b) ≡ true → a ≡ true
first_of true b h = refl
first_of false b h = cc

second_of : (a b : Bool) → (a && b) ≡ true → b ≡ true
second_of true b h = h
second_of false b h = cc

module _ (bits : ℕ) (after : Option (List ℕ)) where
  abbrev ahead : List ℕ × Seat → Bool
  ahead e = is_some e.1 && follows bits after e.0

  -- The best is one that is ahead, or the best so far,
  nearest_is : (P : List ℕ → Type 0) (best : Option (List ℕ)) (seats : List (List ℕ × Seat)) → ((b : List ℕ) → best ≡ Some b → P b)
      → AllByRecursion (λ (e : List ℕ × Seat). ahead e ≡ true → P e.0) seats → (key : List ℕ) → nearest bits after best seats ≡ Some key → P key
  nearest_is P best [] was all key is = was key is
  nearest_is P best (e ∷ seats) was all key is = nearest_is P (nearer bits after best e) seats (now (ahead e && stands_before bits best e.0) refl) all.1 key is
    where
      now : (b : Bool) → (ahead e && stands_before bits best e.0) ≡ b → (k : List ℕ) → cond b (Some e.0) best ≡ Some k → P k
      now true better k is' = let here : e.0 ≡ k = cc in subst P here (all.0 (first_of (ahead e) (stands_before bits best e.0) better))
      now false not k is' = was k is'

  -- it is before all that are ahead,
  record IsLeast (best : Option (List ℕ)) (seats : List (List ℕ × Seat)) (key : List ℕ) : Type 0 where
    so_far : (b : List ℕ) → best ≡ Some b → IsNotBefore bits key b
    all : AllByRecursion (λ (e : List ℕ × Seat). ahead e ≡ true → IsNotBefore bits key e.0) seats

  nearest_least : (best : Option (List ℕ)) (seats : List (List ℕ × Seat)) (key : List ℕ) → nearest bits after best seats ≡ Some key → IsLeast best seats key
  nearest_least best [] key is = record { so_far = λ b was. inl (let same : b ≡ key = cc in same); all = tt }
  nearest_least best (e ∷ seats) key is = by (ahead e && stands_before bits best e.0) refl (nearest_least (nearer bits after best e) seats key is)
    where
      by : (b : Bool) → (ahead e && stands_before bits best e.0) ≡ b → IsLeast (cond b (Some e.0) best) seats key → IsLeast best (e ∷ seats) key
      by true better rest = record { so_far = λ b was. chain bits key e.0 b (rest.so_far e.0 refl) (inr (before best b was (second_of (ahead e) (stands_before bits best e.0) better))); all = (λ ahead. rest.so_far e.0 refl, rest.all) }
        where
          before : (o : Option (List ℕ)) (b : List ℕ) → o ≡ Some b → stands_before bits o e.0 ≡ true → precedes bits e.0 b ≡ true
          before None b was stands = let no : None ≡ Some b = was in cc
          before (Some c) b was stands = let same : c ≡ b = cc in subst (λ (k : List ℕ). precedes bits e.0 k ≡ true) same stands
      by false not rest = record { so_far = rest.so_far; all = (λ is_ahead. behind best refl (only (ahead e) (stands_before bits best e.0) is_ahead not), rest.all) }
        where
          only : (a b : Bool) → a ≡ true → (a && b) ≡ false → b ≡ false
          only true b is not = not
          only false b is not = cc

          behind : (o : Option (List ℕ)) → best ≡ o → stands_before bits o e.0 ≡ false → IsNotBefore bits key e.0
          behind None was not = absurd (never not)
          behind (Some b) was not = chain bits key b e.0 (rest.so_far b was) (either bits e.0 b not)

  -- and where there is none, none is ahead.
  nearest_none : (best : Option (List ℕ)) (seats : List (List ℕ × Seat)) → nearest bits after best seats ≡ None → (best ≡ None) × AllByRecursion (λ (e : List ℕ × Seat). ahead e ≡ true → ⊥) seats
  nearest_none best [] is = (is, tt)
  nearest_none best (e ∷ seats) is = by (ahead e && stands_before bits best e.0) refl (nearest_none (nearer bits after best e) seats is)
    where
      by : (b : Bool) → (ahead e && stands_before bits best e.0) ≡ b → (cond b (Some e.0) best ≡ None) × AllByRecursion (λ (e' : List ℕ × Seat). ahead e' ≡ true → ⊥) seats → (best ≡ None) × AllByRecursion (λ (e' : List ℕ × Seat). ahead e' ≡ true → ⊥) (e ∷ seats)
      by true better rest = let no : Some e.0 ≡ None = rest.0 in cc
      by false not rest = (rest.0, (λ is_ahead. never (sym (all_before (ahead e) best is_ahead rest.0) ∙ not), rest.1))
        where
          all_before : (a : Bool) (o : Option (List ℕ)) → a ≡ true → o ≡ None → (a && stands_before bits o e.0) ≡ true
          all_before true None is none = refl
          all_before true (Some b) is none = let no : Some b ≡ None = none in cc
          all_before false o is none = cc

-- what holds of all holds of what a look-up finds
of_found : (P : List ℕ × Seat → Type 0) (seats : List (List ℕ × Seat)) → AllByRecursion P seats → (key : List ℕ) (seat : Seat) → lookup (λ other. bytes_eq other key) seats ≡ Some seat → P (key, seat)
of_found P [] all key seat is = let no : None ≡ Some seat = is in cc
of_found P (e ∷ seats) all key seat is = by (of_found P seats all.1 key seat) (bytes_eq e.0 key) refl is
  where
    by : (lookup (λ other. bytes_eq other key) seats ≡ Some seat → P (key, seat)) → (b : Bool) → bytes_eq e.0 key ≡ b → cond b (Some e.1) (lookup (λ other. bytes_eq other key) seats) ≡ Some seat → P (key, seat)
    by rest true same is' =
        let v : e.1 ≡ seat = cc in
        let k : e.0 ≡ key = (bytes_eq-Decides e.0 key).0 same in
        let here : e ≡ (key, seat) = rw (sym k, sym v) refl in
        subst P here all.0
    by rest false apart is' = rest is'

mapped : {E : Type 0} (P Q : E → Type 0) → ((e : E) → P e → Q e) → (es : List E) → AllByRecursion P es → AllByRecursion Q es
mapped P Q f [] all = tt
mapped P Q f (e ∷ es) all = (f e all.0, mapped P Q f es all.1)

all_both : {E : Type 0} (P : E → Type 0) (one other : List E) → AllByRecursion P one → AllByRecursion P other → AllByRecursion P (one ++ other)
all_both P [] other all rest = rest
all_both P (e ∷ one) other all rest = (all.0, all_both P one other all.1 rest)

-- each entry of an ordered list is found under its key
each_there : {K X : Type 0} (cmp : K → K → Ordering) → IsTotalOrder cmp → CmpEqualImpliesEq cmp → (entries : List (K × X)) → IsStrictlySortedBy cmp (keys_of entries) → AllByRecursion (λ (e : K × X). at cmp e.0 entries ≡ Some e.1) entries
each_there cmp total exact [] ordered = tt
each_there {K = K} {X = X} cmp total exact (e ∷ entries) ordered = (
  rw (itself cmp total e.0) refl,
  mapped (λ (d : K × X). at cmp d.0 entries ≡ Some d.1) (λ (d : K × X). at cmp d.0 (e ∷ entries) ≡ Some d.1)
      (λ d is. skip cmp total exact d.0 e entries ordered (ap is_some is) ∙ is) entries (each_there cmp total exact entries (sorted_tail cmp e.0 (keys_of entries) ordered)),
)

module _ (inside : Inside) (well : IsKeptWell inside) where
  -- each seat is that of its key
  all_seats : (entries : List (ℕ × Bucket)) → AllByRecursion (λ (e : ℕ × Bucket). get nat_cmp inside.buckets e.0 ≡ Some e.1) entries
      → AllByRecursion (λ (e : List ℕ × Seat). seat_of (places_of inside) e.0 ≡ Some e.1) (seats_in entries)
  all_seats [] all = tt
  all_seats (e ∷ entries) all = all_both (λ (d : List ℕ × Seat). seat_of (places_of inside) d.0 ≡ Some d.1) e.1.entries (seats_in entries)
      (mapped (λ (d : List ℕ × Seat). get key_cmp e.1 d.0 ≡ Some d.1) (λ (d : List ℕ × Seat). seat_of (places_of inside) d.0 ≡ Some d.1) its_seat e.1.entries (each_there key_cmp nat_list_cmp_total exact_bytes e.1.entries (well.ordered.keys e.0 e.1 all.0)))
      (all_seats entries all.1)
    where
      its_seat : (d : List ℕ × Seat) → get key_cmp e.1 d.0 ≡ Some d.1 → seat_of (places_of inside) d.0 ≡ Some d.1
      its_seat d is =
          let under : seat_at inside.buckets e.0 d.0 ≡ Some d.1 = ap (λ (b : Option Bucket). seat_in b d.0) all.0 ∙ is in
          let h : e.0 ≡ hash inside.bits d.0 = well.hashed e.0 d.0 (ap is_some under) in
          reads inside well d.0 ∙ ap (λ (g : ℕ). seat_at inside.buckets g d.0) (sym h) ∙ under

  seats : AllByRecursion (λ (e : List ℕ × Seat). seat_of (places_of inside) e.0 ≡ Some e.1) (seats_in inside.buckets.entries)
  seats = all_seats inside.buckets.entries (each_there nat_cmp nat_cmp_total exact_unsigned inside.buckets.entries well.ordered.hashes)

  there_of : (o : Option Seat) → IsSome (placed o) → (seat : Seat) × ((o ≡ Some seat) × (is_some seat ≡ true))
  there_of None some = cc
  there_of (Some seat) some = (seat, (refl, some))

  -- what is true of all seats that are ahead is true of each key that is
  of_ahead : (bits : ℕ) (after : Option (List ℕ)) (P : List ℕ → Type 0) → AllByRecursion (λ (e : List ℕ × Seat). (is_some e.1 && follows bits after e.0) ≡ true → P e.0) (seats_in inside.buckets.entries)
      → (key : List ℕ) → IsAhead bits (places_of inside) after key → P key
  of_ahead bits after P all key is = by (there_of (seat_of (places_of inside) key) is.placed)
    where
      by : (seat : Seat) × ((seat_of (places_of inside) key ≡ Some seat) × (is_some seat ≡ true)) → P key
      by found = of_found (λ (e : List ℕ × Seat). (is_some e.1 && follows bits after e.0) ≡ true → P e.0) (seats_in inside.buckets.entries) all key found.0 found.1.0 (rw (found.1.1, is.behind) refl)

  -- The best of all is the next key.
  pub scans : (bits : ℕ) (after found : Option (List ℕ)) → found ≡ nearest bits after None (seats_in inside.buckets.entries) → IsNextPlaced bits (places_of inside) after found
  scans bits after None is = of_ahead bits after (λ (k : List ℕ). ⊥) (nearest_none bits after None (seats_in inside.buckets.entries) (sym is)).1
  scans bits after (Some key) is = (
    nearest_is bits after (IsAhead bits (places_of inside) after) None (seats_in inside.buckets.entries) (λ b no. let none : None ≡ Some b = no in cc)
        (mapped (λ (e : List ℕ × Seat). seat_of (places_of inside) e.0 ≡ Some e.1) (λ (e : List ℕ × Seat). (is_some e.1 && follows bits after e.0) ≡ true → IsAhead bits (places_of inside) after e.0) is_ahead (seats_in inside.buckets.entries) seats)
        key (sym is),
    of_ahead bits after (λ (k : List ℕ). IsNotBefore bits key k) (nearest_least bits after None (seats_in inside.buckets.entries) key (sym is)).all,
  )
    where
      is_ahead : (e : List ℕ × Seat) → seat_of (places_of inside) e.0 ≡ Some e.1 → (is_some e.1 && follows bits after e.0) ≡ true → IsAhead bits (places_of inside) after e.0
      is_ahead e at both = record {
        placed = subst (λ (o : Option Seat). IsSome (placed o)) (sym at) (first_of (is_some e.1) (follows bits after e.0) both);
        behind = second_of (is_some e.1) (follows bits after e.0) both;
      }
