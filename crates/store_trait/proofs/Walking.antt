-- The first visible key behind another, read by the rooms.
use Rattle.std.proofs.Common.{◌≡◌, ◌⊎◌, inl, inr, ⊎_elim, ℕ, Bool, true, false, List, [], ◌∷◌, Option, Some, None, refl, sym, ◌∙◌, ap, subst, arith, Bor}
use Rattle.std.specs.Prelude.{is_some, IsSome, ◌&&◌, ◌==◌, cond, nat_lt, if◌then◌else◌, option_map, Result, Ok, Err, IfOk}
use Rattle.std.specs.List.{AllByRecursion}
use Rattle.std.specs.List.Sorted.{IsStrictlySortedBy}
use Rattle.std.specs.Map.{keys_of}
use Rattle.std.specs.BTreeMap.Range.{entries_between, range_contains}
use Rattle.std.specs.Ordering.{nat_cmp, is_lt, is_eq, ordering_then}
use Rattle.std.specs.Cmp.Lexicographic.{slice_cmp}
use Rattle.std.specs.declared.ops.Bound.{Bound}
use Rattle.std.specs.declared.ops.Bound.TheVariants.{Unbounded}
use Rattle.std.specs.declared.cmp.Ordering.{Ordering}
use Rattle.std.specs.declared.cmp.Ordering.TheVariants.{Less, Equal, Greater}
use Rattle.std.proofs.lemmas.Bool.Decides.{nat_tests}
use Rattle.std.proofs.lemmas.Map.Keys.{sorted_head, sorted_tail}
use Rattle.cache_model.specs.declared.faults.ModelFault.{ModelFault}
use Rattle.cache_model.specs.Hash.{hash, precedes, follows}
use Rattle.store_trait.specs.declared.entries.HashedKey.{HashedKey}
use Rattle.store_trait.specs.declared.entries.Room.{Room}
use Rattle.store_trait.specs.declared.entries.Entries.TheInside.{Inside}
use Rattle.store_trait.specs.Meaning.{Reading, seen}
use Rattle.store_trait.specs.Calls.{IsAhead, IsNextKey}
use Rattle.store_trait.specs.Places.{hashed, place_cmp, reading_of, is_shown, first_shown, start_after}
use Rattle.store_trait.specs.Rooms.{held_in, IsKeptWell}
use Rattle.store_trait.proofs.Rooms.{room_at, same_place, place_itself, reads}

-- walk order is that of the places

not_both : (m n : ℕ) → (m == n) ≡ true → nat_lt m n ≡ true → ⊥
not_both m n same less = grind (arith, nat_tests)

order_by : (m n : ℕ) (o : Ordering) → (if m == n then is_lt o else nat_lt m n) ≡ is_lt (ordering_then (nat_cmp m n) o)
order_by m n o = by (m == n) refl (nat_lt m n) refl
  where
    by : (b : Bool) → (m == n) ≡ b → (a : Bool) → nat_lt m n ≡ a → (if b then is_lt o else a) ≡ is_lt (ordering_then (cond a Less (cond b Equal Greater)) o)
    by true same true less = absurd (not_both m n same less)
    by true same false late = refl
    by false apart true less = refl
    by false apart false late = refl

pub precedes_by : (bits : ℕ) (one other : List ℕ) → precedes bits one other ≡ is_lt (place_cmp (hashed bits one) (hashed bits other))
precedes_by bits one other = order_by (hash bits one) (hash bits other) (slice_cmp nat_cmp one other)

pub follows_by : (bits : ℕ) (after : Option (List ℕ)) (key : List ℕ) → follows bits after key ≡ range_contains place_cmp (start_after (option_map (hashed bits) after)) Unbounded (hashed bits key)
follows_by bits None key = refl
follows_by bits (Some after) key = precedes_by bits after key ∙ sym (and_true (is_lt (place_cmp (hashed bits after) (hashed bits key))))
  where
    and_true : (b : Bool) → (b && true) ≡ b
    and_true true = refl
    and_true false = refl

less_of : (o : Ordering) → is_lt o ≡ true → o ≡ Less
less_of Less is = refl
less_of Equal is = cc
less_of Greater is = cc

never : true ≡ false → ⊥
never h = cc

-- what holds of all places behind one holds of one of them
of_one : (P : HashedKey → Type 0) (place : HashedKey) (rooms : List (HashedKey × Room)) → AllByRecursion P (keys_of rooms) → IsSome (room_at place rooms) → P place
of_one P place [] all there = cc
of_one P place (e ∷ rooms) all there = by (of_one P place rooms all.1) (is_eq (place_cmp place e.0)) refl there
  where
    by : (IsSome (room_at place rooms) → P place) → (b : Bool) → is_eq (place_cmp place e.0) ≡ b → is_some (cond b (Some e.1) (room_at place rooms)) ≡ true → P place
    by rest true same is = subst P (sym (same_place place e.0 same)) all.0
    by rest false apart is = rest is

-- a place behind the first room is found behind it
skip : (place : HashedKey) (e : HashedKey × Room) (rooms : List (HashedKey × Room)) → IsStrictlySortedBy place_cmp (keys_of (e ∷ rooms)) → IsSome (room_at place rooms) → room_at place (e ∷ rooms) ≡ room_at place rooms
skip place e rooms ordered there = by (is_eq (place_cmp place e.0)) refl
  where
    less : place_cmp e.0 place ≡ Less
    less = of_one (λ (p : HashedKey). place_cmp e.0 p ≡ Less) place rooms (sorted_head place_cmp e.0 (keys_of rooms) ordered) there

    by : (b : Bool) → is_eq (place_cmp place e.0) ≡ b → cond b (Some e.1) (room_at place rooms) ≡ room_at place rooms
    by true same =
        let itself : place_cmp e.0 e.0 ≡ Less = subst (λ (p : HashedKey). place_cmp e.0 p ≡ Less) (same_place place e.0 same) less in
        absurd (never (sym (place_itself e.0) ∙ ap is_eq itself))
    by false apart = refl

first_of : (a b : Bool) → (a && b) ≡ true → a ≡ true
first_of true b h = refl
first_of false b h = cc

second_of : (a b : Bool) → (a && b) ≡ true → b ≡ true
second_of true b h = h
second_of false b h = cc

some_room : (moment : ℕ) (room : Option Room) → is_some (seen moment (reading_of room)) ≡ true → is_some room ≡ true
some_room moment None shown = cc
some_room moment (Some room) shown = refl

module _ (moment : ℕ) (within : HashedKey → Bool) where
  -- the first place that is shown, of those in a range
  abbrev pub first_within : List (HashedKey × Room) → Option HashedKey
  first_within [] = None
  first_within (e ∷ rooms) = cond (within e.0 && is_shown moment e.1) (Some e.0) (first_within rooms)

  -- a place that is shown, and in the range
  pub record IsWithin (rooms : List (HashedKey × Room)) (place : HashedKey) : Type 0 where
    pub inside : within place ≡ true
    pub shown : is_some (seen moment (reading_of (room_at place rooms))) ≡ true

module _ (moment : ℕ) (within : HashedKey → Bool) where
  its_room : (e : HashedKey × Room) (rooms : List (HashedKey × Room)) → room_at e.0 (e ∷ rooms) ≡ Some e.1
  its_room e rooms = rw (place_itself e.0) refl

  -- one of the rooms is the first, or it is one of the others
  which : (e : HashedKey × Room) (rooms : List (HashedKey × Room)) (other : HashedKey) → IsWithin moment within (e ∷ rooms) other
      → ((other ≡ e.0) × ((within e.0 && is_shown moment e.1) ≡ true)) ⊎ IsWithin moment within rooms other
  which e rooms other there = by (is_eq (place_cmp other e.0)) refl
    where
      by : (b : Bool) → is_eq (place_cmp other e.0) ≡ b → ((other ≡ e.0) × ((within e.0 && is_shown moment e.1) ≡ true)) ⊎ IsWithin moment within rooms other
      by true same =
          let is : other ≡ e.0 = same_place other e.0 same in
          let inside : within e.0 ≡ true = subst (λ (p : HashedKey). within p ≡ true) is there.inside in
          let shown : is_shown moment e.1 ≡ true = subst (λ (r : Option Room). is_some (seen moment (reading_of r)) ≡ true) (its_room e rooms) (subst (λ (p : HashedKey). is_some (seen moment (reading_of (room_at p (e ∷ rooms)))) ≡ true) is there.shown) in
          inl (is, rw (inside, shown) refl)
      by false apart = inr (record { inside = there.inside; shown = subst (λ (b : Bool). is_some (seen moment (reading_of (cond b (Some e.1) (room_at other rooms)))) ≡ true) apart there.shown })

  -- The first one is one,
  pub first_is : (rooms : List (HashedKey × Room)) → IsStrictlySortedBy place_cmp (keys_of rooms) → (place : HashedKey) → first_within moment within rooms ≡ Some place → IsWithin moment within rooms place
  first_is [] ordered place is = cc
  first_is (e ∷ rooms) ordered place is = by (first_is rooms (sorted_tail place_cmp e.0 (keys_of rooms) ordered) place) (within e.0 && is_shown moment e.1) refl is
    where
      by : (first_within moment within rooms ≡ Some place → IsWithin moment within rooms place)
          → (b : Bool) → (within e.0 && is_shown moment e.1) ≡ b → cond b (Some e.0) (first_within moment within rooms) ≡ Some place → IsWithin moment within (e ∷ rooms) place
      by rest true so is =
          let same : e.0 ≡ place = cc in
          subst (λ (p : HashedKey). IsWithin moment within (e ∷ rooms) p) same
          (record { inside = first_of (within e.0) (is_shown moment e.1) so; shown = rw (place_itself e.0) (second_of (within e.0) (is_shown moment e.1) so) })
      by rest false so is =
          let there = rest is in
          record { inside = there.inside; shown = subst (λ (r : Option Room). is_some (seen moment (reading_of r)) ≡ true) (sym (skip place e rooms ordered (some_room moment (room_at place rooms) there.shown))) there.shown }

  -- it stands before each other,
  pub first_before : (rooms : List (HashedKey × Room)) → IsStrictlySortedBy place_cmp (keys_of rooms) → (place other : HashedKey) → first_within moment within rooms ≡ Some place → IsWithin moment within rooms other
      → (other ≡ place) ⊎ (is_lt (place_cmp place other) ≡ true)
  first_before [] ordered place other is there = cc
  first_before (e ∷ rooms) ordered place other is there = by (first_before rooms (sorted_tail place_cmp e.0 (keys_of rooms) ordered) place other) (within e.0 && is_shown moment e.1) refl is (which e rooms other there)
    where
      by : (first_within moment within rooms ≡ Some place → IsWithin moment within rooms other → (other ≡ place) ⊎ (is_lt (place_cmp place other) ≡ true))
          → (b : Bool) → (within e.0 && is_shown moment e.1) ≡ b → cond b (Some e.0) (first_within moment within rooms) ≡ Some place
          → ((other ≡ e.0) × ((within e.0 && is_shown moment e.1) ≡ true)) ⊎ IsWithin moment within rooms other
          → (other ≡ place) ⊎ (is_lt (place_cmp place other) ≡ true)
      by rest true so is (inl same) = let first : e.0 ≡ place = cc in inl (same.0 ∙ first)
      by rest true so is (inr later) =
          let first : e.0 ≡ place = cc in
          let less : place_cmp e.0 other ≡ Less = of_one (λ (p : HashedKey). place_cmp e.0 p ≡ Less) other rooms (sorted_head place_cmp e.0 (keys_of rooms) ordered) (some_room moment (room_at other rooms) later.shown) in
          inr (subst (λ (p : HashedKey). is_lt (place_cmp p other) ≡ true) first (ap is_lt less))
      by rest false so is (inl same) = absurd (never (sym same.1 ∙ so))
      by rest false so is (inr later) = rest is later

  -- and where there is none, there is none.
  pub first_none : (rooms : List (HashedKey × Room)) (other : HashedKey) → first_within moment within rooms ≡ None → IsWithin moment within rooms other → ⊥
  first_none [] other is there = never (sym there.shown)
  first_none (e ∷ rooms) other is there = by (first_none rooms other) (within e.0 && is_shown moment e.1) refl is (which e rooms other there)
    where
      by : (first_within moment within rooms ≡ None → IsWithin moment within rooms other → ⊥)
          → (b : Bool) → (within e.0 && is_shown moment e.1) ≡ b → cond b (Some e.0) (first_within moment within rooms) ≡ None
          → ((other ≡ e.0) × ((within e.0 && is_shown moment e.1) ≡ true)) ⊎ IsWithin moment within rooms other → ⊥
      by rest true so is there = let none : Some e.0 ≡ None = is in cc
      by rest false so is (inl same) = never (sym same.1 ∙ so)
      by rest false so is (inr later) = rest is later

-- the first of those that a range has
pub in_range : (moment : ℕ) (start : Bound HashedKey) (rooms : List (HashedKey × Room)) → first_shown moment (entries_between place_cmp start Unbounded rooms) ≡ first_within moment (range_contains place_cmp start Unbounded) rooms
in_range moment start [] = refl
in_range moment start (e ∷ rooms) = by (in_range moment start rooms) (range_contains place_cmp start Unbounded e.0) refl
  where
    by : first_shown moment (entries_between place_cmp start Unbounded rooms) ≡ first_within moment (range_contains place_cmp start Unbounded) rooms
        → (b : Bool) → range_contains place_cmp start Unbounded e.0 ≡ b
        → first_shown moment (cond b (e ∷ entries_between place_cmp start Unbounded rooms) (entries_between place_cmp start Unbounded rooms)) ≡ cond (b && is_shown moment e.1) (Some e.0) (first_within moment (range_contains place_cmp start Unbounded) rooms)
    by rest true so = ap (λ (p : Option HashedKey). cond (is_shown moment e.1) (Some e.0) p) rest
    by rest false so = rest

-- a key that is ahead has a place in the range that is shown,
is_within : (inside : Inside) (moment : ℕ) (after : Option (List ℕ)) → IsKeptWell inside → (key : List ℕ)
    → IsAhead inside.bits moment (held_in inside.rooms.entries) after key
    → IsWithin moment (range_contains place_cmp (start_after (option_map (hashed inside.bits) after)) Unbounded) inside.rooms.entries (hashed inside.bits key)
is_within inside moment after well key ahead = record {
  inside = sym (follows_by inside.bits after key) ∙ ahead.behind;
  shown = subst (λ (r : Reading). is_some (seen moment r) ≡ true) (reads inside.bits inside.rooms.entries well.ordered well.hashed key) ahead.visible;
}

-- and so the other way round
is_ahead : (inside : Inside) (moment : ℕ) (after : Option (List ℕ)) → IsKeptWell inside → (key : List ℕ)
    → IsWithin moment (range_contains place_cmp (start_after (option_map (hashed inside.bits) after)) Unbounded) inside.rooms.entries (hashed inside.bits key)
    → IsAhead inside.bits moment (held_in inside.rooms.entries) after key
is_ahead inside moment after well key there = record {
  visible = subst (λ (r : Reading). is_some (seen moment r) ≡ true) (sym (reads inside.bits inside.rooms.entries well.ordered well.hashed key)) there.shown;
  behind = follows_by inside.bits after key ∙ there.inside;
}

-- What is found by the places is the next key.
pub finds_next : (inside : Inside) (moment : ℕ) (after : Option (List ℕ)) (found : Option HashedKey) → IsKeptWell inside
    → first_within moment (range_contains place_cmp (start_after (option_map (hashed inside.bits) after)) Unbounded) inside.rooms.entries ≡ found
    → IsNextKey inside.bits moment (held_in inside.rooms.entries) after (option_map (λ (p : HashedKey). p.key) found)
finds_next inside moment after None well is = λ key ahead.
    first_none moment (range_contains place_cmp (start_after (option_map (hashed inside.bits) after)) Unbounded) inside.rooms.entries (hashed inside.bits key) is (is_within inside moment after well key ahead)
finds_next inside moment after (Some place) well is =
    let within = range_contains place_cmp (start_after (option_map (hashed inside.bits) after)) Unbounded in
    let first : IsWithin moment within inside.rooms.entries place = first_is moment within inside.rooms.entries well.ordered place is in
    let here : place ≡ hashed inside.bits place.key = its_hash place (well.hashed place (some_room moment (room_at place inside.rooms.entries) first.shown)) in (
      is_ahead inside moment after well place.key (subst (λ (p : HashedKey). IsWithin moment within inside.rooms.entries p) here first),
      λ key ahead. ⊎_elim
          (λ same. inl (ap (λ (p : HashedKey). p.key) same))
          (λ less. inr (precedes_by inside.bits place.key key ∙ subst (λ (p : HashedKey). is_lt (place_cmp p (hashed inside.bits key)) ≡ true) here less))
          (first_before moment within inside.rooms.entries well.ordered place (hashed inside.bits key) is (is_within inside moment after well key ahead)),
    )
  where
    its_hash : (p : HashedKey) → p.hash ≡ hash inside.bits p.key → p ≡ hashed inside.bits p.key
    its_hash p h = rw h refl

-- where the answer is what was found, it is as that is
pub if_found : {T E : Type 0} (P : T → Type 0) (result : Result T E) (found : T) → IfOk result (λ x. x ≡ found) → P found → IfOk result P
if_found P (Ok x) found is so = subst P (sym is) so
if_found P (Err e) found is so = tt

map_map : {A B C : Type 0} (f : B → C) (g : A → B) (x : Option A) → option_map f (option_map g x) ≡ option_map (λ a. f (g a)) x
map_map f g None = refl
map_map f g (Some a) = refl

-- what is answered, where the place behind which it looks is that of the key
pub walks : (inside : Inside) (moment : ℕ) (after : Option (Bor (List ℕ))) (place : Option HashedKey) (found : Option (Bor HashedKey)) (result : Result (Option (List ℕ)) ModelFault) → IsKeptWell inside
    → place ≡ option_map (λ (key : Bor (List ℕ)). hashed inside.bits key.now) after
    → option_map (λ (p : Bor HashedKey). p.now) found ≡ first_shown moment (entries_between place_cmp (start_after place) Unbounded inside.rooms.entries)
    → IfOk result (λ key. key ≡ option_map (λ (p : Bor HashedKey). p.now.key) found)
    → IfOk result (λ key. IsNextKey inside.bits moment (held_in inside.rooms.entries) (option_map (λ (key' : Bor (List ℕ)). key'.now) after) key)
walks inside moment after place found result well at first answer =
    let keys : Option (List ℕ) = option_map (λ (key : Bor (List ℕ)). key.now) after in
    let behind : place ≡ option_map (hashed inside.bits) keys = at ∙ sym (map_map (hashed inside.bits) (λ (key : Bor (List ℕ)). key.now) after) in
    let is : first_within moment (range_contains place_cmp (start_after (option_map (hashed inside.bits) keys)) Unbounded) inside.rooms.entries ≡ option_map (λ (p : Bor HashedKey). p.now) found =
    sym (first ∙ in_range moment (start_after place) inside.rooms.entries ∙ ap (λ (q : Option HashedKey). first_within moment (range_contains place_cmp (start_after q) Unbounded) inside.rooms.entries) behind) in
    let next : IsNextKey inside.bits moment (held_in inside.rooms.entries) keys (option_map (λ (p : Bor HashedKey). p.now.key) found) =
    subst (λ (k : Option (List ℕ)). IsNextKey inside.bits moment (held_in inside.rooms.entries) keys k) (map_map (λ (p : HashedKey). p.key) (λ (p : Bor HashedKey). p.now) found)
    (finds_next inside moment keys (option_map (λ (p : Bor HashedKey). p.now) found) well is) in
    if_found (λ (key : Option (List ℕ)). IsNextKey inside.bits moment (held_in inside.rooms.entries) keys key) result (option_map (λ (p : Bor HashedKey). p.now.key) found) answer next
