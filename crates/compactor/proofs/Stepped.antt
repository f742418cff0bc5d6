-- What an index step leaves: the table, the queue and the index stand for the same records.
use Rattle.std.proofs.Common.{◌≡◌, ◌⊎◌, inl, inr, ⊎_elim, ℕ, ◌==◌, Bool, true, false, List, [], ◌∷◌, ◌++◌, All, Option, Some, None, refl, sym, ◌∙◌, ap, subst, arith}
use Rattle.std.specs.Prelude.{cond, if◌then◌else◌, slice_get, option_map, option_to_list}
use Rattle.std.specs.Option.{option_or}
use Rattle.std.specs.Str.{bytes_eq}
use Rattle.std.proofs.lemmas.Bool.Decides.{nat_tests}
use Rattle.std.proofs.lemmas.List.Elements.{All-head, All-tail}
use Rattle.std.proofs.lemmas.Option.{some_pair_parts}
use Rattle.std.proofs.lemmas.Slice.Eq.{bytes_eq-Decides}
use Rattle.cache_model.specs.declared.files.Place.{Place}
use Rattle.temporary_table.specs.declared.requests.Request.{Request}
use Rattle.temporary_table.specs.declared.requests.Request.TheVariants.{Set, Swap, Drop, Less}
use Rattle.temporary_table.specs.Places.{Places, Seat, placed, seat_of, place_of, Reseats, Stays}
use Rattle.temporary_table.specs.Queue as queue
use Rattle.compactor.specs.Entering.{Settles, SettlesAt}
use Rattle.compactor.specs.Indexing.{put_by, puts_to, last_put, ArePutApart}

-- the queue

-- the oldest request is in front of the others
pub in_front : (waiting : List Request) (request : Request) → Some request ≡ slice_get waiting 0 → (rest : List Request) × (waiting ≡ request ∷ rest)
in_front [] request first = cc
in_front (one ∷ rest) request first = let same : request ≡ one = cc in (rest, ap (λ (r : Request). r ∷ rest) (sym same))

pub none_waits : (waiting : List Request) → None ≡ slice_get waiting 0 → waiting ≡ []
none_waits [] first = refl
none_waits (one ∷ rest) first = cc

-- and the others are left
pub others_left : (waiting rest left : List Request) (request : Request) (taken : Option Request) → waiting ≡ request ∷ rest → waiting ≡ option_to_list taken ++ left → (taken ≡ None → waiting ≡ []) → left ≡ rest
others_left waiting rest left request None is oldest none = let no : request ∷ rest ≡ [] = sym is ∙ none refl in cc
others_left waiting rest left request (Some one) is oldest none = let both : one ∷ left ≡ request ∷ rest = sym oldest ∙ is in cc

-- the table

-- a seat with a place
abbrev at_place : Place → Bool → Seat
at_place place gone = Some (place, gone)

one_place : (one other : Place) (gone removed : Bool) → at_place one gone ≡ at_place other removed → one ≡ other
one_place one other gone removed same = (some_pair_parts one other gone removed same).0

-- two places are the same or not
same_place : (one other : Place) → (one ≡ other) ⊎ (one ≡ other → ⊥)
same_place one other = by (one.file == other.file) refl (one.at == other.at) refl (one.length == other.length) refl
  where
    equal : (n m : ℕ) → (n == m) ≡ true → n ≡ m
    equal n m is = grind (arith, nat_tests)

    apart : (n m : ℕ) → (n == m) ≡ false → n ≡ m → ⊥
    apart n m is same = grind (arith, nat_tests)

    by : (f : Bool) → (one.file == other.file) ≡ f → (a : Bool) → (one.at == other.at) ≡ a → (l : Bool) → (one.length == other.length) ≡ l → (one ≡ other) ⊎ (one ≡ other → ⊥)
    by true file true at true length = inl (let f = equal one.file other.file file in let a = equal one.at other.at at in let l = equal one.length other.length length in rw (f, a, l) refl)
    by true file true at false length = inr (λ same. apart one.length other.length length (ap (λ (p : Place). p.length) same))
    by true file false at l length = inr (λ same. apart one.at other.at at (ap (λ (p : Place). p.at) same))
    by false file a at l length = inr (λ same. apart one.file other.file file (ap (λ (p : Place). p.file) same))

module _ (key : List ℕ) (to : Place) (old new : Places) (settles : SettlesAt key to old new) where
  -- the key's seat was taken away, where it had this place, and else all stayed
  abbrev Settled : Type 0
  Settled = ((gone : Bool) × (place_of old key ≡ Some (to, gone)) × Reseats old key None new) ⊎ (((gone : Bool) → place_of old key ≡ Some (to, gone) → ⊥) × Stays old new)

  settled : Settled
  settled = by (place_of old key) refl
    where
      at : (place : Place) (gone : Bool) → place_of old key ≡ Some (place, gone) → (place ≡ to) ⊎ (place ≡ to → ⊥) → Settled
      at place gone is (inl same) = let here : place_of old key ≡ Some (to, gone) = subst (λ (p : Place). place_of old key ≡ Some (p, gone)) same is in inl (gone, here, settles.settled gone here)
      at place gone is (inr other) =
          let none : (g : Bool) → place_of old key ≡ Some (to, g) → ⊥ = λ g here. other (one_place place to gone g (sym is ∙ here)) in
          inr (none, settles.kept none)

      by : (seat : Seat) → place_of old key ≡ seat → Settled
      by None is = let none : (g : Bool) → place_of old key ≡ Some (to, g) → ⊥ = λ g here. (let no : None ≡ at_place to g = sym is ∙ here in cc) in inr (none, settles.kept none)
      by (Some seat) is = at seat.0 seat.1 is (same_place seat.0 to)

  -- a place that is still there was there before
  pub still_placed : (other : List ℕ) (place : Place) (gone : Bool) → place_of new other ≡ Some (place, gone) → place_of old other ≡ Some (place, gone)
  still_placed other place gone is = ⊎_elim reseated (λ stays. ap placed (sym (stays.1.seats other)) ∙ is) settled
    where
      reseated : (g : Bool) × (place_of old key ≡ Some (to, g)) × Reseats old key None new → place_of old other ≡ Some (place, gone)
      reseated r = by (bytes_eq key other) (ap placed (sym (r.2.seats other)) ∙ is)
        where
          by : (b : Bool) → placed (cond b None (seat_of old other)) ≡ Some (place, gone) → place_of old other ≡ Some (place, gone)
          by true away = let none : None ≡ at_place place gone = away in cc
          by false there = there

  pub same_table : new.bits ≡ old.bits
  same_table = ⊎_elim (λ r. r.2.bits) (λ s. s.1.bits) settled

  -- other keys have the places that they had
  pub other_placed : (other : List ℕ) → bytes_eq key other ≡ false → place_of new other ≡ place_of old other
  other_placed other apart = ⊎_elim (λ r. ap placed (r.2.seats other) ∙ ap (λ (b : Bool). placed (cond b None (seat_of old other))) apart) (λ s. ap placed (s.1.seats other)) settled

-- the same whatever the request
pub still_settled : (request : Request) (old new : Places) → Settles request old new → (new.bits ≡ old.bits) × ((key : List ℕ) (place : Place) (gone : Bool) → place_of new key ≡ Some (place, gone) → place_of old key ≡ Some (place, gone))
still_settled (Set key to gone) old new settles = (same_table key to old new settles, still_placed key to old new settles)
still_settled (Swap key from to) old new settles = (same_table key to old new settles, still_placed key to old new settles)
still_settled (Drop key from) old new same = (ap (λ (p : Places). p.bits) same, λ other place gone is. ap (λ (p : Places). place_of p other) (sym same) ∙ is)
still_settled (Less key) old new same = (ap (λ (p : Places). p.bits) same, λ other place gone is. ap (λ (p : Places). place_of p other) (sym same) ∙ is)

-- the queue's last places

-- the place of a seat
abbrev placed_at : Seat → Option Place
placed_at seat = option_map (λ (s : Place × Bool). s.0) seat

-- what has a place has it with whether the key is gone there
pub seat_with : (seat : Seat) (to : Place) → option_map (λ (s : Place × Bool). s.0) seat ≡ Some to → (gone : Bool) × (seat ≡ Some (to, gone))
seat_with None to is = cc
seat_with (Some seat) to is = let same : seat.0 ≡ to = cc in (seat.1, ap (λ (p : Place). Some (p, seat.1)) same)

module _ (key : List ℕ) (to : Place) (request : Request) (named : queue.key_of request ≡ key) (put : puts_to request ≡ Some to) where
  -- the request puts its own key to its place, and no other
  pub put_named : (k : List ℕ) (b : Bool) → bytes_eq key k ≡ b → put_by k request ≡ cond b (Some to) None
  put_named k b is =
      ap (λ (l : List ℕ). if bytes_eq l k then puts_to request else None) named
      ∙ ap (λ (o : Option Place). if bytes_eq key k then o else None) put
      ∙ ap (λ (c : Bool). if c then Some to else None) is

  itself : bytes_eq key key ≡ true
  itself = (bytes_eq-Decides key key).1 refl

  -- a place that a request behind puts a key to is no place of this request
  last_apart : (rest : List Request) → All (ArePutApart request) rest → (place : Place) → last_put key rest ≡ Some place → to ≡ place → ⊥
  last_apart [] apart place is same = let none : None ≡ Some place = is in cc
  last_apart (one ∷ rest) apart place is same = by (last_put key rest) refl is (λ there. last_apart rest (All-tail (ArePutApart request) one rest apart) place there same)
    where
      here : put_by key one ≡ Some place → ⊥
      here is_put = by_name (bytes_eq (queue.key_of one) key) is_put
        where
          by_name : (b : Bool) → (if b then puts_to one else None) ≡ Some place → ⊥
          by_name true there = All-head (ArePutApart request) one rest apart place (put ∙ ap Some same) there
          by_name false there = let none : None ≡ Some place = there in cc

      by : (last : Option Place) → last_put key rest ≡ last → option_or last (put_by key one) ≡ Some place → (last_put key rest ≡ Some place → ⊥) → ⊥
      by None none is_put later = here is_put
      by (Some last) some is_put later = later (some ∙ is_put)

  module _ (old new : Places) (rest : List Request) (settles : SettlesAt key to old new) (queued : (other : List ℕ) → option_map (λ (s : Place × Bool). s.0) (place_of old other) ≡ last_put other (request ∷ rest)) (apart : All (ArePutApart request) rest) where
    -- the key's place before, by the last one that waits behind the request
    put_first : (last : Option Place) → last_put key rest ≡ last → placed_at (place_of old key) ≡ option_or last (Some to)
    put_first last is = queued key ∙ ap (λ (o : Option Place). option_or o (put_by key request)) is ∙ ap (λ (o : Option Place). option_or last o) (put_named key true itself)

    -- the request's own key has the place that waits still
    own_queued : placed_at (place_of new key) ≡ last_put key rest
    own_queued = by (last_put key rest) refl (settled key to old new settles)
      where
        seat : (last : Option Place) → last_put key rest ≡ last → (place : Place) → option_or last (Some to) ≡ Some place → (gone : Bool) × (place_of old key ≡ Some (place, gone))
        seat last is place or = seat_with (place_of old key) place (put_first last is ∙ or)

        by : (last : Option Place) → last_put key rest ≡ last → Settled key to old new settles → placed_at (place_of new key) ≡ last_put key rest
        by None none (inl reseated) = ap (λ (s : Option Seat). placed_at (placed s)) (reseated.2.seats key) ∙ ap (λ (b : Bool). placed_at (placed (cond b None (seat_of old key)))) itself ∙ sym none
        by None none (inr stays) = let was = seat None none to refl in absurd (stays.0 was.0 was.1)
        by (Some last) some (inl reseated) =
            let was = seat (Some last) some last refl in
            absurd (last_apart rest apart last some (one_place to last reseated.0 was.0 (sym reseated.1 ∙ was.1)))
        by (Some last) some (inr stays) = ap (λ (s : Option Seat). placed_at (placed s)) (stays.1.seats key) ∙ put_first (Some last) some ∙ sym some

    -- and so has each key
    pub still_queued : (other : List ℕ) → option_map (λ (s : Place × Bool). s.0) (place_of new other) ≡ last_put other rest
    still_queued other = by (bytes_eq key other) refl
      where
        or_none : (last : Option Place) → option_or last None ≡ last
        or_none None = refl
        or_none (Some last) = refl

        by : (b : Bool) → bytes_eq key other ≡ b → placed_at (place_of new other) ≡ last_put other rest
        by true same = subst (λ (k : List ℕ). placed_at (place_of new k) ≡ last_put k rest) ((bytes_eq-Decides key other).0 same) own_queued
        by false unlike =
            ap placed_at (other_placed key to old new settles other unlike)
            ∙ queued other
            ∙ ap (λ (o : Option Place). option_or (last_put other rest) o) (put_named other false unlike)
            ∙ or_none (last_put other rest)

    -- where nothing of its key waits, this was the key's place
    pub own_place : place_of new key ≡ None → (gone : Bool) × (place_of old key ≡ Some (to, gone))
    own_place none = seat_with (place_of old key) to (put_first None (sym own_queued ∙ ap placed_at none))
