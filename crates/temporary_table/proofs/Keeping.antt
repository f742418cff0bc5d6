-- The table's seats, read by the buckets.
use Rattle.std.proofs.Common.{◌≡◌, ℕ, Bool, true, false, List, [], ◌∷◌, ◌++◌, Option, Some, None, refl, sym, ◌∙◌, ap, subst}
use Rattle.std.specs.Prelude.{is_some, IsSome, cond, ◌==◌, ◌&&◌, Result, Ok, Err, OnOk, OnErr}
use Rattle.std.specs.List.{AllByRecursion}
use Rattle.std.specs.List.Sorted.{IsStrictlySortedBy}
use Rattle.std.specs.Map.{lookup, keys_of}
use Rattle.std.specs.BTreeMap.{get}
use Rattle.std.specs.Str.{bytes_eq}
use Rattle.std.specs.Ordering.{nat_cmp, is_eq}
use Rattle.std.proofs.lemmas.Map.Keys.{sorted_head, sorted_tail}
use Rattle.std.proofs.lemmas.Map.Lookups.{exact_unsigned}
use Rattle.std.proofs.lemmas.Cmp.{nat_cmp_total}
use Rattle.std.proofs.lemmas.Slice.Eq.{bytes_eq-Decides}
use Rattle.cache_model.specs.Hash.{hash}
use Rattle.temporary_table.specs.Places.{Seat, Places, seat_of, Reseats, Stays, seated, unseated}
use Rattle.temporary_table.specs.Buckets.{Bucket, Buckets, key_cmp, seat_in, seat_at, seats_in, Moves, IsKeptWell, places_of}
use Rattle.temporary_table.specs.declared.table.Table.TheInside.{Inside}
use Rattle.temporary_table.specs.Walking.{earlier}
use Rattle.temporary_table.proofs.Ordered.{at, same, itself, none_behind, skip}
use Rattle.temporary_table.proofs.Refilling.{key_test_turned, hash_test}

-- a look-up in two lists, one behind the other
lookup_both : {K X : Type 0} (test : K → Bool) (one other : List (K × X)) → lookup test (one ++ other) ≡ earlier (lookup test one) (lookup test other)
lookup_both test [] other = refl
lookup_both test (e ∷ one) other = by (test e.0) (lookup_both test one other)
  where
    by : (b : Bool) → lookup test (one ++ other) ≡ earlier (lookup test one) (lookup test other) → cond b (Some e.1) (lookup test (one ++ other)) ≡ earlier (cond b (Some e.1) (lookup test one)) (lookup test other)
    by true rest = refl
    by false rest = rest

-- tests that answer alike find the same
lookup_alike : {K X : Type 0} (test other : K → Bool) → ((k : K) → test k ≡ other k) → (entries : List (K × X)) → lookup test entries ≡ lookup other entries
lookup_alike test other alike [] = refl
lookup_alike test other alike (e ∷ entries) = rw (alike e.0, lookup_alike test other alike entries) refl

-- the keys of a bucket have its hash
abbrev HaveHash : ℕ → List (ℕ × Bucket) → Type 0
HaveHash bits entries = AllByRecursion (λ (e : ℕ × Bucket). (key : List ℕ) → IsSome (get key_cmp e.1 key) → e.0 ≡ hash bits key) entries

have_hash : (bits : ℕ) (entries : List (ℕ × Bucket)) → IsStrictlySortedBy nat_cmp (keys_of entries)
    → ((h : ℕ) (key : List ℕ) → IsSome (seat_in (at nat_cmp h entries) key) → h ≡ hash bits key) → HaveHash bits entries
have_hash bits [] ordered hashed = tt
have_hash bits (e ∷ entries) ordered hashed = (
  λ key some. hashed e.0 key (rw (itself nat_cmp nat_cmp_total e.0) some),
  have_hash bits entries (sorted_tail nat_cmp e.0 (keys_of entries) ordered) (λ h key some. hashed h key (later h key some)),
)
  where
    has : (o : Option Bucket) (key : List ℕ) → IsSome (seat_in o key) → IsSome o
    has None key some = some
    has (Some b) key some = refl

    later : (h : ℕ) (key : List ℕ) → IsSome (seat_in (at nat_cmp h entries) key) → IsSome (seat_in (at nat_cmp h (e ∷ entries)) key)
    later h key some = subst (λ (o : Option Bucket). IsSome (seat_in o key)) (sym (skip nat_cmp nat_cmp_total exact_unsigned h e entries ordered (has (at nat_cmp h entries) key some))) some

earlier_none : {X : Type 0} (o : Option X) → earlier o None ≡ o
earlier_none None = refl
earlier_none (Some x) = refl

-- The seat of a key is that in the bucket of its hash.
reads_by : (bits : ℕ) (entries : List (ℕ × Bucket)) → IsStrictlySortedBy nat_cmp (keys_of entries) → HaveHash bits entries → (key : List ℕ)
    → lookup (λ other. bytes_eq other key) (seats_in entries) ≡ seat_in (at nat_cmp (hash bits key) entries) key
reads_by bits [] ordered hashes key = refl
reads_by bits (e ∷ entries) ordered hashes key =
    lookup_both (λ other. bytes_eq other key) e.1.entries (seats_in entries)
    ∙ ap (λ (o : Option Seat). earlier o (lookup (λ other. bytes_eq other key) (seats_in entries))) (sym (lookup_alike (λ other. is_eq (key_cmp key other)) (λ other. bytes_eq other key) (key_test_turned key) e.1.entries))
    ∙ ap (λ (o : Option Seat). earlier (get key_cmp e.1 key) o) (reads_by bits entries (sorted_tail nat_cmp e.0 (keys_of entries) ordered) hashes.1 key)
    ∙ by (is_eq (nat_cmp (hash bits key) e.0)) refl
  where
    by : (b : Bool) → is_eq (nat_cmp (hash bits key) e.0) ≡ b
        → earlier (get key_cmp e.1 key) (seat_in (at nat_cmp (hash bits key) entries) key) ≡ seat_in (cond b (Some e.1) (at nat_cmp (hash bits key) entries)) key
    by true is =
        let none : at nat_cmp (hash bits key) entries ≡ None =
        subst (λ (h : ℕ). at nat_cmp h entries ≡ None) (sym (same nat_cmp exact_unsigned (hash bits key) e.0 is)) (none_behind nat_cmp nat_cmp_total exact_unsigned e.0 entries (sorted_head nat_cmp e.0 (keys_of entries) ordered)) in
        ap (λ (o : Option Bucket). earlier (get key_cmp e.1 key) (seat_in o key)) none ∙ earlier_none (get key_cmp e.1 key)
    by false apart = none (get key_cmp e.1 key) refl
      where
        none : (o : Option Seat) → get key_cmp e.1 key ≡ o → earlier o (seat_in (at nat_cmp (hash bits key) entries) key) ≡ seat_in (at nat_cmp (hash bits key) entries) key
        none None is = refl
        none (Some seat) is =
            let here : e.0 ≡ hash bits key = hashes.0 key (ap is_some is) in
            let equal : is_eq (nat_cmp (hash bits key) e.0) ≡ true = subst (λ (h : ℕ). is_eq (nat_cmp (hash bits key) h) ≡ true) (sym here) (itself nat_cmp nat_cmp_total (hash bits key)) in
            let no : true ≡ false = sym equal ∙ apart in cc

pub reads : (inside : Inside) → IsKeptWell inside → (key : List ℕ) → seat_of (places_of inside) key ≡ seat_at inside.buckets (hash inside.bits key) key
reads inside well key = reads_by inside.bits inside.buckets.entries well.ordered.hashes (have_hash inside.bits inside.buckets.entries well.ordered.hashes well.hashed) key

-- with other buckets
abbrev pub with_buckets : Inside → Buckets → Inside
with_buckets inside buckets = record { alloc = inside.alloc; bits = inside.bits; buckets = buckets }

-- What a moved seat leaves: all is kept well,
pub kept_well : (inside : Inside) (new : Buckets) (key : List ℕ) (seat : Option Seat) → IsKeptWell inside → Moves inside.buckets (hash inside.bits key) key seat new → IsKeptWell (with_buckets inside new)
kept_well inside new key seat well moves = record { few = well.few; ordered = moves.ordered; hashed = λ h other some. by h other (hash inside.bits key == h) refl (bytes_eq key other) refl (subst (λ (o : Option Seat). IsSome o) (moves.seats h other) some) }
  where
    by : (h : ℕ) (other : List ℕ) (a : Bool) → (hash inside.bits key == h) ≡ a → (b : Bool) → bytes_eq key other ≡ b → IsSome (cond (a && b) seat (seat_at inside.buckets h other)) → h ≡ hash inside.bits other
    by h other false apart b is some = well.hashed h other some
    by h other true here false apart some = well.hashed h other some
    by h other true here true equal some =
        sym (same nat_cmp exact_unsigned (hash inside.bits key) h (hash_test (hash inside.bits key) h ∙ here)) ∙ ap (hash inside.bits) ((bytes_eq-Decides key other).0 equal)

-- and that seat alone is another.
pub reseats : (inside : Inside) (new : Buckets) (key : List ℕ) (seat : Option Seat) → IsKeptWell inside → Moves inside.buckets (hash inside.bits key) key seat new → Reseats (places_of inside) key seat (places_of (with_buckets inside new))
reseats inside new key seat well moves = record {
  bits = refl;
  seats = λ other. reads (with_buckets inside new) (kept_well inside new key seat well moves) other ∙ moves.seats (hash inside.bits other) other ∙ by other (bytes_eq key other) refl;
}
  where
    by : (other : List ℕ) (b : Bool) → bytes_eq key other ≡ b → cond ((hash inside.bits key == hash inside.bits other) && b) seat (seat_at inside.buckets (hash inside.bits other) other) ≡ cond b seat (seat_of (places_of inside) other)
    by other true equal =
        let k : key ≡ other = (bytes_eq-Decides key other).0 equal in
        let here : (hash inside.bits key == hash inside.bits other) ≡ true = subst (λ (o : List ℕ). (hash inside.bits key == hash inside.bits o) ≡ true) k (sym (hash_test (hash inside.bits key) (hash inside.bits key)) ∙ itself nat_cmp nat_cmp_total (hash inside.bits key)) in
        rw here refl
    by other false apart = either (hash inside.bits key == hash inside.bits other) ∙ sym (reads inside well other)
      where
        either : (a : Bool) → cond (a && false) seat (seat_at inside.buckets (hash inside.bits other) other) ≡ seat_at inside.buckets (hash inside.bits other) other
        either true = refl
        either false = refl

-- Where a seat became what it was, all stayed.
pub stayed : (old new : Places) (key : List ℕ) (seat : Option Seat) → seat_of old key ≡ seat → Reseats old key seat new → Stays old new
stayed old new key seat is reseats = record { bits = reseats.bits; seats = λ other. reseats.seats other ∙ by other (bytes_eq key other) refl }
  where
    by : (other : List ℕ) (b : Bool) → bytes_eq key other ≡ b → cond b seat (seat_of old other) ≡ seat_of old other
    by other true equal = sym (subst (λ (k : List ℕ). seat_of old k ≡ seat) ((bytes_eq-Decides key other).0 equal) is)
    by other false apart = refl

-- All stayed where nothing was done to it.
pub reseats_same : (places : Places) (key : List ℕ) (seat : Option Seat) → seat_of places key ≡ seat → Reseats places key seat places
reseats_same places key seat is = record { bits = refl; seats = λ other. by other (bytes_eq key other) refl }
  where
    by : (other : List ℕ) (b : Bool) → bytes_eq key other ≡ b → seat_of places other ≡ cond b seat (seat_of places other)
    by other true equal = subst (λ (k : List ℕ). seat_of places k ≡ seat) ((bytes_eq-Decides key other).0 equal) is
    by other false apart = refl

-- What a call of the table finds under a key, and leaves, where the hash that it took is the key's.
pub reads_at : (inside : Inside) → IsKeptWell inside → (key : List ℕ) (h : ℕ) → h ≡ hash inside.bits key → seat_of (places_of inside) key ≡ seat_at inside.buckets h key
reads_at inside well key h is = reads inside well key ∙ ap (λ (g : ℕ). seat_at inside.buckets g key) (sym is)

pub reseats_at : (inside : Inside) (new : Buckets) (key : List ℕ) (h : ℕ) (seat : Option Seat) → IsKeptWell inside → h ≡ hash inside.bits key → Moves inside.buckets h key seat new
    → IsKeptWell (with_buckets inside new) × Reseats (places_of inside) key seat (places_of (with_buckets inside new))
reseats_at inside new key h seat well is moves =
    let here : Moves inside.buckets (hash inside.bits key) key seat new = subst (λ (g : ℕ). Moves inside.buckets g key seat new) is moves in
    (kept_well inside new key seat well here, reseats inside new key seat well here)

-- what a seat was given, or not
pub seated_or_not : {E : Type 0} (inside : Inside) (new : Buckets) (key : List ℕ) (h : ℕ) (result : Result (Unit {0}) E) → IsKeptWell inside → h ≡ hash inside.bits key
    → OnOk result (Moves inside.buckets h key (seated (seat_at inside.buckets h key)) new)
    → OnErr result (Moves inside.buckets h key (seat_at inside.buckets h key) new)
    → IsKeptWell (with_buckets inside new)
    × OnOk result (Reseats (places_of inside) key (seated (seat_of (places_of inside) key)) (places_of (with_buckets inside new)))
    × OnErr result (Stays (places_of inside) (places_of (with_buckets inside new)))
seated_or_not inside new key h (Ok x) well is put kept =
    let done = reseats_at inside new key h (seated (seat_at inside.buckets h key)) well is put in
    (done.0, subst (λ (s : Option Seat). Reseats (places_of inside) key (seated s) (places_of (with_buckets inside new))) (sym (reads_at inside well key h is)) done.1, tt)
seated_or_not inside new key h (Err e) well is put kept =
    let done = reseats_at inside new key h (seat_at inside.buckets h key) well is kept in
    (done.0, tt, stayed (places_of inside) (places_of (with_buckets inside new)) key (seat_at inside.buckets h key) (reads_at inside well key h is) done.1)

-- a seat that has a place, or none, is as it was once it is unseated
pub unseated_other : (seat : Option Seat) → (seat ≡ Some None → ⊥) → seat ≡ unseated seat
unseated_other None other = refl
unseated_other (Some None) other = absurd (other refl)
unseated_other (Some (Some place)) other = refl
