-- All buckets, after one seat became another.
use Rattle.std.proofs.Common.{◌≡◌, ℕ, Bool, true, false, List, Option, Some, None, refl, sym, ◌∙◌, ap, subst}
use Rattle.std.specs.Prelude.{cond, ◌==◌, ◌&&◌}
use Rattle.std.specs.BTreeMap.{Updates, IsOrdered, get}
use Rattle.std.specs.Str.{bytes_eq}
use Rattle.std.specs.Ordering.{nat_cmp, is_eq}
use Rattle.std.proofs.lemmas.Map.Lookups.{exact_unsigned}
use Rattle.std.proofs.lemmas.Slice.Eq.{bytes_eq-Decides}
use Rattle.temporary_table.specs.Places.{Seat}
use Rattle.temporary_table.specs.Buckets.{Bucket, Buckets, key_cmp, seat_in, seat_at, AreOrdered, Refills, Fills, Moves}
use Rattle.temporary_table.proofs.Ordered.{same}
use Rattle.temporary_table.proofs.Refilling.{hash_test}

same_hash : (hash other : ℕ) → is_eq (nat_cmp hash other) ≡ true → hash ≡ other
same_hash hash other is = same nat_cmp exact_unsigned hash other is

-- What all have where one bucket became another, or was made.
moved : (old new : Buckets) (hash : ℕ) (key : List ℕ) (seat : Option Seat) (bucket : Bucket) → AreOrdered old → IsOrdered nat_cmp new
    → Updates nat_cmp old new hash (Some bucket) → IsOrdered key_cmp bucket
    → ((other : List ℕ) → get key_cmp bucket other ≡ cond (bytes_eq key other) seat (seat_at old hash other))
    → Moves old hash key seat new
moved old new hash key seat bucket were ordered updates inner seats = record {
  seats = λ other_hash other. ap (λ (b : Option Bucket). seat_in b other) (updates.0 other_hash) ∙ by other_hash other (is_eq (nat_cmp hash other_hash)) refl;
  ordered = record { hashes = ordered; keys = λ other_hash b is. keys other_hash b (is_eq (nat_cmp hash other_hash)) refl (sym (updates.0 other_hash) ∙ is) };
}
  where
    by : (other_hash : ℕ) (other : List ℕ) (b : Bool) → is_eq (nat_cmp hash other_hash) ≡ b
        → seat_in (cond b (Some bucket) (get nat_cmp old other_hash)) other ≡ cond ((hash == other_hash) && bytes_eq key other) seat (seat_at old other_hash other)
    by other_hash other true is =
        seats other
        ∙ ap (λ (h : ℕ). cond (bytes_eq key other) seat (seat_at old h other)) (same_hash hash other_hash is)
        ∙ ap (λ (b : Bool). cond (b && bytes_eq key other) seat (seat_at old other_hash other)) (sym (sym (hash_test hash other_hash) ∙ is))
    by other_hash other false apart = ap (λ (b : Bool). cond (b && bytes_eq key other) seat (seat_at old other_hash other)) (sym (sym (hash_test hash other_hash) ∙ apart))

    keys : (other_hash : ℕ) (other : Bucket) (b : Bool) → is_eq (nat_cmp hash other_hash) ≡ b → cond b (Some bucket) (get nat_cmp old other_hash) ≡ Some other → IsOrdered key_cmp other
    keys other_hash other true is there = let b : bucket ≡ other = cc in subst (λ (m : Bucket). IsOrdered key_cmp m) b inner
    keys other_hash other false apart there = were.keys other_hash other there

-- A bucket that was there,
pub moved_in : (old new : Buckets) (hash : ℕ) (key : List ℕ) (seat : Option Seat) (was is : Bucket) → AreOrdered old → IsOrdered nat_cmp new
    → Updates nat_cmp old new hash (Some is) → get nat_cmp old hash ≡ Some was → Refills was key seat is → Moves old hash key seat new
moved_in old new hash key seat was is were ordered updates there refills = moved old new hash key seat is were ordered updates refills.ordered
    (λ other. refills.seats other ∙ ap (λ (b : Option Bucket). cond (bytes_eq key other) seat (seat_in b other)) (sym there))

-- and one that was not.
pub moved_beside : (old new : Buckets) (hash : ℕ) (key : List ℕ) (seat : Option Seat) (is : Bucket) → AreOrdered old → IsOrdered nat_cmp new
    → Updates nat_cmp old new hash (Some is) → get nat_cmp old hash ≡ None → Fills key seat is → Moves old hash key seat new
moved_beside old new hash key seat is were ordered updates none fills = moved old new hash key seat is were ordered updates fills.ordered
    (λ other. fills.seats other ∙ ap (λ (b : Option Bucket). cond (bytes_eq key other) seat (seat_in b other)) (sym none))

-- All stay where a seat is what it was.
pub stays : (buckets : Buckets) (hash : ℕ) (key : List ℕ) (seat : Option Seat) → AreOrdered buckets → seat_at buckets hash key ≡ seat → Moves buckets hash key seat buckets
stays buckets hash key seat ordered is = record { seats = λ other_hash other. by other_hash other (hash == other_hash) refl (bytes_eq key other) refl; ordered = ordered }
  where
    by : (other_hash : ℕ) (other : List ℕ) (a : Bool) → (hash == other_hash) ≡ a → (b : Bool) → bytes_eq key other ≡ b
        → seat_at buckets other_hash other ≡ cond (a && b) seat (seat_at buckets other_hash other)
    by other_hash other false apart b is' = refl
    by other_hash other true same false apart = refl
    by other_hash other true same true equal =
        subst (λ (k : List ℕ). seat_at buckets other_hash k ≡ seat) ((bytes_eq-Decides key other).0 equal)
        (subst (λ (h : ℕ). seat_at buckets h key ≡ seat) (same_hash hash other_hash (hash_test hash other_hash ∙ same)) is)
