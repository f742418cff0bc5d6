-- What stands as a whole item at the front of some bytes is within its limits, and is spelled by them.
use Rattle.std.proofs.Common.{◌≡◌, ℕ, ◌+◌, ◌-◌, ◌^◌, ◌<◌, ◌≤◌, ◌==◌, ◌&&◌, not, Bool, true, false, List, [], ◌∷◌, length, take, drop, refl, sym, arith, subst, get_or, inl, inr, ◌⊎◌}
use Rattle.std.proofs.lemmas.Bool.Decides.{nat_tests}
use Rattle.std.specs.Prelude.{nat_lt, nat_le, ◌||◌, if◌then◌else◌}
use Rattle.std.specs.Int.{from_be_bytes, w16, w32, w64}
use Rattle.cache_model.specs.declared.faults.BadKind.{BadKind}
use Rattle.cache_model.specs.declared.faults.BadKind.TheVariants.{Tag, KeyLength, ValueLength, Until as BadUntil, Moment, Sequence}
use Rattle.cache_model.specs.Items.{Item, put, removal, end, until_of_number, Front, whole, cut, bad, front, front_put, front_removal, front_end}

-- a chain of tests that ends in a whole item took none of its other ways
put-passes : (b0 b1 b2 b3 b4 b5 : Bool) (k1 k2 k3 k4 : BadKind) (found item : Item) (n size : ℕ)
    → (if b0 then cut else if b1 then bad k1 else if b2 then bad k2 else if b3 then bad k3 else if b4 then bad k4 else if b5 then cut else whole found n) ≡ whole item size
    → (b0 ≡ false) × (b1 ≡ false) × (b2 ≡ false) × (b3 ≡ false) × (b4 ≡ false) × (b5 ≡ false) × (item ≡ found) × (size ≡ n)
put-passes true b1 b2 b3 b4 b5 k1 k2 k3 k4 found item n size e = cc
put-passes false true b2 b3 b4 b5 k1 k2 k3 k4 found item n size e = cc
put-passes false false true b3 b4 b5 k1 k2 k3 k4 found item n size e = cc
put-passes false false false true b4 b5 k1 k2 k3 k4 found item n size e = cc
put-passes false false false false true b5 k1 k2 k3 k4 found item n size e = cc
put-passes false false false false false true k1 k2 k3 k4 found item n size e = cc
put-passes false false false false false false k1 k2 k3 k4 found item n size e = (refl, refl, refl, refl, refl, refl, cc, cc)

removal-passes : (b0 b1 b2 b3 : Bool) (k1 k2 : BadKind) (found item : Item) (n size : ℕ)
    → (if b0 then cut else if b1 then bad k1 else if b2 then bad k2 else if b3 then cut else whole found n) ≡ whole item size
    → (b0 ≡ false) × (b1 ≡ false) × (b2 ≡ false) × (b3 ≡ false) × (item ≡ found) × (size ≡ n)
removal-passes true b1 b2 b3 k1 k2 found item n size e = cc
removal-passes false true b2 b3 k1 k2 found item n size e = cc
removal-passes false false true b3 k1 k2 found item n size e = cc
removal-passes false false false true k1 k2 found item n size e = cc
removal-passes false false false false k1 k2 found item n size e = (refl, refl, refl, refl, cc, cc)

end-passes : (b0 b1 : Bool) (k1 : BadKind) (found item : Item) (n size : ℕ)
    → (if b0 then cut else if b1 then bad k1 else whole found n) ≡ whole item size
    → (b0 ≡ false) × (b1 ≡ false) × (item ≡ found) × (size ≡ n)
end-passes true b1 k1 found item n size e = cc
end-passes false true k1 found item n size e = cc
end-passes false false k1 found item n size e = (refl, refl, cc, cc)

-- A whole put at the front of some bytes.
pub record PutStands (bytes : List ℕ) (item : Item) (size : ℕ) : Type 0 where
  pub seq : from_be_bytes w64 (drop 1 bytes) < 2 ^ 62
  pub until : (nat_le (2 ^ 62) (from_be_bytes w64 (drop 9 bytes)) && not (from_be_bytes w64 (drop 9 bytes) == 2 ^ 64 - 1)) ≡ false
  pub key_some : 1 ≤ from_be_bytes w16 (drop 17 bytes)
  pub key_most : from_be_bytes w16 (drop 17 bytes) ≤ 1024
  pub value_most : from_be_bytes w32 (drop 19 bytes) ≤ 65536
  pub is : item ≡ put (from_be_bytes w64 (drop 1 bytes)) (until_of_number (from_be_bytes w64 (drop 9 bytes))) (take (from_be_bytes w16 (drop 17 bytes)) (drop 23 bytes)) (take (from_be_bytes w32 (drop 19 bytes)) (drop (23 + from_be_bytes w16 (drop 17 bytes)) bytes))
  pub size_is : size ≡ 23 + from_be_bytes w16 (drop 17 bytes) + from_be_bytes w32 (drop 19 bytes)
  pub within : size ≤ length bytes

-- A whole removal at the front of some bytes.
pub record RemovalStands (bytes : List ℕ) (item : Item) (size : ℕ) : Type 0 where
  pub seq : from_be_bytes w64 (drop 1 bytes) < 2 ^ 62
  pub key_some : 1 ≤ from_be_bytes w16 (drop 9 bytes)
  pub key_most : from_be_bytes w16 (drop 9 bytes) ≤ 1024
  pub is : item ≡ removal (from_be_bytes w64 (drop 1 bytes)) (take (from_be_bytes w16 (drop 9 bytes)) (drop 11 bytes))
  pub size_is : size ≡ 11 + from_be_bytes w16 (drop 9 bytes)
  pub within : size ≤ length bytes

-- A whole end at the front of some bytes.
pub record EndStands (bytes : List ℕ) (item : Item) (size : ℕ) : Type 0 where
  pub moment : from_be_bytes w64 (drop 1 bytes) < 2 ^ 61
  pub is : item ≡ end (from_be_bytes w64 (drop 1 bytes))
  pub size_is : size ≡ 9
  pub within : size ≤ length bytes

not-le : (a b : ℕ) → nat_le a b ≡ false → b < a
not-le a b h = grind (arith, nat_tests)

not-less : (a b : ℕ) → nat_lt a b ≡ false → b ≤ a
not-less a b h = grind (arith, nat_tests)

key-test : (n : ℕ) → (n == 0 || nat_lt 1024 n) ≡ false → (1 ≤ n) × (n ≤ 1024)
key-test n h = (grind (arith, nat_tests), grind (arith, nat_tests))

pub put-stands : (bytes : List ℕ) (item : Item) (size : ℕ) → front_put bytes ≡ whole item size → PutStands bytes item size
unfolding front_put
put-stands bytes item size e =
    let seq = from_be_bytes w64 (drop 1 bytes) in
    let until = from_be_bytes w64 (drop 9 bytes) in
    let key_length = from_be_bytes w16 (drop 17 bytes) in
    let value_length = from_be_bytes w32 (drop 19 bytes) in
    let p = put-passes (nat_lt (length bytes) 23) (nat_le (2 ^ 62) seq) (nat_le (2 ^ 62) until && not (until == 2 ^ 64 - 1)) (key_length == 0 || nat_lt 1024 key_length) (nat_lt 65536 value_length) (nat_lt (length bytes) (23 + key_length + value_length))
    (Sequence seq) (BadUntil until) (KeyLength key_length) (ValueLength value_length)
    (put seq (until_of_number until) (take key_length (drop 23 bytes)) (take value_length (drop (23 + key_length) bytes))) item (23 + key_length + value_length) size e in
    let key_fits = key-test key_length p.3 in
    record {
      seq = not-le _ _ p.1;
      until = p.2;
      key_some = key_fits.0;
      key_most = key_fits.1;
      value_most = not-less _ _ p.4;
      is = p.6;
      size_is = p.7;
      within = subst (λ n. n ≤ length bytes) (sym p.7) (not-less _ _ p.5);
    }

pub removal-stands : (bytes : List ℕ) (item : Item) (size : ℕ) → front_removal bytes ≡ whole item size → RemovalStands bytes item size
unfolding front_removal
removal-stands bytes item size e =
    let seq = from_be_bytes w64 (drop 1 bytes) in
    let key_length = from_be_bytes w16 (drop 9 bytes) in
    let p = removal-passes (nat_lt (length bytes) 11) (nat_le (2 ^ 62) seq) (key_length == 0 || nat_lt 1024 key_length) (nat_lt (length bytes) (11 + key_length))
    (Sequence seq) (KeyLength key_length) (removal seq (take key_length (drop 11 bytes))) item (11 + key_length) size e in
    let key_fits = key-test key_length p.2 in
    record {
      seq = not-le _ _ p.1;
      key_some = key_fits.0;
      key_most = key_fits.1;
      is = p.4;
      size_is = p.5;
      within = subst (λ n. n ≤ length bytes) (sym p.5) (not-less _ _ p.3);
    }

pub end-stands : (bytes : List ℕ) (item : Item) (size : ℕ) → front_end bytes ≡ whole item size → EndStands bytes item size
unfolding front_end
end-stands bytes item size e =
    let moment = from_be_bytes w64 (drop 1 bytes) in
    let p = end-passes (nat_lt (length bytes) 9) (nat_le (2 ^ 61) moment) (Moment moment) (end moment) item 9 size e in
    record {
      moment = not-le _ _ p.1;
      is = p.2;
      size_is = p.3;
      within = subst (λ n. n ≤ length bytes) (sym p.3) (not-less _ _ p.0);
    }

-- a whole item at the front of some bytes is a whole end, put or removal
pub data Standing (bytes : List ℕ) (item : Item) (size : ℕ) : Type 0 where
  as_end : get_or bytes 0 0 ≡ 0 → EndStands bytes item size → Standing bytes item size
  as_put : get_or bytes 0 0 ≡ 1 → PutStands bytes item size → Standing bytes item size
  as_removal : get_or bytes 0 0 ≡ 2 → RemovalStands bytes item size → Standing bytes item size

tag-passes : (b0 b1 b2 : Bool) (x y z : Front) (kind : BadKind) (item : Item) (size : ℕ)
    → (if b0 then x else if b1 then y else if b2 then z else bad kind) ≡ whole item size
    → ((b0 ≡ true) × (x ≡ whole item size)) ⊎ (((b1 ≡ true) × (y ≡ whole item size)) ⊎ ((b2 ≡ true) × (z ≡ whole item size)))
tag-passes true b1 b2 x y z kind item size e = inl (refl, e)
tag-passes false true b2 x y z kind item size e = inr (inl (refl, e))
tag-passes false false true x y z kind item size e = inr (inr (refl, e))
tag-passes false false false x y z kind item size e = cc

same : (a b : ℕ) → (a == b) ≡ true → a ≡ b
same a b h = grind (arith, nat_tests)

pub front-stands : (bytes : List ℕ) (item : Item) (size : ℕ) → front bytes ≡ whole item size → Standing bytes item size
unfolding front
front-stands [] item size e = cc
front-stands (tag ∷ rest) item size e =
    elim (tag-passes (tag == 0) (tag == 1) (tag == 2) (front_end (tag ∷ rest)) (front_put (tag ∷ rest)) (front_removal (tag ∷ rest)) (Tag tag) item size e) [
      | inl h ↦ as_end (same _ _ h.0) (end-stands _ _ _ h.1)
      | inr h ↦ elim h [
        | inl q ↦ as_put (same _ _ q.0) (put-stands _ _ _ q.1)
        | inr q ↦ as_removal (same _ _ q.0) (removal-stands _ _ _ q.1)
      ]
    ]

-- a whole item has a byte, and no more than there are
pub standing-some : (bytes : List ℕ) (item : Item) (size : ℕ) → Standing bytes item size → 1 ≤ size
standing-some bytes item size (as_end tag s) = omega arith
standing-some bytes item size (as_put tag s) = omega arith
standing-some bytes item size (as_removal tag s) = omega arith

pub standing-within : (bytes : List ℕ) (item : Item) (size : ℕ) → Standing bytes item size → size ≤ length bytes
standing-within bytes item size (as_end tag s) = omega arith
standing-within bytes item size (as_put tag s) = omega arith
standing-within bytes item size (as_removal tag s) = omega arith
