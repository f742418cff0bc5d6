-- What stands at an offset, exit by exit of the tests of its numbers.
use Rattle.std.proofs.Common.{◌≡◌, ℕ, ◌+◌, ◌-◌, ◌^◌, ◌<◌, ◌≤◌, ◌==◌, ◌&&◌, not, Bool, true, false, List, length, take, drop, refl, sym, ap, subst, ◌∙◌, arith, get_or, ◌≢◌, ◌∷◌, IsTrue, ◌↔◌}
use Rattle.std.proofs.lemmas.Bool.{le-ltb, lt-ltb, le-leb}
use Rattle.std.proofs.lemmas.Bool.Decides.{nat_tests}
use Rattle.std.proofs.lemmas.List.{drop-drop, drop_all, drop_more, length-drop}
use Rattle.std.specs.Prelude.{nat_lt, nat_le, ◌||◌, ◌⊎◌, if◌then◌else◌}
use Rattle.std.specs.Int.{from_be_bytes, w16, w32, w64}
use Rattle.cache_model.specs.declared.faults.BadKind.TheVariants.{Tag, KeyLength, ValueLength, Until as BadUntil, Moment, Sequence}
use Rattle.cache_model.specs.Limits.{IsKeyLength, IsValueLength}
use Rattle.cache_model.specs.Items.{put, removal, end, until_of_number, Front, whole, cut, bad, front, front_put, front_removal, front_end}
use Rattle.cache_model.proofs.Spelled.{below-test}
use Rattle.cache_model.proofs.Spelling.{whole-item}
use Rattle.record_format.specs.declared.items.Step.{Step}
use Rattle.record_format.specs.declared.items.Step.TheVariants.{Whole, Cut, Bad}
use Rattle.record_format.specs.Meaning.{item_in, found_at, IsFoundItem}

until-bad : (n : ℕ) (b : Bool) → (IsTrue b ↔ (n < 2 ^ 62 ⊎ n ≡ 2 ^ 64 - 1)) → b ≡ false → (nat_le (2 ^ 62) n && not (n == 2 ^ 64 - 1)) ≡ true
until-bad n b is fails = grind (arith, nat_tests)

until-good : (n : ℕ) (b : Bool) → (IsTrue b ↔ (n < 2 ^ 62 ⊎ n ≡ 2 ^ 64 - 1)) → b ≡ true → (nat_le (2 ^ 62) n && not (n == 2 ^ 64 - 1)) ≡ false
until-good n b is passes = grind (arith, nat_tests)

key-bad : (n : ℕ) (b : Bool) → (IsTrue b ↔ IsKeyLength n) → b ≡ false → (n == 0 || nat_lt 1024 n) ≡ true
key-bad n b is fails = grind (arith, nat_tests)

key-good : (n : ℕ) (b : Bool) → (IsTrue b ↔ IsKeyLength n) → b ≡ true → (n == 0 || nat_lt 1024 n) ≡ false
key-good n b is passes = grind (arith, nat_tests)

value-bad : (n : ℕ) (b : Bool) → (IsTrue b ↔ IsValueLength n) → b ≡ false → nat_lt 65536 n ≡ true
value-bad n b is fails = grind (arith, nat_tests)

value-good : (n : ℕ) (b : Bool) → (IsTrue b ↔ IsValueLength n) → b ≡ true → nat_lt 65536 n ≡ false
value-good n b is passes = grind (arith, nat_tests)

-- The numbers of a put at an offset, as they were read.
pub record PutNumbers (bytes : List ℕ) (at seq until key_length value_length : ℕ) : Type 0 where
  pub long : 23 ≤ length bytes - at
  pub seq_is : seq ≡ from_be_bytes w64 (drop (at + 1) bytes)
  pub until_is : until ≡ from_be_bytes w64 (drop (at + 9) bytes)
  pub key_is : key_length ≡ from_be_bytes w16 (drop (at + 17) bytes)
  pub value_is : value_length ≡ from_be_bytes w32 (drop (at + 19) bytes)

-- the tests of a put with these numbers
abbrev pub put_tests : List ℕ → ℕ → ℕ → ℕ → ℕ → ℕ → Front
put_tests bytes at seq until key_length value_length =
    if nat_le (2 ^ 62) seq then bad (Sequence seq)
    else if nat_le (2 ^ 62) until && not (until == 2 ^ 64 - 1) then bad (BadUntil until)
    else if key_length == 0 || nat_lt 1024 key_length then bad (KeyLength key_length)
    else if nat_lt 65536 value_length then bad (ValueLength value_length)
    else if nat_lt (length bytes - at) (23 + key_length + value_length) then cut
    else whole
    (put seq (until_of_number until) (take key_length (drop (at + 23) bytes)) (take value_length (drop (at + 23 + key_length) bytes)))
    (23 + key_length + value_length)

front_put-numbers : (bytes : List ℕ) (at seq until key_length value_length : ℕ) → PutNumbers bytes at seq until key_length value_length
    → front_put (drop at bytes) ≡ put_tests bytes at seq until key_length value_length
unfolding front_put
front_put-numbers bytes at seq until key_length value_length are =
    let long : nat_lt (length (drop at bytes)) 23 ≡ false = le-ltb _ _ (omega (arith, length-drop at bytes, are.long)) in
    let s : from_be_bytes w64 (drop 1 (drop at bytes)) ≡ seq = ap (from_be_bytes w64) (drop-drop 1 at bytes) ∙ sym are.seq_is in
    let u : from_be_bytes w64 (drop 9 (drop at bytes)) ≡ until = ap (from_be_bytes w64) (drop-drop 9 at bytes) ∙ sym are.until_is in
    let k : from_be_bytes w16 (drop 17 (drop at bytes)) ≡ key_length = ap (from_be_bytes w16) (drop-drop 17 at bytes) ∙ sym are.key_is in
    let v : from_be_bytes w32 (drop 19 (drop at bytes)) ≡ value_length = ap (from_be_bytes w32) (drop-drop 19 at bytes) ∙ sym are.value_is in
    let key = drop-drop 23 at bytes in
    let value : drop (23 + key_length) (drop at bytes) ≡ drop (at + 23 + key_length) bytes = drop-drop (23 + key_length) at bytes ∙ ap (λ n. drop n bytes) (omega arith) in
    let size = length-drop at bytes in
    rw (long, s, u, k, v, key, value, size)

pub put-short : (bytes : List ℕ) (at : ℕ) → length bytes - at < 23 → cut ≡ front_put (drop at bytes)
unfolding front_put
put-short bytes at short = let test : nat_lt (length (drop at bytes)) 23 ≡ true = lt-ltb _ _ (omega (arith, length-drop at bytes)) in rw test

pub put-sequence : (bytes : List ℕ) (at seq until key_length value_length : ℕ) → PutNumbers bytes at seq until key_length value_length
    → 2 ^ 62 ≤ seq → bad (Sequence seq) ≡ front_put (drop at bytes)
put-sequence bytes at seq until key_length value_length are high =
    let test = le-leb (2 ^ 62) seq high in
    rw (front_put-numbers bytes at seq until key_length value_length are, test)

pub put-until : (bytes : List ℕ) (at seq until key_length value_length : ℕ) → PutNumbers bytes at seq until key_length value_length
    → seq < 2 ^ 62 → (b : Bool) → (IsTrue b ↔ (until < 2 ^ 62 ⊎ until ≡ 2 ^ 64 - 1)) → b ≡ false → bad (BadUntil until) ≡ front_put (drop at bytes)
put-until bytes at seq until key_length value_length are low b is fails =
    let t1 = below-test (2 ^ 62) seq low in
    let t2 = until-bad until b is fails in
    rw (front_put-numbers bytes at seq until key_length value_length are, t1, t2)

pub put-key : (bytes : List ℕ) (at seq until key_length value_length : ℕ) → PutNumbers bytes at seq until key_length value_length
    → seq < 2 ^ 62 → (b : Bool) → (IsTrue b ↔ (until < 2 ^ 62 ⊎ until ≡ 2 ^ 64 - 1)) → b ≡ true
    → (d : Bool) → (IsTrue d ↔ IsKeyLength key_length) → d ≡ false → bad (KeyLength key_length) ≡ front_put (drop at bytes)
put-key bytes at seq until key_length value_length are low b is passes d key fails =
    let t1 = below-test (2 ^ 62) seq low in
    let t2 = until-good until b is passes in
    let t3 = key-bad key_length d key fails in
    rw (front_put-numbers bytes at seq until key_length value_length are, t1, t2, t3)

-- The numbers that stand in front of a put's value length are in their ranges.
pub record PutInRange (seq until key_length : ℕ) : Type 0 where
  pub seq_low : nat_le (2 ^ 62) seq ≡ false
  pub until_good : (nat_le (2 ^ 62) until && not (until == 2 ^ 64 - 1)) ≡ false
  pub key_good : (key_length == 0 || nat_lt 1024 key_length) ≡ false

pub put-in_range : (seq until key_length : ℕ) → seq < 2 ^ 62 → (b : Bool) → (IsTrue b ↔ (until < 2 ^ 62 ⊎ until ≡ 2 ^ 64 - 1)) → b ≡ true
    → (d : Bool) → (IsTrue d ↔ IsKeyLength key_length) → d ≡ true → PutInRange seq until key_length
put-in_range seq until key_length low b is passes d key good =
    record { seq_low = below-test (2 ^ 62) seq low; until_good = until-good until b is passes; key_good = key-good key_length d key good }

pub put-value : (bytes : List ℕ) (at seq until key_length value_length : ℕ) → PutNumbers bytes at seq until key_length value_length
    → PutInRange seq until key_length → (v : Bool) → (IsTrue v ↔ IsValueLength value_length) → v ≡ false → bad (ValueLength value_length) ≡ front_put (drop at bytes)
put-value bytes at seq until key_length value_length are good v fits fails =
    let t1 = good.seq_low in
    let t2 = good.until_good in
    let t3 = good.key_good in
    let t4 = value-bad value_length v fits fails in
    rw (front_put-numbers bytes at seq until key_length value_length are, t1, t2, t3, t4)

pub put-cut : (bytes : List ℕ) (at seq until key_length value_length : ℕ) → PutNumbers bytes at seq until key_length value_length
    → PutInRange seq until key_length → (v : Bool) → (IsTrue v ↔ IsValueLength value_length) → v ≡ true → length bytes - at < 23 + key_length + value_length → cut ≡ front_put (drop at bytes)
put-cut bytes at seq until key_length value_length are good v fits passes short =
    let t1 = good.seq_low in
    let t2 = good.until_good in
    let t3 = good.key_good in
    let t4 = value-good value_length v fits passes in
    let t5 = lt-ltb (length bytes - at) (23 + key_length + value_length) short in
    rw (front_put-numbers bytes at seq until key_length value_length are, t1, t2, t3, t4, t5)

pub put-whole : (bytes : List ℕ) (at seq until key_length value_length : ℕ) → PutNumbers bytes at seq until key_length value_length
    → PutInRange seq until key_length → (v : Bool) → (IsTrue v ↔ IsValueLength value_length) → v ≡ true → 23 + key_length + value_length ≤ length bytes - at
    → whole (put seq (until_of_number until) (take key_length (drop (at + 23) bytes)) (take value_length (drop (at + 23 + key_length) bytes)))
    (at + (23 + key_length + value_length) - at)
    ≡ front_put (drop at bytes)
put-whole bytes at seq until key_length value_length are good v fits passes enough =
    let t1 = good.seq_low in
    let t2 = good.until_good in
    let t3 = good.key_good in
    let t4 = value-good value_length v fits passes in
    let t5 = le-ltb (length bytes - at) (23 + key_length + value_length) enough in
    let size : at + (23 + key_length + value_length) - at ≡ 23 + key_length + value_length = omega arith in
    rw (front_put-numbers bytes at seq until key_length value_length are, t1, t2, t3, t4, t5, size)

-- The numbers of a removal at an offset, as they were read.
pub record RemovalNumbers (bytes : List ℕ) (at seq key_length : ℕ) : Type 0 where
  pub long : 11 ≤ length bytes - at
  pub seq_is : seq ≡ from_be_bytes w64 (drop (at + 1) bytes)
  pub key_is : key_length ≡ from_be_bytes w16 (drop (at + 9) bytes)

-- the tests of a removal with these numbers
abbrev pub removal_tests : List ℕ → ℕ → ℕ → ℕ → Front
removal_tests bytes at seq key_length =
    if nat_le (2 ^ 62) seq then bad (Sequence seq)
    else if key_length == 0 || nat_lt 1024 key_length then bad (KeyLength key_length)
    else if nat_lt (length bytes - at) (11 + key_length) then cut
    else whole (removal seq (take key_length (drop (at + 11) bytes))) (11 + key_length)

front_removal-numbers : (bytes : List ℕ) (at seq key_length : ℕ) → RemovalNumbers bytes at seq key_length
    → front_removal (drop at bytes) ≡ removal_tests bytes at seq key_length
unfolding front_removal
front_removal-numbers bytes at seq key_length are =
    let long : nat_lt (length (drop at bytes)) 11 ≡ false = le-ltb _ _ (omega (arith, length-drop at bytes, are.long)) in
    let s : from_be_bytes w64 (drop 1 (drop at bytes)) ≡ seq = ap (from_be_bytes w64) (drop-drop 1 at bytes) ∙ sym are.seq_is in
    let k : from_be_bytes w16 (drop 9 (drop at bytes)) ≡ key_length = ap (from_be_bytes w16) (drop-drop 9 at bytes) ∙ sym are.key_is in
    let key = drop-drop 11 at bytes in
    let size = length-drop at bytes in
    rw (long, s, k, key, size)

pub removal-short : (bytes : List ℕ) (at : ℕ) → length bytes - at < 11 → cut ≡ front_removal (drop at bytes)
unfolding front_removal
removal-short bytes at short = let test : nat_lt (length (drop at bytes)) 11 ≡ true = lt-ltb _ _ (omega (arith, length-drop at bytes)) in rw test

pub removal-sequence : (bytes : List ℕ) (at seq key_length : ℕ) → RemovalNumbers bytes at seq key_length
    → 2 ^ 62 ≤ seq → bad (Sequence seq) ≡ front_removal (drop at bytes)
removal-sequence bytes at seq key_length are high =
    let test = le-leb (2 ^ 62) seq high in
    rw (front_removal-numbers bytes at seq key_length are, test)

pub removal-key : (bytes : List ℕ) (at seq key_length : ℕ) → RemovalNumbers bytes at seq key_length
    → seq < 2 ^ 62 → (d : Bool) → (IsTrue d ↔ IsKeyLength key_length) → d ≡ false → bad (KeyLength key_length) ≡ front_removal (drop at bytes)
removal-key bytes at seq key_length are low d key fails =
    let t1 = below-test (2 ^ 62) seq low in
    let t2 = key-bad key_length d key fails in
    rw (front_removal-numbers bytes at seq key_length are, t1, t2)

pub removal-cut : (bytes : List ℕ) (at seq key_length : ℕ) → RemovalNumbers bytes at seq key_length
    → seq < 2 ^ 62 → (d : Bool) → (IsTrue d ↔ IsKeyLength key_length) → d ≡ true → length bytes - at < 11 + key_length → cut ≡ front_removal (drop at bytes)
removal-cut bytes at seq key_length are low d key passes short =
    let t1 = below-test (2 ^ 62) seq low in
    let t2 = key-good key_length d key passes in
    let t3 = lt-ltb (length bytes - at) (11 + key_length) short in
    rw (front_removal-numbers bytes at seq key_length are, t1, t2, t3)

pub removal-whole : (bytes : List ℕ) (at seq key_length : ℕ) → RemovalNumbers bytes at seq key_length
    → seq < 2 ^ 62 → (d : Bool) → (IsTrue d ↔ IsKeyLength key_length) → d ≡ true → 11 + key_length ≤ length bytes - at
    → whole (removal seq (take key_length (drop (at + 11) bytes))) (at + (11 + key_length) - at) ≡ front_removal (drop at bytes)
removal-whole bytes at seq key_length are low d key passes enough =
    let t1 = below-test (2 ^ 62) seq low in
    let t2 = key-good key_length d key passes in
    let t3 = le-ltb (length bytes - at) (11 + key_length) enough in
    let size : at + (11 + key_length) - at ≡ 11 + key_length = omega arith in
    rw (front_removal-numbers bytes at seq key_length are, t1, t2, t3, size)

pub end-short : (bytes : List ℕ) (at : ℕ) → length bytes - at < 9 → cut ≡ front_end (drop at bytes)
unfolding front_end
end-short bytes at short = let test : nat_lt (length (drop at bytes)) 9 ≡ true = lt-ltb _ _ (omega (arith, length-drop at bytes)) in rw test

pub end-moment : (bytes : List ℕ) (at moment : ℕ) → 9 ≤ length bytes - at → moment ≡ from_be_bytes w64 (drop (at + 1) bytes)
    → 2 ^ 61 ≤ moment → bad (Moment moment) ≡ front_end (drop at bytes)
unfolding front_end
end-moment bytes at moment long is high =
    let t1 : nat_lt (length (drop at bytes)) 9 ≡ false = le-ltb _ _ (omega (arith, length-drop at bytes)) in
    let m : from_be_bytes w64 (drop 1 (drop at bytes)) ≡ moment = ap (from_be_bytes w64) (drop-drop 1 at bytes) ∙ sym is in
    let t2 = le-leb (2 ^ 61) moment high in
    rw (t1, m, t2)

pub end-whole : (bytes : List ℕ) (at moment : ℕ) → 9 ≤ length bytes - at → moment ≡ from_be_bytes w64 (drop (at + 1) bytes)
    → moment < 2 ^ 61 → whole (end moment) (at + 9 - at) ≡ front_end (drop at bytes)
unfolding front_end
end-whole bytes at moment long is low =
    let t1 : nat_lt (length (drop at bytes)) 9 ≡ false = le-ltb _ _ (omega (arith, length-drop at bytes)) in
    let m : from_be_bytes w64 (drop 1 (drop at bytes)) ≡ moment = ap (from_be_bytes w64) (drop-drop 1 at bytes) ∙ sym is in
    let t2 = below-test (2 ^ 61) moment low in
    let size : at + 9 - at ≡ 9 = omega arith in
    rw (t1, m, t2, size)

-- what stands at an offset, by the byte there
front-tag : (bytes : List ℕ) (at : ℕ) → at < length bytes → (tag : ℕ) → get_or bytes at 0 ≡ tag
    → front (drop at bytes) ≡ (if tag == 0 then front_end (drop at bytes) else if tag == 1 then front_put (drop at bytes) else if tag == 2 then front_removal (drop at bytes) else bad (Tag tag))
unfolding front
front-tag bytes at inside tag is =
    let P : List ℕ → Type 0 = λ xs. front xs ≡ (if tag == 0 then front_end xs else if tag == 1 then front_put xs else if tag == 2 then front_removal xs else bad (Tag tag)) in
    subst P (ap (λ t. t ∷ drop (at + 1) bytes) (sym is) ∙ sym (drop_more bytes at 0 inside)) refl

pub no-tag : (bytes : List ℕ) (at : ℕ) → at ≡ length bytes → cut ≡ front (drop at bytes)
unfolding front
no-tag bytes at is = let P : List ℕ → Type 0 = λ xs. cut ≡ front xs in subst P (sym (drop_all at bytes (omega arith))) refl

pub end-tag : (bytes : List ℕ) (at : ℕ) (found : Front) → at < length bytes → get_or bytes at 0 ≡ 0 → found ≡ front_end (drop at bytes) → found ≡ front (drop at bytes)
end-tag bytes at found inside tag is = is ∙ sym (front-tag bytes at inside 0 tag)

pub put-tag : (bytes : List ℕ) (at : ℕ) (found : Front) → at < length bytes → get_or bytes at 0 ≡ 1 → found ≡ front_put (drop at bytes) → found ≡ front (drop at bytes)
put-tag bytes at found inside tag is = is ∙ sym (front-tag bytes at inside 1 tag)

pub removal-tag : (bytes : List ℕ) (at : ℕ) (found : Front) → at < length bytes → get_or bytes at 0 ≡ 2 → found ≡ front_removal (drop at bytes) → found ≡ front (drop at bytes)
removal-tag bytes at found inside tag is = is ∙ sym (front-tag bytes at inside 2 tag)

other : (a b : ℕ) → a ≢ b → (a == b) ≡ false
other a b differs = grind (arith, nat_tests)

pub bad-tag : (bytes : List ℕ) (at tag : ℕ) → at < length bytes → get_or bytes at 0 ≡ tag → tag ≢ 0 → tag ≢ 1 → tag ≢ 2 → bad (Tag tag) ≡ front (drop at bytes)
bad-tag bytes at tag inside is n0 n1 n2 =
    let t0 = other tag 0 n0 in
    let t1 = other tag 1 n1 in
    let t2 = other tag 2 n2 in
    rw (front-tag bytes at inside tag is, t0, t1, t2)

-- an item that was found is within its limits
pub found-limits : (bytes : List ℕ) (at : ℕ) (step : Step) → found_at bytes at step ≡ front (drop at bytes) → IsFoundItem bytes step
found-limits bytes at (Whole item next) is = whole-item (drop at bytes) (item_in bytes item) (next - at) (sym is)
found-limits bytes at Cut is = tt
found-limits bytes at (Bad kind) is = tt
