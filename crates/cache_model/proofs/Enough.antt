-- What stands at the front of some bytes hangs on no more of them than the largest item has.
use Rattle.std.proofs.Common.{◌≡◌, ℕ, zero, suc, ◌+◌, ◌-◌, ◌^◌, ◌<◌, ◌≤◌, ◌==◌, ◌&&◌, not, Bool, true, false, List, [], ◌∷◌, length, take, drop, refl, sym, ap, ◌∙◌, arith, get_or, inl, inr}
use Rattle.std.proofs.lemmas.Bool.{le-ltb, cases_lt}
use Rattle.std.proofs.lemmas.Bool.Decides.{nat_tests}
use Rattle.std.proofs.lemmas.List.{get_or-take, get_or-drop, length-take-le, take-take, drop-take, take_all}
use Rattle.std.specs.Prelude.{nat_lt, nat_le, ◌||◌, if◌then◌else◌}
use Rattle.std.specs.Int.{from_be_bytes, w16, w32, w64}
use Rattle.cache_model.specs.declared.faults.BadKind.TheVariants.{KeyLength, ValueLength, Until as BadUntil, Sequence}
use Rattle.cache_model.specs.Items.{put, removal, until_of_number, Front, whole, cut, bad, front, front_put, front_removal, front_end}

-- the first bytes of the rest
drop_take : (k n : ℕ) (bytes : List ℕ) → k ≤ n → drop k (take n bytes) ≡ take (n - k) (drop k bytes)
drop_take k n bytes fits = ap (λ m. drop k (take m bytes)) (omega arith) ∙ drop-take k (n - k) bytes

-- a part that lies within the first bytes
part_take : (k m n : ℕ) (bytes : List ℕ) → k + m ≤ n → take m (drop k (take n bytes)) ≡ take m (drop k bytes)
part_take k m n bytes fits = ap (take m) (drop_take k n bytes (omega arith)) ∙ take-take m (n - k) (drop k bytes) (omega arith)

place : (k i n : ℕ) (bytes : List ℕ) → k + i < n → get_or (drop k (take n bytes)) i 0 ≡ get_or (drop k bytes) i 0
place k i n bytes fits = get_or-drop k (take n bytes) i 0 ∙ get_or-take n bytes (k + i) 0 fits ∙ sym (get_or-drop k bytes i 0)

number_8 : (k n : ℕ) (bytes : List ℕ) → k + 8 ≤ n → from_be_bytes w64 (drop k (take n bytes)) ≡ from_be_bytes w64 (drop k bytes)
number_8 k n bytes fits =
    let at = λ (i : ℕ) (h : i < 8). place k i n bytes (omega arith) in
    omega (arith, at 0 (omega arith), at 1 (omega arith), at 2 (omega arith), at 3 (omega arith), at 4 (omega arith), at 5 (omega arith), at 6 (omega arith), at 7 (omega arith))

number_4 : (k n : ℕ) (bytes : List ℕ) → k + 4 ≤ n → from_be_bytes w32 (drop k (take n bytes)) ≡ from_be_bytes w32 (drop k bytes)
number_4 k n bytes fits =
    let at = λ (i : ℕ) (h : i < 4). place k i n bytes (omega arith) in
    omega (arith, at 0 (omega arith), at 1 (omega arith), at 2 (omega arith), at 3 (omega arith))

number_2 : (k n : ℕ) (bytes : List ℕ) → k + 2 ≤ n → from_be_bytes w16 (drop k (take n bytes)) ≡ from_be_bytes w16 (drop k bytes)
number_2 k n bytes fits =
    let at = λ (i : ℕ) (h : i < 2). place k i n bytes (omega arith) in
    omega (arith, at 0 (omega arith), at 1 (omega arith))

-- what is behind some tests needs to agree only where they fail
behind_4 : (b1 b2 b3 b4 : Bool) (x1 x2 x3 x4 one other : Front) → (b3 ≡ false → b4 ≡ false → one ≡ other)
    → (if b1 then x1 else if b2 then x2 else if b3 then x3 else if b4 then x4 else one) ≡ (if b1 then x1 else if b2 then x2 else if b3 then x3 else if b4 then x4 else other)
behind_4 true b2 b3 b4 x1 x2 x3 x4 one other same = refl
behind_4 false true b3 b4 x1 x2 x3 x4 one other same = refl
behind_4 false false true b4 x1 x2 x3 x4 one other same = refl
behind_4 false false false true x1 x2 x3 x4 one other same = refl
behind_4 false false false false x1 x2 x3 x4 one other same = same refl refl

behind_2 : (b1 b2 : Bool) (x1 x2 one other : Front) → (b2 ≡ false → one ≡ other)
    → (if b1 then x1 else if b2 then x2 else one) ≡ (if b1 then x1 else if b2 then x2 else other)
behind_2 true b2 x1 x2 one other same = refl
behind_2 false true x1 x2 one other same = refl
behind_2 false false x1 x2 one other same = same refl

key-fits : (n : ℕ) → (n == 0 || nat_lt 1024 n) ≡ false → n ≤ 1024
key-fits n h = grind (arith, nat_tests)

value-fits : (n : ℕ) → nat_lt 65536 n ≡ false → n ≤ 65536
value-fits n h = grind (arith, nat_tests)

-- a whole put, or one that is cut short
put-last : List ℕ → ℕ → ℕ → ℕ → ℕ → Front
put-last bytes seq until key_length value_length =
    if nat_lt (length bytes) (23 + key_length + value_length) then cut
    else whole
    (put seq (until_of_number until) (take key_length (drop 23 bytes)) (take value_length (drop (23 + key_length) bytes)))
    (23 + key_length + value_length)

last-take : (n : ℕ) (bytes : List ℕ) (seq until key_length value_length : ℕ) → 66583 ≤ n → n ≤ length bytes → key_length ≤ 1024 → value_length ≤ 65536
    → put-last (take n bytes) seq until key_length value_length ≡ put-last bytes seq until key_length value_length
unfolding put-last
last-take n bytes seq until key_length value_length enough fits key value =
    let some = length-take-le n bytes fits in
    let one : nat_lt (length (take n bytes)) (23 + key_length + value_length) ≡ false = le-ltb _ _ (omega arith) in
    let other : nat_lt (length bytes) (23 + key_length + value_length) ≡ false = le-ltb _ _ (omega arith) in
    let k = part_take 23 key_length n bytes (omega arith) in
    let v = part_take (23 + key_length) value_length n bytes (omega arith) in
    rw (one, other, k, v)

put-tests : (bytes : List ℕ) (seq until key_length value_length : ℕ) → 23 ≤ length bytes
    → from_be_bytes w64 (drop 1 bytes) ≡ seq → from_be_bytes w64 (drop 9 bytes) ≡ until → from_be_bytes w16 (drop 17 bytes) ≡ key_length → from_be_bytes w32 (drop 19 bytes) ≡ value_length
    → front_put bytes ≡ (if nat_le (2 ^ 62) seq then bad (Sequence seq)
    else if nat_le (2 ^ 62) until && not (until == 2 ^ 64 - 1) then bad (BadUntil until)
    else if key_length == 0 || nat_lt 1024 key_length then bad (KeyLength key_length)
    else if nat_lt 65536 value_length then bad (ValueLength value_length)
    else put-last bytes seq until key_length value_length)
unfolding front_put put-last
put-tests bytes seq until key_length value_length long s u k v =
    let test : nat_lt (length bytes) 23 ≡ false = le-ltb _ _ long in
    rw (test, s, u, k, v)

put-take : (n : ℕ) (bytes : List ℕ) → 66583 ≤ n → n ≤ length bytes → front_put (take n bytes) ≡ front_put bytes
put-take n bytes enough fits =
    let some = length-take-le n bytes fits in
    let seq : ℕ = from_be_bytes w64 (drop 1 bytes) in
    let until : ℕ = from_be_bytes w64 (drop 9 bytes) in
    let key_length : ℕ = from_be_bytes w16 (drop 17 bytes) in
    let value_length : ℕ = from_be_bytes w32 (drop 19 bytes) in
    put-tests (take n bytes) seq until key_length value_length (omega arith) (number_8 1 n bytes (omega arith)) (number_8 9 n bytes (omega arith)) (number_2 17 n bytes (omega arith)) (number_4 19 n bytes (omega arith))
    ∙ behind_4 (nat_le (2 ^ 62) seq) (nat_le (2 ^ 62) until && not (until == 2 ^ 64 - 1)) (key_length == 0 || nat_lt 1024 key_length) (nat_lt 65536 value_length)
    (bad (Sequence seq)) (bad (BadUntil until)) (bad (KeyLength key_length)) (bad (ValueLength value_length))
    (put-last (take n bytes) seq until key_length value_length) (put-last bytes seq until key_length value_length)
    (λ key value. last-take n bytes seq until key_length value_length enough fits (key-fits key_length key) (value-fits value_length value))
    ∙ sym (put-tests bytes seq until key_length value_length (omega arith) refl refl refl refl)

-- a whole removal, or one that is cut short
removal-last : List ℕ → ℕ → ℕ → Front
removal-last bytes seq key_length =
    if nat_lt (length bytes) (11 + key_length) then cut
    else whole (removal seq (take key_length (drop 11 bytes))) (11 + key_length)

removal-last-take : (n : ℕ) (bytes : List ℕ) (seq key_length : ℕ) → 66583 ≤ n → n ≤ length bytes → key_length ≤ 1024
    → removal-last (take n bytes) seq key_length ≡ removal-last bytes seq key_length
unfolding removal-last
removal-last-take n bytes seq key_length enough fits key =
    let some = length-take-le n bytes fits in
    let one : nat_lt (length (take n bytes)) (11 + key_length) ≡ false = le-ltb _ _ (omega arith) in
    let other : nat_lt (length bytes) (11 + key_length) ≡ false = le-ltb _ _ (omega arith) in
    let k = part_take 11 key_length n bytes (omega arith) in
    rw (one, other, k)

removal-tests : (bytes : List ℕ) (seq key_length : ℕ) → 11 ≤ length bytes
    → from_be_bytes w64 (drop 1 bytes) ≡ seq → from_be_bytes w16 (drop 9 bytes) ≡ key_length
    → front_removal bytes ≡ (if nat_le (2 ^ 62) seq then bad (Sequence seq)
    else if key_length == 0 || nat_lt 1024 key_length then bad (KeyLength key_length)
    else removal-last bytes seq key_length)
unfolding front_removal removal-last
removal-tests bytes seq key_length long s k =
    let test : nat_lt (length bytes) 11 ≡ false = le-ltb _ _ long in
    rw (test, s, k)

removal-take : (n : ℕ) (bytes : List ℕ) → 66583 ≤ n → n ≤ length bytes → front_removal (take n bytes) ≡ front_removal bytes
removal-take n bytes enough fits =
    let some = length-take-le n bytes fits in
    let seq : ℕ = from_be_bytes w64 (drop 1 bytes) in
    let key_length : ℕ = from_be_bytes w16 (drop 9 bytes) in
    removal-tests (take n bytes) seq key_length (omega arith) (number_8 1 n bytes (omega arith)) (number_2 9 n bytes (omega arith))
    ∙ behind_2 (nat_le (2 ^ 62) seq) (key_length == 0 || nat_lt 1024 key_length) (bad (Sequence seq)) (bad (KeyLength key_length))
    (removal-last (take n bytes) seq key_length) (removal-last bytes seq key_length)
    (λ key. removal-last-take n bytes seq key_length enough fits (key-fits key_length key))
    ∙ sym (removal-tests bytes seq key_length (omega arith) refl refl)

end-take : (n : ℕ) (bytes : List ℕ) → 66583 ≤ n → n ≤ length bytes → front_end (take n bytes) ≡ front_end bytes
unfolding front_end
end-take n bytes enough fits =
    let some = length-take-le n bytes fits in
    let one : nat_lt (length (take n bytes)) 9 ≡ false = le-ltb _ _ (omega arith) in
    let other : nat_lt (length bytes) 9 ≡ false = le-ltb _ _ (omega arith) in
    let m = number_8 1 n bytes (omega arith) in
    rw (one, other, m)

front-tag : (tag : ℕ) (one other : List ℕ) → front_end (tag ∷ one) ≡ front_end (tag ∷ other) → front_put (tag ∷ one) ≡ front_put (tag ∷ other)
    → front_removal (tag ∷ one) ≡ front_removal (tag ∷ other) → front (tag ∷ one) ≡ front (tag ∷ other)
unfolding front
front-tag tag one other e p r = rw (e, p, r)

-- The first bytes tell what stands at their front, where they are as many as the largest item has.
pub front-take : (n : ℕ) (bytes : List ℕ) → 66583 ≤ n → front (take n bytes) ≡ front bytes
front-take zero bytes enough = absurd (omega arith)
front-take (suc n) [] enough = refl
front-take (suc n) (tag ∷ rest) enough =
    elim (cases_lt (length (tag ∷ rest)) (suc n)) [
      | inr fits ↦ front-tag tag (take n rest) rest (end-take (suc n) (tag ∷ rest) enough fits) (put-take (suc n) (tag ∷ rest) enough fits) (removal-take (suc n) (tag ∷ rest) enough fits)
      | inl short ↦ ap front (take_all (suc n) (tag ∷ rest) (omega arith))
    ]
