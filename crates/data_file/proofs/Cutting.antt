-- A whole item is found in its own bytes alone, as in those with more behind them.
use Rattle.std.proofs.Common.{◌≡◌, ℕ, ◌+◌, ◌-◌, ◌^◌, ◌<◌, ◌≤◌, ◌==◌, ◌&&◌, not, true, false, List, [], ◌∷◌, length, take, drop, get_or, sym, ap, ◌∙◌, arith}
use Rattle.std.specs.Prelude.{nat_le, nat_lt, ◌||◌}
use Rattle.std.specs.Int.{from_be_bytes, w16, w32, w64}
use Rattle.std.proofs.lemmas.Bool.{le-ltb}
use Rattle.std.proofs.lemmas.Bool.Decides.{nat_tests}
use Rattle.std.proofs.lemmas.List.{drop-take, get_or-drop, get_or-take, length-take-le, take-take}
use Rattle.cache_model.specs.Items.{Item, put, removal, end, until_of_number, whole, front, front_end, front_put, front_removal}
use Rattle.cache_model.proofs.Spelled.{below-test}
use Rattle.cache_model.proofs.Standing.{EndStands, PutStands, RemovalStands, Standing, as_end, as_put, as_removal}

-- a part that lies within the first bytes
part : (k m n : ℕ) (bytes : List ℕ) → k + m ≤ n → take m (drop k (take n bytes)) ≡ take m (drop k bytes)
part k m n bytes fits = ap (λ j. take m (drop k (take j bytes))) (omega arith) ∙ ap (take m) (drop-take k (n - k) bytes) ∙ take-take m (n - k) (drop k bytes) (omega arith)

place : (k i n : ℕ) (bytes : List ℕ) → k + i < n → get_or (drop k (take n bytes)) i 0 ≡ get_or (drop k bytes) i 0
place k i n bytes fits = get_or-drop k (take n bytes) i 0 ∙ get_or-take n bytes (k + i) 0 fits ∙ sym (get_or-drop k bytes i 0)

-- numbers that lie within the first bytes
number_8 : (k n : ℕ) (bytes : List ℕ) → k + 8 ≤ n → from_be_bytes w64 (drop k (take n bytes)) ≡ from_be_bytes w64 (drop k bytes)
number_8 k n bytes fits =
    let at = λ (i : ℕ) (h : i < 8). place k i n bytes (omega arith) in
    omega (arith, at 0 (omega arith), at 1 (omega arith), at 2 (omega arith), at 3 (omega arith), at 4 (omega arith), at 5 (omega arith), at 6 (omega arith), at 7 (omega arith))

number_4 : (k n : ℕ) (bytes : List ℕ) → k + 4 ≤ n → from_be_bytes w32 (drop k (take n bytes)) ≡ from_be_bytes w32 (drop k bytes)
number_4 k n bytes fits =
    let at = λ (i : ℕ) (h : i < 4). place k i n bytes (omega arith) in
    omega (arith, at 0 (omega arith), at 1 (omega arith), at 2 (omega arith), at 3 (omega arith))

number_2 : (k n : ℕ) (bytes : List ℕ) → k + 2 ≤ n → from_be_bytes w16 (drop k (take n bytes)) ≡ from_be_bytes w16 (drop k bytes)
number_2 k n bytes fits =
    let at = λ (i : ℕ) (h : i < 2). place k i n bytes (omega arith) in
    omega (arith, at 0 (omega arith), at 1 (omega arith))

key_test : (n : ℕ) → 1 ≤ n → n ≤ 1024 → (n == 0 || nat_lt 1024 n) ≡ false
key_test n some most = grind (arith, nat_tests)

-- with these numbers in their places a put is whole
put-whole : (bytes : List ℕ) (seq until key_length value_length : ℕ)
    → from_be_bytes w64 (drop 1 bytes) ≡ seq → from_be_bytes w64 (drop 9 bytes) ≡ until
    → from_be_bytes w16 (drop 17 bytes) ≡ key_length → from_be_bytes w32 (drop 19 bytes) ≡ value_length
    → 23 + key_length + value_length ≤ length bytes
    → nat_le (2 ^ 62) seq ≡ false
    → (nat_le (2 ^ 62) until && not (until == 2 ^ 64 - 1)) ≡ false
    → (key_length == 0 || nat_lt 1024 key_length) ≡ false
    → nat_lt 65536 value_length ≡ false
    → front_put bytes ≡ whole
    (put seq (until_of_number until) (take key_length (drop 23 bytes)) (take value_length (drop (23 + key_length) bytes)))
    (23 + key_length + value_length)
unfolding front_put
put-whole bytes seq until key_length value_length s u k v l ts tu tk tv =
    let long : nat_lt (length bytes) 23 ≡ false = le-ltb _ _ (omega arith) in
    let enough : nat_lt (length bytes) (23 + key_length + value_length) ≡ false = le-ltb _ _ l in
    rw (s, u, k, v, long, ts, tu, tk, tv, enough)

removal-whole : (bytes : List ℕ) (seq key_length : ℕ)
    → from_be_bytes w64 (drop 1 bytes) ≡ seq → from_be_bytes w16 (drop 9 bytes) ≡ key_length
    → 11 + key_length ≤ length bytes
    → nat_le (2 ^ 62) seq ≡ false
    → (key_length == 0 || nat_lt 1024 key_length) ≡ false
    → front_removal bytes ≡ whole (removal seq (take key_length (drop 11 bytes))) (11 + key_length)
unfolding front_removal
removal-whole bytes seq key_length s k l ts tk =
    let long : nat_lt (length bytes) 11 ≡ false = le-ltb _ _ (omega arith) in
    let enough : nat_lt (length bytes) (11 + key_length) ≡ false = le-ltb _ _ l in
    rw (s, k, long, ts, tk, enough)

end-whole : (bytes : List ℕ) (moment : ℕ) → from_be_bytes w64 (drop 1 bytes) ≡ moment → 9 ≤ length bytes → nat_le (2 ^ 61) moment ≡ false → front_end bytes ≡ whole (end moment) 9
unfolding front_end
end-whole bytes moment m l tm =
    let long : nat_lt (length bytes) 9 ≡ false = le-ltb _ _ l in
    rw (m, long, tm)

put-cut : (bytes : List ℕ) (item : Item) (size : ℕ) → PutStands bytes item size → front_put (take size bytes) ≡ whole item size
put-cut bytes item size s =
    let seq : ℕ = from_be_bytes w64 (drop 1 bytes) in
    let until : ℕ = from_be_bytes w64 (drop 9 bytes) in
    let key_length : ℕ = from_be_bytes w16 (drop 17 bytes) in
    let value_length : ℕ = from_be_bytes w32 (drop 19 bytes) in
    let long = length-take-le size bytes s.within in
    put-whole (take size bytes) seq until key_length value_length
    (number_8 1 size bytes (omega arith)) (number_8 9 size bytes (omega arith)) (number_2 17 size bytes (omega arith)) (number_4 19 size bytes (omega arith))
    (omega arith) (below-test _ _ s.seq) s.until (key_test _ s.key_some s.key_most) (le-ltb _ _ s.value_most)
    ∙ ap (λ k. whole (put seq (until_of_number until) k (take value_length (drop (23 + key_length) (take size bytes)))) (23 + key_length + value_length)) (part 23 key_length size bytes (omega arith))
    ∙ ap (λ v. whole (put seq (until_of_number until) (take key_length (drop 23 bytes)) v) (23 + key_length + value_length)) (part (23 + key_length) value_length size bytes (omega arith))
    ∙ ap (λ i. whole i (23 + key_length + value_length)) (sym s.is)
    ∙ ap (whole item) (sym s.size_is)

removal-cut : (bytes : List ℕ) (item : Item) (size : ℕ) → RemovalStands bytes item size → front_removal (take size bytes) ≡ whole item size
removal-cut bytes item size s =
    let seq : ℕ = from_be_bytes w64 (drop 1 bytes) in
    let key_length : ℕ = from_be_bytes w16 (drop 9 bytes) in
    let long = length-take-le size bytes s.within in
    removal-whole (take size bytes) seq key_length (number_8 1 size bytes (omega arith)) (number_2 9 size bytes (omega arith)) (omega arith) (below-test _ _ s.seq) (key_test _ s.key_some s.key_most)
    ∙ ap (λ k. whole (removal seq k) (11 + key_length)) (part 11 key_length size bytes (omega arith))
    ∙ ap (λ i. whole i (11 + key_length)) (sym s.is)
    ∙ ap (whole item) (sym s.size_is)

end-cut : (bytes : List ℕ) (item : Item) (size : ℕ) → EndStands bytes item size → front_end (take size bytes) ≡ whole item size
end-cut bytes item size s =
    let long = length-take-le size bytes s.within in
    end-whole (take size bytes) (from_be_bytes w64 (drop 1 bytes)) (number_8 1 size bytes (omega arith)) (omega arith) (below-test _ _ s.moment)
    ∙ ap (λ i. whole i 9) (sym s.is)
    ∙ ap (whole item) (sym s.size_is)

-- what stands at the front, by the tag
tagged-end : (bytes : List ℕ) → 1 ≤ length bytes → get_or bytes 0 0 ≡ 0 → front bytes ≡ front_end bytes
unfolding front
tagged-end [] some tag = absurd (omega arith)
tagged-end (first ∷ rest) some tag = let t : (first == 0) ≡ true = grind (arith, nat_tests) in rw t

tagged-put : (bytes : List ℕ) → 1 ≤ length bytes → get_or bytes 0 0 ≡ 1 → front bytes ≡ front_put bytes
unfolding front
tagged-put [] some tag = absurd (omega arith)
tagged-put (first ∷ rest) some tag =
    let no : (first == 0) ≡ false = grind (arith, nat_tests) in
    let t : (first == 1) ≡ true = grind (arith, nat_tests) in
    rw (no, t)

tagged-removal : (bytes : List ℕ) → 1 ≤ length bytes → get_or bytes 0 0 ≡ 2 → front bytes ≡ front_removal bytes
unfolding front
tagged-removal [] some tag = absurd (omega arith)
tagged-removal (first ∷ rest) some tag =
    let no : (first == 0) ≡ false = grind (arith, nat_tests) in
    let nor : (first == 1) ≡ false = grind (arith, nat_tests) in
    let t : (first == 2) ≡ true = grind (arith, nat_tests) in
    rw (no, nor, t)

-- A whole item is found in just its own bytes.
pub standing-cut : (bytes : List ℕ) (item : Item) (size : ℕ) → Standing bytes item size → front (take size bytes) ≡ whole item size
standing-cut bytes item size (as_end tag s) = tagged-end (take size bytes) (omega (arith, length-take-le size bytes s.within)) (get_or-take size bytes 0 0 (omega arith) ∙ tag) ∙ end-cut bytes item size s
standing-cut bytes item size (as_put tag s) = tagged-put (take size bytes) (omega (arith, length-take-le size bytes s.within)) (get_or-take size bytes 0 0 (omega arith) ∙ tag) ∙ put-cut bytes item size s
standing-cut bytes item size (as_removal tag s) = tagged-removal (take size bytes) (omega (arith, length-take-le size bytes s.within)) (get_or-take size bytes 0 0 (omega arith) ∙ tag) ∙ removal-cut bytes item size s
