-- What stands as a whole item at the front of some bytes is within its limits, and is spelled by them.
use Rattle.std.proofs.Common.{◌≡◌, ℕ, zero, suc, ◌+◌, ◌-◌, ◌^◌, ◌<◌, ◌≤◌, ◌==◌, ◌&&◌, not, Bool, true, false, List, [], ◌∷◌, ◌++◌, length, take, drop, refl, sym, ap, ◌∙◌, arith, append-nil, subst, get_or}
use Rattle.std.proofs.lemmas.Bool.Decides.{nat_tests}
use Rattle.std.proofs.lemmas.List.{get_or-take, get_or-drop, length-take-le, length-drop}
use Rattle.std.proofs.lemmas.Nat.{be_bytes_2, be_bytes_4, be_bytes_8}
use Rattle.std.proofs.Math.Seq.{take-add}
use Rattle.std.specs.Prelude.{nat_le, if◌then◌else◌}
use Rattle.std.specs.Int.{from_be_bytes, to_be_bytes, w16, w32, w64}
use Rattle.cache_model.specs.declared.entries.Until.TheVariants.{Never, At}
use Rattle.cache_model.specs.Items.{Item, put, removal, end, IsItem, IsUntil, until_number, until_of_number, spelling, whole, front}
use Rattle.cache_model.proofs.Standing.{Standing, as_end, as_put, as_removal, EndStands, PutStands, RemovalStands, front-stands}
use Rattle.cache_model.proofs.Spelled.{length-spelling, front-spelling}

-- each of these numbers is a byte
abbrev pub AreBytes : List ℕ → Type 0
AreBytes bytes = (k : ℕ) → get_or bytes k 0 < 256

bytes-drop : (n : ℕ) (bytes : List ℕ) → AreBytes bytes → AreBytes (drop n bytes)
bytes-drop n bytes small k = subst (λ b. b < 256) (sym (get_or-drop n bytes k 0)) (small (n + k))

-- the bytes in front, with zeros behind them
bytes-take : (n : ℕ) (bytes : List ℕ) → AreBytes bytes → AreBytes (take n bytes)
bytes-take zero bytes small k = omega arith
bytes-take (suc n) [] small k = omega arith
bytes-take (suc n) (byte ∷ rest) small zero = small 0
bytes-take (suc n) (byte ∷ rest) small (suc k) = bytes-take n rest (λ j. small (suc j)) k

-- a number reads only the bytes in front
number-take_8 : (bytes : List ℕ) → from_be_bytes w64 bytes ≡ from_be_bytes w64 (take 8 bytes)
number-take_8 bytes =
    let at = λ (k : ℕ) (h : k < 8). get_or-take 8 bytes k 0 h in
    omega (arith, at 0 (omega arith), at 1 (omega arith), at 2 (omega arith), at 3 (omega arith), at 4 (omega arith), at 5 (omega arith), at 6 (omega arith), at 7 (omega arith))

number-take_4 : (bytes : List ℕ) → from_be_bytes w32 bytes ≡ from_be_bytes w32 (take 4 bytes)
number-take_4 bytes =
    let at = λ (k : ℕ) (h : k < 4). get_or-take 4 bytes k 0 h in
    omega (arith, at 0 (omega arith), at 1 (omega arith), at 2 (omega arith), at 3 (omega arith))

number-take_2 : (bytes : List ℕ) → from_be_bytes w16 bytes ≡ from_be_bytes w16 (take 2 bytes)
number-take_2 bytes =
    let at = λ (k : ℕ) (h : k < 2). get_or-take 2 bytes k 0 h in
    omega (arith, at 0 (omega arith), at 1 (omega arith))

-- the bytes in front are those of their number
spelled_8 : (bytes : List ℕ) → AreBytes bytes → 8 ≤ length bytes → take 8 bytes ≡ to_be_bytes w64 (from_be_bytes w64 bytes)
spelled_8 bytes small long = sym (be_bytes_8 (take 8 bytes) (from_be_bytes w64 bytes) (length-take-le 8 bytes long) (bytes-take 8 bytes small) (number-take_8 bytes))

spelled_4 : (bytes : List ℕ) → AreBytes bytes → 4 ≤ length bytes → take 4 bytes ≡ to_be_bytes w32 (from_be_bytes w32 bytes)
spelled_4 bytes small long = sym (be_bytes_4 (take 4 bytes) (from_be_bytes w32 bytes) (length-take-le 4 bytes long) (bytes-take 4 bytes small) (number-take_4 bytes))

spelled_2 : (bytes : List ℕ) → AreBytes bytes → 2 ≤ length bytes → take 2 bytes ≡ to_be_bytes w16 (from_be_bytes w16 bytes)
spelled_2 bytes small long = sym (be_bytes_2 (take 2 bytes) (from_be_bytes w16 bytes) (length-take-le 2 bytes long) (bytes-take 2 bytes small) (number-take_2 bytes))

tag-spelled : (bytes : List ℕ) (tag : ℕ) → 1 ≤ length bytes → get_or bytes 0 0 ≡ tag → take 1 bytes ≡ tag ∷ []
tag-spelled [] tag some is = absurd (omega arith)
tag-spelled (first ∷ rest) tag some is = ap (λ t. t ∷ []) is

-- an expiry that passes its test is in its range, and its number is what spells it
until-fits : (n : ℕ) (b : Bool) → (nat_le (2 ^ 62) n && not b) ≡ false → IsUntil (if b then Never else At n)
until-fits n true h = tt
until-fits n false h = grind (arith, nat_tests)

until-back : (n : ℕ) (b : Bool) → (n == 2 ^ 64 - 1) ≡ b → until_number (if b then Never else At n) ≡ n
until-back n true h = grind (arith, nat_tests)
until-back n false h = refl

-- What is found as a whole item is within its limits.
pub standing-fits : (bytes : List ℕ) (item : Item) (size : ℕ) → Standing bytes item size → IsItem item
standing-fits bytes item size (as_end tag s) = subst IsItem (sym s.is) s.moment
standing-fits bytes item size (as_put tag s) =
    let key_length : ℕ = from_be_bytes w16 (drop 17 bytes) in
    let value_length : ℕ = from_be_bytes w32 (drop 19 bytes) in
    let key = length-take-le key_length (drop 23 bytes) (omega (arith, length-drop 23 bytes)) in
    let value = length-take-le value_length (drop (23 + key_length) bytes) (omega (arith, length-drop (23 + key_length) bytes)) in
    subst IsItem (sym s.is) (s.seq, until-fits _ _ s.until, (subst (λ n. 1 ≤ n) (sym key) s.key_some, subst (λ n. n ≤ 1024) (sym key) s.key_most), subst (λ n. n ≤ 65536) (sym value) s.value_most)
standing-fits bytes item size (as_removal tag s) =
    let key_length : ℕ = from_be_bytes w16 (drop 9 bytes) in
    let key = length-take-le key_length (drop 11 bytes) (omega (arith, length-drop 11 bytes)) in
    subst IsItem (sym s.is) (s.seq, (subst (λ n. 1 ≤ n) (sym key) s.key_some, subst (λ n. n ≤ 1024) (sym key) s.key_most))

-- what stands in front, and one piece more
piece : (bytes front_bytes behind : List ℕ) (n m : ℕ) → take n bytes ≡ front_bytes → take m (drop n bytes) ≡ behind → take (n + m) bytes ≡ front_bytes ++ behind
piece bytes front_bytes behind n m first next =
    take-add n m bytes ∙ ap (λ xs. xs ++ take m (drop n bytes)) first ∙ ap (λ ys. front_bytes ++ ys) next

-- a number of a piece, spelled
number_8 : (bytes : List ℕ) (n : ℕ) → AreBytes bytes → n + 8 ≤ length bytes → take 8 (drop n bytes) ≡ to_be_bytes w64 (from_be_bytes w64 (drop n bytes))
number_8 bytes n small long = spelled_8 (drop n bytes) (bytes-drop n bytes small) (omega (arith, length-drop n bytes))

number_4 : (bytes : List ℕ) (n : ℕ) → AreBytes bytes → n + 4 ≤ length bytes → take 4 (drop n bytes) ≡ to_be_bytes w32 (from_be_bytes w32 (drop n bytes))
number_4 bytes n small long = spelled_4 (drop n bytes) (bytes-drop n bytes small) (omega (arith, length-drop n bytes))

number_2 : (bytes : List ℕ) (n : ℕ) → AreBytes bytes → n + 2 ≤ length bytes → take 2 (drop n bytes) ≡ to_be_bytes w16 (from_be_bytes w16 (drop n bytes))
number_2 bytes n small long = spelled_2 (drop n bytes) (bytes-drop n bytes small) (omega (arith, length-drop n bytes))

-- the bytes of a put, with its numbers in their places
put-pieces : (bytes : List ℕ) (seq until key_length value_length : ℕ) → AreBytes bytes → get_or bytes 0 0 ≡ 1
    → from_be_bytes w64 (drop 1 bytes) ≡ seq → from_be_bytes w64 (drop 9 bytes) ≡ until
    → from_be_bytes w16 (drop 17 bytes) ≡ key_length → from_be_bytes w32 (drop 19 bytes) ≡ value_length
    → 23 + key_length + value_length ≤ length bytes
    → take (23 + key_length + value_length) bytes ≡
    (1 ∷ []) ++ to_be_bytes w64 seq ++ to_be_bytes w64 until ++ to_be_bytes w16 key_length ++ to_be_bytes w32 value_length ++ take key_length (drop 23 bytes) ++ take value_length (drop (23 + key_length) bytes)
put-pieces bytes seq until key_length value_length small tag s u k v long =
    let first = tag-spelled bytes 1 (omega arith) tag in
    let at_9 = piece bytes (1 ∷ []) (to_be_bytes w64 seq) 1 8 first (number_8 bytes 1 small (omega arith) ∙ ap (to_be_bytes w64) s) in
    let at_17 = piece bytes _ (to_be_bytes w64 until) 9 8 at_9 (number_8 bytes 9 small (omega arith) ∙ ap (to_be_bytes w64) u) in
    let at_19 = piece bytes _ (to_be_bytes w16 key_length) 17 2 at_17 (number_2 bytes 17 small (omega arith) ∙ ap (to_be_bytes w16) k) in
    let at_23 = piece bytes _ (to_be_bytes w32 value_length) 19 4 at_19 (number_4 bytes 19 small (omega arith) ∙ ap (to_be_bytes w32) v) in
    piece bytes _ _ (23 + key_length) value_length (piece bytes _ _ 23 key_length at_23 refl) refl

removal-pieces : (bytes : List ℕ) (seq key_length : ℕ) → AreBytes bytes → get_or bytes 0 0 ≡ 2
    → from_be_bytes w64 (drop 1 bytes) ≡ seq → from_be_bytes w16 (drop 9 bytes) ≡ key_length → 11 + key_length ≤ length bytes
    → take (11 + key_length) bytes ≡ (2 ∷ []) ++ to_be_bytes w64 seq ++ to_be_bytes w16 key_length ++ take key_length (drop 11 bytes)
removal-pieces bytes seq key_length small tag s k long =
    let first = tag-spelled bytes 2 (omega arith) tag in
    let at_9 = piece bytes (2 ∷ []) (to_be_bytes w64 seq) 1 8 first (number_8 bytes 1 small (omega arith) ∙ ap (to_be_bytes w64) s) in
    let at_11 = piece bytes _ (to_be_bytes w16 key_length) 9 2 at_9 (number_2 bytes 9 small (omega arith) ∙ ap (to_be_bytes w16) k) in
    piece bytes _ _ 11 key_length at_11 refl

end-pieces : (bytes : List ℕ) (moment : ℕ) → AreBytes bytes → get_or bytes 0 0 ≡ 0 → from_be_bytes w64 (drop 1 bytes) ≡ moment → 9 ≤ length bytes
    → take 9 bytes ≡ (0 ∷ []) ++ to_be_bytes w64 moment
end-pieces bytes moment small tag m long =
    piece bytes (0 ∷ []) (to_be_bytes w64 moment) 1 8 (tag-spelled bytes 0 (omega arith) tag) (number_8 bytes 1 small (omega arith) ∙ ap (to_be_bytes w64) m)

put-spelled : (bytes : List ℕ) (item : Item) (size : ℕ) → AreBytes bytes → get_or bytes 0 0 ≡ 1 → PutStands bytes item size → take size bytes ≡ spelling item
unfolding spelling
put-spelled bytes item size small tag s =
    let seq : ℕ = from_be_bytes w64 (drop 1 bytes) in
    let until : ℕ = from_be_bytes w64 (drop 9 bytes) in
    let key_length : ℕ = from_be_bytes w16 (drop 17 bytes) in
    let value_length : ℕ = from_be_bytes w32 (drop 19 bytes) in
    let key : List ℕ = take key_length (drop 23 bytes) in
    let value : List ℕ = take value_length (drop (23 + key_length) bytes) in
    let key_is : length key ≡ key_length = length-take-le key_length (drop 23 bytes) (omega (arith, length-drop 23 bytes)) in
    let value_is : length value ≡ value_length = length-take-le value_length (drop (23 + key_length) bytes) (omega (arith, length-drop (23 + key_length) bytes)) in
    let back : until_number (until_of_number until) ≡ until = until-back until (until == 2 ^ 64 - 1) refl in
    ap (λ n. take n bytes) s.size_is
    ∙ put-pieces bytes seq until key_length value_length small tag refl refl refl refl (subst (λ n. n ≤ length bytes) s.size_is s.within)
    ∙ ap (λ n. (1 ∷ []) ++ to_be_bytes w64 seq ++ to_be_bytes w64 n ++ to_be_bytes w16 key_length ++ to_be_bytes w32 value_length ++ key ++ value) (sym back)
    ∙ ap (λ n. (1 ∷ []) ++ to_be_bytes w64 seq ++ to_be_bytes w64 (until_number (until_of_number until)) ++ to_be_bytes w16 n ++ to_be_bytes w32 value_length ++ key ++ value) (sym key_is)
    ∙ ap (λ n. (1 ∷ []) ++ to_be_bytes w64 seq ++ to_be_bytes w64 (until_number (until_of_number until)) ++ to_be_bytes w16 (length key) ++ to_be_bytes w32 n ++ key ++ value) (sym value_is)
    ∙ ap spelling (sym s.is)

removal-spelled : (bytes : List ℕ) (item : Item) (size : ℕ) → AreBytes bytes → get_or bytes 0 0 ≡ 2 → RemovalStands bytes item size → take size bytes ≡ spelling item
unfolding spelling
removal-spelled bytes item size small tag s =
    let seq : ℕ = from_be_bytes w64 (drop 1 bytes) in
    let key_length : ℕ = from_be_bytes w16 (drop 9 bytes) in
    let key : List ℕ = take key_length (drop 11 bytes) in
    let key_is : length key ≡ key_length = length-take-le key_length (drop 11 bytes) (omega (arith, length-drop 11 bytes)) in
    ap (λ n. take n bytes) s.size_is
    ∙ removal-pieces bytes seq key_length small tag refl refl (subst (λ n. n ≤ length bytes) s.size_is s.within)
    ∙ ap (λ n. (2 ∷ []) ++ to_be_bytes w64 seq ++ to_be_bytes w16 n ++ key) (sym key_is)
    ∙ ap spelling (sym s.is)

end-spelled : (bytes : List ℕ) (item : Item) (size : ℕ) → AreBytes bytes → get_or bytes 0 0 ≡ 0 → EndStands bytes item size → take size bytes ≡ spelling item
unfolding spelling
end-spelled bytes item size small tag s =
    ap (λ n. take n bytes) s.size_is
    ∙ end-pieces bytes (from_be_bytes w64 (drop 1 bytes)) small tag refl (subst (λ n. n ≤ length bytes) s.size_is s.within)
    ∙ ap spelling (sym s.is)

-- What is found as a whole item is spelled by the bytes in front.
pub standing-spelled : (bytes : List ℕ) (item : Item) (size : ℕ) → AreBytes bytes → Standing bytes item size → take size bytes ≡ spelling item
standing-spelled bytes item size small (as_end tag s) = end-spelled bytes item size small tag s
standing-spelled bytes item size small (as_put tag s) = put-spelled bytes item size small tag s
standing-spelled bytes item size small (as_removal tag s) = removal-spelled bytes item size small tag s

-- What is found as a whole item is an item within its limits, which the bytes in front spell.
pub whole-item : (bytes : List ℕ) (item : Item) (size : ℕ) → front bytes ≡ whole item size → IsItem item
whole-item bytes item size is = standing-fits bytes item size (front-stands bytes item size is)

pub whole-spelled : (bytes : List ℕ) (item : Item) (size : ℕ) → AreBytes bytes → front bytes ≡ whole item size → take size bytes ≡ spelling item
whole-spelled bytes item size small is = standing-spelled bytes item size small (front-stands bytes item size is)

-- No spelling begins another: an item that is spelled in front of some bytes is the one that is spelled by more of them.
pub spelling-prefix : (one other : Item) (rest : List ℕ) → IsItem one → IsItem other → spelling other ≡ spelling one ++ rest → one ≡ other
spelling-prefix one other rest is_one is_other begins =
    let first = front-spelling one is_one rest in
    let second = front-spelling other is_other [] in
    let same : spelling other ++ [] ≡ spelling one ++ rest = append-nil (spelling other) ∙ begins in
    let both : whole one (length (spelling one)) ≡ whole other (length (spelling other)) = sym first ∙ ap front (sym same) ∙ second in
    cc

-- how many bytes the item takes is how long its spelling is
standing-size : (bytes : List ℕ) (item : Item) (size : ℕ) → Standing bytes item size → size ≡ length (spelling item)
standing-size bytes item size (as_end tag s) = s.size_is ∙ sym (length-spelling (end (from_be_bytes w64 (drop 1 bytes)))) ∙ ap (λ i. length (spelling i)) (sym s.is)
standing-size bytes item size (as_put tag s) =
    let key_length : ℕ = from_be_bytes w16 (drop 17 bytes) in
    let value_length : ℕ = from_be_bytes w32 (drop 19 bytes) in
    let key = length-take-le key_length (drop 23 bytes) (omega (arith, length-drop 23 bytes)) in
    let value = length-take-le value_length (drop (23 + key_length) bytes) (omega (arith, length-drop (23 + key_length) bytes)) in
    let long = ap (λ i. length (spelling i)) s.is ∙ length-spelling (put (from_be_bytes w64 (drop 1 bytes)) (until_of_number (from_be_bytes w64 (drop 9 bytes))) (take key_length (drop 23 bytes)) (take value_length (drop (23 + key_length) bytes))) in
    s.size_is ∙ ap (λ n. 23 + n + value_length) (sym key) ∙ ap (λ n. 23 + length (take key_length (drop 23 bytes)) + n) (sym value) ∙ sym long
standing-size bytes item size (as_removal tag s) =
    let key_length : ℕ = from_be_bytes w16 (drop 9 bytes) in
    let key = length-take-le key_length (drop 11 bytes) (omega (arith, length-drop 11 bytes)) in
    let long = ap (λ i. length (spelling i)) s.is ∙ length-spelling (removal (from_be_bytes w64 (drop 1 bytes)) (take key_length (drop 11 bytes))) in
    s.size_is ∙ ap (λ n. 11 + n) (sym key) ∙ sym long

pub whole-size : (bytes : List ℕ) (item : Item) (size : ℕ) → front bytes ≡ whole item size → size ≡ length (spelling item)
whole-size bytes item size is = standing-size bytes item size (front-stands bytes item size is)

-- no item has more bytes than the largest put
pub spelling-most : (item : Item) → IsItem item → length (spelling item) ≤ 66583
spelling-most (put seq until key value) fits = omega (arith, length-spelling (put seq until key value), fits.2.0, fits.2.1, fits.3)
spelling-most (removal seq key) fits = omega (arith, length-spelling (removal seq key), fits.1.0, fits.1.1)
spelling-most (end moment) fits = omega (arith, length-spelling (end moment))
