-- The spelling of an item: how long it is, and that what stands at the front of it is just that item.
use Rattle.std.proofs.Common.{◌≡◌, ℕ, ◌+◌, ◌-◌, ◌^◌, ◌<◌, ◌≤◌, ◌==◌, ◌&&◌, not, false, List, ◌++◌, length, take, drop, refl, sym, ap, ◌∙◌, arith, length-append, append_assoc}
use Rattle.std.proofs.lemmas.Bool.{le-ltb}
use Rattle.std.proofs.lemmas.Bool.Decides.{nat_tests}
use Rattle.std.proofs.lemmas.List.{take_at, drop_at, drop-drop}
use Rattle.std.proofs.lemmas.Nat.{from_be_bytes-to_be_bytes_2, from_be_bytes-to_be_bytes_4, from_be_bytes-to_be_bytes_8}
use Rattle.std.specs.Int.{from_be_bytes, w16, w32, w64}
use Rattle.std.specs.Prelude.{nat_lt, nat_le, ◌||◌}
use Rattle.cache_model.specs.declared.entries.Until.{Until}
use Rattle.cache_model.specs.declared.entries.Until.TheVariants.{Never, At}
use Rattle.cache_model.specs.Limits.{IsKeyLength}
use Rattle.cache_model.specs.Items.{Item, put, removal, end, IsItem, IsUntil, until_number, until_of_number, spelling, whole, front, front_put, front_removal, front_end}

-- how many bytes the spelling of an item has
abbrev pub size_of : Item → ℕ
size_of (put seq until key value) = 23 + length key + length value
size_of (removal seq key) = 11 + length key
size_of (end moment) = 9

pub length-spelling : (item : Item) → length (spelling item) ≡ size_of item
unfolding spelling
length-spelling (put seq until key value) = omega (arith, length-append key value)
length-spelling (removal seq key) = omega arith
length-spelling (end moment) = omega arith

-- a spelling has a byte at least
pub spelling-some : (item : Item) → 1 ≤ length (spelling item)
spelling-some (put seq until key value) = rw length-spelling (omega arith)
spelling-some (removal seq key) = rw length-spelling (omega arith)
spelling-some (end moment) = rw length-spelling (omega arith)

-- the number of an expiry spells that expiry
pub until_of-number : (until : Until) → IsUntil until → until_of_number (until_number until) ≡ until
until_of-number Never fits = refl
until_of-number (At moment) fits = grind (arith, nat_tests)

front_put-whole : (bytes : List ℕ) (seq until key_length value_length : ℕ)
    → from_be_bytes w64 (drop 1 bytes) ≡ seq → from_be_bytes w64 (drop 9 bytes) ≡ until
    → from_be_bytes w16 (drop 17 bytes) ≡ key_length → from_be_bytes w32 (drop 19 bytes) ≡ value_length
    → 23 + key_length + value_length ≤ length bytes
    → nat_le (2 ^ 62) seq ≡ false
    → (nat_le (2 ^ 62) until && not (until == 2 ^ 64 - 1)) ≡ false
    → (key_length == 0 || nat_lt 1024 key_length) ≡ false
    → nat_lt 65536 value_length ≡ false
    → front_put bytes ≡ whole
    (put seq (until_of_number until) (take key_length (drop 23 bytes)) (take value_length (drop (23 + key_length) bytes)))
    (23 + key_length + value_length)
unfolding front_put
front_put-whole bytes seq until key_length value_length s u k v l ts tu tk tv =
    let long : nat_lt (length bytes) 23 ≡ false = le-ltb _ _ (omega arith) in
    let enough : nat_lt (length bytes) (23 + key_length + value_length) ≡ false = le-ltb _ _ l in
    rw (s, u, k, v, long, ts, tu, tk, tv, enough)

front_removal-whole : (bytes : List ℕ) (seq key_length : ℕ)
    → from_be_bytes w64 (drop 1 bytes) ≡ seq → from_be_bytes w16 (drop 9 bytes) ≡ key_length
    → 11 + key_length ≤ length bytes
    → nat_le (2 ^ 62) seq ≡ false
    → (key_length == 0 || nat_lt 1024 key_length) ≡ false
    → front_removal bytes ≡ whole (removal seq (take key_length (drop 11 bytes))) (11 + key_length)
unfolding front_removal
front_removal-whole bytes seq key_length s k l ts tk =
    let long : nat_lt (length bytes) 11 ≡ false = le-ltb _ _ (omega arith) in
    let enough : nat_lt (length bytes) (11 + key_length) ≡ false = le-ltb _ _ l in
    rw (s, k, long, ts, tk, enough)

front_end-whole : (bytes : List ℕ) (moment : ℕ)
    → from_be_bytes w64 (drop 1 bytes) ≡ moment
    → 9 ≤ length bytes
    → nat_le (2 ^ 61) moment ≡ false
    → front_end bytes ≡ whole (end moment) 9
unfolding front_end
front_end-whole bytes moment m l tm =
    let long : nat_lt (length bytes) 9 ≡ false = le-ltb _ _ l in
    rw (m, long, tm)

-- the tests of the numbers of an item
key-in_range : (n : ℕ) → IsKeyLength n → (n == 0 || nat_lt 1024 n) ≡ false
key-in_range n fits = grind (arith, nat_tests)

until-in_range : (until : Until) → IsUntil until → (nat_le (2 ^ 62) (until_number until) && not (until_number until == 2 ^ 64 - 1)) ≡ false
until-in_range Never fits = refl
until-in_range (At moment) fits = grind (arith, nat_tests)

until-fits : (until : Until) → IsUntil until → until_number until < 2 ^ 64
until-fits Never fits = omega arith
until-fits (At moment) fits = omega arith

pub below-test : (limit n : ℕ) → n < limit → nat_le limit n ≡ false
below-test limit n h = grind (arith, nat_tests)

front-put-spelling : (seq : ℕ) (until : Until) (key value : List ℕ) → IsItem (put seq until key value) → (rest : List ℕ)
    → front_put (spelling (put seq until key value) ++ rest) ≡ whole (put seq until key value) (23 + length key + length value)
unfolding spelling
front-put-spelling seq until key value fits rest =
    let bytes : List ℕ = spelling (put seq until key value) ++ rest in
    let behind : drop 23 bytes ≡ key ++ (value ++ rest) = append_assoc key value rest in
    let long : 23 + length key + length value ≤ length bytes = omega (arith, length-append (key ++ value) rest, length-append key value) in
    let key_is : take (length key) (drop 23 bytes) ≡ key = ap (take (length key)) behind ∙ take_at key (value ++ rest) (length key) refl in
    let after : drop (23 + length key) bytes ≡ value ++ rest =
    sym (drop-drop (length key) 23 bytes) ∙ ap (drop (length key)) behind ∙ drop_at key (value ++ rest) (length key) refl in
    let value_is : take (length value) (drop (23 + length key) bytes) ≡ value = ap (take (length value)) after ∙ take_at value rest (length value) refl in
    front_put-whole bytes seq (until_number until) (length key) (length value)
    (from_be_bytes-to_be_bytes_8 seq (omega arith)) (from_be_bytes-to_be_bytes_8 (until_number until) (until-fits until fits.1))
    (from_be_bytes-to_be_bytes_2 (length key) (omega arith)) (from_be_bytes-to_be_bytes_4 (length value) (omega arith))
    long (below-test _ _ fits.0) (until-in_range until fits.1) (key-in_range _ fits.2) (le-ltb _ _ fits.3)
    ∙ ap (λ u. whole (put seq u (take (length key) (drop 23 bytes)) (take (length value) (drop (23 + length key) bytes))) (23 + length key + length value)) (until_of-number until fits.1)
    ∙ ap (λ k. whole (put seq until k (take (length value) (drop (23 + length key) bytes))) (23 + length key + length value)) key_is
    ∙ ap (λ v. whole (put seq until key v) (23 + length key + length value)) value_is

front-removal-spelling : (seq : ℕ) (key : List ℕ) → IsItem (removal seq key) → (rest : List ℕ)
    → front_removal (spelling (removal seq key) ++ rest) ≡ whole (removal seq key) (11 + length key)
unfolding spelling
front-removal-spelling seq key fits rest =
    let bytes : List ℕ = spelling (removal seq key) ++ rest in
    let key_is : take (length key) (drop 11 bytes) ≡ key = take_at key rest (length key) refl in
    front_removal-whole bytes seq (length key)
    (from_be_bytes-to_be_bytes_8 seq (omega arith)) (from_be_bytes-to_be_bytes_2 (length key) (omega arith))
    (omega (arith, length-append key rest)) (below-test _ _ fits.0) (key-in_range _ fits.1)
    ∙ ap (λ k. whole (removal seq k) (11 + length key)) key_is

front-end-spelling : (moment : ℕ) → IsItem (end moment) → (rest : List ℕ) → front_end (spelling (end moment) ++ rest) ≡ whole (end moment) 9
unfolding spelling
front-end-spelling moment fits rest =
    front_end-whole (spelling (end moment) ++ rest) moment (from_be_bytes-to_be_bytes_8 moment (omega arith)) (omega arith) (below-test _ _ fits)

-- What stands at the front of the spelling of an item and any further bytes is that item.
pub front-spelling : (item : Item) → IsItem item → (rest : List ℕ) → front (spelling item ++ rest) ≡ whole item (length (spelling item))
unfolding front spelling
front-spelling (put seq until key value) fits rest =
    front-put-spelling seq until key value fits rest ∙ ap (whole (put seq until key value)) (sym (length-spelling (put seq until key value)))
front-spelling (removal seq key) fits rest =
    front-removal-spelling seq key fits rest ∙ ap (whole (removal seq key)) (sym (length-spelling (removal seq key)))
front-spelling (end moment) fits rest =
    front-end-spelling moment fits rest ∙ ap (whole (end moment)) (sym (length-spelling (end moment)))
