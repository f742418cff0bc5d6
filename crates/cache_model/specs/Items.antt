-- The items that data files are made of, and the one way in which each is spelled.
use Rattle.std.specs.Prelude.{ℕ, ◌+◌, ◌-◌, ◌^◌, ◌<◌, ◌==◌, ◌&&◌, ◌||◌, not, List, [], ◌∷◌, ◌++◌, length, take, drop, nat_lt, nat_le, if◌then◌else◌}
use Rattle.std.specs.Int.{to_be_bytes, from_be_bytes, w16, w32, w64}
use Rattle.cache_model.specs.declared.entries.Until.{Until}
use Rattle.cache_model.specs.declared.entries.Until.TheVariants.{Never, At}
use Rattle.cache_model.specs.declared.faults.BadKind.{BadKind}
use Rattle.cache_model.specs.declared.faults.BadKind.TheVariants.{Tag, KeyLength, ValueLength, Until as BadUntil, Moment, Sequence}
use Rattle.cache_model.specs.Limits.{IsKeyLength, IsValueLength}

-- A record puts an entry under a key or removes the key, and has a sequence number. An end closes a frame of records.
pub data Item : Type 0 where
  put : (seq : ℕ) (until : Until) (key value : List ℕ) → Item
  removal : (seq : ℕ) (key : List ℕ) → Item
  end : (moment : ℕ) → Item

-- an expiry is never, or below 2^62
abbrev pub IsUntil : Until → Type 0
IsUntil Never = Unit {0}
IsUntil (At moment) = moment < 2 ^ 62

-- an item whose numbers and lengths are within their limits
abbrev pub IsItem : Item → Type 0
IsItem (put seq until key value) = (seq < 2 ^ 62) × IsUntil until × IsKeyLength (length key) × IsValueLength (length value)
IsItem (removal seq key) = (seq < 2 ^ 62) × IsKeyLength (length key)
IsItem (end moment) = moment < 2 ^ 61

-- an item other than an end, within its limits
abbrev pub IsRecord : Item → Type 0
IsRecord (put seq until key value) = IsItem (put seq until key value)
IsRecord (removal seq key) = IsItem (removal seq key)
IsRecord (end moment) = ⊥

-- never is spelled as all ones
abbrev pub until_number : Until → ℕ
until_number Never = 2 ^ 64 - 1
until_number (At moment) = moment

-- the bytes of an item: a tag, its numbers with the highest byte first, its key and its value
unfoldable pub spelling : Item → List ℕ
spelling (put seq until key value) =
    (1 ∷ []) ++ to_be_bytes w64 seq ++ to_be_bytes w64 (until_number until) ++ to_be_bytes w16 (length key) ++ to_be_bytes w32 (length value) ++ key ++ value
spelling (removal seq key) = (2 ∷ []) ++ to_be_bytes w64 seq ++ to_be_bytes w16 (length key) ++ key
spelling (end moment) = (0 ∷ []) ++ to_be_bytes w64 moment

-- What stands at the front of some bytes: a whole item of so many bytes, one that is cut short, or none.
pub data Front : Type 0 where
  whole : (item : Item) (size : ℕ) → Front
  cut : Front
  bad : (kind : BadKind) → Front

-- the expiry that a number spells
abbrev pub until_of_number : ℕ → Until
until_of_number n = if n == 2 ^ 64 - 1 then Never else At n

-- the first of these that holds: the first bytes are cut short; a number is out of its range, from the front; the rest
-- is cut short; else it is a whole put
unfoldable pub front_put : List ℕ → Front
front_put bytes =
    let seq = from_be_bytes w64 (drop 1 bytes) in
    let until = from_be_bytes w64 (drop 9 bytes) in
    let key_length = from_be_bytes w16 (drop 17 bytes) in
    let value_length = from_be_bytes w32 (drop 19 bytes) in
    if nat_lt (length bytes) 23 then cut
    else if nat_le (2 ^ 62) seq then bad (Sequence seq)
    else if nat_le (2 ^ 62) until && not (until == 2 ^ 64 - 1) then bad (BadUntil until)
    else if key_length == 0 || nat_lt 1024 key_length then bad (KeyLength key_length)
    else if nat_lt 65536 value_length then bad (ValueLength value_length)
    else if nat_lt (length bytes) (23 + key_length + value_length) then cut
    else whole
    (put seq (until_of_number until) (take key_length (drop 23 bytes)) (take value_length (drop (23 + key_length) bytes)))
    (23 + key_length + value_length)

-- likewise for a removal
unfoldable pub front_removal : List ℕ → Front
front_removal bytes =
    let seq = from_be_bytes w64 (drop 1 bytes) in
    let key_length = from_be_bytes w16 (drop 9 bytes) in
    if nat_lt (length bytes) 11 then cut
    else if nat_le (2 ^ 62) seq then bad (Sequence seq)
    else if key_length == 0 || nat_lt 1024 key_length then bad (KeyLength key_length)
    else if nat_lt (length bytes) (11 + key_length) then cut
    else whole (removal seq (take key_length (drop 11 bytes))) (11 + key_length)

-- likewise for an end
unfoldable pub front_end : List ℕ → Front
front_end bytes =
    let moment = from_be_bytes w64 (drop 1 bytes) in
    if nat_lt (length bytes) 9 then cut
    else if nat_le (2 ^ 61) moment then bad (Moment moment)
    else whole (end moment) 9

-- what stands at the front of the bytes, by the tag
unfoldable pub front : List ℕ → Front
front [] = cut
front (tag ∷ rest) =
    if tag == 0 then front_end (tag ∷ rest)
    else if tag == 1 then front_put (tag ∷ rest)
    else if tag == 2 then front_removal (tag ∷ rest)
    else bad (Tag tag)
