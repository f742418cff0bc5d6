-- The first key behind another, among those that entries of the index and the table have.
use Rattle.std.specs.Prelude.{◌≡◌, ◌⊎◌, ℕ, Bool, true, false, List, Option, Some, None, IsSome, Contains, Result, IfOk, IsErrOf, nat_lt, ◌&&◌, option_map, option_and_then, if◌then◌else◌, MatchOption}
use Rattle.std.specs.Ordering.{nat_cmp, is_lt}
use Rattle.std.specs.Cmp.Lexicographic.{slice_cmp}
use Rattle.cache_model.specs.declared.faults.StoreFault.{StoreFault}
use Rattle.cache_model.specs.declared.faults.StoreFault.TheVariants as fault
use Rattle.cache_model.specs.declared.faults.Damage.{Damage}
use Rattle.cache_model.specs.declared.index.IndexKey.{IndexKey}
use Rattle.cache_model.specs.declared.index.IndexValue.{IndexValue}
use Rattle.cache_model.specs.Files.{Image}
use Rattle.cache_model.specs.Items.{Item, whole}
use Rattle.cache_model.specs.Images.{key_of}
use Rattle.cache_model.specs.Hash.{hash, precedes, follows}
use Rattle.record_format.specs.declared.items.OwnItem.{OwnItem}
use Rattle.record_format.specs.Meaning.{own_item}
use Rattle.temporary_table.specs.Places.{Places, place_of}
use Rattle.tree_index.specs.Index.{Entries}
use Rattle.compactor.specs.declared.walking.Known.{Known}
use Rattle.compactor.specs.declared.walking.Known.TheVariants.{Placed, Read}
use Rattle.compactor.specs.Counting.{Counts, HasNone, IsNewestBy}
use Rattle.compactor.specs.Finding.{entry_front, IsDamagedEntry}

-- One of some entries has this record, of this key.
pub record HasKeyAt (files : Image) (entries : Entries) (e : IndexKey × IndexValue) (key : List ℕ) (item : Item) : Type 0 where
  pub within : Contains entries e
  pub read : entry_front files e.0 e.1 ≡ whole item e.1.length
  pub of_key : key_of item ≡ Some key

-- each of some entries has a record, of a key with the entry's hash
abbrev pub AreHashed : Image → ℕ → Entries → Type 0
AreHashed files bits entries = (e : IndexKey × IndexValue) → Contains entries e → (key : List ℕ) × (item : Item) × HasKeyAt files entries e key item × (e.0.hash ≡ hash bits key)

-- the record of the first key, of those of some entries that pass a test, or None where none passes
abbrev pub IsFirstKey : Image → (List ℕ → Bool) → (List ℕ → List ℕ → Bool) → Entries → Option OwnItem → Type 0
IsFirstKey files passes before entries None = (e : IndexKey × IndexValue) (key : List ℕ) (item : Item) → HasKeyAt files entries e key item → passes key ≡ false
IsFirstKey files passes before entries (Some first) =
    (e : IndexKey × IndexValue) × (key : List ℕ) × HasKeyAt files entries e key (own_item first) × (passes key ≡ true)
    × ((d : IndexKey × IndexValue) (other : List ℕ) (item : Item) → HasKeyAt files entries d other item → passes other ≡ true → (other ≡ key) ⊎ (before key other ≡ true))

-- whether a key stands before another by its bytes
abbrev pub is_lower : List ℕ → List ℕ → Bool
is_lower key other = is_lt (slice_cmp nat_cmp key other)

-- whether a key stands behind another by its bytes, or behind none
abbrev pub is_above : Option (List ℕ) → List ℕ → Bool
is_above None key = true
is_above (Some after) key = is_lower after key

-- whether a key stands before the best so far, where there is one
abbrev pub is_under : Option (List ℕ) → List ℕ → Bool
is_under None key = true
is_under (Some best) key = is_lower key best

-- whether a key, where there is one, stands behind another, or behind none, and before the best so far
abbrev pub is_nearer : Option (List ℕ) → Option (List ℕ) → Option (List ℕ) → Bool
is_nearer after best None = false
is_nearer after best (Some key) = is_above after key && is_under best key

-- the nearer of the best so far, where there is one, and a record
abbrev pub nearer : Option (List ℕ) → Option OwnItem → OwnItem → Option OwnItem
nearer after best item = if is_nearer after (option_and_then (λ b. key_of (own_item b)) best) (key_of (own_item item)) then Some item else best

-- what stands behind all entries of a hash
abbrev pub end_of : ℕ → IndexKey
end_of hash = record { hash = hash; file = 4294967295; at = 4294967295 }

-- whether a key's hash is greater than this one, where there is one
abbrev pub is_beyond : ℕ → Option ℕ → List ℕ → Bool
is_beyond bits None key = true
is_beyond bits (Some least) key = nat_lt least (hash bits key)

-- What a call gives is as this says, and what it finds damaged is an entry without a whole record.
pub record Seeks {R : Type 0} (Gives : R → Type 0) (entries : Entries) (files : Image) (result : Result R StoreFault) : Type 0 where
  pub given : IfOk result Gives
  pub damaged : (d : Damage) → IsErrOf result (fault.Damaged d) → IsDamagedEntry files entries d

-- a key has a place in the table, or an entry of the index whose record has it
abbrev pub IsKnown : Image → Places → Entries → List ℕ → Type 0
IsKnown files places entries key = IsSome (place_of places key) ⊎ ((e : IndexKey × IndexValue) × (item : Item) × HasKeyAt files entries e key item)

-- The first known key behind another in walk order, or of all.
pub record IsFirstKnown (files : Image) (bits : ℕ) (places : Places) (entries : Entries) (after : Option (List ℕ)) (key : List ℕ) : Type 0 where
  pub behind : follows bits after key ≡ true
  pub first : (other : List ℕ) → IsKnown files places entries other → follows bits after other ≡ true → (other ≡ key) ⊎ (precedes bits key other ≡ true)

-- whether a key, where there is one, stands before that of the table, where there is one
abbrev pub leads : ℕ → Option (List ℕ) → Option (List ℕ) → Bool
leads bits placed None = false
leads bits None (Some key) = true
leads bits (Some placed) (Some key) = precedes bits key placed

-- a record with its key
abbrev pub read_of : OwnItem → Option Known
read_of item = option_map (λ key. Read key item) (key_of (own_item item))

-- what is known by the next key that has a place and the next record of the index
abbrev pub known_by : ℕ → Option (List ℕ) → Option OwnItem → Option Known
known_by bits placed None = option_map Placed placed
known_by bits placed (Some item) = if leads bits placed (key_of (own_item item)) then read_of item else option_map Placed placed

-- what is known of the next key: that it has a place, or its record, where it has none; None where no key is behind
abbrev pub IsNextKnown : Image → ℕ → Places → Entries → Option (List ℕ) → Option Known → Type 0
IsNextKnown files bits places entries after None = (key : List ℕ) → IsKnown files places entries key → follows bits after key ≡ false
IsNextKnown files bits places entries after (Some (Placed key)) = IsSome (place_of places key) × IsFirstKnown files bits places entries after key
IsNextKnown files bits places entries after (Some (Read key item)) =
    (place_of places key ≡ None) × ((e : IndexKey × IndexValue) × HasKeyAt files entries e key (own_item item)) × IsFirstKnown files bits places entries after key

-- A key with its newest record is given, or None where none counts, and nothing is found damaged.
pub record GivesNewest (counts : Counts) (key : List ℕ) (result : Result (Option (List ℕ × OwnItem)) StoreFault) : Type 0 where
  pub given : IfOk result (λ found. MatchOption found (HasNone counts key) (λ next. (next.0 ≡ key) × ((n : ℕ) × (a : ℕ) × IsNewestBy counts key n a (own_item next.1))))
  pub undamaged : (d : Damage) → IsErrOf result (fault.Damaged d) → ⊥
