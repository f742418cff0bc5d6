-- What an index stands for.
use Rattle.std.specs.Prelude.{◌≡◌, ℕ, Bool, false, cond, List, filter, nat_eq, Option, Some, None, IsSome, ⊤}
use Rattle.std.specs.Map.{keys_of, lookup}
use Rattle.std.specs.List.Sorted.{IsStrictlySortedBy}
use Rattle.std.specs.declared.cmp.Ordering.{Ordering}
use Rattle.std.specs.declared.cmp.Ordering.TheVariants.{Less}
use Rattle.std.specs.Ordering.{nat_cmp, ordering_then, is_eq, is_gt}
use Rattle.cache_model.specs.declared.index.IndexKey.{IndexKey}
use Rattle.cache_model.specs.declared.index.IndexValue.{IndexValue}

-- entries, each a key with what is held under it
abbrev pub Entries : Type 0
Entries = List (IndexKey × IndexValue)

-- An index: how many bits of the keys' hash it goes by, and its entries.
pub record Index : Type 0 where
  pub bits : ℕ
  pub entries : Entries

-- keys are compared by the hash, then by the file, then by the offset
abbrev pub index_cmp : IndexKey → IndexKey → Ordering
index_cmp one other = ordering_then (nat_cmp one.hash other.hash) (ordering_then (nat_cmp one.file other.file) (nat_cmp one.at other.at))

-- whether two keys are the same
abbrev pub is_key : IndexKey → IndexKey → Bool
is_key one other = is_eq (index_cmp one other)

-- what is held under a key, None where it has no entry
abbrev pub value_at : Entries → IndexKey → Option IndexValue
value_at entries key = lookup (is_key key) entries

-- the entries stand in the order of their keys, and no key has two
abbrev pub AreOrdered : Entries → Type 0
AreOrdered entries = IsStrictlySortedBy index_cmp (keys_of entries)

-- the entries of one hash, in their order
abbrev pub entries_of : ℕ → Entries → Entries
entries_of hash entries = filter (λ e. nat_eq e.0.hash hash) entries

-- a key is above another one, where there is one
abbrev pub IsAbove : Option IndexKey → IndexKey → Type 0
IsAbove None key = ⊤
IsAbove (Some after) key = index_cmp after key ≡ Less

-- The least entry above a key, or of all: None where no entry is above, and else one that is, and that no other is below.
abbrev pub IsNext : Entries → Option IndexKey → Option (IndexKey × IndexValue) → Type 0
IsNext entries after None = (key : IndexKey) → IsAbove after key → value_at entries key ≡ None
IsNext entries after (Some next) =
    IsAbove after next.0
    × (value_at entries next.0 ≡ Some next.1)
    × ((key : IndexKey) → IsAbove after key → IsSome (value_at entries key) → is_gt (index_cmp next.0 key) ≡ false)

-- An index has this under a key, or no entry where it is None, and all else as before.
pub record Sets (key : IndexKey) (value : Option IndexValue) (old new : Index) : Type 0 where
  pub bits : new.bits ≡ old.bits
  pub here : value_at new.entries key ≡ value
  pub each : (other : IndexKey) → value_at new.entries other ≡ cond (is_key key other) value (value_at old.entries other)
  pub ordered : AreOrdered new.entries
