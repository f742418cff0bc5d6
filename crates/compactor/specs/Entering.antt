-- How the index is told of a record.
use Rattle.std.specs.Prelude.{◌≡◌, ℕ, ◌+◌, ◌-◌, ◌^◌, ◌==◌, ◌&&◌, min, nat_lt, Bool, List, map, Option, Some, None, option_map, is_some, cond}
use Rattle.cache_model.specs.declared.files.FileCount.{FileCount}
use Rattle.cache_model.specs.declared.files.Place.{Place}
use Rattle.cache_model.specs.declared.index.IndexKey.{IndexKey}
use Rattle.cache_model.specs.declared.index.IndexValue.{IndexValue}
use Rattle.cache_model.specs.Hash.{hash}
use Rattle.file_stats.specs.Figures.{grown, shrunk}
use Rattle.temporary_table.specs.declared.requests.Request.{Request}
use Rattle.temporary_table.specs.declared.requests.Request.TheVariants.{Set, Swap, Drop, Less}
use Rattle.temporary_table.specs.Places.{Places, place_of, Reseats, Stays}
use Rattle.tree_index.specs.Index.{Entries, Index, Sets, is_key, value_at}
use Rattle.compactor.specs.declared.entering.Entered.{Entered}
use Rattle.compactor.specs.declared.finding.FoundEntry.{FoundEntry}

-- an entry: its key with what is held under it
abbrev pub Row : Type 0
Row = IndexKey × IndexValue

-- what a record of a key stands under in the index
abbrev pub entry_key : ℕ → List ℕ → Place → IndexKey
entry_key bits key to = record { hash = hash bits key; file = to.file; at = to.at }

-- one more, where that isn't past the end of the numbers
abbrev pub one_more : ℕ → ℕ
one_more count = min (count + 1) (2 ^ 64 - 1)

-- one less, where there is more than one
abbrev pub one_less : ℕ → ℕ
one_less count = cond (nat_lt 1 count) (count - 1) count

-- how many records of a key are counted once one more is: that one alone, where no entry was found
abbrev pub count_behind : Option FoundEntry → ℕ
count_behind None = 1
count_behind (Some found) = one_more found.value.count

-- whether these are the file and offset of a place
abbrev pub stands_at : ℕ → ℕ → Place → Bool
stands_at file at place = (file == place.file) && (at == place.at)

-- an entry with another count
abbrev pub recounted : FoundEntry → ℕ → Row
recounted found count = (found.at, record { length = found.value.length; count = count; gone = found.value.gone })

-- the entry of a key, counting one more: at `to` where it was found at `from`, and else where it was
abbrev pub swapped : ℕ → List ℕ → Place → Place → FoundEntry → Row
swapped bits key from to found =
    cond (stands_at found.at.file found.at.at from) (entry_key bits key to, record { length = to.length; count = one_more found.value.count; gone = found.value.gone }) (recounted found (one_more found.value.count))

-- what a request puts into the index, by the entry of its key that was found; None where it puts nothing
abbrev pub row_by : ℕ → Request → Option FoundEntry → Option Row
row_by bits (Set key to gone) found = Some (entry_key bits key to, record { length = to.length; count = count_behind found; gone = gone })
row_by bits (Swap key from to) found = option_map (swapped bits key from to) found
row_by bits (Drop key from) found = None
row_by bits (Less key) found = option_map (λ f. recounted f (one_less f.value.count)) found

-- the entry that was found, where another is put under another key
abbrev pub stale_by : Option FoundEntry → Option Row → Option Row
stale_by None put = None
stale_by (Some found) None = None
stale_by (Some found) (Some row) = cond (is_key found.at row.0) None (Some (found.at, found.value))

-- an entry that is put, where none stands under its key
abbrev pub fresh_by : Entries → Option Row → Option Row
fresh_by entries None = None
fresh_by entries (Some row) = cond (is_some (value_at entries row.0)) None (Some row)

-- an entry is put, where there is one, and all else stays
abbrev pub Puts : Option Row → Index → Index → Type 0
Puts None old new = new ≡ old
Puts (Some row) old new = Sets row.0 (Some row.1) old new

-- the stale entry is gone, where there is one, and all else stays
abbrev pub Drops : Option Row → Index → Index → Type 0
Drops None old new = new ≡ old
Drops (Some row) old new = Sets row.0 None old new

-- the entry that was found is in the index
abbrev pub IsHeld : Entries → Option FoundEntry → Type 0
IsHeld entries None = Unit {0}
IsHeld entries (Some found) = value_at entries found.at ≡ Some found.value

-- A request is told to the index, by the entry of its key that was found: what it puts is put, and what is to go on with
-- is what was put where nothing stood and what is stale now.
pub record Enters (request : Request) (found : Option FoundEntry) (entered : Entered) (old new : Index) : Type 0 where
  pub held : IsHeld old.entries found
  pub puts : Puts (row_by old.bits request found) old new
  pub fresh_is : entered.fresh ≡ fresh_by old.entries (row_by old.bits request found)
  pub stale_is : entered.stale ≡ stale_by found (row_by old.bits request found)

-- what a key has once an entry is put, where there is one
abbrev pub with_put : Option Row → IndexKey → Option IndexValue → Option IndexValue
with_put None at held = held
with_put (Some row) at held = cond (is_key row.0 at) (Some row.1) held

-- what a key has once an entry is taken out, where there is one
abbrev pub with_taken : Option Row → IndexKey → Option IndexValue → Option IndexValue
with_taken None at held = held
with_taken (Some row) at held = cond (is_key row.0 at) None held

-- the figures of the files, where the bytes of an entry became live
abbrev pub with_live : Option Row → List FileCount → List FileCount
with_live None rows = rows
with_live (Some row) rows = map (grown row.0.file row.1.length) rows

-- the figures of the files, where the bytes of an entry aren't live any more
abbrev pub with_dead : Option Row → List FileCount → List FileCount
with_dead None rows = rows
with_dead (Some row) rows = map (shrunk row.0.file row.1.length) rows

-- the table once a key's place is in the index: the key's seat is taken away where it has this place
pub record SettlesAt (key : List ℕ) (to : Place) (old new : Places) : Type 0 where
  pub settled : (gone : Bool) → place_of old key ≡ Some (to, gone) → Reseats old key None new
  pub kept : ((gone : Bool) → place_of old key ≡ Some (to, gone) → ⊥) → Stays old new

-- the same where a request puts its key, where it does
abbrev pub Settles : Request → Places → Places → Type 0
Settles (Set key to gone) old new = SettlesAt key to old new
Settles (Swap key from to) old new = SettlesAt key to old new
Settles (Drop key from) old new = new ≡ old
Settles (Less key) old new = new ≡ old
