-- How many records of a key the index counts, and how a request moves that.
use Rattle.std.specs.Prelude.{◌≡◌, ◌⊎◌, ℕ, List, ◌∷◌, Some, if◌then◌else◌}
use Rattle.cache_model.specs.declared.index.IndexKey.{IndexKey}
use Rattle.cache_model.specs.declared.index.IndexValue.{IndexValue}
use Rattle.temporary_table.specs.declared.requests.Request.{Request}
use Rattle.temporary_table.specs.Queue.{raises, lowers}
use Rattle.tree_index.specs.Index.{Index, value_at}
use Rattle.compactor.specs.declared.parts.Parts.{Parts}
use Rattle.compactor.specs.Counting.{Counts}
use Rattle.compactor.specs.Entering.{one_less, one_more}
use Rattle.compactor.specs.Indexing.{IsEntryOf}

-- an entry of a key with this count
pub record HasEntryWith (counts : Counts) (index : Index) (key : List ℕ) (count : ℕ) : Type 0 where
  pub at : IndexKey
  pub value : IndexValue
  pub there : value_at index.entries at ≡ Some value
  pub entry : IsEntryOf counts index.bits key at value
  pub count_is : value.count ≡ count

-- no entry is a key's
abbrev pub HasNoEntry : Counts → Index → List ℕ → Type 0
HasNoEntry counts index key = (at : IndexKey) (value : IndexValue) → value_at index.entries at ≡ Some value → IsEntryOf counts index.bits key at value → ⊥

-- how many records of a key the index counts: what its entry says, and 0 where it has none
abbrev pub HasCount : Counts → Index → List ℕ → ℕ → Type 0
HasCount counts index key count = HasEntryWith counts index key count ⊎ (HasNoEntry counts index key × (count ≡ 0))

-- the count of a key once a request is applied: one more by a Set or a Swap of the key, and one less, but 1 at the least,
-- by a Less of it
abbrev pub raised : Request → List ℕ → ℕ → ℕ
raised request key count = if raises key request then one_more count else if lowers key request then one_less count else count

-- The oldest request moved the count of its key by one, and left those of all other keys.
abbrev pub Raises : Counts → Parts → Parts → Type 0
Raises counts old new = (request : Request) (waiting : List Request) → old.requests.waiting ≡ request ∷ waiting
    → (key : List ℕ) (count : ℕ) → HasCount counts old.tree key count → HasCount counts new.tree key (raised request key count)
