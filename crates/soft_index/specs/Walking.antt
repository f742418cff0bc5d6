-- The visible keys of the newest records, in walk order.
use Rattle.std.specs.Prelude.{◌≡◌, ◌⊎◌, ℕ, true, List, Option, Some, None, IsSome, Result, IfOk, IsErrOf}
use Rattle.cache_model.specs.declared.faults.Damage.{Damage}
use Rattle.cache_model.specs.declared.faults.StoreFault.{StoreFault}
use Rattle.cache_model.specs.declared.faults.StoreFault.TheVariants as fault
use Rattle.cache_model.specs.Hash.{precedes, follows}
use Rattle.cache_model.specs.Images.{entry_by}
use Rattle.cache_model.specs.Items.{Item}
use Rattle.compactor.specs.Counting.{Counts, IsNewestBy}
use Rattle.store_trait.specs.Meaning.{seen}

-- A key's newest record puts an entry that is visible, and the key stands behind another in walk order, or behind none.
pub record IsShownBehind (counts : Counts) (bits moment : ℕ) (after : Option (List ℕ)) (key : List ℕ) : Type 0 where
  pub number : ℕ
  pub at : ℕ
  pub item : Item
  pub newest : IsNewestBy counts key number at item
  pub visible : IsSome (seen moment (Some (entry_by item)))
  pub behind : follows bits after key ≡ true

-- the first of these keys, None where there is none
abbrev pub IsNextShown : Counts → ℕ → ℕ → Option (List ℕ) → Option (List ℕ) → Type 0
IsNextShown counts bits moment after None = (other : List ℕ) → IsShownBehind counts bits moment after other → ⊥
IsNextShown counts bits moment after (Some key) =
    IsShownBehind counts bits moment after key × ((other : List ℕ) → IsShownBehind counts bits moment after other → (other ≡ key) ⊎ (precedes bits key other ≡ true))

-- What is told is that key, and nothing is found damaged where all records are there.
pub record ShowsNext (counts : Counts) (bits moment : ℕ) (after : Option (List ℕ)) (result : Result (Option (List ℕ)) StoreFault) : Type 0 where
  pub next : IfOk result (IsNextShown counts bits moment after)
  pub undamaged : (d : Damage) → IsErrOf result (fault.Damaged d) → ⊥
