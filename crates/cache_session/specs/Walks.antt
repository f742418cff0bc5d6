-- What walks over the visible keys do.
use Rattle.std.specs.Prelude.{◌≡◌, ℕ, ◌-◌, Bool, List, [], ◌∷◌, ◌++◌, length, slice_get, Option, Some, None, is_some, IsSome, Result, IfOk, OnOk}
use Rattle.cache_model.specs.declared.entries.Change.{Change}
use Rattle.cache_model.specs.declared.entries.Change.TheVariants.{Remove}
use Rattle.cache_model.specs.declared.faults.StoreFault.{StoreFault}
use Rattle.cache_disk.specs.State.{HostState}
use Rattle.store_trait.specs.Meaning.{read_in, seen, StoreFacts, StoreState}
use Rattle.store_trait.specs.Calls.{IsNextKey}
use Rattle.cache_session.specs.Turns.{Did, by_changes}

-- the removal of a key, where there is one
abbrev pub removal_of : Option (List ℕ) → List Change
removal_of None = []
removal_of (Some key) = Remove key ∷ []

-- The first visible key behind another was removed, and stands in its place.
pub record ClearedOne (after_old after_new : Option (List ℕ)) (f g : StoreFacts) (old new : StoreState) (before after : HostState) (moment : ℕ) (result : Result Bool StoreFault) : Type 0 where
  pub next : Option (List ℕ)
  pub did : Did by_changes f g g.spoilt old new before after moment (removal_of next) result
  pub visible : (key : List ℕ) → next ≡ Some key → IsSome (seen moment (read_in old.content key))
  pub first : OnOk result (IsNextKey f.bits moment old.content after_old next)
  pub more : IfOk result (λ more. more ≡ is_some next)
  pub stands_at : (key : List ℕ) → next ≡ Some key → OnOk result (after_new ≡ Some key)

-- The first visible key behind another stands in its place, and nothing was changed.
pub record WalkedOne (after_old after_new : Option (List ℕ)) (f g : StoreFacts) (old new : StoreState) (before after : HostState) (moment : ℕ) (result : Result Bool StoreFault) : Type 0 where
  pub next : Option (List ℕ)
  pub did : Did by_changes f g g.spoilt old new before after moment [] result
  pub first : OnOk result (IsNextKey f.bits moment old.content after_old next)
  pub more : IfOk result (λ more. more ≡ is_some next)
  pub stands_at : (key : List ℕ) → next ≡ Some key → OnOk result (after_new ≡ Some key)

-- the last key of a list
abbrev pub last_in : List (List ℕ) → Option (List ℕ)
last_in list = slice_get list (length list - 1)

-- a key as a list, where there is one
abbrev pub keys_in : Option (List ℕ) → List (List ℕ)
keys_in None = []
keys_in (Some key) = key ∷ []

-- The first visible key behind the last of a list was added to it, and nothing was changed.
pub record ListedOne (list_old list_new : List (List ℕ)) (f g : StoreFacts) (old new : StoreState) (before after : HostState) (moment : ℕ) (result : Result Bool StoreFault) : Type 0 where
  pub next : Option (List ℕ)
  pub did : Did by_changes f g g.spoilt old new before after moment [] result
  pub first : OnOk result (IsNextKey f.bits moment old.content (last_in list_old) next)
  pub more : IfOk result (λ more. more ≡ is_some next)
  pub added : OnOk result (list_new ≡ list_old ++ keys_in next)
