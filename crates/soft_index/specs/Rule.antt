-- The rule that says which keys may be forgotten.
use Rattle.std.specs.Prelude.{◌≡◌, ℕ, Bool, true, false, List}
use Rattle.std.specs.Fn.{Shared, FnReturnsAt}
use denote.Ref.{Bor}
use Rattle.cache_model.specs.declared.entries.Answer.{Answer}
use Rattle.cache_model.specs.declared.entries.Answer.TheVariants.{Known, Gone, Unknown}
use Rattle.store_trait.specs.Meaning.{StoreFacts, StoreState}
use Rattle.store_trait.specs.Keeping.{HoldsNow}

module _ {F : Type 0} (g : Shared F (Bor (List ℕ) × Unit {0}) Bool) (rule : F) where
  -- it answers equal keys alike
  abbrev pub AnswersAlike : Type 0
  AnswersAlike = (key : List ℕ) (one other : Bool) → FnReturnsAt g rule key one → FnReturnsAt g rule key other → one ≡ other

  -- it allows that a key is forgotten
  abbrev pub Allows : List ℕ → Type 0
  Allows key = FnReturnsAt g rule key true

  -- it keeps a key
  abbrev pub Keeps : List ℕ → Type 0
  Keeps key = FnReturnsAt g rule key false

  -- What is answered of a key that isn't visible: Gone where the rule keeps it, Unknown where it allows it.
  abbrev pub IsRuled : List ℕ → Answer → Answer → Type 0
  IsRuled key (Known entry) given = given ≡ Known entry
  IsRuled key Unknown given = given ≡ Unknown
  IsRuled key Gone Gone = Keeps key
  IsRuled key Gone Unknown = Allows key
  IsRuled key Gone (Known entry) = ⊥

-- the facts of a store, with a rule that says which keys may be forgotten
abbrev pub ruled : StoreFacts → Type 0 → (List ℕ → Type 0) → StoreFacts
ruled facts usable forgets = record facts { usable = usable; forgets = forgets }

-- what holds of it between two calls
pub holds_ruled : (f : StoreFacts) (u : Type 0) (forgets : List ℕ → Type 0) (state : StoreState) (turn : ℕ) → HoldsNow f state turn → HoldsNow (ruled f u forgets) state turn
holds_ruled f u forgets state turn holds = record { each = holds.each; whole = holds.whole; fits = holds.fits; opens = holds.opens }
