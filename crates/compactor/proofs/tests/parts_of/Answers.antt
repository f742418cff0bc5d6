use Rattle.std.proofs.Common.{◌≡◌, ◌≤◌, Bool, ℕ, List, [], Option, Some, None, refl, sym, ◌∙◌, subst, length, arith}
use Rattle.std.specs.Prelude.{All}
use Rattle.std.specs.List.Sorted.{IsStrictlySortedBy}
use Rattle.cache_model.specs.declared.files.Place.{Place}
use Rattle.cache_model.specs.declared.index.IndexKey.{IndexKey}
use Rattle.cache_model.specs.declared.index.IndexValue.{IndexValue}
use Rattle.temporary_table.specs.declared.requests.Request.{Request}
use Rattle.temporary_table.specs.Places.{Places, place_of}
use Rattle.tree_index.specs.Index.{Entries, value_at, AreOrdered}
use Rattle.compactor.specs.Counting.{IsFileNumber}
use Rattle.compactor.specs.Indexing.{IsPutToFile}
use Rattle.compactor.proofs.tests.parts_of.Goals as goal

none_ordered : AreOrdered []
unfolding IsStrictlySortedBy
none_ordered = tt

-- an index without entries has nothing under a key
none_indexed : (entries : Entries) → entries ≡ [] → (at : IndexKey) (value : IndexValue) → value_at entries at ≡ Some value → IsFileNumber at.file
none_indexed entries empty at value there = let no : None ≡ Some value = sym (subst (λ (l : Entries). value_at l at ≡ None) (sym empty) refl) ∙ there in cc

-- a table without seats has no place of a key
none_placed : (places : Places) → places.seats ≡ [] → (key : List ℕ) (place : Place) (gone : Bool) → place_of places key ≡ Some (place, gone) → IsFileNumber place.file
none_placed places empty key place gone there =
    let pair : Place × Bool = (place, gone) in
    let no : None ≡ Some pair = sym (subst (λ (l : List (List ℕ × Option (Place × Bool))). place_of (record { bits = places.bits; seats = l }) key ≡ None) (sym empty) refl) ∙ there in
    cc

none_requested : All IsPutToFile []
none_requested k d below = absurd (omega (arith, below))

pub returns : goal.returns
returns c = record {
  usable = record {
    unspoilt = refl;
    log = c.in_ok-start.ensures.new.usable;
    main = c.in_ok-start.ensures.new.store_is;
    bits = subst (λ (n : ℕ). n ≤ 32) (sym c.in_ok-make.ensures.bits) c.requires.bits;
    same_bits = c.ordered_by.ensures.bits ∙ sym c.in_ok-make.ensures.bits;
    some = subst (λ (n : ℕ). 1 ≤ n) (sym c.in_ok-new.ensures.limit) c.requires.queue;
    within = subst (λ (l : List Request). length l ≤ c.in_ok-new.field-0.limit) (sym c.in_ok-new.ensures.empty) (omega arith);
    ordered = subst (λ (l : Entries). AreOrdered l) (sym c.in_ok-make.ensures.empty) none_ordered;
    indexed = none_indexed c.in_ok-make.field-0.entries c.in_ok-make.ensures.empty;
    placed = none_placed c.ordered_by.result c.ordered_by.ensures.empty;
    requested = subst (λ (l : List Request). All IsPutToFile l) (sym c.in_ok-new.ensures.empty) none_requested;
  };
}
