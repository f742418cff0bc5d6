-- What a record that is taken keeps, whatever the disk holds.
use Rattle.std.proofs.Common.{◌≡◌, ⊎_elim, Bool, true, false, ℕ, List, [], Option, Some, None, map, sym, ap, subst, ◌∙◌}
use Rattle.std.specs.Prelude.{MatchBool, nat_le}
use Rattle.std.specs.List.Sorted.{IsStrictlySortedBy}
use Rattle.cache_model.specs.declared.files.FileCount.{FileCount}
use Rattle.cache_model.specs.declared.index.IndexKey.{IndexKey}
use Rattle.cache_model.specs.declared.index.IndexValue.{IndexValue}
use Rattle.tree_index.specs.Index.{Index, Sets, value_at}
use Rattle.rebuild.specs.Listing.{IsNumber}
use Rattle.rebuild.specs.Rebuilt.{IsInOrder}
use Rattle.rebuild.specs.Rows.{grown, numbers_of, shrunk}
use Rattle.rebuild.specs.Reading.{IsEntry, Keeps, Raises, Replaces}
use Rattle.rebuild.specs.declared.newest.Held.{Held}
use Rattle.rebuild.specs.declared.newest.Record.{Record}
use Rattle.rebuild.proofs.Lookups.{cases-key, other-key}
use Rattle.rebuild.proofs.RowLemmas.{grown-change, numbers-map, shrunk-change}

-- an index where one key was set
sets-in-order : (bits : ℕ) (key : IndexKey) (value : Option IndexValue) (old new : Index) → ((v : IndexValue) → value ≡ Some v → IsNumber key.file) → Sets key value old new → IsInOrder bits old → IsInOrder bits new
sets-in-order bits key value old new number sets before = record {
  bits_are = sets.bits ∙ before.bits_are;
  ordered = sets.ordered;
  numbered = λ place v held.
      ⊎_elim
      (λ (same : key ≡ place). subst (λ (p : IndexKey). IsNumber p.file) same (number v (sym sets.here ∙ ap (λ p. value_at new.entries p) same ∙ held)))
      (λ differs. before.numbered place v (sym (other-key key value old new place sets differs.0) ∙ held))
      (cases-key key place);
}

-- an index without entries
pub none-in-order : (bits : ℕ) (tree : Index) → tree.bits ≡ bits → tree.entries ≡ [] → IsInOrder bits tree
unfolding IsStrictlySortedBy
none-in-order bits tree fits none = record {
  bits_are = fits;
  ordered = rw none tt;
  numbered = λ place v held. let no : None ≡ Some v = sym (ap (λ es. value_at es place) none) ∙ held in cc;
}

pub keeps-in-order : (bits hash : ℕ) (held : Option Held) (one : Record) (old new : Index) (before after : List FileCount) → IsNumber one.place.file → IsEntry old.entries held → IsInOrder bits old → Keeps held hash one old new before after → IsInOrder bits new
keeps-in-order bits hash None one old new before after number entry order begins = sets-in-order bits _ _ old new (λ v is. number) begins.index order
keeps-in-order bits hash (Some held) one old new before after number entry order keeps = by (nat_le held.seq one.seq) keeps
  where
    by : (b : Bool) → MatchBool b (Replaces held hash one old new before after) (Raises held old new before after) → IsInOrder bits new
    by true replaces = sets-in-order bits held.place None replaces.between new (λ v is. cc) replaces.takes (sets-in-order bits _ _ old replaces.between (λ v is. number) replaces.puts order)
    by false raises = sets-in-order bits held.place _ old new (λ v is. order.numbered held.place held.value entry) raises.index order

-- each file keeps its row
pub keeps-numbers : (hash : ℕ) (held : Option Held) (one : Record) (old new : Index) (before after : List FileCount) → Keeps held hash one old new before after → numbers_of after ≡ numbers_of before
keeps-numbers hash None one old new before after begins = ap numbers_of begins.rows ∙ numbers-map one.place.file (grown one.place.file one.place.length) (grown-change one.place.file one.place.length) before
keeps-numbers hash (Some held) one old new before after keeps = by (nat_le held.seq one.seq) keeps
  where
    by : (b : Bool) → MatchBool b (Replaces held hash one old new before after) (Raises held old new before after) → numbers_of after ≡ numbers_of before
    by true replaces =
        ap numbers_of replaces.rows
        ∙ numbers-map held.place.file (shrunk held.place.file held.value.length) (shrunk-change held.place.file held.value.length) (map (grown one.place.file one.place.length) before)
        ∙ numbers-map one.place.file (grown one.place.file one.place.length) (grown-change one.place.file one.place.length) before
    by false raises = ap numbers_of raises.rows
