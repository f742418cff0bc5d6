-- Several looks at the parts: they look as before, and stand for the same records.
use Rattle.std.proofs.Common.{◌≡◌, ⊎_elim, inl, inr, ℕ, List, [], drop, Option, Some, None, refl, sym, ◌∙◌, ap, subst}
use Rattle.std.specs.Prelude.{Result, Ok, Err, IsErrOf, option_map, unwrap_or}
use Rattle.std.specs.Option.{option_or, option_copied}
use Rattle.std.specs.Borrow.{Bor}
use Rattle.cache_model.specs.declared.faults.StoreFault.{StoreFault}
use Rattle.cache_model.specs.declared.faults.StoreFault.TheVariants as fault
use Rattle.cache_model.specs.Files.{Image}
use Rattle.cache_model.specs.Images.{log_name}
use Rattle.cache_model.specs.Items.{front}
use Rattle.cache_disk.specs.State.{HostState, SameFiles, Stands}
use Rattle.record_format.specs.declared.items.OwnItem.{OwnItem}
use Rattle.append_log.specs.declared.log_files.LogFiles.{LogFiles}
use Rattle.append_log.specs.Current.{files_of, is_spoilt_log}
use Rattle.append_log.specs.Fetching.{with_spoilt}
use Rattle.temporary_table.specs.Places.{Places}
use Rattle.temporary_table.specs.Queue.{Queue}
use Rattle.tree_index.specs.Index.{Index}
use Rattle.compactor.specs.declared.parts.Parts.{Parts}
use Rattle.compactor.specs.Counting.{Counts, AreThere}
use Rattle.compactor.specs.Indexing.{AreIndexed, AreUsable, IsIndexed}
use Rattle.compactor.specs.Looking.{IsNextRecord, Looks, Walks}

-- The parts look as before, and may be used.
pub record LooksSame (old new : Parts) : Type 0 where
  pub tree : new.tree ≡ old.tree
  pub table : new.table ≡ old.table
  pub requests : new.requests ≡ old.requests
  pub stats : new.stats ≡ old.stats
  pub log : files_of new.log ≡ files_of old.log
  pub usable : AreUsable new

pub looks_first : (old : Parts) → AreUsable old → LooksSame old old
looks_first old usable = record { tree = refl; table = refl; requests = refl; stats = refl; log = refl; usable = usable }

module _ (old mid : Parts) (same : LooksSame old mid) where
  -- one look more
  pub looks_on : {R : Type 0} (new : Parts) (x : R) → Looks mid new (Ok x) → LooksSame old new
  looks_on new x looks = record {
    tree = looks.tree ∙ same.tree;
    table = looks.table ∙ same.table;
    requests = looks.requests ∙ same.requests;
    stats = looks.stats ∙ same.stats;
    log = looks.log looks.unspoilt ∙ same.log;
    usable = looks.usable looks.unspoilt;
  }

  looks_log : {R : Type 0} (new : Parts) (result : Result R StoreFault) → Looks mid new result → files_of new.log ≡ with_spoilt (files_of old.log) (is_spoilt_log (files_of new.log))
  looks_log new result looks = looks.same_log ∙ ap (λ (f : LogFiles). with_spoilt f (is_spoilt_log (files_of new.log))) same.log

  -- the last look
  pub looks_ok : {Q R : Type 0} (new : Parts) (x : Q) (y : R) → Looks mid new (Ok x) → Looks old new (Ok y)
  looks_ok new x y looks = record {
    tree = looks.tree ∙ same.tree;
    table = looks.table ∙ same.table;
    requests = looks.requests ∙ same.requests;
    stats = looks.stats ∙ same.stats;
    log = λ unspoilt. looks.log unspoilt ∙ same.log;
    same_log = looks_log new (Ok x) looks;
    usable = looks.usable;
    unspoilt = looks.unspoilt;
    spoilt = tt;
  }

  pub looks_err : {Q R : Type 0} (new : Parts) (f : StoreFault) → Looks {R = Q} mid new (Err f) → Looks {R = R} old new (Err f)
  looks_err {Q} {R} new f looks = record {
    tree = looks.tree ∙ same.tree;
    table = looks.table ∙ same.table;
    requests = looks.requests ∙ same.requests;
    stats = looks.stats ∙ same.stats;
    log = λ unspoilt. looks.log unspoilt ∙ same.log;
    same_log = looks_log new (Err f) looks;
    usable = looks.usable;
    unspoilt = tt;
    spoilt = ⊎_elim (λ spoilt. inl spoilt) (λ memory. inr (err_same f fault.Memory memory)) looks.spoilt;
  }
    where
      err_same : (f d : StoreFault) → IsErrOf {T = Q} (Err f) d → IsErrOf {T = R} (Err f) d
      err_same f d is = cc

  -- none, where memory was wanting
  pub looks_stop : {R : Type 0} → Looks {R = R} old mid (Err fault.Memory)
  looks_stop = record {
    tree = same.tree;
    table = same.table;
    requests = same.requests;
    stats = same.stats;
    log = λ unspoilt. same.log;
    same_log = ap (λ (f : LogFiles). with_spoilt f (is_spoilt_log (files_of mid.log))) same.log;
    usable = λ unspoilt. same.usable;
    unspoilt = tt;
    spoilt = inr refl;
  }

  -- the parts stand for the same records
  pub indexed_still : (counts : Counts) → AreIndexed counts old → AreIndexed counts mid
  indexed_still counts indexed =
      subst (λ (r : Queue). IsIndexed counts mid.table mid.tree r.waiting) (sym same.requests)
      (subst (λ (i : Index). IsIndexed counts mid.table i old.requests.waiting) (sym same.tree)
      (subst (λ (p : Places). IsIndexed counts p old.tree old.requests.waiting) (sym same.table) indexed))

-- records are where they were, in files that read the same
pub there_still : (counts : Counts) (a b : Image) → SameFiles a b → AreThere counts a → AreThere counts b
there_still counts a b same there = record {
  is_item = there.is_item;
  there = λ n at item key counted of_key. ap (λ (file : Option (List ℕ)). front (drop at (unwrap_or file []))) (same (log_name n)) ∙ there.there n at item key counted of_key;
}

-- where the next look begins
pub from_is : (from shown after : Option (Bor (List ℕ))) (last : Option (List ℕ)) → from ≡ option_or shown after → option_copied shown ≡ last → option_map (λ key. key.now) from ≡ option_or last (option_map (λ key. key.now) after)
from_is from shown after last is value = ap (λ (o : Option (Bor (List ℕ))). option_map (λ key. key.now) o) is ∙ both shown ∙ ap (λ (o : Option (List ℕ)). option_or o (option_map (λ key. key.now) after)) value
  where
    both : (o : Option (Bor (List ℕ))) → option_map (λ key. key.now) (option_or o after) ≡ option_or (option_copied o) (option_map (λ key. key.now) after)
    both None = refl
    both (Some key) = refl

-- What the next look tells, as it stands for the parts and the files when the walk began.
module _ (old mid : Parts) (a b : HostState) (counts : Counts) (from shown after : Option (Bor (List ℕ))) (last : Option (List ℕ))
    (same : LooksSame old mid)
    (stands : Stands a b)
    (indexed : AreIndexed counts old)
    (there : AreThere counts a.files)
    (is : from ≡ option_or shown after)
    (value : option_copied shown ≡ last) where
  pub walks_told : (result : Result (Option (List ℕ × OwnItem)) StoreFault) → (AreIndexed counts mid → AreThere counts b.files → Walks counts mid.tree.bits (option_map (λ key. key.now) from) result)
      → Walks counts old.tree.bits (option_or last (option_map (λ key. key.now) after)) result
  walks_told result walks =
      subst (λ (o : Option (List ℕ)). Walks counts old.tree.bits o result) (from_is from shown after last is value)
      (subst (λ (i : Index). Walks counts i.bits (option_map (λ key. key.now) from) result) same.tree
      (walks (indexed_still old mid same counts indexed) (there_still counts a.files b.files stands.files there)))

  pub next_told : (found next : Option (List ℕ × OwnItem)) → found ≡ next → (AreIndexed counts mid → AreThere counts b.files → Walks counts mid.tree.bits (option_map (λ key. key.now) from) (Ok found))
      → IsNextRecord counts old.tree.bits (option_or last (option_map (λ key. key.now) after)) next
  next_told found next found_is walks = subst (λ (o : Option (List ℕ × OwnItem)). IsNextRecord counts old.tree.bits (option_or last (option_map (λ key. key.now) after)) o) found_is (walks_told (Ok found) walks).next
