-- Index steps until none waits.
use Rattle.std.proofs.Common.{◌≡◌, ◌⊎◌, inl, inr, ◌<◌, ◌==◌, Bool, true, false, IsTrue, List, [], ◌∷◌, length, refl, ◌∙◌, ap, arith}
use Rattle.std.specs.Prelude.{Result, Ok, Err, IsErrOf}
use Rattle.std.proofs.lemmas.Bool.Decides.{nat_tests}
use Rattle.cache_model.specs.declared.faults.StoreFault.{StoreFault}
use Rattle.cache_model.specs.declared.faults.StoreFault.TheVariants as fault
use Rattle.cache_model.specs.declared.replies.Turned.{Turned}
use Rattle.cache_model.specs.declared.replies.Turned.TheVariants.{Done, Idle}
use Rattle.cache_model.specs.Images.{log_name}
use Rattle.cache_disk.specs.State.{HostState, Stands}
use Rattle.cache_disk.specs.Calls.{HasStoreCause}
use Rattle.cache_disk.proofs.Runs.{Stands-same, Stands-trans}
use Rattle.append_log.specs.declared.log_files.LogFiles.{LogFiles}
use Rattle.append_log.specs.Current.{files_of, is_spoilt_log}
use Rattle.append_log.specs.Fetching.{with_spoilt}
use Rattle.temporary_table.specs.declared.requests.Request.{Request}
use Rattle.compactor.specs.declared.parts.Parts.{Parts}
use Rattle.compactor.specs.Counting.{Kept, AreThere, counts_in}
use Rattle.compactor.specs.Figuring.{AreFigured, sizes_of}
use Rattle.compactor.specs.Indexing.{AreIndexed, AreUsable}
use Rattle.compactor.specs.Stepping.{Empties, KeepsIndex, Pops, StepsIndex}
use Rattle.compactor.proofs.RowsSame.{there_alike}
use Rattle.compactor.proofs.Searching.{same_fault}

-- What some index steps left.
pub record Emptying (old new : Parts) (tells : Bool) (a b : HostState) : Type 0 where
  pub limit : new.requests.limit ≡ old.requests.limit
  pub bits : new.tree.bits ≡ old.tree.bits
  pub log : files_of new.log ≡ files_of old.log
  pub same_log : files_of new.log ≡ with_spoilt (files_of old.log) (is_spoilt_log (files_of new.log))
  pub usable : AreUsable new
  pub sizes : sizes_of new.stats.rows ≡ sizes_of old.stats.rows
  pub stands : IsTrue tells → Stands a b
  pub faults : b.disk_faults ≡ a.disk_faults
  pub says : b.say_faults ≡ a.say_faults
  pub keeps : IsTrue tells → (kept : Kept) → AreIndexed (counts_in kept) old → AreThere (counts_in kept) a.files → AreIndexed (counts_in kept) new
  pub figures : IsTrue tells → (kept : Kept) → AreIndexed (counts_in kept) old → AreThere (counts_in kept) a.files → AreFigured kept old → AreFigured kept new

pub emptying_none : (old : Parts) (tells : Bool) (a : HostState) → AreUsable old → Emptying old old tells a a
emptying_none old tells a usable = record {
  limit = refl;
  bits = refl;
  log = refl;
  same_log = refl;
  usable = usable;
  sizes = refl;
  stands = λ told. Stands-same a;
  faults = refl;
  says = refl;
  keeps = λ told kept is there. is;
  figures = λ told kept is there figured. figured;
}

module _ (old now next : Parts) (tells : Bool) (a b d : HostState) (before : Emptying old now tells a b) (stands : IsTrue tells → Stands b d) where
  -- what is there still is
  there_now : IsTrue tells → (kept : Kept) → AreThere (counts_in kept) a.files → AreThere (counts_in kept) b.files
  there_now told kept there = there_alike (counts_in kept) a.files b.files (λ n. (before.stands told).files (log_name n)) there

  stands_on : IsTrue tells → Stands a d
  stands_on told = Stands-trans a b d (before.stands told) (stands told)

  same_on : (result : Result Turned StoreFault) → StepsIndex now next result → files_of next.log ≡ with_spoilt (files_of old.log) (is_spoilt_log (files_of next.log))
  same_on result steps = steps.same_log ∙ ap (λ (l : LogFiles). with_spoilt l (is_spoilt_log (files_of next.log))) before.log

  -- one step more
  pub emptying_more : (turned : Turned) → StepsIndex now next (Ok turned) → HasStoreCause {T = Turned} b d (Ok turned)
      → (IsTrue tells → (kept : Kept) → AreIndexed (counts_in kept) now → AreThere (counts_in kept) b.files → KeepsIndex {R = Turned} (counts_in kept) next (Ok turned))
      → (IsTrue tells → (kept : Kept) → AreIndexed (counts_in kept) now → AreThere (counts_in kept) b.files → AreFigured kept now → next.spoilt ≡ false → AreFigured kept next)
      → Emptying old next tells a d
  emptying_more turned steps cause keeps figures = record {
    limit = steps.limit ∙ before.limit;
    bits = steps.bits ∙ before.bits;
    log = steps.log steps.unspoilt ∙ before.log;
    same_log = same_on (Ok turned) steps;
    usable = steps.usable steps.unspoilt;
    sizes = steps.sizes steps.unspoilt ∙ before.sizes;
    stands = stands_on;
    faults = cause.ok ∙ before.faults;
    says = cause.says ∙ before.says;
    keeps = λ told kept is there. (keeps told kept (before.keeps told kept is there) (there_now told kept there)).indexed steps.unspoilt;
    figures = λ told kept is there figured. figures told kept (before.keeps told kept is there) (there_now told kept there) (before.figures told kept is there figured) steps.unspoilt;
  }

  -- a step failed
  pub empties_refused : (f : StoreFault) → StepsIndex now next (Err f) → Empties old next (Err f)
  empties_refused f steps = record {
    limit = steps.limit ∙ before.limit;
    bits = steps.bits ∙ before.bits;
    emptied = tt;
    log = λ unspoilt. steps.log unspoilt ∙ before.log;
    same_log = same_on (Err f) steps;
    usable = steps.usable;
    unspoilt = tt;
    spoilt = by steps.spoilt;
    sizes = λ unspoilt. steps.sizes unspoilt ∙ before.sizes;
  }
    where
      by : (next.spoilt ≡ true) ⊎ IsErrOf {T = Turned} (Err f) fault.Memory → (next.spoilt ≡ true) ⊎ IsErrOf {T = Unit {0}} (Err f) fault.Memory
      by (inl spoilt) = inl spoilt
      by (inr memory) = inr (same_fault f fault.Memory memory)

  pub keeps_on : (f : StoreFault) → (IsTrue tells → (kept : Kept) → AreIndexed (counts_in kept) now → AreThere (counts_in kept) b.files → KeepsIndex {R = Turned} (counts_in kept) next (Err f))
      → IsTrue tells → (kept : Kept) → AreIndexed (counts_in kept) old → AreThere (counts_in kept) a.files → KeepsIndex {R = Unit {0}} (counts_in kept) next (Err f)
  keeps_on f keeps told kept is there =
      let kept_by = keeps told kept (before.keeps told kept is there) (there_now told kept there) in
      record { indexed = kept_by.indexed; undamaged = λ e err. kept_by.undamaged e (same_fault f (fault.Damaged e) err) }

  pub figures_on : (IsTrue tells → (kept : Kept) → AreIndexed (counts_in kept) now → AreThere (counts_in kept) b.files → AreFigured kept now → next.spoilt ≡ false → AreFigured kept next)
      → IsTrue tells → (kept : Kept) → AreIndexed (counts_in kept) old → AreThere (counts_in kept) a.files → AreFigured kept old → next.spoilt ≡ false → AreFigured kept next
  figures_on figures told kept is there figured unspoilt = figures told kept (before.keeps told kept is there) (there_now told kept there) (before.figures told kept is there figured) unspoilt

-- none waits any more
none_left : (waiting : List Request) → (length waiting == 0) ≡ true → waiting ≡ []
none_left [] none = refl
none_left (request ∷ waiting) none = absurd (let zero : length (request ∷ waiting) ≡ 0 = grind (arith, nat_tests) in omega (arith, zero))

pub empties_done : (old now : Parts) (tells : Bool) (a b : HostState) (done : Unit {0}) → Emptying old now tells a b → (length now.requests.waiting == 0) ≡ true → Empties old now (Ok done)
empties_done old now tells a b done before none = record {
  limit = before.limit;
  bits = before.bits;
  emptied = none_left now.requests.waiting none;
  log = λ unspoilt. before.log;
  same_log = before.same_log;
  usable = λ unspoilt. before.usable;
  unspoilt = before.usable.unspoilt;
  spoilt = tt;
  sizes = λ unspoilt. before.sizes;
}

-- where one waits, a step takes it
pub fewer_wait : (now next : Parts) (turned : Turned) → StepsIndex now next (Ok turned) → (length now.requests.waiting == 0) ≡ false → length next.requests.waiting < length now.requests.waiting
fewer_wait now next turned steps some = by turned steps.popped
  where
    by : (t : Turned) → Pops t now.requests.waiting next.requests.waiting → length next.requests.waiting < length now.requests.waiting
    by Done popped = omega (arith, ap (λ (l : List Request). length l) popped.1)
    by Idle none = let no : (length now.requests.waiting == 0) ≡ true = ap (λ (l : List Request). length l == 0) none.0 in cc
