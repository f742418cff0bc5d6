-- What a crash leaves while a deletion is pending.
use Rattle.std.proofs.Common.{◌≡◌, inl, inr, ⊎_elim, ℕ, Bool, true, false, List, Option, refl, sym, ◌∙◌}
use Rattle.cache_model.specs.declared.entries.Entry.{Entry}
use Rattle.cache_model.specs.Files.{Image, file_in, is_name}
use Rattle.cache_model.specs.Items.{Item, end}
use Rattle.cache_model.specs.Images.{log_name, IsCounted, HasEntry, IsMark}
use Rattle.cache_model.proofs.Names.{file_in-same}
use Rattle.cache_disk.specs.State.{HostState, Moves, SameFiles}
use Rattle.cache_disk.specs.Calls.{Unmakes, AllLeft}
use Rattle.cache_disk.proofs.Runs.{goes_on}
use Rattle.dropping.specs.Going.{IsReading, MayGo, AreAlike}
use Rattle.dropping.proofs.Without.{alike_without}

-- the same files count the same
module _ (one other : Image) (same : SameFiles one other) where
  counted : (n a : ℕ) (item : Item) → IsCounted one n a item → IsCounted other n a item
  counted n a item is = record { bytes = is.bytes; there = same (log_name n) ∙ is.there; counted = is.counted }

  back : (n a : ℕ) (item : Item) → IsCounted other n a item → IsCounted one n a item
  back n a item is = record { bytes = is.bytes; there = sym (same (log_name n)) ∙ is.there; counted = is.counted }

  entry_same : (key : List ℕ) (entry : Option Entry) → HasEntry one key entry → HasEntry other key entry
  entry_same key entry (inl none) = inl (λ n a item is of_key. none.0 n a item (back n a item is) of_key, none.1)
  entry_same key entry (inr some) = inr (
    some.0,
    some.1,
    some.2,
    record {
      counted = counted some.0 some.1 some.2 some.3.counted;
      of_key = some.3.of_key;
      newest = λ m b item is of_key. some.3.newest m b item (back m b item is) of_key;
    },
    some.4,
  )

  reading_same : (key : List ℕ) (moment : ℕ) (reading : Option Entry) → IsReading one key moment reading → IsReading other key moment reading
  reading_same key moment reading is = record { entry = is.entry; has = entry_same key is.entry is.has; shown = is.shown }

  mark_same : (mark : ℕ) → IsMark one mark → IsMark other mark
  mark_same mark is = record {
    bound = λ n a m stands. is.bound n a m (back n a (end m) stands);
    reached = ⊎_elim (λ zero. inl zero) (λ some. inr (some.0, some.1, counted some.0 some.1 (end mark) some.2)) is.reached;
  }

alike_same : (one other : Image) → SameFiles one other → AreAlike one other
alike_same one other same =
    let turned : SameFiles other one = λ name. sym (same name) in
    record {
      marks = λ mark. (mark_same one other same mark, mark_same other one turned mark);
      readings = λ mark is key moment reading le. (reading_same one other same key moment reading, reading_same other one turned key moment reading);
    }

-- a pending deletion leaves all files, or all but this one
pub pending : (image left : Image) (number : ℕ) → MayGo image number → Unmakes (log_name number) image left → AreAlike image left
pending image left number may unmakes = ⊎_elim
    (λ kept. alike_same image left (all_files kept))
    (λ gone. alike_without image left number (record { gone = gone; others = unmakes.others }) may)
    unmakes.unmade
  where
    all_files : file_in left (log_name number) ≡ file_in image (log_name number) → SameFiles image left
    all_files kept name = by_test (is_name (log_name number) name) refl
      where
        by_test : (b : Bool) → is_name (log_name number) name ≡ b → file_in left name ≡ file_in image name
        by_test true it = sym (file_in-same left (log_name number) name it) ∙ kept ∙ file_in-same image (log_name number) name it
        by_test false other = unmakes.others name other

-- and so it is through the sync of the names
pub since_both : (old mid new : HostState) (number : ℕ) → AllLeft old (λ image. MayGo image number) → Moves old mid (Unmakes (log_name number)) → Moves mid new SameFiles → Moves old new AreAlike
since_both old mid new number may deletes syncs =
    goes_on old mid new (Unmakes (log_name number)) SameFiles AreAlike deletes syncs
    (λ image left there unmakes. pending image left number (may image there) unmakes)
    (λ image between left there unmakes also same. pending image left number (may image there) (record {
      others = λ name other. same name ∙ unmakes.others name other;
      unmade = ⊎_elim (λ is. inl (same (log_name number) ∙ is)) (λ none. inr (same (log_name number) ∙ none)) unmakes.unmade;
    }))
    (λ image left there also same. alike_same image left same)
