-- Laws of a store with a compaction under way: it stands on while what the store holds grows.
use Rattle.std.proofs.Common.{◌≡◌, inl, inr, ℕ, true, false, List, [], ◌++◌, Option, Some, None, IsSome, refl, sym, ◌∙◌, ap, subst, arith}
use Rattle.std.specs.Prelude.{filter, unwrap_or}
use Rattle.cache_model.specs.Files.{Image, bytes_in, file_in}
use Rattle.cache_model.specs.Items.{Item, end}
use Rattle.cache_model.specs.DataFiles.{Frame, counted_items}
use Rattle.cache_model.specs.Images.{log_name}
use Rattle.cache_disk.specs.State.{HostState}
use Rattle.data_file.proofs.Frame.{placed_of}
use Rattle.data_file.specs.Scanning.{IsScanOf}
use Rattle.compactor.specs.Counting.{IsNewestBy}
use Rattle.compactor.specs.Passing.{IsSoundRest, records_left}
use Rattle.compactor.specs.Recounting.{is_record}
use Rattle.soft_index.specs.declared.log_store.LogStore.{LogStore}
use Rattle.soft_index.specs.declared.running.Run.{Run}
use Rattle.soft_index.specs.Growing.{GrowsTo, HasGrown}
use Rattle.soft_index.specs.Running.{HoldsRun, IsNeedless, RunStands, RunsOn}
use Rattle.store_trait.specs.Keeping.{Carries, HoldsNow, Leaves}
use Rattle.soft_index.specs.declared.compacting.CompactingStore.{CompactingStore}
use Rattle.soft_index.specs.Laws.{holds-there, log_carries, log_holds, stands_there}
use Rattle.soft_index.specs.Turns.{run_facts, run_means}
use Rattle.soft_index.specs.Store.{Holds, number, owns_file}

module _ (S T : LogStore) (before after : Image) (frames fs : List Frame) (records rs : List Item) (grows : GrowsTo S T before after frames fs records rs)
    (file : ℕ) (there : IsSome (file_in before (log_name file))) (closed : file ≡ number S → ⊥) where
  same : file_in after (log_name file) ≡ file_in before (log_name file)
  same = (grows.closed file closed there).1

  apart : file ≡ number T → ⊥
  apart = (grows.closed file closed there).0

  -- what counts in the file counted there
  back : (items more : List (ℕ × Item)) (at : ℕ) (item : Item) → Holds (number T) more after file at item → Holds (number S) items before file at item
  back items more at item (inl here) = absurd (apart here.0)
  back items more at item (inr other) = inr (closed, record { bytes = other.1.bytes; there = sym same ∙ other.1.there; counted = other.1.counted })

  -- what isn't a key's newest doesn't get it
  pub still_passed : (key : List ℕ) (at : ℕ) (item : Item)
      → (IsNewestBy (Holds (number S) (placed_of frames records) before) key file at item → ⊥) → IsNewestBy (Holds (number T) (placed_of fs rs) after) key file at item → ⊥
  still_passed key at item passed newest = passed (record {
    counted = back (placed_of frames records) (placed_of fs rs) at item newest.counted;
    of_key = newest.of_key;
    newest = λ n a other holds of_key. newest.newest n a other (grows.written n a other key holds of_key) of_key;
  })

  -- a file that could go still can
  pub still_needless : IsNeedless (Holds (number S) (placed_of frames []) before) file → IsNeedless (Holds (number T) (placed_of fs []) after) file
  still_needless is = record {
    outdone = λ key at item holds of_key.
        let was = is.outdone key at item (back (placed_of frames []) (placed_of fs []) at item holds) of_key in
        (was.0, was.1, was.2, grows.sealed was.0 was.1 was.2 was.3, was.4, was.5, was.6);
    stamped = is.stamped;
    at = is.at;
    moment = is.moment;
    stamp = grows.sealed is.stamped is.at (end is.moment) is.stamp;
    elsewhere = is.elsewhere;
    latest = λ a m holds. is.latest a m (back (placed_of frames []) (placed_of fs []) a (end m) holds);
  }

pub run_grows : (run : Run) (S T : LogStore) (before after : Image) (frames fs : List Frame) (records rs : List Item) → GrowsTo S T before after frames fs records rs → RunStands run S before frames records → RunStands run T after fs rs
run_grows run S T before after frames fs records rs grows is =
    let moved = grows.closed run.file is.closed is.there in
    let bytes : bytes_in after (log_name run.file) ≡ bytes_in before (log_name run.file) = ap (λ (f : Option (List ℕ)). unwrap_or f []) moved.1 in
    record {
      there = subst (λ (f : Option (List ℕ)). IsSome f) (sym moved.1) is.there;
      closed = moved.0;
      looked = is.looked;
      keys = is.keys;
      passed = λ key at item among. still_passed S T before after frames fs records rs grows run.file is.there is.closed key at item (is.passed key at item among);
      reads = λ unstamped.
          let was = is.reads unstamped in
          record {
            scans = subst (IsScanOf run.scan) (sym bytes) was.scans;
            rest = subst (IsSoundRest run.scan) (sym bytes) was.rest;
            records_are = subst (λ (l : List ℕ). filter (λ one. is_record one.1) (counted_items l) ≡ is.looked ++ records_left run.scan l) (sym bytes) was.records_are;
          };
      stamped = λ stamped.
          let was = is.stamped stamped in
          (subst (λ (l : List ℕ). filter (λ one. is_record one.1) (counted_items l) ≡ is.looked) (sym bytes) was.0, still_needless S T before after frames fs records rs grows run.file is.there is.closed was.1);
    }

pub runs_on : (run : Option Run) (S T : LogStore) (a b : HostState) (frames : List Frame) (records : List Item) → (grown : HasGrown S T a.files b frames records) → RunsOn run S a.files frames records → RunsOn run T b.files grown.fs grown.rs
runs_on None S T a b frames records grown is = tt
runs_on (Some run) S T a b frames records grown is = run_grows run S T a.files b.files frames grown.fs records grown.rs grown.grows is

-- files of others don't matter
module _ (store : CompactingStore) (a b : HostState) (leaves : Leaves owns_file true a b) where
  abbrev L : LogStore
  L = store.log

  same_files : (n : ℕ) → file_in b.files (log_name n) ≡ file_in a.files (log_name n)
  same_files n = leaves.files (log_name n) refl

  grows_there : (frames : List Frame) (records : List Item) → GrowsTo L L a.files b.files frames frames records records
  grows_there frames records = record {
    closed = λ n other there. (other, same_files n);
    written = λ n at item key holds of_key. holds-there (number L) (placed_of frames records) a.files b.files (λ m apart. same_files m) n at item holds;
    zero = λ none. same_files 0 ∙ none;
    later = omega arith;
    below = λ n less. same_files n;
    sealed = λ n at item holds. holds-there (number L) (placed_of frames []) a.files b.files (λ m apart. same_files m) n at item holds;
  }

  held_there : HoldsRun store.run store.log a → HoldsRun store.run store.log b
  held_there held = record {
    frames = held.frames;
    records = held.records;
    log = stands_there L a b held.frames held.records leaves held.log;
    runs = by store.run held.runs;
    zero = same_files 0 ∙ held.zero;
  }
    where
      by : (run : Option Run) → RunsOn run L a.files held.frames held.records → RunsOn run L b.files held.frames held.records
      by None is = tt
      by (Some run) is = run_grows run L L a.files b.files held.frames held.frames held.records held.records (grows_there held.frames held.records) is

  pub run_carries : Carries a.turn b.turn (run_means store a) (run_means store b)
  run_carries =
      let log = log_carries L a b leaves in
      record {
        stands = held_there;
        content = log.content;
        past = log.past;
        since = log.since;
        past_whole = log.past_whole;
        since_whole = log.since_whole;
        opened = log.opened;
        opens = log.opens;
        sound = log.sound;
        spent = log.spent;
        most = log.most;
        fetches = log.fetches;
      }

pub run_holds : (store : CompactingStore) (a : HostState) → store.log.parts.spoilt ≡ false → HoldsRun store.run store.log a → HoldsNow (run_facts store) (run_means store a) a.turn
run_holds store a sound held =
    let log = log_holds store.log a held.frames held.records sound held.log in
    record { each = log.each; whole = log.whole; fits = log.fits; opens = log.opens }
