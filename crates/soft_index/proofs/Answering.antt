-- What a store answers by the newest records that its parts tell of.
use Rattle.std.proofs.Common.{◌≡◌, inl, inr, ℕ, ◌+◌, ◌≤◌, Bool, true, false, List, Option, Some, None, IsSome, refl, sym, ap, subst, arith}
use Rattle.std.specs.Prelude.{Result, Ok, Err, IsErrOf, option_map, length, if◌then◌else◌}
use Rattle.cache_model.specs.declared.entries.Answer.{Answer}
use Rattle.cache_model.specs.declared.entries.Answer.TheVariants.{Known, Gone, Unknown}
use Rattle.cache_model.specs.declared.entries.Entry.{Entry}
use Rattle.cache_model.specs.declared.faults.StoreFault.{StoreFault}
use Rattle.cache_model.specs.declared.faults.StoreFault.TheVariants as fault
use Rattle.cache_model.specs.declared.faults.Damage.{Damage}
use Rattle.cache_model.specs.declared.faults.Spent.{Spent}
use Rattle.cache_model.specs.Items.{Item, put, removal, end, spelling}
use Rattle.cache_model.specs.DataFiles.{Frame}
use Rattle.cache_model.specs.Plain.{is_visible}
use Rattle.cache_model.specs.Images.{entry_by, key_of, log_name}
use Rattle.cache_model.proofs.Spelled.{length-spelling}
use Rattle.cache_disk.specs.State.{HostState, Rose}
use Rattle.cache_disk.specs.State as disk
use Rattle.cache_disk.proofs.Runs.{Stands-moves, Stands-silent}
use Rattle.file_stats.specs.Figures.{Figures}
use Rattle.record_format.specs.declared.items.OwnItem.{OwnItem}
use Rattle.record_format.specs.Meaning.{own_item}
use Rattle.data_file.proofs.Frame.{placed_of}
use Rattle.temporary_table.specs.Queue.{Queue}
use Rattle.compactor.specs.Counting.{Counts, AreThere, HasReading}
use Rattle.compactor.specs.Looking.{Finds, IsNewestOr, Looks, look_bytes, record_bytes}
use Rattle.compactor.proofs.Rows.{reading_once}
use Rattle.store_trait.specs.Meaning.{Reading, read_in, seen}
use Rattle.store_trait.specs.Keeping.{SameContent}
use Rattle.store_trait.specs.Calls.{Acts, IsAhead, IsAnswer, IsNextKey, Loaded, Walked, known_bytes}
use Rattle.soft_index.specs.declared.log_store.LogStore.{LogStore}
use Rattle.soft_index.specs.Store.{Holds, LogStands, content_of, log_facts, log_means, number}
use Rattle.soft_index.specs.Walking.{IsNextShown, IsShownBehind, ShowsNext}
use Rattle.soft_index.proofs.Changes.{as_was, parts_content, same_rows, still_leaves, still_stands}
use Rattle.soft_index.specs.Growing.{Grows}
use Rattle.soft_index.proofs.Growing.{grows_as_was}
use Rattle.soft_index.proofs.Images.{call_acts}
use Rattle.soft_index.proofs.There.{there_by}

-- what is answered, and how many bytes it has

-- the reading of a key by its newest record
abbrev pub reading_by : Option OwnItem → Reading
reading_by found = option_map (λ item. entry_by (own_item item)) found

newest_reading : (counts : Counts) (key : List ℕ) (found : Option OwnItem) → IsNewestOr counts key found → HasReading counts key (reading_by found)
newest_reading counts key None none = inl (none, refl)
newest_reading counts key (Some item) newest = inr (newest.0, newest.1, own_item item, newest.2, refl)

-- An entry that is answered has no more bytes than the record that puts it.
known_within : (key : List ℕ) (moment : ℕ) (item : Item) (answer : Answer) → key_of item ≡ Some key → IsAnswer ⊥ moment (Some (entry_by item)) answer → known_bytes key answer ≤ length (spelling item)
known_within key moment (put seq until named value) (Known entry) own seen_is = by (is_visible until moment) refl seen_is
  where
    by : (b : Bool) → is_visible until moment ≡ b → (if b then Some (record { value = value; until = until }) else None) ≡ Some entry → length key + length entry.value ≤ length (spelling (put seq until named value))
    by false hidden given = let no : None ≡ Some entry = given in cc
    by true visible given =
        let same : named ≡ key = cc in
        let value_is : value ≡ entry.value = let one : record { value = value; until = until } ≡ entry = cc in ap (λ (e : Entry). e.value) one in
        omega (arith, length-spelling (put seq until named value), ap (λ (l : List ℕ). length l) same, ap (λ (l : List ℕ). length l) value_is)
known_within key moment (removal seq named) (Known entry) own seen_is = let no : None ≡ Some entry = seen_is in cc
known_within key moment (end m) (Known entry) own seen_is = let no : None ≡ Some key = own in cc
known_within key moment item Gone own is = omega arith
known_within key moment item Unknown own is = omega arith

answer_within : (counts : Counts) (key : List ℕ) (moment : ℕ) (found : Option OwnItem) (answer : Answer) → IsNewestOr counts key found → IsAnswer ⊥ moment (reading_by found) answer → known_bytes key answer ≤ record_bytes found
answer_within counts key moment None (Known entry) none is = let no : None ≡ Some entry = is in cc
answer_within counts key moment None Gone none is = omega arith
answer_within counts key moment None Unknown none is = omega arith
answer_within counts key moment (Some item) answer newest is = known_within key moment (own_item item) answer newest.2.of_key is

-- what counts for a store
abbrev pub counts_of : LogStore → HostState → List Frame → List Item → Counts
counts_of S a frames records = Holds (number S) (placed_of frames records) a.files

module _ (S : LogStore) (a : HostState) (frames : List Frame) (records : List Item) (stands : LogStands S a frames records) where
  pub counts_there : AreThere (counts_of S a frames records) a.files
  counts_there = there_by S a frames records stands.log stands.named

  -- its content has this reading of a key
  reading_is : (key : List ℕ) (reading : Reading) → HasReading (counts_of S a frames records) key reading → read_in (content_of S a.files) key ≡ reading
  reading_is key reading has = reading_once (counts_of S a frames records) a.files key (read_in (content_of S a.files) key) reading counts_there (stands.content key) has

  module _ (bits moment : ℕ) (after : Option (List ℕ)) where
    -- a key that is shown is visible in the content,
    shown_ahead : (key : List ℕ) → IsShownBehind (counts_of S a frames records) bits moment after key → IsAhead bits moment (content_of S a.files) after key
    shown_ahead key shown = record {
      visible = subst (λ (r : Reading). IsSome (seen moment r)) (sym (reading_is key (Some (entry_by shown.item)) (inr (shown.number, shown.at, shown.item, shown.newest, refl)))) shown.visible;
      behind = shown.behind;
    }

    -- and the other way round,
    ahead_shown : (key : List ℕ) → IsAhead bits moment (content_of S a.files) after key → IsShownBehind (counts_of S a frames records) bits moment after key
    ahead_shown key ahead = by (read_in (content_of S a.files) key) (stands.content key) ahead.visible
      where
        by : (reading : Reading) → HasReading (counts_of S a frames records) key reading → IsSome (seen moment reading) → IsShownBehind (counts_of S a frames records) bits moment after key
        by reading (inl none) visible = let no : IsSome (seen moment None) = subst (λ (r : Reading). IsSome (seen moment r)) none.1 visible in cc
        by reading (inr some) visible = record {
          number = some.0;
          at = some.1;
          item = some.2;
          newest = some.3;
          visible = subst (λ (r : Reading). IsSome (seen moment r)) some.4 visible;
          behind = ahead.behind;
        }

    -- so what a walk tells is the next key of the content.
    next_is : (found : Option (List ℕ)) → IsNextShown (counts_of S a frames records) bits moment after found → IsNextKey bits moment (content_of S a.files) after found
    next_is None next = λ key ahead. next key (ahead_shown key ahead)
    next_is (Some key) next = (shown_ahead key next.0, λ other ahead. next.1 other (ahead_shown other ahead))

-- a call that looked at the parts

module _ (S T : LogStore) (a b : HostState) (frames : List Frame) (records : List Item) (moment : ℕ)
    (stands : LogStands S a frames records)
    (sound : S.parts.spoilt ≡ false)
    (late : S.latest ≤ moment)
    (latest : T.latest ≡ moment)
    (still : disk.Stands a b) where
  -- it leaves the content,
  looks_content : {R : Type 0} (result : Result R StoreFault) → Looks S.parts T.parts result → SameContent (content_of S a.files) (content_of T b.files)
  looks_content result looks = parts_content S T a.files b.files (looks.table, looks.tree, looks.requests) (λ n. still.files (log_name n))

  -- how many requests wait, and the current file,
  looks_rows : {R : Type 0} (result : Result R StoreFault) → Looks S.parts T.parts result → T.parts.spoilt ≡ false → (log_facts T).parts ≡ (log_facts S).parts
  looks_rows result looks unspoilt = same_rows S T (looks.log unspoilt) (ap (λ (r : Queue). r.waiting) looks.requests)

  -- and all that the store stands for.
  looks_acts : {Q R : Type 0} (looked : Result Q StoreFault) (result : Result R StoreFault) → Looks S.parts T.parts looked → ((d : Damage) → IsErrOf result (fault.Damaged d) → ⊥) → ((s : Spent) → IsErrOf result (fault.Spent s) → ⊥)
      → Acts (log_facts S) (log_facts T) (log_means S a) (log_means T b) a b moment (content_of S a.files) result
  looks_acts looked result looks damaged unspent =
      call_acts S T a b frames records moment (content_of S a.files) (λ d c. ⊥) stands (Stands-moves a b (λ d c. ⊥) still) (λ d c left none. absurd none) sound late latest (λ unspoilt. inl (looks_content looked looks))
      result (still_leaves a b still) (Stands-silent a b still)
      (λ unspoilt.
      (frames, records, still_stands S T a b frames records stands (as_was S T a.files b.files (looks.log unspoilt) (looks.table, looks.tree, looks.requests) (ap (λ (f : Figures). f.rows) looks.stats) (λ n. still.files (log_name n))) (omega (arith, late, latest)) still))
      damaged (λ s err. absurd (unspent s err))
      (λ err unspoilt. (looks_content looked looks, inl (looks_rows looked looks unspoilt)))

  -- What it held goes on.
  pub looks_grows : {R : Type 0} (result : Result R StoreFault) → Looks S.parts T.parts result → T.parts.spoilt ≡ false → Grows S T a b
  looks_grows result looks unspoilt =
      grows_as_was S T a b (as_was S T a.files b.files (looks.log unspoilt) (looks.table, looks.tree, looks.requests) (ap (λ (f : Figures). f.rows) looks.stats) (λ n. still.files (log_name n))) (omega (arith, late, latest)) still

  -- a load

  module _ (key : List ℕ) where
    most_is : (result : Result (Option OwnItem) StoreFault) → Finds (counts_of S a frames records) key S.parts a b result → (Rose a.short_reads b.short_reads → ⊥) → b.asked b.turn ≤ a.asked a.turn + look_bytes S.parts key
    most_is result finds whole_reads = subst (λ (t : ℕ). b.asked t ≤ a.asked a.turn + look_bytes S.parts key) (sym still.turn) (finds.most whole_reads)

    -- where the newest record is found it is answered
    pub loaded : (found : Option OwnItem) (answer : Answer) → Looks S.parts T.parts (Ok found) → Finds (counts_of S a frames records) key S.parts a b (Ok found) → IsAnswer ⊥ moment (reading_by found) answer
        → Loaded key (log_facts S) (log_facts T) (log_means S a) (log_means T b) a b moment (Ok answer)
    loaded found answer looks finds is = record {
      acts = looks_acts (Ok found) (Ok answer) looks (λ d err. cc) (λ s err. cc);
      content = looks_content (Ok found) looks;
      answer = subst (λ (r : Reading). IsAnswer ⊥ moment r answer) (sym (reading_is S a frames records stands key (reading_by found) (newest_reading (counts_of S a frames records) key found finds.newest))) is;
      parts = looks_rows (Ok found) looks looks.unspoilt;
      most = most_is (Ok found) finds;
      fetched = λ fetches.
          subst (λ (t : ℕ). a.asked a.turn + known_bytes key answer ≤ b.asked t) (sym still.turn)
          (omega (arith, answer_within (counts_of S a frames records) key moment found answer finds.newest is, finds.fetched));
    }

    -- and where that fails nothing is
    pub load_failed : (f : StoreFault) → Looks {R = Option OwnItem} S.parts T.parts (Err f) → Finds (counts_of S a frames records) key S.parts a b (Err f) → ((s : Spent) → IsErrOf {T = Option OwnItem} (Err f) (fault.Spent s) → ⊥)
        → Loaded key (log_facts S) (log_facts T) (log_means S a) (log_means T b) a b moment (Err f)
    load_failed f looks finds unspent = record {
      acts = looks_acts {Q = Option OwnItem} {R = Answer} (Err f) (Err f) looks (λ d err. finds.undamaged d cc) (λ s err. unspent s cc);
      content = looks_content {R = Option OwnItem} (Err f) looks;
      answer = tt;
      parts = tt;
      most = most_is (Err f) finds;
      fetched = λ fetches. tt;
    }

  -- a walk tells the next key
  pub walked : (after : Option (List ℕ)) (result : Result (Option (List ℕ)) StoreFault) → Looks S.parts T.parts result → ShowsNext (counts_of S a frames records) S.parts.tree.bits moment after result → ((s : Spent) → IsErrOf result (fault.Spent s) → ⊥)
      → Walked after (log_facts S) (log_facts T) (log_means S a) (log_means T b) a b moment result
  walked after (Ok found) looks shows unspent = record {
    acts = looks_acts (Ok found) (Ok found) looks shows.undamaged unspent;
    content = looks_content (Ok found) looks;
    next = next_is S a frames records stands S.parts.tree.bits moment after found shows.next;
    parts = looks_rows (Ok found) looks looks.unspoilt;
  }
  walked after (Err f) looks shows unspent = record {
    acts = looks_acts (Err f) (Err f) looks shows.undamaged unspent;
    content = looks_content (Err f) looks;
    next = tt;
    parts = tt;
  }
