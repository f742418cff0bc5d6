-- What the parts stand for after a change.
use Rattle.std.proofs.Common.{◌≡◌, ⊎_elim, inl, inr, ℕ, ◌+◌, ◌≤◌, ◌<◌, true, false, Bool, List, [], ◌∷◌, ◌++◌, length, drop, Option, Some, None, Contains, refl, sym, ◌∙◌, ap, subst, arith}
use Rattle.std.specs.Prelude.{All, Ok, if◌then◌else◌, min, option_map}
use Rattle.std.proofs.lemmas.List.{length-drop, length-append}
use Rattle.cache_model.specs.declared.entries.Change.{Change}
use Rattle.cache_model.specs.declared.files.Place.{Place}
use Rattle.cache_model.specs.Files.{Image}
use Rattle.cache_model.specs.Items.{Item, spelling}
use Rattle.cache_model.specs.DataFiles.{Frame}
use Rattle.cache_model.specs.Images.{IsNoNewer, key_of, sequence_of}
use Rattle.cache_model.proofs.Spelled.{spelling-some}
use Rattle.cache_disk.specs.State.{HostState}
use Rattle.cache_disk.specs.State as disk
use Rattle.cache_disk.proofs.Runs.{Stands-same}
use Rattle.data_file.specs.declared.appender.Appender.{Appender}
use Rattle.data_file.specs.Appending.{next_place, written}
use Rattle.data_file.proofs.Bytes.{due_version, next_place-is}
use Rattle.data_file.proofs.Frame.{placed_of}
use Rattle.append_log.proofs.Places.{in_written}
use Rattle.append_log.specs.declared.log_calls.Log.{Log}
use Rattle.append_log.specs.Current.{IsLogOf, files_of, store_of, tail_by, tail_of}
use Rattle.append_log.specs.Current.{IsUsable as IsUsableLog}
use Rattle.append_log.specs.Calls.{Goes}
use Rattle.compactor.specs.declared.parts.Parts.{Parts}
use Rattle.compactor.specs.Counting.{Adds, Counts, CountSame, IsFileNumber, Kept, counts_in}
use Rattle.cache_model.specs.declared.index.IndexKey.{IndexKey}
use Rattle.cache_model.specs.declared.index.IndexValue.{IndexValue}
use Rattle.temporary_table.specs.Queue.{Queue}
use Rattle.tree_index.specs.Index.{AreOrdered, Index, value_at}
use Rattle.compactor.specs.Indexing.{AllFind, AreApart, AreIndexed, AreUsable, IsEntryOf, IsNewestEntry, IsPutToFile, last_put}
use Rattle.compactor.specs.Indexing.{IsPut as IsPutBy}
use Rattle.compactor.specs.Stepping.{IsPlaceOf, Seats}
use Rattle.compactor.proofs.Rows.{reading_once}
use Rattle.store_trait.specs.Meaning.{read_in, changed}
use Rattle.store_trait.specs.Meaning.{key_of as change_key}
use Rattle.store_trait.specs.Keeping.{SameContent}
use Rattle.store_trait.specs.Calls.{Plainly}
use Rattle.file_stats.specs.Figures.{Figures}
use Rattle.soft_index.specs.declared.log_store.LogStore.{LogStore}
use Rattle.soft_index.specs.Counted.{AreCounted, CountsWritten}
use Rattle.soft_index.specs.Store.{Holds, LogStands, MakesRoom, Queues, content_of, current_of, item_by, log_facts, next_of, number, row_of, writer}
use Rattle.soft_index.specs.Laws.{reading-same}
use Rattle.soft_index.proofs.Images.{holds_more, holds_new, holds_only, item_seq, reading_more}
use Rattle.soft_index.proofs.Changes.{IsAsWas, current_by_tail, parts_counted}
use Rattle.soft_index.proofs.Indexing.{indexed_content, indexed_stands}
use Rattle.soft_index.proofs.There.{there_by}

-- a seat

-- a key that has a seat leaves what the parts stand for
pub seats_indexed : (key : List ℕ) (old new : Parts) (counts : Counts) → Seats key old new → AreIndexed counts old → AreIndexed counts new
seats_indexed key old new counts seats is = record {
  queued = λ k. ap (λ seat. option_map (λ s. s.0) seat) (seats.places k) ∙ is.queued k ∙ ap (λ (q : Queue). last_put k q.waiting) (sym seats.requests);
  requested = subst (λ (q : Queue). All (IsPutBy counts) q.waiting) (sym seats.requests) is.requested;
  apart = subst (λ (q : Queue). AreApart q.waiting) (sym seats.requests) is.apart;
  swaps = subst (λ (q : Queue). AllFind counts new.tree q.waiting) (sym seats.requests) (subst (λ (t : Index). AllFind counts t old.requests.waiting) (sym seats.tree) is.swaps);
  placed = λ k place gone there. is.placed k place gone (sym (seats.places k) ∙ there);
  indexed = subst (λ (t : Index). (at : IndexKey) (value : IndexValue) → value_at t.entries at ≡ Some value → (k : List ℕ) × IsEntryOf counts t.bits k at value) (sym seats.tree) is.indexed;
  single = subst (λ (t : Index). (one other : IndexKey) (v w : IndexValue) (k : List ℕ) → value_at t.entries one ≡ Some v → value_at t.entries other ≡ Some w → IsEntryOf counts t.bits k one v → IsEntryOf counts t.bits k other w → one ≡ other) (sym seats.tree) is.single;
  newest = λ k none. subst (λ (t : Index). (n a : ℕ) (item : Item) → counts n a item → key_of item ≡ Some k → (at : IndexKey) × (value : IndexValue) × IsNewestEntry counts t k at value) (sym seats.tree) (is.newest k (sym (seats.places k) ∙ none));
}

-- a record more

-- each item has its place in front of the next one's
pub placed_below : (frames : List Frame) (records : List Item) (at : ℕ) (item : Item) → Contains (placed_of frames records) (at, item) → at < next_place frames records
placed_below frames records at item within =
    let spelled = in_written frames records at item within in
    let long = length-drop at (written frames records) in
    let whole : length (drop at (written frames records)) ≡ length (spelling item) + length spelled.0 = ap length spelled.1 ∙ length-append (spelling item) spelled.0 in
    let all : next_place frames records ≡ length (written frames records) + length (due_version frames records) = next_place-is frames records ∙ length-append (written frames records) (due_version frames records) in
    omega (arith, long, whole, all, spelling-some item)

-- nothing stands where the next one will
pub placed_fresh : (file : ℕ) (frames : List Frame) (records : List Item) (files : Image) (item : Item) → Holds file (placed_of frames records) files file (next_place frames records) item → ⊥
placed_fresh file frames records files item holds = ⊎_elim
    (λ here. omega (arith, placed_below frames records (next_place frames records) item here.1))
    (λ apart. apart.0 refl)
    holds

-- where the next record stands
pub next_at : (over : Bool) (frames : List Frame) (records : List Item) (place : Place) → place.at ≡ (if over then 2 else next_place frames records) → place.at ≡ next_place (if over then [] else frames) (if over then [] else records)
next_at true frames records place is = is
next_at false frames records place is = is

-- a record behind all that the file holds, which is no older than any other of its key
pub adds_one : (file : ℕ) (frames : List Frame) (records : List Item) (files : Image) (one : Item) (key : List ℕ) → key_of one ≡ Some key
    → ((n a : ℕ) (item : Item) → Holds file (placed_of frames records) files n a item → key_of item ≡ Some key → IsNoNewer (sequence_of item, n, a) (sequence_of one, file, next_place frames records))
    → Adds (Holds file (placed_of frames records) files) (Holds file (placed_of frames (records ++ one ∷ [])) files) key file (next_place frames records) one
adds_one file frames records files one key of_one no_newer = record {
  fresh = λ other k holds of_key. placed_fresh file frames records files other holds;
  kept = λ n a other k holds of_key. holds_more file frames records files one n a other holds;
  only = λ n a other k holds of_key. holds_only file frames records files one n a other holds;
  newest = record {
    counted = holds_new file frames records files one;
    of_key = of_one;
    newest = λ n a other holds of_key.
        ⊎_elim
        (λ was. no_newer n a other was of_key)
        (λ is. inr (ap sequence_of is.2, inr (is.0, omega (arith, is.1))))
        (holds_only file frames records files one n a other holds);
  };
}

-- the record of a change is the newest of its key
pub change_newer : (counts : Counts) (file at next : ℕ) (change : Change)
    → ((n a : ℕ) (item : Item) (key : List ℕ) → counts n a item → key_of item ≡ Some key → sequence_of item < next)
    → (n a : ℕ) (item : Item) → counts n a item → key_of item ≡ Some (change_key change) → IsNoNewer (sequence_of item, n, a) (sequence_of (item_by next change), file, at)
change_newer counts file at next change above n a item counted of_key = inl (omega (arith, above n a item (change_key change) counted of_key, item_seq next change))

-- where the same records counted before
pub adds_after : (before mid after : Counts) (key : List ℕ) (number at : ℕ) (item : Item) → CountSame before mid → Adds mid after key number at item → Adds before after key number at item
adds_after before mid after key number at item same adds = record {
  fresh = λ other k counts of_key. adds.fresh other k (same.kept number at other k counts of_key) of_key;
  kept = λ n a other k counts of_key. adds.kept n a other k (same.kept n a other k counts of_key) of_key;
  only = λ n a other k counts of_key. ⊎_elim (λ was. inl (same.only n a other k was of_key)) (λ one. inr one) (adds.only n a other k counts of_key);
  newest = adds.newest;
}

-- each sequence number is still below the next one
pub above_after : (S : LogStore) (a : HostState) (frames : List Frame) (records : List Item) (after : Counts) → LogStands S a frames records → CountSame (Holds (number S) (placed_of frames records) a.files) after
    → (n at : ℕ) (item : Item) (key : List ℕ) → after n at item → key_of item ≡ Some key → sequence_of item < next_of S
above_after S a frames records after stands same n at item key counts of_key = stands.above n at item key (same.only n at item key counts of_key) of_key

-- the store reads as before, and the change
pub put_content : (S T : LogStore) (a b : HostState) (frames fs : List Frame) (records rs : List Item) (change : Change) → LogStands S a frames records → LogStands T b fs (rs ++ item_by (next_of S) change ∷ [])
    → CountSame (Holds (number S) (placed_of frames records) a.files) (Holds (number T) (placed_of fs rs) b.files)
    → SameContent (changed change (content_of S a.files)) (content_of T b.files)
put_content S T a b frames fs records rs change stands now same key =
    let more : List Item = rs ++ item_by (next_of S) change ∷ [] in
    let mid = Holds (number T) (placed_of fs rs) b.files in
    reading_once (Holds (number T) (placed_of fs more) b.files) b.files key (read_in (content_of T b.files) key) (read_in (changed change (content_of S a.files)) key) (there_by T b fs more now.log now.named) (now.content key)
    (reading_more (number T) (next_of S) fs rs b.files change (above_after S a frames records mid stands same) (content_of S a.files) key
    (reading-same (Holds (number S) (placed_of frames records) a.files) mid key (read_in (content_of S a.files) key)
    (λ n at item of_key holds. same.kept n at item key holds of_key) (λ n at item of_key holds. same.only n at item key holds of_key) (stands.content key)))

-- the parts may be used, once a key has a seat and the log wrote its record
pub seats_usable : (key : List ℕ) (old new : Parts) (log : Log) (reserved figures : Figures) → Seats key (record old { stats = reserved }) new → AreUsable old → IsUsableLog (files_of log) → store_of (files_of log) ≡ 0 → AreUsable (record new { log = log; stats = figures })
seats_usable key old new log reserved figures seats usable ready main = record {
  unspoilt = seats.spoilt ∙ usable.unspoilt;
  log = ready;
  main = main;
  bits = subst (λ (t : Index). t.bits ≤ 32) (sym seats.tree) usable.bits;
  same_bits = seats.bits ∙ usable.same_bits ∙ sym (ap (λ (t : Index). t.bits) seats.tree);
  some = subst (λ (q : Queue). 1 ≤ q.limit) (sym seats.requests) usable.some;
  within = subst (λ (q : Queue). length q.waiting ≤ q.limit) (sym seats.requests) usable.within;
  ordered = subst (λ (t : Index). AreOrdered t.entries) (sym seats.tree) usable.ordered;
  indexed = subst (λ (t : Index). (at : IndexKey) (value : IndexValue) → value_at t.entries at ≡ Some value → IsFileNumber at.file) (sym seats.tree) usable.indexed;
  placed = λ k place gone there. usable.placed k place gone (sym (seats.places k) ∙ there);
  requested = subst (λ (q : Queue). All IsPutToFile q.waiting) (sym seats.requests) usable.requested;
}

-- the number of a current file
current_number : (log : Option Appender) (store file : ℕ) (unsealed : Bool) (tail : ℕ × ℕ × Bool) → IsLogOf store log file unsealed → tail_by log file unsealed ≡ Some tail → (file ≡ tail.0) × IsFileNumber tail.0
current_number None store file unsealed tail is there = cc
current_number (Some log) store file unsealed tail is there =
    let same : (file, log.size, unsealed) ≡ tail = cc in
    let one : file ≡ tail.0 = ap (λ (t : ℕ × ℕ × Bool). t.0) same in
    (one, subst IsFileNumber one is.2)

-- where a store goes on as it was between two moments at which nothing changed
pub was_by : (S T : LogStore) (a b : HostState) (frames : List Frame) (records : List Item) → LogStands S a frames records → files_of T.parts.log ≡ files_of S.parts.log
    → ((kept : Kept) → AreIndexed (counts_in kept) S.parts → AreIndexed (counts_in kept) T.parts) → ((kept : Kept) → AreCounted kept S.parts → AreCounted kept T.parts)
    → disk.Stands a b → S.latest ≤ T.latest → IsAsWas S T a.files b.files
was_by S T a b frames records stands files indexed counted still late =
    let kept : Kept = record { number = number S; items = placed_of frames records; files = a.files } in
    record {
      files = files;
      indexed = indexed;
      content = indexed_content S T a b frames records stands (indexed_stands S T a b frames records stands files (λ is there. indexed kept is) (counted kept stands.counted) still late) files still;
      counted = counted;
    }

-- where a seat was given or taken away, once there was room for a row
pub seated_was : (key : List ℕ) (S T : LogStore) (a : HostState) (frames : List Frame) (records : List Item) (reserved : Figures) → LogStands S a frames records → reserved.rows ≡ S.parts.stats.rows
    → Seats key (record S.parts { stats = reserved }) T.parts → S.latest ≤ T.latest → IsAsWas S T a.files a.files
seated_was key S T a frames records reserved stands rows seats late =
    was_by S T a a frames records stands (ap files_of seats.log) (λ kept is. seats_indexed key (record S.parts { stats = reserved }) T.parts (counts_in kept) seats is)
    (parts_counted S.parts T.parts (ap (λ (f : Figures). f.rows) seats.stats ∙ rows) seats.tree) (Stands-same a) late

-- A place was noted in the parts: one request more waits, and nothing else is done but to the table and the queue.
pub record IsNoted (old new : Parts) : Type 0 where
  pub tree : new.tree ≡ old.tree
  pub stats : new.stats ≡ old.stats
  pub log : new.log ≡ old.log
  pub spoilt : new.spoilt ≡ old.spoilt
  pub limit : new.requests.limit ≡ old.requests.limit
  pub queued : length new.requests.waiting ≡ length old.requests.waiting + 1

-- There is room for a row, a key has a seat in the parts, the log wrote a record of it, the statistics were brought up to
-- that, and its place was noted. The parts stand for the record too, where it is a proper one to what counted before.
pub record Entered (key : List ℕ) (place : Place) (gone : Bool) (proper : Kept → Item → Type 0) (S T : LogStore) : Type 0 where
  pub reserved : Figures
  pub rows : reserved.rows ≡ S.parts.stats.rows
  pub room : 1 ≤ reserved.spare
  pub seated : Parts
  pub log : Log
  pub figures : Figures
  pub seats : Seats key (record S.parts { stats = reserved }) seated
  pub counts : CountsWritten (tail_of (files_of S.parts.log)) (tail_of (files_of log)) reserved figures
  pub noted : IsNoted (record seated { log = log; stats = figures }) T.parts
  pub usable : AreUsable (record seated { log = log; stats = figures }) → IsFileNumber place.file → AreUsable T.parts
  pub indexed : (kept more : Kept) (item : Item) → AreIndexed (counts_in kept) seated → proper kept item → Adds (counts_in kept) (counts_in more) key place.file place.at item → IsPlaceOf item place gone
      → AreIndexed (counts_in more) T.parts
  pub latest : S.latest ≤ T.latest

module _ (key : List ℕ) (place : Place) (gone : Bool) (proper : Kept → Item → Type 0) (S T : LogStore) (moment : ℕ) (entered : Entered key place gone proper S T)
    (goes : Goes (files_of S.parts.log) (files_of T.parts.log) (Ok place))
    (tail : tail_of (files_of T.parts.log) ≡ Some (place.file, place.at + place.length, true))
    (ready : AreUsable S.parts) where
  main : store_of (files_of T.parts.log) ≡ 0
  main = goes.store ∙ ready.main

  usable_log : IsUsableLog (files_of T.parts.log)
  usable_log = goes.usable goes.ok

  pub at_number : (number T ≡ place.file) × IsFileNumber place.file
  at_number = current_number (files_of T.parts.log).log (files_of T.parts.log).store (files_of T.parts.log).file (files_of T.parts.log).unsealed (place.file, place.at + place.length, true) usable_log.log tail

  pub entered_usable : AreUsable T.parts
  entered_usable =
      entered.usable
      (seats_usable key S.parts entered.seated entered.log entered.reserved entered.figures entered.seats ready (subst (λ (l : Log). IsUsableLog (files_of l)) entered.noted.log usable_log) (subst (λ (l : Log). store_of (files_of l) ≡ 0) entered.noted.log main))
      at_number.1

  pub entered_limit : T.parts.requests.limit ≡ S.parts.requests.limit
  entered_limit = entered.noted.limit ∙ ap (λ (q : Queue). q.limit) entered.seats.requests

  pub entered_waiting : length T.parts.requests.waiting ≡ length S.parts.requests.waiting + 1
  entered_waiting = entered.noted.queued ∙ ap (λ (q : Queue). length q.waiting + 1) entered.seats.requests

  pub entered_bits : T.parts.tree.bits ≡ S.parts.tree.bits
  entered_bits = ap (λ (t : Index). t.bits) entered.noted.tree ∙ ap (λ (t : Index). t.bits) entered.seats.tree

  pub entered_tree : T.parts.tree ≡ S.parts.tree
  entered_tree = entered.noted.tree ∙ entered.seats.tree

  pub entered_counts : CountsWritten (tail_of (files_of S.parts.log)) (tail_of (files_of T.parts.log)) entered.reserved T.parts.stats
  entered_counts =
      subst (λ (f : Figures). CountsWritten (tail_of (files_of S.parts.log)) (tail_of (files_of T.parts.log)) entered.reserved f) (sym entered.noted.stats)
      (subst (λ (l : Log). CountsWritten (tail_of (files_of S.parts.log)) (tail_of (files_of l)) entered.reserved entered.figures) (sym entered.noted.log) entered.counts)

  pub entered_spoilt : T.parts.spoilt ≡ S.parts.spoilt
  entered_spoilt = entered.noted.spoilt ∙ entered.seats.spoilt

  pub entered_rows : length S.parts.requests.waiting < S.parts.requests.limit → Queues S.parts.requests.limit (log_facts S).parts (log_facts T).parts
  entered_rows room = (
    length S.parts.requests.waiting,
    current_of (writer S) (number S),
    place.file,
    refl,
    ap (λ (n : ℕ). row_of n (current_of (writer T) (number T))) (entered_waiting ∙ omega (arith, room))
        ∙ ap (λ (c : Option ℕ). row_of (min (length S.parts.requests.waiting + 1) S.parts.requests.limit) c) (current_by_tail (writer T) (number T) (files_of T.parts.log).unsealed (place.file, place.at + place.length, true) tail),
  )

  -- the parts stand for the record too
  pub entered_indexed : (one : Item) (a b : HostState) (frames : List Frame) (records : List Item) (over : Bool) → LogStands S a frames records
      → IsPlaceOf one place gone → key_of one ≡ Some key
      → proper (record { number = number S; items = placed_of frames records; files = a.files }) one
      → CountSame (Holds (number S) (placed_of frames records) a.files) (Holds (number T) (placed_of (if over then [] else frames) (if over then [] else records)) b.files)
      → ((n at : ℕ) (item : Item) → Holds (number T) (placed_of (if over then [] else frames) (if over then [] else records)) b.files n at item → key_of item ≡ Some key
      → IsNoNewer (sequence_of item, n, at) (sequence_of one, number T, next_place (if over then [] else frames) (if over then [] else records)))
      → place.at ≡ next_place (if over then [] else frames) (if over then [] else records)
      → AreIndexed (Holds (number T) (placed_of (if over then [] else frames) ((if over then [] else records) ++ one ∷ [])) b.files) T.parts
  entered_indexed one a b frames records over stands is_place of_key is_proper same no_newer at =
      let fs : List Frame = if over then [] else frames in
      let rs : List Item = if over then [] else records in
      let before : Kept = record { number = number S; items = placed_of frames records; files = a.files } in
      let after : Kept = record { number = number T; items = placed_of fs (rs ++ one ∷ []); files = b.files } in
      let adds : Adds (Holds (number T) (placed_of fs rs) b.files) (counts_in after) key (number T) (next_place fs rs) one = adds_one (number T) fs rs b.files one key of_key no_newer in
      let all : Adds (counts_in before) (counts_in after) key (number T) (next_place fs rs) one =
      adds_after (counts_in before) (Holds (number T) (placed_of fs rs) b.files) (counts_in after) key (number T) (next_place fs rs) one same adds
      in
      let here : Adds (counts_in before) (counts_in after) key place.file place.at one =
      subst (λ (n : ℕ). Adds (counts_in before) (counts_in after) key n place.at one) at_number.0
      (subst (λ (n : ℕ). Adds (counts_in before) (counts_in after) key (number T) n one) (sym at) all)
      in
      entered.indexed before after one (seats_indexed key (record S.parts { stats = entered.reserved }) entered.seated (counts_in before) entered.seats stands.indexed) is_proper here is_place

  -- what it is to the store whatever the host tells
  pub entered_plain : S.parts.spoilt ≡ false → T.latest ≡ moment → T.sync_writes ≡ S.sync_writes → Plainly {T = Unit {0}} (log_facts S) (log_facts T) moment (Ok tt)
  entered_plain sound latest sync = record {
    same = record {
      bits = entered_bits;
      owns = refl;
      ordered = refl;
      firm = sync;
      forgets = λ key. (λ x. x, λ x. x);
      moves = λ c a b. (subst (λ (n : ℕ). Queues n a b) entered_limit, subst (λ (n : ℕ). Queues n a b) (sym entered_limit));
      empties = λ a b. (λ x. x, λ x. x);
      room = λ a b. (subst (λ (n : ℕ). MakesRoom n a b) entered_limit, subst (λ (n : ℕ). MakesRoom n a b) (sym entered_limit));
      steps = λ files kind turned a b. (λ x. x, λ x. x);
      compacts = λ files mid file turned turns a b. (λ x. x, λ x. x);
      turns = λ files mid file rows. refl;
      compacts_all = λ files mid turns a b. (λ z. z, λ z. z);
      turns_all = λ files mid rows turns. (λ z. z, λ z. z);
      sweeps = λ files image. (λ z. z, λ z. z);
      counts = λ files figures a b. (λ x. x, λ x. x);
    };
    usable = λ unspoilt. entered_usable;
    unspoilt = entered_spoilt ∙ sound;
    spoilt = tt;
    late = omega (arith, latest);
    sequence = λ n err. cc;
    files = λ n err. cc;
  }
