-- What a copy of a key's newest record is to the store.
use Rattle.std.proofs.Common.{◌≡◌, ◌⊎◌, ⊎_elim, inl, inr, ℕ, ◌+◌, ◌≤◌, ◌<◌, true, false, Bool, List, [], ◌∷◌, ◌++◌, length, Some, None, refl, sym, ◌∙◌, ap, subst, arith}
use Rattle.std.specs.Prelude.{Result, Ok, Err, IfOk, OnOk, OnErr, IsErrOf, if◌then◌else◌}
use Rattle.std.specs.Str.{bytes_eq}
use Rattle.std.proofs.lemmas.Bool.{cases_lt}
use Rattle.std.proofs.lemmas.List.{length-append}
use Rattle.std.proofs.lemmas.Slice.Eq.{bytes_eq-Decides}
use Rattle.cache_model.specs.declared.faults.StoreFault.{StoreFault}
use Rattle.cache_model.specs.declared.faults.StoreFault.TheVariants as fault
use Rattle.cache_model.specs.declared.faults.Spent.{Spent}
use Rattle.cache_model.specs.declared.faults.Spent.TheVariants.{Files, Sequence}
use Rattle.cache_model.specs.declared.files.Place.{Place}
use Rattle.cache_model.specs.Files.{Image, file_in}
use Rattle.cache_model.specs.Items.{Item, end}
use Rattle.cache_model.specs.DataFiles.{Frame}
use Rattle.cache_model.specs.Images.{IsNoNewer, entry_by, key_of, log_name, sequence_of}
use Rattle.cache_model.proofs.Existing.{through}
use Rattle.cache_disk.specs.State.{HostState}
use Rattle.data_file.specs.Appending.{next_place}
use Rattle.data_file.proofs.Frame.{placed_of}
use Rattle.append_log.specs.declared.log_calls.Log.{Log}
use Rattle.append_log.specs.Current.{IsUsable as IsUsableLog, closes_before, file_spent, files_of, next_file_of, store_of, tail_of}
use Rattle.append_log.specs.Current as append
use Rattle.append_log.specs.Standing.{Held, put_held}
use Rattle.append_log.specs.Calls.{CountsIf, Goes, IsSpentBy, PutsBy, TakesFile}
use Rattle.append_log.specs.Calls as log
use Rattle.append_log.proofs.Holding.{next_most}
use Rattle.temporary_table.specs.Queue.{Queue}
use Rattle.compactor.specs.Copying.{Copies}
use Rattle.compactor.specs.Counting.{Adds, AreThere, Counts, CountSame, HasReading, IsNewestBy, Kept, counts_in}
use Rattle.compactor.specs.Indexing.{AreIndexed, AreUsable}
use Rattle.compactor.proofs.Rows.{newest_once, reading_once}
use Rattle.store_trait.specs.Meaning.{Reading, read_in}
use Rattle.store_trait.specs.Keeping.{SameContent}
use Rattle.store_trait.specs.Calls.{Plainly}
use Rattle.soft_index.specs.declared.log_store.LogStore.{LogStore}
use Rattle.soft_index.specs.Counted.{AreCounted}
use Rattle.soft_index.specs.Copied.{IsCopied, IsNewestOf, MakesFile}
use Rattle.soft_index.specs.Store.{Holds, LogStands, MakesRoom, Queues, closed_frames, content_of, log_facts, main_files, next_file, next_of, number, waiting, writer}
use Rattle.soft_index.specs.Laws.{reading-same}
use Rattle.soft_index.proofs.Entering.{Entered, adds_after, adds_one, entered_counts, entered_indexed, entered_plain, entered_rows, entered_tree, next_at, placed_below}
use Rattle.soft_index.proofs.Images.{call_acts, holds_new}
use Rattle.soft_index.proofs.Putting.{file_end, number_after, put_leaves, put_records, record_counted, record_grows, record_in, since_put}
use Rattle.soft_index.proofs.There.{there_by}
use Rattle.soft_index.proofs.Turning.{to_main}

-- a file that is there, and isn't the one that is written, has a lower number
pub file_below : (T : LogStore) (files : Image) → ((n : ℕ) → next_file (writer T) (number T) ≤ n → file_in files (log_name n) ≡ None) → (n : ℕ) (bytes : List ℕ) → (n ≡ number T → ⊥) → file_in files (log_name n) ≡ Some bytes → n < number T
file_below T files beyond n bytes other there = by_test (cases_lt n (number T))
  where
    by_test : (n < number T) ⊎ (number T ≤ n) → n < number T
    by_test (inl less) = less
    by_test (inr above) =
        let none : file_in files (log_name n) ≡ None = beyond n (omega (arith, above, other, next_most (writer T) (number T))) in
        let no : None ≡ Some bytes = sym none ∙ there in
        cc

-- a copy at the end of the current file is no older than the record that it is of
pub copy_newer : (T : LogStore) (files : Image) (fs : List Frame) (rs : List Item) (one : Item) → ((n : ℕ) → next_file (writer T) (number T) ≤ n → file_in files (log_name n) ≡ None)
    → (n at : ℕ) → Holds (number T) (placed_of fs rs) files n at one → IsNoNewer (sequence_of one, n, at) (sequence_of one, number T, next_place fs rs)
copy_newer T files fs rs one beyond n at (inl here) = inr (refl, inr (here.0, omega (arith, placed_below fs rs at one here.1)))
copy_newer T files fs rs one beyond n at (inr other) = inr (refl, inl (file_below T files beyond n other.1.bytes other.0 other.1.there))

-- a key reads the same with a copy of its newest record
reading_copied : (before after : Counts) (files : Image) (key k : List ℕ) (r : Reading) (n at number place : ℕ) (one : Item)
    → AreThere before files → IsNewestBy before key n at one → Adds before after key number place one → HasReading before k r → HasReading after k r
reading_copied before after files key k r n at number place one there newest adds reads = by_test (bytes_eq key k) refl
  where
    read : HasReading before key r → HasReading after key r
    read (inl none) = absurd (none.0 n at one newest.counted newest.of_key)
    read (inr some) = inr (number, place, one, adds.newest, some.4 ∙ ap (λ (i : Item). Some (entry_by i)) (newest_once before files there key some.0 n some.1 at some.2 one some.3 newest))

    by_test : (t : Bool) → bytes_eq key k ≡ t → HasReading after k r
    by_test true is =
        let same : key ≡ k = (bytes_eq-Decides key k).0 is in
        subst (λ (l : List ℕ). HasReading after l r) same (read (subst (λ (l : List ℕ). HasReading before l r) (sym same) reads))
    by_test false is =
        reading-same before after k r
        (λ m b item of_k was. adds.kept m b item k was of_k)
        (λ m b item of_k holds. ⊎_elim
        (λ was. was)
        (λ is_one.
        let both : Some key ≡ Some k = sym adds.newest.of_key ∙ ap key_of (sym is_one.2) ∙ of_k in
        let keys : key ≡ k = cc in
        let no : bytes_eq key k ≡ true = (bytes_eq-Decides key k).1 keys in
        let never : false ≡ true = sym is ∙ no in
        cc)
        (adds.only m b item k holds of_k))
        reads

no_end_of : (key : List ℕ) (one : Item) → key_of one ≡ Some key → (m : ℕ) → end m ≡ one → ⊥
no_end_of key one of_key m is = let no : None ≡ Some key = ap key_of is ∙ of_key in cc

-- A copy is a proper one of what is its key's newest record.
abbrev pub is_copy_of : List ℕ → Place → Kept → Item → Type 0
is_copy_of key from kept item = IsNewestBy (counts_in kept) key from.file from.at item

module _ (key : List ℕ) (from : Place) (gone : Bool) (spelled : List ℕ) (moment : ℕ) (S T : LogStore) (ready : AreUsable S.parts) (late : S.latest ≤ moment) (latest : T.latest ≡ moment) where
  abbrev over : Bool
  over = closes_before (files_of S.parts.log) (length spelled)

  -- where the record was copied

  module _ (to : Place) (copies : Copies key from gone (length spelled) moment S.parts T.parts to) where
    entered : Entered key to gone (is_copy_of key from) S T
    entered = record {
      reserved = copies.reserved;
      rows = copies.rows;
      room = copies.room;
      seated = copies.seated;
      log = copies.log;
      figures = copies.figures;
      seats = copies.seats;
      counts = copies.counts;
      noted = record {
        tree = copies.notes.queues.tree;
        stats = copies.notes.queues.stats;
        log = copies.notes.queues.log;
        spoilt = copies.notes.queues.spoilt;
        limit = ap (λ (q : Queue). q.limit) copies.notes.queues.queued;
        queued = ap (λ (q : Queue). length q.waiting) copies.notes.queues.queued ∙ length-append copies.seated.requests.waiting _;
      };
      usable = copies.notes.usable;
      indexed = λ kept more item is proper adds place_is. copies.notes.indexed kept more item is proper adds place_is;
      latest = omega (arith, late, latest);
    }

    goes : Goes (files_of S.parts.log) (files_of T.parts.log) (Ok to)
    goes = subst (λ (l : Log). Goes (files_of S.parts.log) (files_of l) (Ok to)) (sym copies.notes.queues.log) copies.goes

    written : log.IsCopied (length spelled) moment (files_of S.parts.log) (files_of T.parts.log) to
    written = subst (λ (l : Log). log.IsCopied (length spelled) moment (files_of S.parts.log) (files_of l) to) (sym copies.notes.queues.log) copies.written

    pub copied_plain : S.parts.spoilt ≡ false → T.sync_writes ≡ S.sync_writes → Plainly {T = Place} (log_facts S) (log_facts T) moment (Ok to)
    copied_plain sound sync =
        let plain = entered_plain key to gone (is_copy_of key from) S T moment entered goes written.tail ready sound latest sync in
        record { same = plain.same; usable = plain.usable; unspoilt = plain.unspoilt; spoilt = tt; late = plain.late; sequence = λ n err. cc; files = λ n err. cc }

    pub copied_rows : length S.parts.requests.waiting < S.parts.requests.limit → Queues S.parts.requests.limit (log_facts S).parts (log_facts T).parts
    copied_rows = entered_rows key to gone (is_copy_of key from) S T moment entered goes written.tail ready

    file : number T ≡ (if over then number S + 1 else number S)
    file = number_after S T over (next_of S) (length spelled) moment to refl written

    pub copied_file : number S ≤ number T
    copied_file = by over file
      where
        by : (o : Bool) → number T ≡ (if o then number S + 1 else number S) → number S ≤ number T
        by true is = omega (arith, is)
        by false is = omega (arith, is)

    module _ (a b : HostState) (frames : List Frame) (records : List Item) (one : Item) (is : IsNewestOf S a frames records key from gone spelled one)
        (puts : PutsBy over one moment (record { closed = is.stands.log.0; frames = frames; records = records }) (main_files S) (files_of T.parts.log) a b (Ok to)) where
      abbrev fs : List Frame
      fs = if over then [] else frames

      abbrev rs : List Item
      rs = if over then [] else records

      main : store_of (files_of T.parts.log) ≡ 0
      main = goes.store ∙ ready.main

      usable_log : IsUsableLog (files_of T.parts.log)
      usable_log = goes.usable goes.ok

      abbrev held : Held
      held = record { closed = is.stands.log.0; frames = frames; records = records }

      beyond : (n : ℕ) → next_file (writer T) (number T) ≤ n → file_in b.files (log_name n) ≡ None
      beyond = (to_main (files_of T.parts.log) b (put_held over (waiting S) (number S) moment held one) main puts.stands).beyond

      same : CountSame (Holds (number S) (placed_of frames records) a.files) (Holds (number T) (placed_of fs rs) b.files)
      same = put_records over moment one S T a b frames records to is.stands main file puts

      no_newer : (n at : ℕ) (item : Item) → Holds (number T) (placed_of fs rs) b.files n at item → key_of item ≡ Some key → IsNoNewer (sequence_of item, n, at) (sequence_of one, number T, next_place fs rs)
      no_newer n at item holds of_key =
          through (sequence_of item, n, at) (sequence_of one, from.file, from.at) (sequence_of one, number T, next_place fs rs)
          (is.newest.newest n at item (same.only n at item key holds of_key) of_key)
          (copy_newer T b.files fs rs one beyond from.file from.at (same.kept from.file from.at one key is.newest.counted is.newest.of_key))

      adds : Adds (Holds (number S) (placed_of frames records) a.files) (Holds (number T) (placed_of fs (rs ++ one ∷ [])) b.files) key (number T) (next_place fs rs) one
      adds =
          adds_after (Holds (number S) (placed_of frames records) a.files) (Holds (number T) (placed_of fs rs) b.files) (Holds (number T) (placed_of fs (rs ++ one ∷ [])) b.files) key (number T) (next_place fs rs) one same
          (adds_one (number T) fs rs b.files one key is.newest.of_key no_newer)

      indexed : AreIndexed (Holds (number T) (placed_of fs (rs ++ one ∷ [])) b.files) T.parts
      indexed =
          entered_indexed key to gone (is_copy_of key from) S T moment entered goes written.tail ready one a b frames records over is.stands
          (record { long = written.length_is ∙ ap length is.spelled_is; gone_is = is.gone_is }) is.newest.of_key is.newest same no_newer (next_at over frames records to puts.at)

      counted : AreCounted (record { number = number T; items = placed_of fs (rs ++ one ∷ []); files = b.files }) T.parts
      counted =
          record_counted over one (length spelled) moment S T a b frames records to entered.reserved is.stands refl ready.log usable_log main written.tail file puts entered.rows entered.room
          (entered_tree key to gone (is_copy_of key from) S T moment entered goes written.tail ready) (entered_counts key to gone (is_copy_of key from) S T moment entered goes written.tail ready)

      holds : LogStands T b fs (rs ++ one ∷ [])
      holds =
          record_in over one moment S T a b frames records to is.stands
          (omega (arith, is.stands.above from.file from.at one key is.newest.counted is.newest.of_key, written.next_seq)) (no_end_of key one is.newest.of_key)
          late latest usable_log main (omega (arith, written.next_seq)) file puts indexed counted

      content : SameContent (content_of S a.files) (content_of T b.files)
      content k =
          reading_once (Holds (number T) (placed_of fs (rs ++ one ∷ [])) b.files) b.files k (read_in (content_of T b.files) k) (read_in (content_of S a.files) k)
          (there_by T b fs (rs ++ one ∷ []) holds.log holds.named) (holds.content k)
          (reading_copied (Holds (number S) (placed_of frames records) a.files) (Holds (number T) (placed_of fs (rs ++ one ∷ [])) b.files) a.files key k (read_in (content_of S a.files) k) from.file from.at (number T) (next_place fs rs) one
          (there_by S a frames records is.stands.log is.stands.named) is.newest adds (is.stands.content k))

      pub copied_told : S.parts.spoilt ≡ false → IsCopied S T a b frames records moment one (Ok to)
      copied_told sound = record {
        acts = call_acts S T a b frames records moment (content_of S a.files) _ is.stands puts.images (since_put over S a frames records moment is.stands) sound late latest (λ unspoilt. inl content)
            (Ok to) (put_leaves over S a b (CountsIf over frames (closed_frames (waiting S) frames records moment)) puts.files puts.images) puts.silent (λ unspoilt. (fs, rs ++ one ∷ [], holds)) (λ d err. cc) (λ s err. cc) (λ err. cc);
        content = content;
        copied = (
          record { fs = fs; rs = rs ++ one ∷ []; holds = holds; grows = record_grows over moment one S T a b frames records to is.stands ready.log.some main file puts },
          next_place fs rs,
          holds_new (number T) fs rs b.files one,
        );
      }

  -- where it wasn't

  module _ (f : StoreFault) (spoilt : T.parts.spoilt ≡ true) (log_goes : Goes {R = Place} (files_of S.parts.log) (files_of T.parts.log) (Err f)) (log_spent : IsSpentBy {R = Place} (file_spent (files_of S.parts.log) (length spelled)) (Err f)) where
    spent_end : (s : Spent) → IsErrOf {T = Place} (Err f) (fault.Spent s) → (s ≡ Files 4294967295) × (next_file (writer T) (number T) ≡ 4294967295)
    spent_end s err =
        let at = file_end (append.makes_file (writer S) over) (next_file (writer S) (number S)) s (log_spent.only s err) in
        (at.0, (log_goes.spent s err).1 ∙ at.1)

    pub failed_plain : T.parts.tree.bits ≡ S.parts.tree.bits → T.parts.requests.limit ≡ S.parts.requests.limit → T.sync_writes ≡ S.sync_writes → Plainly {T = Place} (log_facts S) (log_facts T) moment (Err f)
    failed_plain bits limit sync = record {
      same = record {
        bits = bits;
        owns = refl;
        ordered = refl;
        firm = sync;
        forgets = λ k. (λ x. x, λ x. x);
        moves = λ change x y. (subst (λ (n : ℕ). Queues n x y) limit, subst (λ (n : ℕ). Queues n x y) (sym limit));
        empties = λ x y. (λ z. z, λ z. z);
        room = λ x y. (subst (λ (n : ℕ). MakesRoom n x y) limit, subst (λ (n : ℕ). MakesRoom n x y) (sym limit));
        steps = λ files kind turned x y. (λ z. z, λ z. z);
        compacts = λ files mid file turned turns x y. (λ z. z, λ z. z);
        turns = λ files mid file rows. refl;
        compacts_all = λ files mid turns a b. (λ z. z, λ z. z);
        turns_all = λ files mid rows turns. (λ z. z, λ z. z);
        sweeps = λ files image. (λ z. z, λ z. z);
        counts = λ files figures x y. (λ z. z, λ z. z);
      };
      usable = λ unspoilt. let no : true ≡ false = sym spoilt ∙ unspoilt in cc;
      unspoilt = tt;
      spoilt = inl spoilt;
      late = omega (arith, latest);
      sequence = λ n err. let no : Sequence n ≡ Files 4294967295 = (spent_end (Sequence n) err).0 in cc;
      files = λ n err. let at = spent_end (Files n) err in let is : n ≡ 4294967295 = let one : Files n ≡ Files 4294967295 = at.0 in cc in omega (arith, is, at.1);
    }

    pub failed_told : (a b : HostState) (frames : List Frame) (records : List Item) (one : Item) → S.parts.spoilt ≡ false → (is : IsNewestOf S a frames records key from gone spelled one)
        → PutsBy over one moment (record { closed = is.stands.log.0; frames = frames; records = records }) (main_files S) (files_of T.parts.log) a b (Err f)
        → IsCopied {R = Place} S T a b frames records moment one (Err f)
    failed_told a b frames records one sound is puts = record {
      acts = call_acts S T a b frames records moment (content_of S a.files) _ is.stands puts.images (since_put over S a frames records moment is.stands) sound late latest (λ unspoilt. let no : true ≡ false = sym spoilt ∙ unspoilt in cc)
          {R = Place} (Err f) (put_leaves over S a b (CountsIf over frames (closed_frames (waiting S) frames records moment)) puts.files puts.images) puts.silent (λ unspoilt. let no : true ≡ false = sym spoilt ∙ unspoilt in cc)
          (λ d err. log_goes.damaged d err) (λ s err. inr (spent_end s err)) (λ err unspoilt. let no : true ≡ false = sym spoilt ∙ unspoilt in cc);
      content = tt;
      copied = tt;
    }

  -- whether it was copied or not

  pub copy_plain : (result : Result Place StoreFault) → IfOk result (Copies key from gone (length spelled) moment S.parts T.parts) → OnErr result (T.parts.spoilt ≡ true) → T.parts.tree.bits ≡ S.parts.tree.bits → T.parts.requests.limit ≡ S.parts.requests.limit
      → Goes (files_of S.parts.log) (files_of T.parts.log) result → IsSpentBy (file_spent (files_of S.parts.log) (length spelled)) result → S.parts.spoilt ≡ false → T.sync_writes ≡ S.sync_writes → Plainly (log_facts S) (log_facts T) moment result
  copy_plain (Ok to) copies spoilt bits limit log_goes log_spent sound sync = copied_plain to copies sound sync
  copy_plain (Err f) copies spoilt bits limit log_goes log_spent sound sync = failed_plain f spoilt log_goes log_spent bits limit sync

  pub copy_makes : (result : Result Place StoreFault) → IfOk result (Copies key from gone (length spelled) moment S.parts T.parts) → TakesFile (files_of S.parts.log) (files_of T.parts.log) → MakesFile S T result
  copy_makes (Ok to) copies takes = record { next = takes.0; made = takes.2; file = copied_file to copies }
  copy_makes (Err f) copies takes = record { next = takes.0; made = takes.2; file = tt }

  pub copy_rows : (result : Result Place StoreFault) → IfOk result (Copies key from gone (length spelled) moment S.parts T.parts) → length S.parts.requests.waiting < S.parts.requests.limit → OnOk result (Queues S.parts.requests.limit (log_facts S).parts (log_facts T).parts)
  copy_rows (Ok to) copies room = copied_rows to copies room
  copy_rows (Err f) copies room = tt

  pub copy_told : (result : Result Place StoreFault) → IfOk result (Copies key from gone (length spelled) moment S.parts T.parts) → OnErr result (T.parts.spoilt ≡ true)
      → Goes (files_of S.parts.log) (files_of T.parts.log) result → IsSpentBy (file_spent (files_of S.parts.log) (length spelled)) result → S.parts.spoilt ≡ false
      → (a b : HostState) (frames : List Frame) (records : List Item) (one : Item) → (is : IsNewestOf S a frames records key from gone spelled one)
      → PutsBy over one moment (record { closed = is.stands.log.0; frames = frames; records = records }) (main_files S) (files_of T.parts.log) a b result
      → IsCopied S T a b frames records moment one result
  copy_told (Ok to) copies spoilt log_goes log_spent sound a b frames records one is puts = copied_told to copies a b frames records one is puts sound
  copy_told (Err f) copies spoilt log_goes log_spent sound a b frames records one is puts = failed_told f spoilt log_goes log_spent a b frames records one sound is puts
