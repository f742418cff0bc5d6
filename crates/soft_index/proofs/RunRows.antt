-- How the turns of a compaction move the parts.
use Rattle.std.proofs.Common.{◌≡◌, inl, inr, ℕ, ◌+◌, ◌≤◌, ◌<◌, Bool, true, false, List, [], ◌∷◌, ◌++◌, Option, Some, None, refl, sym, ◌∙◌, ap, subst, arith}
use Rattle.std.specs.Prelude.{length, map, min, if◌then◌else◌}
use Rattle.std.proofs.lemmas.List.{length-append, length-map}
use Rattle.std.proofs.lemmas.List.Sums.{length-filter}
use Rattle.cache_model.specs.declared.replies.Turned.TheVariants.{Done}
use Rattle.cache_model.specs.Files.{Image, bytes_in}
use Rattle.cache_model.specs.Items.{Item}
use Rattle.cache_model.specs.DataFiles.{Frame, counted_items}
use Rattle.cache_model.specs.Images.{key_of, log_name}
use Rattle.compactor.specs.Passing.{records_left}
use Rattle.compactor.specs.Recounting.{IsCandidateOf, counted_records, is_record}
use Rattle.store_trait.specs.Meaning.{Row}
use Rattle.soft_index.specs.declared.log_store.LogStore.{LogStore}
use Rattle.soft_index.specs.declared.running.Run.{Run}
use Rattle.soft_index.specs.Compacting.{CompactsBy, TakesAction, with_run}
use Rattle.soft_index.specs.Running.{ActsRows, HasRead, LooksRows, RunStands, records_of, run_of, turns_done}
use Rattle.soft_index.specs.Store.{row_of}
use Rattle.soft_index.proofs.Indexing.{same_current, same_queued}

-- how many records were looked at
looked_length : (run : Run) (S : LogStore) (files : Image) (frames : List Frame) (records : List Item) → (is : RunStands run S files frames records) → length is.looked ≡ length run.looked.items
looked_length run S files frames records is =
    let one : length (map (λ (one : ℕ × Item). key_of one.1) is.looked) ≡ length is.looked = length-map is.looked (λ (one : ℕ × Item). key_of one.1) in
    let two : length (map (λ (k : List ℕ). Some k) run.looked.items) ≡ length run.looked.items = length-map run.looked.items (λ (k : List ℕ). Some k) in
    sym one ∙ ap (λ (l : List (Option (List ℕ))). length l) is.keys ∙ two

-- how many records a file has
records_length : (files : Image) (file : ℕ) → counted_records files file ≡ length (records_of files file)
records_length files file = sym (length-filter (λ (one : ℕ × Item). is_record one.1) (counted_items (bytes_in files (log_name file))))

-- how many turns were done before the stamp
turns_before : (run : Run) → run.is_stamped ≡ false → turns_done run ≡ length run.looked.items
turns_before run unstamped = ap (λ t. length run.looked.items + (if t then 1 else 0)) unstamped ∙ omega arith

-- how many records there are, and how many were looked at, before the stamp
records_split : (run : Run) (S : LogStore) (files : Image) (frames : List Frame) (records : List Item) → RunStands run S files frames records → run.is_stamped ≡ false
    → counted_records files run.file ≡ length run.looked.items + length (records_left run.scan (bytes_in files (log_name run.file)))
records_split run S files frames records is unstamped =
    let left = records_left run.scan (bytes_in files (log_name run.file)) in
    records_length files run.file ∙ ap (λ (l : List (ℕ × Item)). length l) (is.reads unstamped).records_are ∙ length-append is.looked left ∙ ap (λ (n : ℕ). n + length left) (looked_length run S files frames records is)

-- a record was looked at
pub looked_rows : (limit : ℕ) (was run next : Run) (S : LogStore) (files : Image) (frames : List Frame) (records : List Item) (one : ℕ × Item) (rest : List (ℕ × Item)) (key : List ℕ) (q : ℕ) (c : Option ℕ) (b : List Row)
    → RunStands was S files frames records → HasRead was run files
    → next.file ≡ run.file → next.is_stamped ≡ run.is_stamped → next.looked.items ≡ run.looked.items ++ key ∷ []
    → records_left was.scan (bytes_in files (log_name was.file)) ≡ one ∷ rest
    → LooksRows limit (row_of q c) b
    → ActsRows limit (counted_records files was.file) was (Some next) (row_of q c) b
looked_rows limit was run next S files frames records one rest key q c b is read file stamped looked left rows =
    let count = records_split was S files frames records is read.unstamped in
    let done = turns_before was read.unstamped in
    let more = turns_before next (stamped ∙ read.still) in
    let longer : length next.looked.items ≡ length was.looked.items + 1 = ap (λ (l : List (List ℕ)). length l) looked ∙ length-append run.looked.items (key ∷ []) ∙ ap (λ (l : List (List ℕ)). length l + 1) read.looked in
    let less : turns_done was < counted_records files was.file = omega (arith, count, ap (λ (l : List (ℕ × Item)). length l) left, done) in
    let goes : run_of (Some next) ≡ Some (was.file, turns_done was + 1) = ap (λ (n : ℕ). Some (n, turns_done next)) (file ∙ read.file) ∙ ap (λ (n : ℕ). Some (was.file, n)) (omega (arith, more, done, longer)) in
    by rows less goes
  where
    by : LooksRows limit (row_of q c) b → turns_done was < counted_records files was.file → run_of (Some next) ≡ Some (was.file, turns_done was + 1) → ActsRows limit (counted_records files was.file) was (Some next) (row_of q c) b
    by (inl same) less goes = (q, c, q, c, refl, same, inl (less, inl (refl, refl), goes))
    by (inr queues) less goes =
        let waits : q ≡ queues.0 = same_queued q queues.0 c queues.1 queues.3 in
        (q, c, min (queues.0 + 1) limit, Some queues.2, refl, queues.4, inl (less, inr (ap (λ (n : ℕ). min (n + 1) limit) (sym waits), refl), goes))

-- the log was stamped
pub marked_rows : (limit : ℕ) (was run next : Run) (S : LogStore) (files : Image) (frames : List Frame) (records : List Item) (q n : ℕ) (c : Option ℕ) (b : List Row)
    → RunStands was S files frames records → HasRead was run files
    → next.file ≡ run.file → next.is_stamped ≡ true → next.looked.items ≡ run.looked.items
    → records_left was.scan (bytes_in files (log_name was.file)) ≡ []
    → b ≡ row_of q (Some n)
    → ActsRows limit (counted_records files was.file) was (Some next) (row_of q c) b
marked_rows limit was run next S files frames records q n c b is read file stamped looked left rows =
    let count = records_split was S files frames records is read.unstamped in
    let done = turns_before was read.unstamped in
    let more : turns_done next ≡ length was.looked.items + 1 = ap (λ t. length next.looked.items + (if t then 1 else 0)) stamped ∙ omega (arith, ap (λ (l : List (List ℕ)). length l) (looked ∙ read.looked)) in
    let all : turns_done was ≡ counted_records files was.file = omega (arith, count, ap (λ (l : List (ℕ × Item)). length l) left, done) in
    let goes : run_of (Some next) ≡ Some (was.file, turns_done was + 1) = ap (λ (m : ℕ). Some (m, turns_done next)) (file ∙ read.file) ∙ ap (λ (m : ℕ). Some (was.file, m)) (omega (arith, more, done)) in
    (q, c, q, Some n, refl, rows, inr (inl (all, refl, refl, goes)))

-- the file was taken away
pub reclaimed_rows : (limit : ℕ) (run : Run) (S : LogStore) (files : Image) (frames : List Frame) (records : List Item) (q left : ℕ) (c : Option ℕ) (b : List Row)
    → RunStands run S files frames records → run.is_stamped ≡ true
    → left ≡ min (length run.looked.items) limit → b ≡ row_of left c
    → ActsRows limit (counted_records files run.file) run None (row_of q c) b
reclaimed_rows limit run S files frames records q left c b is stamped waits rows =
    let done : turns_done run ≡ length run.looked.items + 1 = ap (λ t. length run.looked.items + (if t then 1 else 0)) stamped in
    let all : counted_records files run.file ≡ length run.looked.items = records_length files run.file ∙ ap (λ (l : List (ℕ × Item)). length l) (is.stamped stamped).0 ∙ looked_length run S files frames records is in
    (q, c, left, c, refl, rows, inr (inr (omega (arith, done, all), waits ∙ ap (λ (n : ℕ). min n limit) (sym all), refl, refl)))

-- A turn of a compaction that was under way,
pub turn_rows : (limit threshold count : ℕ) (files : Image) (run : Run) (next : Option Run) (a b : List Row) → count ≡ counted_records files run.file → ActsRows limit count run next a b
    → CompactsBy limit threshold files Done (with_run (run_of (Some run)) a) (with_run (run_of next) b)
turn_rows limit threshold count files run next a b counted rows = record {
  queued = rows.0;
  current = rows.1;
  run = run_of (Some run);
  before = ap (λ (l : List Row). with_run (run_of (Some run)) l) rows.4;
  number = run.file;
  done = turns_done run;
  waiting = rows.0;
  goes_on = (refl, refl, refl);
  left = rows.2;
  now = rows.3;
  next = run_of next;
  after = ap (λ (l : List Row). with_run (run_of next) l) rows.5;
  action = subst (λ (n : ℕ). TakesAction limit run.file n (turns_done run) rows.0 rows.1 rows.2 rows.3 (run_of next)) counted rows.6;
}

-- and the first one of a compaction, for which the queue was emptied.
pub first_rows : (limit threshold count q : ℕ) (c : Option ℕ) (files : Image) (run : Run) (next : Option Run) (a b : List Row) → count ≡ counted_records files run.file
    → IsCandidateOf files c threshold (Some run.file) → turns_done run ≡ 0
    → a ≡ row_of q c → ActsRows limit count run next (row_of 0 c) b
    → CompactsBy limit threshold files Done (with_run None a) (with_run (run_of next) b)
first_rows limit threshold count q c files run next a b counted candidate begun is rows =
    let waits : 0 ≡ rows.0 = same_queued 0 rows.0 c rows.1 rows.4 in
    let current : c ≡ rows.1 = same_current 0 rows.0 c rows.1 rows.4 in
    record {
      queued = q;
      current = c;
      run = None;
      before = ap (λ (l : List Row). with_run None l) is;
      number = run.file;
      done = turns_done run;
      waiting = rows.0;
      goes_on = (candidate, begun, sym waits);
      left = rows.2;
      now = rows.3;
      next = run_of next;
      after = ap (λ (l : List Row). with_run (run_of next) l) rows.5;
      action = subst (λ (d : Option ℕ). TakesAction limit run.file (counted_records files run.file) (turns_done run) rows.0 d rows.2 rows.3 (run_of next)) (sym current)
          (subst (λ (n : ℕ). TakesAction limit run.file n (turns_done run) rows.0 rows.1 rows.2 rows.3 (run_of next)) counted rows.6);
    }

-- no more turns were done than one for each record, and one for the stamp
pub done_within : (run : Run) (S : LogStore) (files : Image) (frames : List Frame) (records : List Item) → RunStands run S files frames records → turns_done run ≤ counted_records files run.file + 1
done_within run S files frames records is = by run.is_stamped refl
  where
    by : (stamped : Bool) → run.is_stamped ≡ stamped → turns_done run ≤ counted_records files run.file + 1
    by false on = omega (arith, turns_before run on, records_split run S files frames records is on)
    by true on =
        let done : turns_done run ≡ length run.looked.items + 1 = ap (λ t. length run.looked.items + (if t then 1 else 0)) on in
        let all : counted_records files run.file ≡ length run.looked.items = records_length files run.file ∙ ap (λ (l : List (ℕ × Item)). length l) (is.stamped on).0 ∙ looked_length run S files frames records is in
        omega (arith, done, all)
