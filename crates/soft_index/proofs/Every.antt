-- What it is to the store that all files are compacted.
use Rattle.std.proofs.Common.{◌≡◌, ⊎_elim, inl, inr, ℕ, ◌+◌, ◌≤◌, ◌<◌, true, false, List, [], length, Contains, Option, Some, None, IsSome, refl, sym, ◌∙◌, ap, subst, arith}
use Rattle.std.specs.Prelude.{Result, Ok, Err, OnOk}
use Rattle.std.proofs.lemmas.Bool.{cases_lt}
use Rattle.cache_model.specs.declared.faults.StoreFault.{StoreFault}
use Rattle.cache_model.specs.declared.faults.StoreFault.TheVariants as fault
use Rattle.cache_model.specs.declared.replies.Turned.{Turned}
use Rattle.cache_model.specs.declared.replies.Turned.TheVariants.{Done, Idle}
use Rattle.cache_model.specs.Files.{Image, file_in}
use Rattle.cache_model.specs.Images.{log_name}
use Rattle.cache_model.specs.Items.{Item}
use Rattle.cache_model.specs.DataFiles.{Frame}
use Rattle.cache_disk.specs.State.{HostState}
use Rattle.cache_disk.specs.State as disk
use Rattle.cache_disk.specs.Calls.{AllLeft}
use Rattle.cache_disk.proofs.Runs.{Stands-same}
use Rattle.append_log.specs.Current as append
use Rattle.data_file.specs.declared.appender.Appender.{Appender}
use Rattle.file_stats.specs.Figures.{numbers_of}
use Rattle.store_trait.specs.Meaning.{Row, StoreFacts}
use Rattle.store_trait.specs.Keeping.{SameContent, SameStore}
use Rattle.store_trait.specs.Calls.{DrawsNone, MayHaveRead, Plainly}
use Rattle.store_trait.proofs.Runs.{store_trans}
use Rattle.soft_index.specs.declared.compacting.CompactingStore.{CompactingStore}
use Rattle.soft_index.specs.declared.log_store.LogStore.{LogStore}
use Rattle.soft_index.specs.declared.running.Run.{Run}
use Rattle.soft_index.specs.Compacting.{AreDataFiles, CompactsAll, IsCurrentAfter, IsCurrentBehind, IsSwept, turns_left, turns_over, waiting_behind, with_run}
use Rattle.soft_index.specs.Compacting as parts
use Rattle.soft_index.specs.Running.{ActsOr, HoldsRun, IsStill, run_of}
use Rattle.soft_index.specs.Store.{LogStands, Rotates, content_of, current_of, log_facts, next_file, number, row_of, writer}
use Rattle.soft_index.specs.Sweeping.{AreToSweep, HasCompactedAll, HasSwept, SweepsRows}
use Rattle.soft_index.specs.Turns.{HasEnded, MakesUpTo, run_facts}
use Rattle.soft_index.proofs.Acting.{next_by_files}
use Rattle.soft_index.proofs.Carrying.{limit_same}
use Rattle.soft_index.proofs.Chaining.{acts_chain, acts_err, still_acts_or}
use Rattle.soft_index.proofs.Indexing.{same_current, same_queued}
use Rattle.soft_index.proofs.Whole.{behind_by}

-- where files are

-- each data file is below the next one
below_next : (log : Option Appender) (number n : ℕ) (files : Image) → ((k : ℕ) → next_file log number ≤ k → file_in files (log_name k) ≡ None) → IsSome (file_in files (log_name n)) → n < next_file log number
below_next log number n files beyond there = ⊎_elim (λ is. is) absent (cases_lt n (next_file log number))
  where
    absent : next_file log number ≤ n → n < next_file log number
    absent late =
        let no : false ≡ true = subst (λ (f : Option (List ℕ)). IsSome f) (beyond n late) there in
        cc

-- where there is no current file the next one has its number
next_of_none : (log : Option Appender) (number : ℕ) → current_of log number ≡ None → next_file log number ≡ number
next_of_none None number none = refl
next_of_none (Some log) number none = cc

-- the number of the next file doesn't fall where that of the current one doesn't, and there is still one
next_later : (one other : Option Appender) (number later : ℕ) → number ≤ later → (IsSome (current_of one number) → IsSome (current_of other later)) → next_file one number ≤ next_file other later
next_later None None number later rises still = omega (arith, rises)
next_later None (Some y) number later rises still = omega (arith, rises)
next_later (Some x) (Some y) number later rises still = omega (arith, rises)
next_later (Some x) None number later rises still =
    let no : false ≡ true = still refl in
    cc

-- where there was a current file there is one behind the end of a compaction
still_current : (files : Image) (run : parts.Run) (current now : Option ℕ) → IsCurrentBehind files run current now → IsSome current → IsSome now
still_current files None current now behind some = subst (λ (o : Option ℕ). IsSome o) (sym behind) some
still_current files (Some run) current now (inl is) some = is
still_current files (Some run) current now (inr (last, same)) some = subst (λ (o : Option ℕ). IsSome o) (sym same) some

-- there is no current file behind a rotation
closed_current : (turned : Turned) (q p : ℕ) (c d : Option ℕ) → Rotates turned (row_of q c) (row_of p d) → d ≡ None
closed_current Done q p c d (queued, n, before, after) = same_current p queued d None after
closed_current Idle q p c d (queued, before, after) = same_current p q d c after ∙ same_current q queued c None before

-- The statistics list the data files.
pub listed : (L : LogStore) (a : HostState) (frames : List Frame) (records : List Item) → LogStands L a frames records → AreDataFiles a.files (numbers_of L.parts.stats.rows)
listed L a frames records stands = record { ascend = stands.counted.ascend; each = stands.counted.each }

-- A call that answered Ok, with want of memory behind it
pub plain_memory : {T : Type 0} (f g : StoreFacts) (moment : ℕ) (x : T) → Plainly {T = T} f g moment (Ok x) → Plainly {T = Unit {0}} f g moment (Err fault.Memory)
plain_memory f g moment x plain = record {
  same = plain.same;
  usable = plain.usable;
  unspoilt = tt;
  spoilt = inr refl;
  late = plain.late;
  sequence = λ n err. cc;
  files = λ n err. cc;
}

-- It failed before the first file was compacted: no more files were made than the end of the compaction that was under way
-- takes turns.
module _ (S : CompactingStore) (a : HostState) (frames : List Frame) (records : List Item) (stands : LogStands S.log a frames records) (now : a.left a.turn a.files) (moment : ℕ) where
  pub every_refused : (T : CompactingStore) (d : HostState) (f : StoreFault) → ActsOr {R = Unit {0}} S.log T.log a d moment (Err f) → MakesUpTo (turns_left a.files (run_of S.run)) S.log T.log → HasCompactedAll S T a d moment (Err f)
  every_refused T d f acts makes = record {
    acts = acts;
    content = tt;
    held = tt;
    made = (
      a.files,
      turns_left a.files (run_of S.run) + turns_over a.files (numbers_of S.log.parts.stats.rows),
      (a.turn, omega arith, acts.others.images.later, acts.others.images.kept a.turn a.files (omega arith) now),
      (numbers_of S.log.parts.stats.rows, listed S.log a frames records stands, refl),
      omega (arith, makes),
    );
    parts = tt;
    swept = tt;
  }

-- The compaction that was under way has ended, the current file is closed, and nothing waits for the index.
pub record IsCleared (S W : CompactingStore) (a d : HostState) (moment : ℕ) : Type 0 where
  pub acts : ActsOr {R = Unit {0}} S.log W.log a d moment (Ok tt)
  pub content : SameContent (content_of S.log a.files) (content_of W.log d.files)
  pub same : SameStore (log_facts S.log) (log_facts W.log)
  pub made : MakesUpTo (turns_left a.files (run_of S.run)) S.log W.log
  pub none : current_of (writer W.log) (number W.log) ≡ None
  pub later : next_file (writer S.log) (number S.log) ≤ number W.log
  pub emptied : W.log.parts.requests.waiting ≡ []
  pub held : HoldsRun None W.log d

-- The end of a compaction, a rotation, and the queue emptied.
module _ (S X : CompactingStore) (Y : LogStore) (a b c : HostState) (moment : ℕ) (ended : HasEnded S X a b moment (Ok tt)) (same : SameStore (log_facts S.log) (log_facts X.log)) (draws : DrawsNone (log_facts X.log) (log_facts Y)) where
  -- the rotation failed
  pub rotate_failed : (f : StoreFault) → ActsOr {R = Turned} X.log Y b c moment (Err f) → ActsOr {R = Unit {0}} S.log Y a c moment (Err f) × MakesUpTo (turns_left a.files (run_of S.run)) S.log Y
  rotate_failed f acts = (
    acts_err {Q = Turned} {R = Unit {0}} S.log Y a c moment f (acts_chain {Q = Unit {0}} {R = Turned} S.log X.log Y a b c moment tt (Err f) same ended.content ended.acts acts),
    omega (arith, ended.made, draws.made),
  )

  module _ (turned : Turned) (rotated : ActsOr {R = Turned} X.log Y b c moment (Ok turned)) (content : SameContent (content_of X.log b.files) (content_of Y c.files)) (same_next : SameStore (log_facts X.log) (log_facts Y)) where
    acts_so : ActsOr {R = Turned} S.log Y a c moment (Ok turned)
    acts_so = acts_chain {Q = Unit {0}} {R = Turned} S.log X.log Y a b c moment tt (Ok turned) same ended.content ended.acts rotated

    content_so : SameContent (content_of S.log a.files) (content_of Y c.files)
    content_so key = content key ∙ ended.content key

    same_so : SameStore (log_facts S.log) (log_facts Y)
    same_so = store_trans (log_facts S.log) (log_facts X.log) (log_facts Y) same same_next

    module _ (Z : LogStore) (d : HostState) (frames : List Frame) (records : List Item) (draws_last : DrawsNone (log_facts Y) (log_facts Z)) where
      -- emptying the queue failed
      pub empty_failed : (f : StoreFault) → IsStill {R = Unit {0}} Y Z c d frames records moment (Err f) → ActsOr {R = Unit {0}} S.log Z a d moment (Err f) × MakesUpTo (turns_left a.files (run_of S.run)) S.log Z
      empty_failed f still = (
        acts_chain {Q = Turned} {R = Unit {0}} S.log Y Z a c d moment turned (Err f) same_so content_so acts_so still.acts,
        omega (arith, ended.made, draws.made, draws_last.made),
      )

      -- all of it was done
      pub cleared : Rotates turned (log_facts X.log).parts (log_facts Y).parts → next_file (writer Y) (number Y) ≡ next_file (writer X.log) (number X.log)
          → file_in c.files (log_name 0) ≡ None → disk.Stands c d → SameStore (log_facts Y) (log_facts Z) → append.files_of Z.parts.log ≡ append.files_of Y.parts.log → Z.parts.requests.waiting ≡ []
          → IsStill {R = Unit {0}} Y Z c d frames records moment (Ok tt) → IsCleared S (record X { log = Z }) a d moment
      cleared rotates next zero stands same_last log emptied still = record {
        acts = acts_chain {Q = Turned} {R = Unit {0}} S.log Y Z a c d moment turned (Ok tt) same_so content_so acts_so still.acts;
        content = λ key. still.content key ∙ content_so key;
        same = store_trans (log_facts S.log) (log_facts Y) (log_facts Z) same_so same_last;
        made = omega (arith, ended.made, draws.made, draws_last.made);
        none = none_so;
        later = omega (arith, rises, next, next_by_files Y Z log, next_of_none (writer Z) (number Z) none_so);
        emptied = emptied;
        held = record { frames = frames; records = records; log = still.kept; runs = tt; zero = stands.files (log_name 0) ∙ zero };
      }
        where
          behind : IsCurrentBehind a.files (run_of S.run) (current_of (writer S.log) (number S.log)) (current_of (writer X.log) (number X.log))
          behind = behind_by S.log.parts.requests.limit a.files S.run (length S.log.parts.requests.waiting) (length X.log.parts.requests.waiting) (current_of (writer S.log) (number S.log)) (current_of (writer X.log) (number X.log)) ended.rows

          rises : next_file (writer S.log) (number S.log) ≤ next_file (writer X.log) (number X.log)
          rises = next_later (writer S.log) (writer X.log) (number S.log) (number X.log) ended.files.later
              (still_current a.files (run_of S.run) (current_of (writer S.log) (number S.log)) (current_of (writer X.log) (number X.log)) behind)

          none_y : current_of (writer Y) (number Y) ≡ None
          none_y = closed_current turned (length X.log.parts.requests.waiting) (length Y.parts.requests.waiting) (current_of (writer X.log) (number X.log)) (current_of (writer Y) (number Y)) rotates

          none_so : current_of (writer Z) (number Z) ≡ None
          none_so = ap (λ files. current_of (append.writer_of files) (append.number_of files)) log ∙ none_y

-- Runs went over all data files.
module _ (S W : CompactingStore) (a d : HostState) (moment : ℕ) (cleared : IsCleared S W a d moment) (frames : List Frame) (records : List Item) (stands : LogStands S.log a frames records) where
  numbers : List ℕ
  numbers = numbers_of W.log.parts.stats.rows

  files : AreDataFiles d.files (numbers_of W.log.parts.stats.rows)
  files = listed W.log d cleared.held.frames cleared.held.records cleared.held.log

  -- they may
  pub all_to_sweep : AreToSweep (numbers_of W.log.parts.stats.rows) W.log d.files
  all_to_sweep = record {
    ascend = files.ascend;
    there = λ n among. (files.each n).0 among;
    closed = λ n among.
        let less = below_next (writer W.log) (number W.log) n d.files cleared.held.log.log.1.beyond ((files.each n).0 among) in
        omega (arith, less, next_of_none (writer W.log) (number W.log) cleared.none);
  }

  -- it was refused for memory before
  pub numbers_refused : W.log.parts.spoilt ≡ false → W.log.latest ≡ moment → ActsOr {R = Unit {0}} S.log W.log a d moment (Err fault.Memory)
  numbers_refused sound latest =
      acts_chain {Q = Unit {0}} {R = Unit {0}} S.log W.log W.log a d d moment tt (Err fault.Memory) cleared.same cleared.content cleared.acts
      (still_acts_or {R = Unit {0}} W.log W.log d d cleared.held.frames cleared.held.records moment (Err fault.Memory) cleared.held.log sound (omega (arith, latest)) latest (Stands-same d) tt tt (λ damage err. cc) (λ s err. cc)).acts

  module _ (T : CompactingStore) (e : HostState) where
    -- a file that was there is in no image
    images : HasSwept (numbers_of W.log.parts.stats.rows) W T d e moment (Ok tt) → AllLeft e (IsSwept a.files)
    images swept image left n there = swept.held.log.others image left n apart ∙ by (file_in d.files (log_name n)) refl
      where
        less : n < number W.log
        less = omega (arith, below_next (writer S.log) (number S.log) n a.files stands.log.1.beyond there, cleared.later)

        apart : n ≡ number T.log → ⊥
        apart is = omega (arith, is, less, swept.later)

        by : (found : Option (List ℕ)) → file_in d.files (log_name n) ≡ found → file_in e.files (log_name n) ≡ None
        by None is = swept.others n less none ∙ is
          where
            none : Contains (numbers_of W.log.parts.stats.rows) n → ⊥
            none among =
                let no : false ≡ true = subst (λ (f : Option (List ℕ)). IsSome f) is ((files.each n).0 among) in
                cc
        by (Some bytes) is = swept.gone n ((files.each n).1 (subst (λ (f : Option (List ℕ)). IsSome f) (sym is) refl))

    abbrev all_turns : ℕ
    all_turns = turns_left a.files (run_of S.run) + turns_over d.files (numbers_of W.log.parts.stats.rows)

    all_rows : (limit : ℕ) → T.run ≡ None → SweepsRows limit d.files (numbers_of W.log.parts.stats.rows) (log_facts W.log).parts (log_facts T.log).parts
        → CompactsAll limit a.files d.files (turns_left a.files (run_of S.run) + turns_over d.files (numbers_of W.log.parts.stats.rows)) (run_facts S).parts (run_facts T).parts
    all_rows limit none (queued, current, now, before, behind, after) =
        let waits : queued ≡ 0 =
        sym (same_queued (length W.log.parts.requests.waiting) queued (current_of (writer W.log) (number W.log)) current before) ∙ ap (λ (l : List _). length l) cleared.emptied in
        let closed : current ≡ None =
        sym (same_current (length W.log.parts.requests.waiting) queued (current_of (writer W.log) (number W.log)) current before) ∙ cleared.none in (
          length S.log.parts.requests.waiting,
          current_of (writer S.log) (number S.log),
          run_of S.run,
          numbers_of W.log.parts.stats.rows,
          now,
          refl,
          files,
          refl,
          subst (λ (o : Option ℕ). IsCurrentAfter (numbers_of W.log.parts.stats.rows) o now) closed behind,
          ap (λ (r : Option Run). with_run (run_of r) (log_facts T.log).parts) none
              ∙ ap (λ (l : List Row). with_run None l) (after ∙ ap (λ (q : ℕ). row_of (waiting_behind limit d.files q (numbers_of W.log.parts.stats.rows)) now) waits),
        )

    pub every_swept : d.left d.turn d.files → (result : Result (Unit {0}) StoreFault) → OnOk result (T.run ≡ None) → HasSwept (numbers_of W.log.parts.stats.rows) W T d e moment result → HasCompactedAll S T a e moment result
    every_swept now (Err f) none swept = record {
      acts = acts_chain {Q = Unit {0}} {R = Unit {0}} S.log W.log T.log a d e moment tt (Err f) cleared.same cleared.content cleared.acts swept.acts;
      content = tt;
      held = tt;
      made = (
        d.files,
        all_turns,
        (d.turn, cleared.acts.others.images.later, swept.acts.others.images.later, swept.acts.others.images.kept d.turn d.files (omega arith) now),
        (numbers_of W.log.parts.stats.rows, files, refl),
        omega (arith, cleared.made, swept.made),
      );
      parts = tt;
      swept = tt;
    }
    every_swept now (Ok x) none swept =
        let read : MayHaveRead a e d.files = (d.turn, cleared.acts.others.images.later, swept.acts.others.images.later, swept.acts.others.images.kept d.turn d.files (omega arith) now) in
        record {
          acts = acts_chain {Q = Unit {0}} {R = Unit {0}} S.log W.log T.log a d e moment tt (Ok tt) cleared.same cleared.content cleared.acts swept.acts;
          content = λ key. swept.content key ∙ cleared.content key;
          held = subst (λ (r : Option Run). HoldsRun r T.log e) (sym none) swept.held;
          made = (d.files, all_turns, read, (numbers_of W.log.parts.stats.rows, files, refl), omega (arith, cleared.made, swept.made));
          parts = (
            d.files,
            all_turns,
            read,
            all_rows S.log.parts.requests.limit none
                (subst (λ (n : ℕ). SweepsRows n d.files (numbers_of W.log.parts.stats.rows) (log_facts W.log).parts (log_facts T.log).parts) (limit_same S.log W.log cleared.same) swept.rows),
            omega (arith, cleared.made, swept.made),
          );
          swept = images swept;
        }
