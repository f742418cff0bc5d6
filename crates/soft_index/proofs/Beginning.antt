-- A compaction of the candidate is begun.
use Rattle.std.proofs.Common.{◌==◌, eqb, ◌≡◌, ℕ, zero, suc, ◌+◌, ◌≤◌, ◌<◌, Bool, true, false, List, [], length, Contains, Option, Some, None, IsSome, refl, sym, ◌∙◌, ap, subst, arith}
use Rattle.std.specs.Prelude.{Ok, Err, IfSome, IsErrOf, OnOk, if◌then◌else◌}
use Rattle.std.specs.Option.{option_eq}
use Rattle.std.proofs.lemmas.Bool.{false≢true}
use Rattle.std.proofs.lemmas.Bool.Decides.{nat_tests}
use Rattle.std.proofs.lemmas.List.{get_or-map, length-map}
use Rattle.cache_model.specs.declared.faults.Damage.{Damage}
use Rattle.cache_model.specs.declared.faults.Spent.{Spent}
use Rattle.cache_model.specs.declared.faults.StoreFault.{StoreFault}
use Rattle.cache_model.specs.declared.faults.StoreFault.TheVariants as fault
use Rattle.cache_model.specs.declared.files.FileCount.{FileCount}
use Rattle.cache_model.specs.Files.{Image, file_in}
use Rattle.cache_model.specs.Items.{Item}
use Rattle.cache_model.specs.DataFiles.{Frame}
use Rattle.cache_model.specs.Images.{log_name}
use Rattle.cache_disk.specs.State.{HostState}
use Rattle.cache_disk.specs.State as disk
use Rattle.data_file.specs.declared.appender.Appender.{Appender}
use Rattle.append_log.specs.Current.{files_of, next_file, number_of}
use Rattle.file_stats.specs.Figures.{IsLeastCandidate, numbers_of}
use Rattle.temporary_table.specs.declared.requests.Request.{Request}
use Rattle.compactor.specs.Recounting.{IsCandidateOf, IsClosedFile, IsRecounted}
use Rattle.store_trait.specs.Keeping.{SameContent, SameStore}
use Rattle.cache_disk.proofs.Runs.{Stands-trans}
use Rattle.soft_index.specs.declared.log_store.LogStore.{LogStore}
use Rattle.soft_index.specs.declared.running.Run.{Run}
use Rattle.soft_index.specs.RunLaws.{runs_on}
use Rattle.soft_index.specs.Running.{ActsOr, BeginsOn, HasBegun, HasBegunOver, HoldsRun, IsBegun, IsStill, spoil, turns_done}
use Rattle.soft_index.specs.Store.{LogStands, content_of, current_of, log_facts, number, row_of, writer}
use Rattle.soft_index.proofs.Acting.{current_by_files}
use Rattle.soft_index.proofs.Chaining.{acts_chain, acts_err, acts_ok, content_chain, still_acts_or}
use Rattle.soft_index.proofs.Changes.{IsAsWas, as_was, still_stands}
use Rattle.soft_index.proofs.Copied.{file_below}
use Rattle.soft_index.proofs.Growing.{grows_still}
use Rattle.soft_index.proofs.RunTurns.{run_begun}

-- what a comparison of the current file tells
pub named_same : (current : Option ℕ) (n : ℕ) → true ≡ option_eq eqb current (Some n) → current ≡ Some n
named_same None n is = absurd (false≢true (sym is))
named_same (Some m) n is = ap (λ (k : ℕ). Some k) (same m n is)
  where
    same : (m n : ℕ) → true ≡ (m == n) → m ≡ n
    same m n is' = grind (arith, nat_tests)

pub named_other : (current : Option ℕ) (n : ℕ) → false ≡ option_eq eqb current (Some n) → current ≡ Some n → ⊥
named_other None n is same = cc
named_other (Some m) n is same = differs m n is cc
  where
    differs : (m n : ℕ) → false ≡ (m == n) → m ≡ n → ⊥
    differs m n is' same' = grind (arith, nat_tests)

-- a candidate is there
pub candidate_there : (files : Image) (current : Option ℕ) (threshold : ℕ) (rows : List FileCount) (n : ℕ) → IsRecounted files current rows → IsLeastCandidate threshold current rows (Some n) → IsSome (file_in files (log_name n))
candidate_there files current threshold rows n recounted least =
    let at = least.0 in
    let among : Contains (numbers_of rows) n =
    (at.0, omega (arith, at.2, length-map rows (λ (row : FileCount). row.number)), get_or-map (λ (row : FileCount). row.number) rows at.0 at.1 n at.2 ∙ ap (λ (row : FileCount). row.number) at.3 ∙ at.4.0) in
    subst (λ (image : Image). IsSome (file_in image (log_name n))) recounted.written_are.files_are ((recounted.rows_are.each n).0 among)

-- and isn't the current file
pub candidate_other : (current : Option ℕ) (threshold : ℕ) (rows : List FileCount) (n : ℕ) → IsLeastCandidate threshold current rows (Some n) → current ≡ Some n → ⊥
candidate_other current threshold rows n least is = least.0.4.1.other (is ∙ ap (λ (k : ℕ). Some k) (sym least.0.4.0))

-- so that it is a closed one
closed_by : (log : Option Appender) (number n : ℕ) (files : Image) → ((k : ℕ) → next_file log number ≤ k → file_in files (log_name k) ≡ None) → IsSome (file_in files (log_name n)) → (current_of log number ≡ Some n → ⊥) → n ≡ number → ⊥
closed_by None number n files beyond there other is =
    let absent = beyond n (omega (arith, is)) in
    let no : false ≡ true = subst (λ (f : Option (List ℕ)). IsSome f) absent there in
    cc
closed_by (Some log) number n files beyond there other is = other (ap (λ (k : ℕ). Some k) (sym is))

pub candidate_closed : (S : LogStore) (a : HostState) (frames : List Frame) (records : List Item) (n : ℕ) → LogStands S a frames records → IsSome (file_in a.files (log_name n)) → (current_of (writer S) (number S) ≡ Some n → ⊥) → n ≡ number S → ⊥
candidate_closed S a frames records n stands there other = closed_by (writer S) (number S) n a.files stands.log.1.beyond there other

next_above : (log : Option Appender) (number : ℕ) → number ≤ next_file log number
next_above None number = omega arith
next_above (Some log) number = omega arith

-- its number is one that a data file may have
pub candidate_named : (S : LogStore) (a : HostState) (frames : List Frame) (records : List Item) (n : ℕ) → LogStands S a frames records → file_in a.files (log_name 0) ≡ None → IsSome (file_in a.files (log_name n)) → (n ≡ number S → ⊥)
    → (1 ≤ n) × (n < next_file (writer S) (number S))
candidate_named S a frames records n stands none there closed = (some n there, by (file_in a.files (log_name n)) refl there)
  where
    some : (m : ℕ) → IsSome (file_in a.files (log_name m)) → 1 ≤ m
    some zero is = let no : false ≡ true = subst (λ (f : Option (List ℕ)). IsSome f) none is in cc
    some (suc m) is = omega arith

    by : (found : Option (List ℕ)) → file_in a.files (log_name n) ≡ found → IsSome found → n < next_file (writer S) (number S)
    by None is none = cc
    by (Some bytes) is one = omega (arith, next_above (writer S) (number S), file_below S a.files stands.log.1.beyond n bytes closed is)

-- how an empty queue and the same log are told of the parts
emptied_row : (S M : LogStore) → files_of M.parts.log ≡ files_of S.parts.log → M.parts.requests.waiting ≡ [] → (log_facts M).parts ≡ row_of 0 (current_of (writer S) (number S))
emptied_row S M log empty =
    ap (λ (w : List Request). row_of (length w) (current_of (writer M) (number M))) empty ∙ ap (λ (c : Option ℕ). row_of 0 c) (current_by_files S M log)

-- it failed before anything was done but emptying the queue
pub begun_refused : (threshold : ℕ) (S M : LogStore) (a b : HostState) (moment : ℕ) (f : StoreFault) (frames : List Frame) (records : List Item) → disk.Stands a b → IsStill {R = Unit {0}} S M a b frames records moment (Err f) → HasBegun threshold S M a b moment (Err f)
begun_refused threshold S M a b moment f frames records still is =
    record { acts = acts_err {Q = Unit {0}} {R = Option Run} S M a b moment f is.acts; content = tt; held = tt; files = λ n. still.files (log_name n); rows = tt }

pub over_refused : (file : ℕ) (S M : LogStore) (a b : HostState) (moment : ℕ) (f : StoreFault) (frames : List Frame) (records : List Item) → disk.Stands a b → IsStill {R = Unit {0}} S M a b frames records moment (Err f) → HasBegunOver file S M a b moment (Err f)
over_refused file S M a b moment f frames records still is = record { acts = acts_err {Q = Unit {0}} {R = Option Run} S M a b moment f is.acts; content = tt; held = tt; still = still; rows = tt }

-- what holds of none, and of each compaction, holds of what was begun
by_cases : (P Q R : Option Run → Type 0) → (P None → Q None → R None) → ((run : Run) → P (Some run) → Q (Some run) → R (Some run)) → (begun : Option Run) → P begun → Q begun → R begun
by_cases P Q R none some None p q = none p q
by_cases P Q R none some (Some run) p q = some run p q

-- The queue was emptied, and then files were read.
module _ (S M : LogStore) (a b c : HostState) (moment : ℕ) (held : HoldsRun None S a) (same : SameStore (log_facts S) (log_facts M)) (still : disk.Stands a b) (read : disk.Stands b c)
    (sound : M.parts.spoilt ≡ false) (latest : M.latest ≡ moment) (log : files_of M.parts.log ≡ files_of S.parts.log)
    (is : IsStill {R = Unit {0}} S M a b held.frames held.records moment (Ok tt)) where
  kept : IsAsWas M M b.files c.files
  kept = as_was M M b.files c.files refl (refl, refl, refl) refl (λ n. read.files (log_name n))

  stands_on : LogStands M c held.frames held.records
  stands_on = still_stands M M b c held.frames held.records is.kept kept (omega arith) read

  stays : (n : ℕ) → file_in c.files (log_name n) ≡ file_in a.files (log_name n)
  stays n = read.files (log_name n) ∙ still.files (log_name n)

  acts_on : (next : Option Run) → ActsOr {R = Option Run} S M a c moment (Ok next)
  acts_on next =
      acts_chain {Q = Unit {0}} {R = Option Run} S M M a b c moment tt (Ok next) same is.content is.acts
      (still_acts_or {R = Option Run} M M b c held.frames held.records moment (Ok next) is.kept sound (omega (arith, latest)) latest read stands_on kept.content (λ d err. cc) (λ s err. cc)).acts

  content_on : (next : Option Run) → OnOk {E = StoreFault} (Ok next) (SameContent (content_of S a.files) (content_of M c.files))
  content_on next = content_chain {R = Option Run} (content_of S a.files) (content_of M b.files) (content_of M c.files) (Ok next) is.content kept.content

  held_none : HoldsRun None M c
  held_none = record { frames = held.frames; records = held.records; log = stands_on; runs = tt; zero = stays 0 ∙ held.zero }

  held_over : (file : ℕ) (run : Run) → IsBegun file run → (file ≡ number M → ⊥) → BeginsOn b.files file (Some run) → HoldsRun (Some run) M c
  held_over file run begun closed begins = record {
    frames = held.frames;
    records = held.records;
    log = stands_on;
    runs = runs_on (Some run) M M b c held.frames held.records (grows_still M M b c held.frames held.records refl read stands_on)
        (run_begun run M b held.frames held.records file is.kept begun begins.0 closed begins.1 begins.2);
    zero = stays 0 ∙ held.zero;
  }

  failed : (f : StoreFault) → ((d : Damage) → IsErrOf {T = Option Run} (Err f) (fault.Damaged d) → ⊥) → ((s : Spent) → IsErrOf {T = Option Run} (Err f) (fault.Spent s) → ⊥) → ActsOr {R = Option Run} S (spoil M) a c moment (Err f)
  failed f undamaged unspent =
      acts_chain {Q = Unit {0}} {R = Option Run} S M (spoil M) a b c moment tt (Err f) same is.content is.acts
      (still_acts_or {R = Option Run} M (spoil M) b c held.frames held.records moment (Err f) is.kept sound (omega (arith, latest)) latest read tt tt undamaged unspent).acts

  pub begun_failed : (threshold : ℕ) (f : StoreFault) → ((d : Damage) → IsErrOf {T = Option Run} (Err f) (fault.Damaged d) → ⊥) → ((s : Spent) → IsErrOf {T = Option Run} (Err f) (fault.Spent s) → ⊥)
      → HasBegun threshold S (spoil M) a c moment (Err f)
  begun_failed threshold f undamaged unspent = record { acts = failed f undamaged unspent; content = tt; held = tt; files = stays; rows = tt }

  pub over_failed : (file : ℕ) (f : StoreFault) → ((d : Damage) → IsErrOf {T = Option Run} (Err f) (fault.Damaged d) → ⊥) → ((s : Spent) → IsErrOf {T = Option Run} (Err f) (fault.Spent s) → ⊥)
      → HasBegunOver file S (spoil M) a c moment (Err f)
  over_failed file f undamaged unspent = record { acts = failed f undamaged unspent; content = tt; held = tt; still = Stands-trans a b c still read; rows = tt }

  turns_none : (file : ℕ) (run : Run) → IsBegun file run → turns_done run ≡ 0
  turns_none file run begun = ap (λ (l : List (List ℕ)). length l + (if run.is_stamped then 1 else 0)) begun.none ∙ ap (λ (t : Bool). 0 + (if t then 1 else 0)) begun.unstamped ∙ omega arith

  module _ (empty : M.parts.requests.waiting ≡ []) where
    -- a compaction of the candidate
    pub begun_next : (threshold file : ℕ) (begun : Option Run) → IsRecounted a.files (current_of (writer S) (number S)) M.parts.stats.rows → IsLeastCandidate threshold (current_of (writer S) (number S)) M.parts.stats.rows (Some file)
        → IfSome begun (IsBegun file) → BeginsOn b.files file begun → HasBegun threshold S M a c moment (Ok begun)
    begun_next threshold file begun recounted least =
        by_cases (λ x. IfSome x (IsBegun file)) (λ x. BeginsOn b.files file x) (λ x. HasBegun threshold S M a c moment (Ok x)) none (λ run is begins. over run is begins) begun
      where
        there : IsSome (file_in a.files (log_name file))
        there = candidate_there a.files (current_of (writer S) (number S)) threshold M.parts.stats.rows file recounted least

        none : Unit {0} → file_in b.files (log_name file) ≡ None → HasBegun threshold S M a c moment (Ok None)
        none u gone = let no : false ≡ true = subst (λ (f : Option (List ℕ)). IsSome f) (sym (still.files (log_name file)) ∙ gone) there in cc

        over : (run : Run) → IsBegun file run → BeginsOn b.files file (Some run) → HasBegun threshold S M a c moment (Ok (Some run))
        over run is begins = record {
          acts = acts_on (Some run);
          content = content_on (Some run);
          held = held_over file run is
              (λ here. candidate_closed S a held.frames held.records file held.log there (candidate_other (current_of (writer S) (number S)) threshold M.parts.stats.rows file least) (here ∙ ap number_of log)) begins;
          files = stays;
          rows = (
            length S.parts.requests.waiting,
            current_of (writer S) (number S),
            refl,
            emptied_row S M log empty,
            subst (λ (n : ℕ). IsCandidateOf a.files (current_of (writer S) (number S)) threshold (Some n)) (sym is.file_is) (M.parts.stats.rows, recounted, least),
            turns_none file run is,
          );
        }

    -- a file that isn't a closed one
    pub over_none : (file : ℕ) → (IsClosedFile a.files (current_of (writer S) (number S)) file → ⊥) → HasBegunOver file S M a c moment (Ok None)
    over_none file other = record {
      acts = acts_on None;
      content = content_on None;
      held = held_none;
      still = Stands-trans a b c still read;
      rows = (length S.parts.requests.waiting, current_of (writer S) (number S), refl, emptied_row S M log empty, other);
    }

    -- a compaction of a file that isn't the current one
    pub over_begun : (file : ℕ) (begun : Option Run) → (current_of (writer S) (number S) ≡ Some file → ⊥) → IfSome begun (IsBegun file) → BeginsOn b.files file begun → HasBegunOver file S M a c moment (Ok begun)
    over_begun file begun other =
        by_cases (λ x. IfSome x (IsBegun file)) (λ x. BeginsOn b.files file x) (λ x. HasBegunOver file S M a c moment (Ok x)) none (λ run is begins. over run is begins) begun
      where
        none : Unit {0} → file_in b.files (log_name file) ≡ None → HasBegunOver file S M a c moment (Ok None)
        none u gone = over_none file (λ is. let no : false ≡ true = subst (λ (f : Option (List ℕ)). IsSome f) (sym (still.files (log_name file)) ∙ gone) is.0 in cc)

        over : (run : Run) → IsBegun file run → BeginsOn b.files file (Some run) → HasBegunOver file S M a c moment (Ok (Some run))
        over run is begins =
            let there : IsSome (file_in a.files (log_name file)) = subst (λ (f : Option (List ℕ)). IsSome f) (still.files (log_name file)) begins.0 in
            record {
              acts = acts_on (Some run);
              content = content_on (Some run);
              held = held_over file run is (λ here. candidate_closed S a held.frames held.records file held.log there other (here ∙ ap number_of log)) begins;
              still = Stands-trans a b c still read;
              rows = (length S.parts.requests.waiting, current_of (writer S) (number S), refl, emptied_row S M log empty, (there, other), is.file_is, turns_none file run is);
            }

-- there is no candidate
pub begun_none : (threshold : ℕ) (S M : LogStore) (a b : HostState) (moment : ℕ) → (held : HoldsRun None S a) → disk.Stands a b → files_of M.parts.log ≡ files_of S.parts.log → M.parts.requests.waiting ≡ []
    → IsStill {R = Unit {0}} S M a b held.frames held.records moment (Ok tt)
    → IsRecounted a.files (current_of (writer S) (number S)) M.parts.stats.rows → IsLeastCandidate threshold (current_of (writer S) (number S)) M.parts.stats.rows None
    → HasBegun threshold S M a b moment (Ok None)
begun_none threshold S M a b moment held still log empty is recounted least = record {
  acts = acts_ok {Q = Unit {0}} {R = Option Run} S M a b moment tt None is.acts;
  content = is.content;
  held = record { frames = held.frames; records = held.records; log = is.kept; runs = tt; zero = still.files (log_name 0) ∙ held.zero };
  files = λ n. still.files (log_name n);
  rows = (length S.parts.requests.waiting, current_of (writer S) (number S), refl, emptied_row S M log empty, (M.parts.stats.rows, recounted, least));
}
