-- What a stamp of the log says to the store, as the log tells it.
use Rattle.std.proofs.Common.{◌≡◌, ◌⊎◌, inl, inr, ℕ, ◌+◌, ◌≤◌, true, false, Bool, List, [], Option, Some, refl, sym, ◌∙◌, ap, subst}
use Rattle.std.specs.Prelude.{Result, Ok, Err, IsErrOf, length}
use Rattle.cache_model.specs.declared.faults.StoreFault.{StoreFault}
use Rattle.cache_model.specs.declared.faults.StoreFault.TheVariants as fault
use Rattle.cache_model.specs.declared.faults.Spent.{Spent}
use Rattle.cache_model.specs.declared.faults.Spent.TheVariants.{Files}
use Rattle.cache_model.specs.Files.{Image}
use Rattle.cache_model.specs.Items.{Item}
use Rattle.cache_model.specs.DataFiles.{Frame, CountsFrames}
use Rattle.cache_disk.specs.State.{HostState, Moves, SameBut}
use Rattle.cache_disk.specs.Calls.{OnFile}
use Rattle.data_file.specs.Appending.{CountsOneOf, sealed}
use Rattle.append_log.specs.declared.log_calls.Log.{Log}
use Rattle.append_log.specs.declared.log_files.LogFiles.{LogFiles}
use Rattle.append_log.specs.Current.{IsUsable as IsUsableLog, files_of, is_stamped, makes_by, stamp_closes, stamp_spent, store_of, tail_of, current_by}
use Rattle.append_log.specs.Standing.{Held, Stands, opened_held, stamped_held}
use Rattle.append_log.specs.Calls.{Goes, IsSpentBy, IsStamped, IsStampedBy, Stamps, StampsBy, stamped_file}
use Rattle.append_log.proofs.Stamped.{closes_idle, stamped_by}
use Rattle.file_stats.specs.Figures.{Figures}
use Rattle.store_trait.specs.Keeping.{Leaves, SameContent}
use Rattle.soft_index.specs.declared.log_store.LogStore.{LogStore}
use Rattle.soft_index.specs.Counted.{CountsWritten}
use Rattle.soft_index.specs.Stamped.{IsStampedIn, MarksFile}
use Rattle.soft_index.specs.Store.{LogStands, content_of, current_of, log_facts, main_files, next_file, next_of, number, owns_file, row_of, waiting, writer}
use Rattle.soft_index.proofs.Changes.{SameParts}
use Rattle.soft_index.proofs.Images.{IsAsBefore, IsNewImage, call_acts, leaves_others, step_since}
use Rattle.soft_index.proofs.Putting.{file_end}
use Rattle.soft_index.proofs.Stamped.{HasStamped, closes_some, end_in, since_next, stamped_current, stamped_here, stamped_next, stamped_there}
use Rattle.soft_index.proofs.Standing.{content_same, rests_none}
use Rattle.soft_index.proofs.Turning.{parts_of, row_waits, seal_image}

-- the log's own call, of the main store
pub stamps_main : (F G : LogFiles) (a b : HostState) (moment : ℕ) (held : Held) (result : Result (Unit {0}) StoreFault) → F.store ≡ 0 → Stamps moment held F G a b result → Stamps moment held (record F { store = 0 }) G a b result
stamps_main F G a b moment held result main told = subst (λ (s : ℕ). Stamps moment held (record F { store = s }) G a b result) main told

-- parts

pub stamped_rows : (moment : ℕ) (S T : LogStore) → T.parts.requests ≡ S.parts.requests → IsStamped moment (files_of S.parts.log) (files_of T.parts.log) → MarksFile (log_facts S).parts (log_facts T).parts
stamped_rows moment S T same is =
    let now = stamped_current (tail_of (files_of S.parts.log)) (is_stamped (files_of S.parts.log) moment) (stamp_closes (files_of S.parts.log) moment) (number S) in (
      length S.parts.requests.waiting,
      current_of (writer S) (number S),
      now.0,
      refl,
      parts_of T ∙ ap (λ (c : Option ℕ). row_of (length T.parts.requests.waiting) c) (ap current_by is.tail ∙ now.1) ∙ row_waits S T (Some now.0) same,
    )

-- which number is spent

pub stamp_spends : (F : LogFiles) (moment : ℕ) (s : Spent) → stamp_spent F moment ≡ Some s → (s ≡ Files 4294967295) × (next_file F.log F.file ≡ 4294967295)
stamp_spends F moment s is = file_end (makes_by F (stamp_closes F moment)) (next_file F.log F.file) s is

-- images

-- what a log held
abbrev held_by : (S : LogStore) (a : HostState) (frames : List Frame) (records : List Item) → LogStands S a frames records → Held
held_by S a frames records stands = record { closed = stands.log.0; frames = frames; records = records }

-- each step of a stamp, where the current file is closed first and where it isn't
abbrev stamp_step : Bool → LogStore → ℕ → Held → Image → Image → Type 0
stamp_step over S moment held = OnFile (stamped_file (main_files S) over) (CountsOneOf (opened_held over (number S) moment held).frames (stamped_held false over (number S) moment held).frames)

since_stamp : (over : Bool) (S : LogStore) (a : HostState) (frames : List Frame) (records : List Item) (moment : ℕ) (stands : LogStands S a frames records) → (over ≡ true → records ≡ [])
    → (d c : Image) → a.left a.turn d → stamp_step over S moment (held_by S a frames records stands) d c → IsAsBefore a c ⊎ IsNewImage (content_of S a.files) moment c
since_stamp true S a frames records moment stands none = since_next S a frames records moment stands (none refl)
since_stamp false S a frames records moment stands none =
    step_since S a frames records moment (content_of S a.files) (CountsOneOf frames (sealed frames records moment)) (CountsFrames (sealed frames records moment)) stands
    (λ bytes counts. counts) (seal_image S a frames records moment stands)

stamp_leaves : (over : Bool) (S : LogStore) (a b : HostState) (frames : List Frame) (records : List Item) (moment : ℕ) (stands : LogStands S a frames records)
    → SameBut (stamped_file (main_files S) over) a.files b.files → Moves a b (stamp_step over S moment (held_by S a frames records stands)) → Leaves owns_file false a b
stamp_leaves true S a b frames records moment stands same moves = leaves_others (number S + 1) a b (CountsOneOf [] (sealed [] [] moment)) same moves
stamp_leaves false S a b frames records moment stands same moves = leaves_others (number S) a b (CountsOneOf frames (sealed frames records moment)) same moves

-- where the current file is closed first there is no record
closes_none : (S : LogStore) (a : HostState) (frames : List Frame) (records : List Item) (moment : ℕ) → LogStands S a frames records → stamp_closes (main_files S) moment ≡ true → records ≡ []
closes_none S a frames records moment stands is = rests_none (waiting S) records stands.log.1.pending (closes_some (main_files S) moment is).1

-- where the log was stamped

module _ (S T : LogStore) (a b : HostState) (frames : List Frame) (records : List Item) (moment : ℕ) (old : Figures)
    (stands : LogStands S a frames records)
    (late : S.latest ≤ moment) (latest : T.latest ≡ moment)
    (ready : IsUsableLog (files_of S.parts.log)) (usable : IsUsableLog (files_of T.parts.log)) (main : store_of (files_of T.parts.log) ≡ 0)
    (next : next_of T ≡ next_of S)
    (alike : SameParts S T) (rows : old.rows ≡ S.parts.stats.rows) (room : 1 ≤ old.spare)
    (counts : CountsWritten (tail_of (files_of S.parts.log)) (tail_of (files_of T.parts.log)) old T.parts.stats) where
  stamped_holds : (idle over : Bool) → is_stamped (main_files S) moment ≡ idle → stamp_closes (main_files S) moment ≡ over
      → StampsBy idle over moment (held_by S a frames records stands) (main_files S) (files_of T.parts.log) a b (Ok tt)
      → IsStampedBy idle over moment (files_of S.parts.log) (files_of T.parts.log)
      → HasStamped S T a b frames records
  stamped_holds true true is closes told stamped = let no : true ≡ false = sym closes ∙ closes_idle (main_files S) moment is in cc
  stamped_holds true false is closes told stamped =
      let rests : waiting S ≡ false = (stamped_by (main_files S).last (main_files S).unsealed moment is).0 in
      let none : records ≡ [] = rests_none (waiting S) records stands.log.1.pending rests in
      stamped_here S T a b frames records moment old stands late latest ready usable main next alike rows room counts false (λ no. none) stamped.file told.images told.files (stamped_there true false moment S T stamped)
      (subst (λ (l : List Item). Stands (files_of T.parts.log) b (record { closed = stands.log.0; frames = frames; records = l })) none told.stands)
  stamped_holds false true is closes told stamped =
      let some = closes_some (main_files S) moment closes in
      stamped_next S T a b frames records moment old stands late latest ready usable main next alike rows room counts some.0 some.1 (closes_none S a frames records moment stands closes) stamped.file told.images told.files told.stands
  stamped_holds false false is closes told stamped =
      stamped_here S T a b frames records moment old stands late latest ready usable main next alike rows room counts true (λ no. cc) stamped.file told.images told.files (stamped_there false false moment S T stamped) told.stands

  pub stamped_told : S.parts.spoilt ≡ false → Stamps moment (held_by S a frames records stands) (main_files S) (files_of T.parts.log) a b (Ok tt) → IsStamped moment (files_of S.parts.log) (files_of T.parts.log)
      → IsStampedIn {R = Unit {0}} S T a b frames records moment (Ok tt)
  stamped_told sound told stamped =
      let over = stamp_closes (main_files S) moment in
      let now = stamped_holds (is_stamped (main_files S) moment) over refl refl told stamped in
      let content : SameContent (content_of S a.files) (content_of T b.files) = content_same S T a b frames now.fs records [] stands now.holds now.same in
      let there = stamped_there (is_stamped (files_of S.parts.log) moment) (stamp_closes (files_of S.parts.log) moment) moment S T stamped in
      let found = end_in (writer T) (number T) b now.fs moment there now.holds.log.1.current (sym now.holds.log.1.last ∙ stamped.last) in
      record {
        acts = call_acts S T a b frames records moment (content_of S a.files) (stamp_step over S moment (held_by S a frames records stands)) stands told.images
            (since_stamp over S a frames records moment stands (λ is. closes_none S a frames records moment stands is)) sound late latest (λ unspoilt. inl content)
            {R = Unit {0}} (Ok tt) (stamp_leaves over S a b frames records moment stands told.files told.images) told.silent (λ unspoilt. (now.fs, [], now.holds)) (λ d err. cc) (λ s err. cc) (λ err. cc);
        content = content;
        stamped = (record { fs = now.fs; rs = []; holds = now.holds; grows = now.grows }, refl, found.0, inl (refl, found.1));
      }

-- where it wasn't

module _ (S : LogStore) (log : Log) (figures : Figures) (moment : ℕ) (f : StoreFault)
    (goes : Goes {R = Unit {0}} (files_of S.parts.log) (files_of log) (Err f))
    (spent : IsSpentBy {R = Unit {0}} (stamp_spent (files_of S.parts.log) moment) (Err f)) where
  abbrev after : LogStore
  after = record S { parts = record S.parts { log = log; stats = figures; spoilt = true }; latest = moment }

  at_end : (s : Spent) → IsErrOf {T = Unit {0}} (Err f) (fault.Spent s) → (s ≡ Files 4294967295) × (next_file (writer after) (number after) ≡ 4294967295)
  at_end s err =
      let at = stamp_spends (files_of S.parts.log) moment s (spent.only s err) in
      (at.0, (goes.spent s err).1 ∙ at.1)

  pub failed_told : (a b : HostState) (frames : List Frame) (records : List Item) (stands : LogStands S a frames records) → S.parts.spoilt ≡ false → S.latest ≤ moment
      → Stamps moment (held_by S a frames records stands) (main_files S) (files_of log) a b (Err f)
      → IsStampedIn {R = Unit {0}} S after a b frames records moment (Err f)
  failed_told a b frames records stands sound late told =
      let over = stamp_closes (main_files S) moment in
      record {
        acts = call_acts S after a b frames records moment (content_of S a.files) (stamp_step over S moment (held_by S a frames records stands)) stands told.images
            (since_stamp over S a frames records moment stands (λ is. closes_none S a frames records moment stands is)) sound late refl (λ unspoilt. let no : true ≡ false = unspoilt in cc)
            {R = Unit {0}} (Err f) (stamp_leaves over S a b frames records moment stands told.files told.images) told.silent (λ unspoilt. let no : true ≡ false = unspoilt in cc)
            (λ d err. goes.damaged d err) (λ s err. inr (at_end s err)) (λ err unspoilt. let no : true ≡ false = unspoilt in cc);
        content = tt;
        stamped = tt;
      }
