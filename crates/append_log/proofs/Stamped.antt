-- What a stamp leaves: the moment of its frame counts in every image.
use Rattle.std.proofs.Common.{◌≡◌, inl, ℕ, ◌+◌, ◌≤◌, ◌==◌, Bool, true, false, List, [], ◌∷◌, ◌++◌, Option, Some, None, Contains, IsSome, is_some, length, refl, sym, ◌∙◌, ap, subst, arith}
use Rattle.std.proofs.lemmas.Bool.Decides.{nat_tests}
use Rattle.std.proofs.lemmas.List.Elements.{Contains-append_right}
use Rattle.std.specs.Prelude.{Result, Ok, Err, OnOk, IsErrOf, ◌&&◌, if◌then◌else◌, max}
use Rattle.cache_model.specs.declared.faults.StoreFault.{StoreFault}
use Rattle.cache_model.specs.declared.faults.StoreFault.TheVariants as fault
use Rattle.cache_model.specs.declared.faults.Spent.{Spent}
use Rattle.cache_model.specs.declared.faults.Spent.TheVariants.{Files}
use Rattle.cache_model.specs.declared.files.FileName.{FileName}
use Rattle.cache_model.specs.Files.{Image, file_in}
use Rattle.cache_model.specs.Items.{Item, end}
use Rattle.cache_model.specs.DataFiles.{Frame, CountsFrames, Found, counted_items, placed_frames}
use Rattle.cache_disk.specs.State.{HostState}
use Rattle.cache_disk.specs.Calls.{OnFile, AllLeft, HasFile}
use Rattle.cache_disk.proofs.Runs.{HasFile-weaker, SameBut-same, Silent-same, Stands-same, started}
use Rattle.data_file.specs.declared.appender.Appender.{Appender}
use Rattle.data_file.specs.Appending.{CountsOneOf, next_place, sealed, written}
use Rattle.data_file.proofs.Frame.{counted_now, placed_of, placed-sealed}
use Rattle.append_log.specs.declared.log_files.LogFiles.{LogFiles}
use Rattle.append_log.specs.Current.{IsEnded, IsFileOf, IsLogOf, IsMarked, IsNamed, IsUsable, data_name, file_of, is_full, is_stamped, is_stamped_by, makes_by, makes_file, next_file, stamp_closes, stamp_spent}
use Rattle.append_log.specs.Standing.{Held, Stands, closed_held, last_behind, last_moment, opened_held, stamped_held}
use Rattle.append_log.specs.Calls.{CountsEnd, IsSpentBy, IsStamped, IsStampedBy, Stamps, StampsBy, stamped_file}
use Rattle.append_log.proofs.Ending.{makes_none, next_behind, next_idle, tail_behind, tail_idle}
use Rattle.append_log.proofs.Holding.{holds_closed, log_of, none_waits, sealed_reads}
use Rattle.append_log.proofs.Steps.{is_named}

-- the end of the last frame counts

split_behind : (first : Frame) (frames : List Frame) → (front : List Frame) × (one : Frame) × (first ∷ frames ≡ front ++ one ∷ []) × (one.moment ≡ last_behind first.moment frames)
split_behind first [] = ([], first, refl, refl)
split_behind first (frame ∷ frames) = let found = split_behind frame frames in (first ∷ found.0, found.1, ap (λ (l : List Frame). first ∷ l) found.2, found.3)

-- where there is a last frame it stands behind others
split_last : (frames : List Frame) (moment : ℕ) → last_moment frames ≡ Some moment → (front : List Frame) × (records : List Item) × (frames ≡ sealed front records moment)
split_last [] moment is = cc
split_last (frame ∷ frames) moment is =
    let found = split_behind frame frames in
    let some : Some (last_behind frame.moment frames) ≡ Some moment = is in
    let behind : last_behind frame.moment frames ≡ moment = cc in
    let same : found.1.moment ≡ moment = found.3 ∙ behind in
    (found.0, found.1.records, found.2 ∙ ap (λ (m : ℕ). found.0 ++ (record { records = found.1.records; moment = m }) ∷ []) same)

pub counts_end : (frames : List Frame) (moment : ℕ) (bytes : List ℕ) → last_moment frames ≡ Some moment → CountsFrames frames bytes → CountsEnd moment bytes
counts_end frames moment bytes is counts =
    let found = split_last frames moment is in
    let at = next_place found.0 found.1 in
    let within : Contains (placed_of found.0 found.1 ++ (at, end moment) ∷ []) (at, end moment) = Contains-append_right (placed_of found.0 found.1) ((at, end moment) ∷ []) (at, end moment) (0, omega arith, refl) in
    let items : counted_items bytes ≡ placed_of found.0 found.1 ++ (at, end moment) ∷ [] =
    ap (λ (f : Found). f.items) counts ∙ ap (λ (l : List Frame). placed_frames 2 l) found.2 ∙ placed-sealed found.0 found.1 moment
    in
    (at, subst (λ (l : List (ℕ × Item)). Contains l (at, end moment)) (sym items) within)

-- every image counts it
pub ends_now : (store : ℕ) (log : Option Appender) (file : ℕ) (b : HostState) (frames : List Frame) (records : List Item) (moment : ℕ) → is_some log ≡ true → IsNamed store log file → last_moment frames ≡ Some moment
    → IsFileOf store log file b frames records → AllLeft b (HasFile (data_name store file) (CountsEnd moment))
ends_now store None file b frames records moment there named last is image left = cc
ends_now store (Some log) file b frames records moment there named last is image left =
    subst (λ (name : FileName). HasFile name (CountsEnd moment) image) named
    (HasFile-weaker log.name (CountsFrames frames) (CountsEnd moment) image (counted_now log b frames records is image left) (λ bytes counts. counts_end frames moment bytes last counts))

-- where nothing is done

pub stamped_by : (last : Option ℕ) (unsealed : Bool) (moment : ℕ) → is_stamped_by last unsealed moment ≡ true → (unsealed ≡ false) × (last ≡ Some moment)
stamped_by None unsealed moment is = cc
stamped_by (Some last) true moment is = cc
stamped_by (Some last) false moment is = let same : last ≡ moment = grind (arith, nat_tests) in (refl, ap (λ (n : ℕ). Some n) same)

pub last_there : (log : Option Appender) (last : Option ℕ) (mark moment : ℕ) → IsEnded log last mark → last ≡ Some moment → is_some log ≡ true
last_there None last mark moment ended is = let no : None ≡ Some moment = sym ended ∙ is in cc
last_there (Some log) last mark moment ended is = refl

last_marked : (log : Option Appender) (last : Option ℕ) (mark moment : ℕ) → IsEnded log last mark → last ≡ Some moment → mark ≡ max mark moment
last_marked None last mark moment ended is = let no : None ≡ Some moment = sym ended ∙ is in cc
last_marked (Some log) last mark moment ended is = let below : moment ≤ mark = subst (λ (l : Option ℕ). IsMarked l mark) is ended.1 in omega (arith, below)

pub stamped_idle : (S : LogFiles) (moment : ℕ) → IsUsable S → is_stamped S moment ≡ true → IsStampedBy true false moment S S
stamped_idle S moment usable is =
    let last = (stamped_by S.last S.unsealed moment is).1 in
    let there = last_there S.log S.last S.mark moment usable.ended last in
    record {
      file = refl;
      tail = tail_idle S.log S.file S.unsealed there;
      next_file = next_idle S.log S.file there;
      last = last;
      mark = last_marked S.log S.last S.mark moment usable.ended last;
    }

pub stamps_idle : (S : LogFiles) (a : HostState) (moment : ℕ) (held : Held) → IsUsable S → is_stamped S moment ≡ true → Stands S a held → StampsBy true false moment held S S a a (Ok tt)
stamps_idle S a moment held usable is stands =
    let both = stamped_by S.last S.unsealed moment is in
    let there = last_there S.log S.last S.mark moment usable.ended both.1 in
    let named = is_named S.store S.log S.file S.unsealed usable.log in
    let none : held.records ≡ [] = none_waits held.records (sym stands.pending ∙ both.0) in
    let before : List Frame = held.frames in
    record {
      stands = stands;
      images = started a (OnFile (file_of S) (CountsOneOf before (sealed before held.records moment)));
      files = SameBut-same (file_of S) a.files;
      reads = sealed_reads S.store S.log S.file a held.frames named there (subst (λ (l : List Item). IsFileOf S.store S.log S.file a held.frames l) none stands.current);
      settled = stands.rests both.0;
      ends = ends_now S.store S.log S.file a held.frames held.records moment there named (sym stands.last ∙ both.1) stands.current;
      silent = Silent-same a;
      spent = λ s err. cc;
      refused = tt;
      still = λ idle. Stands-same a;
    }

-- where the current file is closed first

pub closed_now : (S : LogFiles) (a : HostState) (moment : ℕ) (held : Held) → IsUsable S → is_some S.log ≡ true → S.unsealed ≡ false → Stands S a held
    → Stands (record S { log = None; last = None; file = S.file + 1 }) a (closed_held false S.file moment held)
closed_now S a moment held usable there rests stands =
    let log = log_of S.log there in
    let named = (subst (λ (l : Option Appender). IsLogOf S.store l S.file S.unsealed) log.1 usable.log).0 in
    holds_closed S log.0 a held.closed held.frames log.1 named rests usable.some
    (subst (λ (l : List Item). Stands S a (record { closed = held.closed; frames = held.frames; records = l })) (none_waits held.records (sym stands.pending ∙ rests)) stands)

pub stamped_next : (S M T : LogFiles) (moment : ℕ) → M ≡ record S { log = None; last = None; file = S.file + 1 } → is_some S.log ≡ true → IsStampedBy false false moment M T → IsStampedBy false true moment S T
stamped_next S M T moment same there here =
    let is = subst (λ (m : LogFiles). IsStampedBy false false moment m T) same here in
    record {
      file = is.file;
      tail = is.tail ∙ tail_behind S.log S.file S.unsealed there;
      next_file = is.next_file ∙ next_behind S.log S.file there;
      last = is.last;
      mark = is.mark;
    }

module _ (S M : LogFiles) (a d : HostState) (moment : ℕ) (held : Held) (same : M ≡ record S { log = None; last = None; file = S.file + 1 }) where
  here_as : (T : LogFiles) (result : Result (Unit {0}) StoreFault) → StampsBy false false moment (closed_held false S.file moment held) M T a d result
      → StampsBy false false moment (closed_held false S.file moment held) (record S { log = None; last = None; file = S.file + 1 }) T a d result
  here_as T result here = subst (λ (m : LogFiles). StampsBy false false moment (closed_held false S.file moment held) m T a d result) same here

  pub stamps_next : (T : LogFiles) → StampsBy false false moment (closed_held false S.file moment held) M T a d (Ok tt) → StampsBy false true moment held S T a d (Ok tt)
  stamps_next T here =
      let is = here_as T (Ok tt) here in
      record { stands = is.stands; images = is.images; files = is.files; reads = is.reads; settled = is.settled; ends = is.ends; silent = is.silent; spent = is.spent; refused = tt; still = λ idle. cc }

  pub stamps_failed : (T U : LogFiles) (f : StoreFault) → U.spoilt ≡ true → StampsBy false false moment (closed_held false S.file moment held) M T a d (Err f) → StampsBy false true moment held S U a d (Err f)
  stamps_failed T U f spoilt here =
      let is = here_as T (Err f) here in
      record {
        stands = tt;
        images = is.images;
        files = is.files;
        reads = tt;
        settled = tt;
        ends = tt;
        silent = is.silent;
        spent = is.spent;
        refused = λ sound. let no : true ≡ false = sym spoilt ∙ sound in cc;
        still = λ idle. cc;
      }

-- which of them it is

pub stamped_as : (idle over : Bool) (moment : ℕ) (S T : LogFiles) (result : Result (Unit {0}) StoreFault) → is_stamped S moment ≡ idle → stamp_closes S moment ≡ over
    → OnOk result (IsStampedBy idle over moment S T) → OnOk result (IsStamped moment S T)
stamped_as idle over moment S T result first second is =
    subst (λ (i : Bool). OnOk result (IsStampedBy i (stamp_closes S moment) moment S T)) (sym first) (subst (λ (o : Bool). OnOk result (IsStampedBy idle o moment S T)) (sym second) is)

pub stamps_as : (idle over : Bool) (moment : ℕ) (held : Held) (S T : LogFiles) (a b : HostState) (result : Result (Unit {0}) StoreFault) → is_stamped S moment ≡ idle → stamp_closes S moment ≡ over
    → StampsBy idle over moment held S T a b result → Stamps moment held S T a b result
stamps_as idle over moment held S T a b result first second is =
    subst (λ (i : Bool). StampsBy i (stamp_closes S moment) moment held S T a b result) (sym first) (subst (λ (o : Bool). StampsBy idle o moment held S T a b result) (sym second) is)

pub closes_idle : (S : LogFiles) (moment : ℕ) → is_stamped S moment ≡ true → stamp_closes S moment ≡ false
closes_idle S moment is = ap (λ (i : Bool). if i then false else is_full S.log S.unsealed S.file_size) is

pub closes_full : (S : LogFiles) (moment : ℕ) (full : Bool) → is_stamped S moment ≡ false → full ≡ is_full S.log S.unsealed S.file_size → stamp_closes S moment ≡ full
closes_full S moment full is by = ap (λ (i : Bool). if i then false else is_full S.log S.unsealed S.file_size) is ∙ sym by

pub full_rests : (log : Option Appender) (unsealed : Bool) (file_size : ℕ) → is_full log unsealed file_size ≡ true → unsealed ≡ false
full_rests None unsealed file_size is = cc
full_rests (Some log) true file_size is = cc
full_rests (Some log) false file_size is = refl

pub full_there : (log : Option Appender) (unsealed : Bool) (file_size : ℕ) → is_full log unsealed file_size ≡ true → is_some log ≡ true
full_there None unsealed file_size is = cc
full_there (Some log) unsealed file_size is = refl

-- spent numbers

pub spent_at : (S : LogFiles) (moment : ℕ) (over at_end : Bool) → stamp_closes S moment ≡ over → at_end ≡ (makes_by S over && next_file S.log S.file == 4294967295)
    → stamp_spent S moment ≡ (if at_end then Some (Files 4294967295) else None)
spent_at S moment over at_end closes is =
    ap (λ (o : Bool). if makes_by S o && next_file S.log S.file == 4294967295 then Some (Files 4294967295) else None) closes
    ∙ ap (λ (e : Bool). if e then Some (Files 4294967295) else None) (sym is)

pub idle_unspent : (S : LogFiles) (moment : ℕ) → IsUsable S → is_stamped S moment ≡ true → stamp_spent S moment ≡ None
idle_unspent S moment usable is =
    let there = last_there S.log S.last S.mark moment usable.ended (stamped_by S.last S.unsealed moment is).1 in
    spent_at S moment false false (closes_idle S moment is) (ap (λ (m : Bool). m && next_file S.log S.file == 4294967295) (sym (makes_none S.log there)))

pub unspent_by : {R : Type 0} (spent : Option Spent) (result : Result R StoreFault) → spent ≡ None → ((s : Spent) → IsErrOf result (fault.Spent s) → ⊥) → IsSpentBy spent result
unspent_by spent result none unspent = record { only = λ s err. absurd (unspent s err); always = λ s is. let no : None ≡ Some s = sym none ∙ is in cc }

pub unspent_ok : {R : Type 0} (spent : Option Spent) (answer : R) → spent ≡ None → IsSpentBy spent (Ok answer)
unspent_ok spent answer none = unspent_by spent (Ok answer) none (λ s err. cc)

pub spent_so : {R : Type 0} (spent : Option Spent) (one : Spent) → spent ≡ Some one → IsSpentBy {R = R} spent (Err (fault.Spent one))
spent_so spent one is = record {
  only = λ s err. let same : one ≡ s = cc in is ∙ ap (λ (x : Spent). Some x) same;
  always = λ s given. let same : Some one ≡ Some s = sym is ∙ given in inl cc;
}
