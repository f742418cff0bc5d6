-- What a log holds goes along with its calls.
use Rattle.std.proofs.Common.{◌≡◌, ◌⊎◌, ⊎_elim, inl, inr, ℕ, ◌+◌, ◌≤◌, ◌<◌, true, false, Bool, List, [], ◌∷◌, ◌++◌, Option, Some, None, IsSome, is_some, refl, sym, ◌∙◌, ap, subst, arith}
use Rattle.cache_model.specs.declared.files.FileName.{FileName}
use Rattle.std.specs.Prelude.{Result, Ok, Err, IfOk, OnOk, OnErr, IsErrOf}
use Rattle.cache_model.specs.declared.faults.StoreFault.{StoreFault}
use Rattle.cache_model.specs.declared.faults.StoreFault.TheVariants as fault
use Rattle.cache_model.specs.Files.{Image, file_in, is_name}
use Rattle.cache_model.specs.Items.{Item}
use Rattle.cache_model.specs.DataFiles.{Frame, file_spelling}
use Rattle.cache_disk.specs.State.{HostState, Moves, SameBut, SameFiles}
use Rattle.cache_disk.specs.State as disk
use Rattle.cache_disk.specs.declared.host.HostFault.{HostFault}
use Rattle.cache_disk.specs.Calls.{OnFile, AllLeft, Deleted, Stays, SyncedNames, Unmakes}
use Rattle.cache_disk.proofs.Runs.{Stands-left, Stands-moves, left_still}
use Rattle.data_file.specs.declared.appender.Appender.{Appender}
use Rattle.data_file.specs.Appending.{written, name_of, sealed, StandsFor}
use Rattle.data_file.proofs.Frame.{stands_on as stands_on_file}
use Rattle.data_file.proofs.Bytes.{written-none}
use Rattle.append_log.specs.declared.log_files.LogFiles.{LogFiles}
use Rattle.cache_model.specs.declared.replies.Turned.{Turned}
use Rattle.cache_model.specs.declared.replies.Turned.TheVariants.{Done, Idle}
use Rattle.append_log.specs.Calls.{IsNew, IsTurned}
use Rattle.append_log.specs.Current.{IsEnded, IsNamed, IsLogOf, data_name, file_of, next_file, next_file_of, tail_by, makes_file, mark_of, is_unsealed, marked, IsFileOf, IsLogStanding}
use Rattle.append_log.specs.Standing.{IsStanding, nothing_held, Closed, Held, Stands, IsClosedIn, IsGoneOr, AreClosedIn, AreBelow, RiseFrom, last_behind, last_moment, sealed_held, waits}
use Rattle.append_log.proofs.Steps.{cases_number, file_still, other_name, file_standing}

pub waits-push : (records : List Item) (one : Item) → waits (records ++ one ∷ []) ≡ true
waits-push [] one = refl
waits-push (item ∷ items) one = refl

pub none_waits : (records : List Item) → waits records ≡ false → records ≡ []
none_waits [] is = refl
none_waits (item ∷ items) is = cc

-- the last of some frames and one more
last_behind-push : (moment : ℕ) (frames : List Frame) (one : Frame) → last_behind moment (frames ++ one ∷ []) ≡ one.moment
last_behind-push moment [] one = refl
last_behind-push moment (frame ∷ frames) one = last_behind-push frame.moment frames one

pub last-sealed : (frames : List Frame) (records : List Item) (moment : ℕ) → last_moment (sealed frames records moment) ≡ Some moment
last-sealed [] records moment = refl
last-sealed (frame ∷ frames) records moment = ap (λ (n : ℕ). Some n) (last_behind-push frame.moment frames (record { records = records; moment = moment }))

-- numbers

made_next : (log : Option Appender) (file : ℕ) (b : HostState) (frames : List Frame) (records : List Item) → IsLogStanding log b frames records → next_file log file ≡ file + 1
made_next None file b frames records is = absurd is
made_next (Some log) file b frames records is = refl

pub next_most : (log : Option Appender) (file : ℕ) → next_file log file ≤ file + 1
next_most None file = omega arith
next_most (Some log) file = omega arith

rise_more : (least number : ℕ) (frames : List Frame) (files : List Closed) → least < number → RiseFrom least files → AreBelow files number → RiseFrom least (files ++ (record { number = number; frames = frames }) ∷ [])
rise_more least number frames [] first rise below = (first, tt)
rise_more least number frames (file ∷ files) first rise below = (rise.0, rise_more file.number number frames files below.0 rise.1 below.1)

below_more : (number : ℕ) (frames : List Frame) (files : List Closed) → AreBelow files number → AreBelow (files ++ (record { number = number; frames = frames }) ∷ []) (number + 1)
below_more number frames [] below = (omega arith, tt)
below_more number frames (file ∷ files) below = (omega (arith, below.0), below_more number frames files below.1)

closed_more : (store : ℕ) (state : HostState) (one : Closed) (files : List Closed) → AreClosedIn store state files → IsClosedIn store state one → AreClosedIn store state (files ++ one ∷ [])
closed_more store state one [] all is = (is, tt)
closed_more store state one (file ∷ files) all is = (all.0, closed_more store state one files all.1 is)

-- closed files

-- A closed file is there or gone as before, where each step leaves it as it was.
closed_on : (store : ℕ) (a b : HostState) (step : Image → Image → Type 0) (one : Closed)
    → file_in b.files (data_name store one.number) ≡ file_in a.files (data_name store one.number)
    → Moves a b step
    → ((d m : Image) → step d m → file_in m (data_name store one.number) ≡ file_in d (data_name store one.number))
    → IsClosedIn store a one → IsClosedIn store b one
closed_on store a b step one same moves keeps is = record {
  in_grammar = is.in_grammar;
  reads = subst (λ (found : Option (List ℕ)). IsGoneOr one.frames found) (sym same) is.reads;
  images = left_still a b step (λ image. IsGoneOr one.frames (file_in image (data_name store one.number))) moves is.images
      (λ d m was took. subst (λ (found : Option (List ℕ)). IsGoneOr one.frames found) (sym (keeps d m took)) was);
  stays = λ there.
      left_still a b step (λ image. file_in image (data_name store one.number) ≡ Some (file_spelling one.frames)) moves
      (is.stays (subst (λ (found : Option (List ℕ)). IsSome found) same there))
      (λ d m was took. keeps d m took ∙ was);
}

all_closed_on : (store file : ℕ) (a b : HostState) (P : List ℕ → Type 0) → SameBut (data_name store file) a.files b.files → Moves a b (OnFile (data_name store file) P)
    → (files : List Closed) → AreBelow files file → AreClosedIn store a files → AreClosedIn store b files
all_closed_on store file a b P same moves [] below all = tt
all_closed_on store file a b P same moves (one ∷ files) below all =
    let apart = other_name store file one.number (λ is. omega (arith, is, below.0)) in (
      closed_on store a b (OnFile (data_name store file) P) one (same (data_name store one.number) apart) moves (λ d m step. step.others (data_name store one.number) apart) all.0,
      all_closed_on store file a b P same moves files below.1 all.1,
    )

-- calls

-- a call on the current file, which is made then
pub holds_on : (F : LogFiles) (log : Option Appender) (unsealed spoilt : Bool) (last : Option ℕ) (mark : ℕ) (a b : HostState) (held : Held) (frames : List Frame) (records : List Item) (P : List ℕ → Type 0)
    → Stands F a held
    → Moves a b (OnFile (file_of F) P)
    → SameBut (file_of F) a.files b.files
    → IsLogStanding log b frames records
    → unsealed ≡ waits records
    → last ≡ last_moment frames
    → (unsealed ≡ false → AllLeft b (λ image. file_in image (file_of F) ≡ file_in b.files (file_of F)))
    → Stands (record F { log = log; unsealed = unsealed; spoilt = spoilt; last = last; mark = mark }) b (record { closed = held.closed; frames = frames; records = records })
holds_on F log unsealed spoilt last mark a b held frames records P stands moves same now pending ended settled = record {
  current = file_standing F.store log F.file b frames records now;
  closed = all_closed_on F.store F.file a b P same moves held.closed stands.below stands.closed;
  below = stands.below;
  rising = stands.rising;
  beyond = λ n above. same (data_name F.store n) (apart n above) ∙ stands.beyond n (behind n above);
  absent = λ n above.
      left_still a b (OnFile (file_of F) P) (λ image. file_in image (data_name F.store n) ≡ None) moves
      (stands.absent n (behind n above)) (λ d m none step. step.others (data_name F.store n) (apart n above) ∙ none);
  pending = pending;
  last = ended;
  rests = settled;
}
  where
    apart : (n : ℕ) → next_file log F.file ≤ n → is_name (file_of F) (data_name F.store n) ≡ false
    apart n above = other_name F.store F.file n (λ is. omega (arith, is, above, made_next log F.file b frames records now))

    behind : (n : ℕ) → next_file log F.file ≤ n → next_file_of F ≤ n
    behind n above = omega (arith, above, made_next log F.file b frames records now, next_most F.log F.file)

-- where nothing waits, what is held is sealed already
pub holds_sealed : (F : LogFiles) (a : HostState) (moment : ℕ) (held : Held) → F.unsealed ≡ false → Stands F a held → Stands F a (sealed_held F.unsealed moment held)
holds_sealed F a moment held is stands =
    subst (λ (u : Bool). Stands F a (sealed_held u moment held)) (sym is)
    (subst (λ (l : List Item). Stands F a (record { closed = held.closed; frames = held.frames; records = l })) (none_waits held.records (sym stands.pending ∙ is)) stands)

-- the current file is closed, and the next one isn't made yet
pub holds_closed : (F : LogFiles) (log : Appender) (b : HostState) (closed : List Closed) (frames : List Frame)
    → F.log ≡ Some log → name_of log ≡ file_of F → F.unsealed ≡ false → 1 ≤ F.file
    → Stands F b (record { closed = closed; frames = frames; records = [] })
    → Stands (record F { log = None; last = None; file = F.file + 1 }) b (record { closed = closed ++ (record { number = F.file; frames = frames }) ∷ []; frames = []; records = [] })
holds_closed F log b closed frames made named sealed some stands = record {
  current = (refl, refl, absent (F.file + 1) (omega arith));
  closed = closed_more F.store b (record { number = F.file; frames = frames }) closed stands.closed (record {
    in_grammar = now.in_grammar;
    reads = inr there;
    images = λ image left. inr (stands.rests sealed image left ∙ there);
    stays = λ is image left. stands.rests sealed image left ∙ there;
  });
  below = below_more F.file frames closed stands.below;
  rising = rise_more 0 F.file frames closed (omega (arith, some)) stands.rising stands.below;
  beyond = λ n above. stands.beyond n (subst (λ (l : Option Appender). next_file l F.file ≤ n) (sym made) above);
  absent = absent;
  pending = sealed;
  last = refl;
  rests = λ is image left. absent (F.file + 1) (omega arith) image left ∙ sym (stands.beyond (F.file + 1) (omega (arith, next_most F.log F.file)));
}
  where
    absent : (n : ℕ) → F.file + 1 ≤ n → AllLeft b (λ image. file_in image (data_name F.store n) ≡ None)
    absent n above = stands.absent n (subst (λ (l : Option Appender). next_file l F.file ≤ n) (sym made) above)

    now : StandsFor log b frames []
    now = subst (λ (l : Option Appender). IsFileOf F.store l F.file b frames []) made stands.current

    there : file_in b.files (file_of F) ≡ Some (file_spelling frames)
    there = ap (λ (name : FileName). file_in b.files name) (sym named) ∙ now.reads ∙ ap (λ (l : List ℕ). Some l) (written-none frames)

pub log_of : (log : Option Appender) → is_some log ≡ true → (made : Appender) × (log ≡ Some made)
log_of None there = cc
log_of (Some made) there = (made, refl)

-- a rotation of a log that has a current file isn't idle
pub turned_done : (turned : Turned) (moment : ℕ) (S T : LogFiles) → is_some S.log ≡ true → IsTurned moment turned S T → turned ≡ Done
turned_done Done moment S T there is = refl
turned_done Idle moment S T there is = absurd (no_tail S.log S.file S.unsealed there is.0)
  where
    no_tail : (log : Option Appender) (file : ℕ) (unsealed : Bool) → is_some log ≡ true → tail_by log file unsealed ≡ None → ⊥
    no_tail None file unsealed there none = cc
    no_tail (Some log) file unsealed there none = cc

pub turned_mark : (turned : Turned) (moment : ℕ) (S T : LogFiles) → turned ≡ Done → IsTurned moment turned S T → mark_of T ≡ marked (is_unsealed S) (mark_of S) moment
turned_mark Done moment S T done is = is.2
turned_mark Idle moment S T done is = cc

pub makes_over : (log : Option Appender) → is_some log ≡ true → makes_file log true ≡ true
makes_over None there = cc
makes_over (Some log) there = refl

pub some_next : (log : Option Appender) (file : ℕ) → is_some log ≡ true → next_file log file ≡ file + 1
some_next None file there = cc
some_next (Some log) file there = refl

-- a call that changed nothing leaves what is held
same_closed : (store : ℕ) (a b : HostState) → disk.Stands a b → (files : List Closed) → AreClosedIn store a files → AreClosedIn store b files
same_closed store a b still [] all = tt
same_closed store a b still (one ∷ files) all = (
  closed_on store a b SameFiles one (still.files (data_name store one.number)) (Stands-moves a b SameFiles still) (λ d m same. same (data_name store one.number)) all.0,
  same_closed store a b still files all.1,
)

pub holds_still : (F : LogFiles) (spoilt : Bool) (a b : HostState) (held : Held) → disk.Stands a b → Stands F a held → Stands (record F { spoilt = spoilt }) b held
holds_still F spoilt a b held still stands = record {
  current = file_still F.store F.log F.file a b held.frames held.records still stands.current;
  closed = same_closed F.store a b still held.closed stands.closed;
  below = stands.below;
  rising = stands.rising;
  beyond = λ n above. still.files (data_name F.store n) ∙ stands.beyond n above;
  absent = λ n above. Stands-left a b (λ image. file_in image (data_name F.store n) ≡ None) still (stands.absent n above);
  pending = stands.pending;
  last = stands.last;
  rests = λ is. Stands-left a b (λ image. file_in image (file_of F) ≡ file_in b.files (file_of F)) still (λ image left. stands.rests is image left ∙ sym (still.files (file_of F)));
}

-- what is held doesn't depend on the number of the next change
pub holds_next : (F : LogFiles) (next : ℕ) (b : HostState) (held : Held) → Stands F b held → Stands (record F { next = next }) b held
holds_next F next b held stands = record {
  current = stands.current;
  closed = stands.closed;
  below = stands.below;
  rising = stands.rising;
  beyond = stands.beyond;
  absent = stands.absent;
  pending = stands.pending;
  last = stands.last;
  rests = stands.rests;
}

-- a log that was just made holds nothing, where no file has its next number or a greater one
pub holds_new : (store file seq size : ℕ) (F : LogFiles) (a : HostState) → IsNew store file seq size F
    → ((n : ℕ) → file ≤ n → file_in a.files (data_name store n) ≡ None)
    → ((n : ℕ) → file ≤ n → AllLeft a (λ image. file_in image (data_name store n) ≡ None))
    → Stands F a nothing_held
holds_new store file seq size F a new reads images = record {
  current = subst (λ (l : Option Appender). IsFileOf F.store l F.file a [] []) (sym none) (refl, refl, absent F.file (omega (arith, least)));
  closed = tt;
  below = tt;
  rising = tt;
  beyond = beyond;
  absent = absent;
  pending = unsealed;
  last = subst (λ (l : Option Appender). IsEnded l F.last F.mark) none new.usable.ended;
  rests = λ is image left. absent F.file (omega (arith, least)) image left ∙ sym (beyond F.file (omega (arith, least)));
}
  where
    no_log : (log : Option Appender) (number : ℕ) (unsealed : Bool) → tail_by log number unsealed ≡ None → log ≡ None
    no_log None number unsealed is = refl
    no_log (Some log) number unsealed is = cc

    none : F.log ≡ None
    none = no_log F.log F.file F.unsealed new.tail

    unsealed : F.unsealed ≡ false
    unsealed = subst (λ (l : Option Appender). IsLogOf F.store l F.file F.unsealed) none new.usable.log

    least : next_file_of F ≡ F.file
    least = ap (λ (l : Option Appender). next_file l F.file) none

    beyond : (n : ℕ) → next_file_of F ≤ n → file_in a.files (data_name F.store n) ≡ None
    beyond n above = subst (λ (s : ℕ). file_in a.files (data_name s n) ≡ None) (sym new.store_is) (reads n (omega (arith, above, new.next_file)))

    absent : (n : ℕ) → next_file_of F ≤ n → AllLeft a (λ image. file_in image (data_name F.store n) ≡ None)
    absent n above = subst (λ (s : ℕ). AllLeft a (λ image. file_in image (data_name s n) ≡ None)) (sym new.store_is) (images n (omega (arith, above, new.next_file)))

-- what an answer says is held
pub standing_by : {R : Type 0} (T : LogFiles) (b : HostState) (after : R → Held) (result : Result R StoreFault) → IfOk result (λ answer. Stands T b (after answer)) → OnOk result (IsStanding T b)
standing_by T b after (Ok answer) ok = (after answer, ok)
standing_by T b after (Err f) ok = tt

pub standing_as : {R : Type 0} (T : LogFiles) (b : HostState) (after : Held) (result : Result R StoreFault) → OnOk result (Stands T b after) → OnOk result (IsStanding T b)
standing_as T b after (Ok answer) ok = (after, ok)
standing_as T b after (Err f) ok = tt

-- a log that isn't spoilt after a call stands, as the answer says or as before
pub stands_on : {R : Type 0} (F T : LogFiles) (a b : HostState) (held : Held) (result : Result R StoreFault) → Stands F a held
    → OnOk result (IsStanding T b)
    → OnErr result (T.spoilt ≡ false → disk.Stands a b)
    → OnErr result (T.spoilt ≡ false → IsErrOf result fault.Memory × (T ≡ F))
    → T.spoilt ≡ false → IsStanding T b
stands_on F T a b held (Ok answer) stands ok still same sound = ok
stands_on F T a b held (Err f) stands ok still same sound = (held, subst (λ (x : LogFiles). Stands x b held) (sym (same sound).1) (holds_still F F.spoilt a b held (still sound) stands))

-- what is held stays after calls of others, which leave each data file of the store as it was
beside_closed : (store : ℕ) (a b : HostState) (step : Image → Image → Type 0)
    → ((n : ℕ) → file_in b.files (data_name store n) ≡ file_in a.files (data_name store n))
    → Moves a b step
    → ((n : ℕ) (d m : Image) → step d m → file_in m (data_name store n) ≡ file_in d (data_name store n))
    → (files : List Closed) → AreClosedIn store a files → AreClosedIn store b files
beside_closed store a b step same moves keeps [] all = tt
beside_closed store a b step same moves keeps (one ∷ files) all = (
  closed_on store a b step one (same one.number) moves (λ d m took. keeps one.number d m took) all.0,
  beside_closed store a b step same moves keeps files all.1,
)

beside_current : (store : ℕ) (log : Option Appender) (file : ℕ) (a b : HostState) (frames : List Frame) (records : List Item) (step : Image → Image → Type 0) → IsNamed store log file
    → ((n : ℕ) → file_in b.files (data_name store n) ≡ file_in a.files (data_name store n))
    → Moves a b step
    → ((n : ℕ) (d m : Image) → step d m → file_in m (data_name store n) ≡ file_in d (data_name store n))
    → IsFileOf store log file a frames records → IsFileOf store log file b frames records
beside_current store None file a b frames records step named same moves keeps is =
    (is.0, is.1, left_still a b step (λ image. file_in image (data_name store file) ≡ None) moves is.2 (λ d m none took. keeps file d m took ∙ none))
beside_current store (Some log) file a b frames records step named same moves keeps is =
    stands_on_file log a frames records is b step
    (subst (λ (name : FileName). file_in b.files name ≡ file_in a.files name) (sym named) (same file))
    moves
    (λ d m took. subst (λ (name : FileName). file_in m name ≡ file_in d name) (sym named) (keeps file d m took))

pub holds_beside : (F : LogFiles) (a b : HostState) (held : Held) (step : Image → Image → Type 0) → IsNamed F.store F.log F.file
    → ((n : ℕ) → file_in b.files (data_name F.store n) ≡ file_in a.files (data_name F.store n))
    → Moves a b step
    → ((n : ℕ) (d m : Image) → step d m → file_in m (data_name F.store n) ≡ file_in d (data_name F.store n))
    → Stands F a held → Stands F b held
holds_beside F a b held step named same moves keeps stands = record {
  current = beside_current F.store F.log F.file a b held.frames held.records step named same moves keeps stands.current;
  closed = beside_closed F.store a b step same moves keeps held.closed stands.closed;
  below = stands.below;
  rising = stands.rising;
  beyond = λ n above. same n ∙ stands.beyond n above;
  absent = λ n above. left_still a b step (λ image. file_in image (data_name F.store n) ≡ None) moves (stands.absent n above) (λ d m none took. keeps n d m took ∙ none);
  pending = stands.pending;
  last = stands.last;
  rests = λ is.
      left_still a b step (λ image. file_in image (file_of F) ≡ file_in b.files (file_of F)) moves
      (λ image left. stands.rests is image left ∙ sym (same F.file))
      (λ d m was took. keeps F.file d m took ∙ was);
}

not_there : (found : Option (List ℕ)) → found ≡ None → IsSome found → ⊥
not_there None is there = cc
not_there (Some bytes) is there = cc

-- what is held stays where a data file of the store that isn't the current one is deleted. An image may have the file as
-- it was, until the names are synced.
module _ (F : LogFiles) (n : ℕ) (a b : HostState) (step : Image → Image → Type 0)
    (other : n ≡ F.file → ⊥)
    (gone : file_in b.files (data_name F.store n) ≡ None)
    (same : (m : ℕ) → (m ≡ n → ⊥) → file_in b.files (data_name F.store m) ≡ file_in a.files (data_name F.store m))
    (moves : Moves a b step)
    (unmade : (d c : Image) → step d c → (file_in c (data_name F.store n) ≡ file_in d (data_name F.store n)) ⊎ (file_in c (data_name F.store n) ≡ None))
    (keeps : (m : ℕ) → (m ≡ n → ⊥) → (d c : Image) → step d c → file_in c (data_name F.store m) ≡ file_in d (data_name F.store m)) where
  current_apart : F.file ≡ n → ⊥
  current_apart is = other (sym is)

  gone_closed : (one : Closed) → one.number ≡ n → IsClosedIn F.store a one → IsClosedIn F.store b one
  gone_closed one is closed =
      let none : file_in b.files (data_name F.store one.number) ≡ None = subst (λ (m : ℕ). file_in b.files (data_name F.store m) ≡ None) (sym is) gone in
      record {
        in_grammar = closed.in_grammar;
        reads = inl none;
        images = left_still a b step (λ image. IsGoneOr one.frames (file_in image (data_name F.store one.number))) moves closed.images
            (λ d c was took.
            ⊎_elim
            (λ stays. subst (λ (found : Option (List ℕ)). IsGoneOr one.frames found) (sym stays) was)
            (λ lost. inl lost)
            (subst (λ (m : ℕ). (file_in c (data_name F.store m) ≡ file_in d (data_name F.store m)) ⊎ (file_in c (data_name F.store m) ≡ None)) (sym is) (unmade d c took)));
        stays = λ there. absurd (not_there (file_in b.files (data_name F.store one.number)) none there);
      }

  without_closed : (files : List Closed) → AreClosedIn F.store a files → AreClosedIn F.store b files
  without_closed [] all = tt
  without_closed (one ∷ files) all = (
    ⊎_elim
        (λ is. gone_closed one is all.0)
        (λ apart. closed_on F.store a b step one (same one.number apart) moves (keeps one.number apart) all.0)
        (cases_number one.number n),
    without_closed files all.1,
  )

  without_current : (log : Option Appender) (frames : List Frame) (records : List Item) → IsNamed F.store log F.file → IsFileOf F.store log F.file a frames records → IsFileOf F.store log F.file b frames records
  without_current None frames records named is =
      (is.0, is.1, left_still a b step (λ image. file_in image (data_name F.store F.file) ≡ None) moves is.2 (λ d c none took. keeps F.file current_apart d c took ∙ none))
  without_current (Some log) frames records named is =
      stands_on_file log a frames records is b step
      (subst (λ (name : FileName). file_in b.files name ≡ file_in a.files name) (sym named) (same F.file current_apart))
      moves
      (λ d c took. subst (λ (name : FileName). file_in c name ≡ file_in d name) (sym named) (keeps F.file current_apart d c took))

  -- a file that isn't there isn't made
  stays_none : (m : ℕ) (d c : Image) → step d c → file_in d (data_name F.store m) ≡ None → file_in c (data_name F.store m) ≡ None
  stays_none m d c took none =
      ⊎_elim
      (λ is.
      subst (λ (k : ℕ). file_in c (data_name F.store k) ≡ None) (sym is)
      (⊎_elim (λ stays. stays ∙ subst (λ (k : ℕ). file_in d (data_name F.store k) ≡ None) is none) (λ lost. lost) (unmade d c took)))
      (λ apart. keeps m apart d c took ∙ none)
      (cases_number m n)

  pub holds_without : (held : Held) → IsNamed F.store F.log F.file → Stands F a held → Stands F b held
  holds_without held named stands = record {
    current = without_current F.log held.frames held.records named stands.current;
    closed = without_closed held.closed stands.closed;
    below = stands.below;
    rising = stands.rising;
    beyond = λ m above.
        ⊎_elim
        (λ is. subst (λ (k : ℕ). file_in b.files (data_name F.store k) ≡ None) (sym is) gone)
        (λ apart. same m apart ∙ stands.beyond m above)
        (cases_number m n);
    absent = λ m above. left_still a b step (λ image. file_in image (data_name F.store m) ≡ None) moves (stands.absent m above) (λ d c none took. stays_none m d c took none);
    pending = stands.pending;
    last = stands.last;
    rests = λ is.
        left_still a b step (λ image. file_in image (file_of F) ≡ file_in b.files (file_of F)) moves
        (λ image left. stands.rests is image left ∙ sym (same F.file current_apart))
        (λ d c was took. keeps F.file current_apart d c took ∙ was);
  }

-- what a call of `delete` that answered Ok leaves
pub holds_deleted : (F : LogFiles) (n : ℕ) (a b : HostState) (held : Held) → IsNamed F.store F.log F.file → (n ≡ F.file → ⊥)
    → Deleted (data_name F.store n) a b (Ok tt)
    → Stands F a held → Stands F b held
holds_deleted F n a b held named other deleted stands =
    holds_without F n a b (Unmakes (data_name F.store n)) other deleted.gone
    (λ m apart. deleted.files.others (data_name F.store m) (other_name F.store n m (λ is. apart (sym is))))
    deleted.turn.images
    (λ d c took. took.unmade)
    (λ m apart d c took. took.others (data_name F.store m) (other_name F.store n m (λ is. apart (sym is))))
    held named stands

-- what a call of `sync_names` leaves, whatever it answers
pub holds_names : (F : LogFiles) (a b : HostState) (held : Held) (result : Result (Unit {0}) HostFault) → IsNamed F.store F.log F.file → SyncedNames a b result → Stands F a held → Stands F b held
holds_names F a b held result named synced stands = holds_beside F a b held Stays named (λ n. synced.files (data_name F.store n)) synced.turn.images (λ n d m stays. stays (data_name F.store n)) stands

-- where nothing waits the current file is its frames
pub sealed_reads : (store : ℕ) (log : Option Appender) (file : ℕ) (b : HostState) (frames : List Frame) → IsNamed store log file → is_some log ≡ true → IsFileOf store log file b frames [] → file_in b.files (data_name store file) ≡ Some (written frames [])
sealed_reads store None file b frames named there is = cc
sealed_reads store (Some log) file b frames named there is = ap (λ (name : FileName). file_in b.files name) (sym named) ∙ is.reads
