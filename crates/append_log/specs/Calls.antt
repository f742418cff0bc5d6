-- What the calls of a log do.
use Rattle.std.proofs.Common.{◌≡◌, ◌⊎◌, ℕ, ◌+◌, ◌≤◌, Bool, true, false, List, [], Option, Some, None, IsSome, Contains}
use Rattle.std.specs.Prelude.{if◌then◌else◌, max, Result, IfOk, OnOk, OnErr, IsErrOf}
use Rattle.cache_model.specs.declared.entries.Change.{Change}
use Rattle.cache_model.specs.declared.faults.StoreFault.{StoreFault}
use Rattle.cache_model.specs.declared.faults.StoreFault.TheVariants as fault
use Rattle.cache_model.specs.declared.faults.Spent.{Spent}
use Rattle.cache_model.specs.declared.faults.Damage.{Damage}
use Rattle.cache_model.specs.declared.files.FileName.{FileName}
use Rattle.cache_model.specs.declared.files.Place.{Place}
use Rattle.cache_model.specs.declared.replies.Turned.{Turned}
use Rattle.cache_model.specs.declared.replies.Turned.TheVariants.{Done, Idle}
use Rattle.cache_model.specs.Files.{Image, file_in, is_name}
use Rattle.cache_model.specs.Items.{Item, end}
use Rattle.cache_model.specs.DataFiles.{Frame, CountsFrames, counted_items}
use Rattle.cache_disk.specs.State.{HostState, SameBut, Silent, Moves}
use Rattle.cache_disk.specs.State as disk
use Rattle.cache_disk.specs.Calls.{OnFile, AllLeft, HasFile}
use Rattle.data_file.specs.declared.appender.Appender.{Appender}
use Rattle.data_file.specs.Appending.{CountsOneOf, due_bytes, next_place, size_of, written}
use Rattle.record_format.specs.Changing.{item_by}
use Rattle.append_log.specs.declared.log_files.LogFiles.{LogFiles}
use Rattle.append_log.specs.Current.{store_of, size_limit, next_seq_of, next_file_of, mark_of, last_of, is_spoilt_log, is_stamped, is_unsealed, tail_of, file_of, file_behind, has_current, closed_frames, marked, closes, closes_before, makes_by, number_of, record_size, stamp_closes, IsUsable}
use Rattle.append_log.specs.Standing.{Held, Stands, opened_held, put_held, stamped_held}

-- A log that was just made: it has no file yet.
pub record IsNew (store file seq size : ℕ) (files : LogFiles) : Type 0 where
  pub usable : IsUsable files
  pub store_is : store_of files ≡ store
  pub next_file : next_file_of files ≡ file
  pub next_seq : next_seq_of files ≡ seq
  pub limit : size_limit files ≡ size
  pub tail : tail_of files ≡ None
  pub mark : mark_of files ≡ 0

-- Whatever the host tells, a call that isn't Ok leaves the log spoilt, or wanted memory and changed nothing. It never
-- finds a file damaged.
pub record Goes {R : Type 0} (old new : LogFiles) (result : Result R StoreFault) : Type 0 where
  pub store : store_of new ≡ store_of old
  pub limit : size_limit new ≡ size_limit old
  pub usable : is_spoilt_log new ≡ false → IsUsable new
  pub ok : OnOk result (is_spoilt_log new ≡ false)
  pub refused : OnErr result (is_spoilt_log new ≡ false → IsErrOf result fault.Memory × (new ≡ old))
  -- where a number is spent none was taken
  pub spent : (s : Spent) → IsErrOf result (fault.Spent s) → (next_seq_of new ≡ next_seq_of old) × (next_file_of new ≡ next_file_of old)
  pub damaged : (d : Damage) → IsErrOf result (fault.Damaged d) → ⊥

-- no number is taken
abbrev pub TakesNone : LogFiles → LogFiles → Type 0
TakesNone old new = (next_seq_of new ≡ next_seq_of old) × (next_file_of new ≡ next_file_of old) × (number_of old ≤ number_of new)

-- one number of each kind is taken at the most
abbrev pub TakesOne : LogFiles → LogFiles → Type 0
TakesOne old new = (next_seq_of old ≤ next_seq_of new) × (next_seq_of new ≤ next_seq_of old + 1) × (next_file_of old ≤ next_file_of new) × (next_file_of new ≤ next_file_of old + 1)

-- one file number is taken at the most, and no sequence number
abbrev pub TakesFile : LogFiles → LogFiles → Type 0
TakesFile old new = (next_seq_of new ≡ next_seq_of old) × (next_file_of old ≤ next_file_of new) × (next_file_of new ≤ next_file_of old + 1)

-- nothing waits any more, and the file is 10 bytes larger exactly where something waited
abbrev pub sealed_tail : Option (ℕ × ℕ × Bool) → Option (ℕ × ℕ × Bool)
sealed_tail None = None
sealed_tail (Some tail) = Some (tail.0, if tail.2 then tail.1 + 10 else tail.1, false)

-- After a seal nothing waits.
pub record IsSealed (moment : ℕ) (old new : LogFiles) : Type 0 where
  pub file : number_of new ≡ number_of old
  pub tail : tail_of new ≡ sealed_tail (tail_of old)
  pub mark : mark_of new ≡ marked (is_unsealed old) (mark_of old) moment

-- a rotation closes the current file, and is idle exactly where there is none
abbrev pub IsTurned : ℕ → Turned → LogFiles → LogFiles → Type 0
IsTurned moment Done old new = IsSome (tail_of old) × (tail_of new ≡ None) × (mark_of new ≡ marked (is_unsealed old) (mark_of old) moment)
IsTurned moment Idle old new = (tail_of old ≡ None) × (new ≡ old)

-- A record of so many bytes stands at this place, at the end of its file, which is the current one then. The next change
-- has this number.
pub record IsWrittenBy (next : ℕ) (over : Bool) (size moment : ℕ) (old new : LogFiles) (place : Place) : Type 0 where
  pub next_seq : next_seq_of new ≡ next
  pub next_file : next_file_of new ≡ (if makes_by old over then next_file_of old + 1 else next_file_of old)
  pub file : place.file + 1 ≡ next_file_of new
  pub length_is : place.length ≡ size
  pub tail : tail_of new ≡ Some (place.file, place.at + place.length, true)
  pub mark : mark_of new ≡ marked (if over then is_unsealed old else false) (mark_of old) moment

-- it takes the next number
abbrev pub IsPutBy : Bool → ℕ → ℕ → LogFiles → LogFiles → Place → Type 0
IsPutBy over size moment old new place = IsWrittenBy (next_seq_of old + 1) over size moment old new place

-- a record is copied, with the number that it has
abbrev pub IsCopied : ℕ → ℕ → LogFiles → LogFiles → Place → Type 0
IsCopied size moment old new place = IsWrittenBy (next_seq_of old) (closes_before old size) size moment old new place

-- a change is written by its record
abbrev pub IsPut : Change → ℕ → LogFiles → LogFiles → Place → Type 0
IsPut change moment old new place = IsPutBy (closes old change) (record_size old change) moment old new place

-- how large the current file is once the end of a frame was written to it
abbrev pub ended_tail : Option Appender → ℕ → Option (ℕ × ℕ × Bool)
ended_tail None number = None
ended_tail (Some log) number = Some (number, size_of log + due_bytes log + 10, false)

-- a stamp makes the current file 10 bytes larger, or a new one of 12 bytes
abbrev pub stamped_tail : Bool → Bool → ℕ → Option (ℕ × ℕ × Bool) → Option (ℕ × ℕ × Bool)
stamped_tail idle over number None = Some (number, 12, false)
stamped_tail idle over number (Some tail) = if idle then Some tail else if over then Some (number + 1, 12, false) else Some (tail.0, tail.1 + 10, false)

-- After a stamp nothing waits, and the last frame of the current file has its moment.
pub record IsStampedBy (idle over : Bool) (moment : ℕ) (old new : LogFiles) : Type 0 where
  pub file : number_of new ≡ (if over then number_of old + 1 else number_of old)
  pub tail : tail_of new ≡ stamped_tail idle over (number_of old) (tail_of old)
  pub next_file : next_file_of new ≡ (if makes_by old over then next_file_of old + 1 else next_file_of old)
  pub last : last_of new ≡ Some moment
  pub mark : mark_of new ≡ max (mark_of old) moment

-- it does nothing where the last frame has the moment already, and closes the current file where an empty frame is too much
abbrev pub IsStamped : ℕ → LogFiles → LogFiles → Type 0
IsStamped moment old new = IsStampedBy (is_stamped old moment) (stamp_closes old moment) moment old new

-- a number is answered as spent exactly where it is, want of memory aside
pub record IsSpentBy {R : Type 0} (spent : Option Spent) (result : Result R StoreFault) : Type 0 where
  pub only : (s : Spent) → IsErrOf result (fault.Spent s) → spent ≡ Some s
  pub always : (s : Spent) → spent ≡ Some s → IsErrOf result (fault.Spent s) ⊎ IsErrOf result fault.Memory

-- What a call does to the files of a host that tells them, where it writes the current file alone: an image counts what
-- it counted when the call began, or that with the records that waited. Other files are left alone, and nothing is said.
pub record Seals {R : Type 0} (moment : ℕ) (held : Held) (after : R → Held) (old new : LogFiles) (a b : HostState) (result : Result R StoreFault) : Type 0 where
  pub stands : IfOk result (λ answer. Stands new b (after answer))
  pub images : Moves a b (OnFile (file_of old) (CountsOneOf held.frames (closed_frames (is_unsealed old) held.frames held.records moment)))
  pub files : SameBut (file_of old) a.files b.files
  -- the file is its frames to the byte, be it closed or not, and every image has it as it reads
  pub reads : OnOk result (has_current old ≡ true → file_in b.files (file_of old) ≡ Some (written (closed_frames (is_unsealed old) held.frames held.records moment) []))
  pub settled : OnOk result (AllLeft b (λ image. file_in image (file_of old) ≡ file_in b.files (file_of old)))
  pub silent : Silent a b
  pub refused : OnErr result (is_spoilt_log new ≡ false → disk.Stands a b)
  -- where nothing waits nothing is written
  pub still : is_unsealed old ≡ false → disk.Stands a b

-- both have the same files, this one aside, and the one behind it where this one is closed
abbrev pub SameBeside : LogFiles → Bool → Image → Image → Type 0
SameBeside files over old new = (name : FileName) → is_name (file_of files) name ≡ false → (over ≡ true → is_name (file_behind files) name ≡ false) → file_in new name ≡ file_in old name

-- what the current file counts: its frames, or, where it is closed, maybe what waited too
abbrev pub CountsIf : Bool → List Frame → List Frame → List ℕ → Type 0
CountsIf true frames more bytes = CountsOneOf frames more bytes
CountsIf false frames more bytes = CountsFrames frames bytes

-- Other files stay as they are. The current file stays, where it was there, and counts that. The one behind it counts
-- nothing, where the current one is closed.
pub record OnFiles (files : LogFiles) (over : Bool) (has : List ℕ → Type 0) (old new : Image) : Type 0 where
  pub others : SameBeside files over old new
  pub stays : IsSome (file_in old (file_of files)) → IsSome (file_in new (file_of files))
  pub file : (bytes : List ℕ) → file_in new (file_of files) ≡ Some bytes → has bytes
  pub behind : over ≡ true → (bytes : List ℕ) → file_in new (file_behind files) ≡ Some bytes → CountsFrames [] bytes

-- What a record does to the files of a host that tells them: it stands behind all that was held, at the next place. No
-- image counts it yet; what waited before it is counted where its file is closed.
pub record PutsBy (over : Bool) (one : Item) (moment : ℕ) (held : Held) (old new : LogFiles) (a b : HostState) (result : Result Place StoreFault) : Type 0 where
  pub stands : OnOk result (Stands new b (put_held over (is_unsealed old) (number_of old) moment held one))
  pub at : IfOk result (λ place. place.at ≡ (if over then 2 else next_place held.frames held.records))
  pub images : Moves a b (OnFiles old over (CountsIf over held.frames (closed_frames (is_unsealed old) held.frames held.records moment)))
  pub files : SameBeside old over a.files b.files
  -- the file that was closed is its frames to the byte
  pub closed : OnOk result (over ≡ true → file_in b.files (file_of old) ≡ Some (written (closed_frames (is_unsealed old) held.frames held.records moment) []))
  pub silent : Silent a b
  pub spent : (s : Spent) → IsErrOf result (fault.Spent s) → disk.Stands a b
  pub refused : OnErr result (is_spoilt_log new ≡ false → disk.Stands a b)

-- what a change does, by its record
abbrev pub Puts : Change → ℕ → Held → LogFiles → LogFiles → HostState → HostState → Result Place StoreFault → Type 0
Puts change moment held old new a b result = PutsBy (closes old change) (item_by (next_seq_of old) change) moment held old new a b result

-- the file of a stamp's frame: the current one, or the one behind it, where the current one is closed
abbrev pub stamped_file : LogFiles → Bool → FileName
stamped_file files over = if over then file_behind files else file_of files

-- an end with this moment counts in the file
abbrev pub CountsEnd : ℕ → List ℕ → Type 0
CountsEnd moment bytes = (at : ℕ) × Contains (counted_items bytes) (at, end moment)

-- What a stamp does to the files of a host that tells them: one file counts at every turn within what it counted, or that
-- with the frame of the stamp. Other files are left alone, a current one that is closed too, and nothing is said.
pub record StampsBy (idle over : Bool) (moment : ℕ) (held : Held) (old new : LogFiles) (a b : HostState) (result : Result (Unit {0}) StoreFault) : Type 0 where
  pub stands : OnOk result (Stands new b (stamped_held idle over (number_of old) moment held))
  pub images : Moves a b (OnFile (stamped_file old over) (CountsOneOf (opened_held over (number_of old) moment held).frames (stamped_held false over (number_of old) moment held).frames))
  pub files : SameBut (stamped_file old over) a.files b.files
  -- the file is its frames to the byte, every image has it as it reads, and an end with the moment counts there
  pub reads : OnOk result (file_in b.files (stamped_file old over) ≡ Some (written (stamped_held idle over (number_of old) moment held).frames []))
  pub settled : OnOk result (AllLeft b (λ image. file_in image (stamped_file old over) ≡ file_in b.files (stamped_file old over)))
  pub ends : OnOk result (AllLeft b (HasFile (stamped_file old over) (CountsEnd moment)))
  pub silent : Silent a b
  pub spent : (s : Spent) → IsErrOf result (fault.Spent s) → disk.Stands a b
  pub refused : OnErr result (is_spoilt_log new ≡ false → disk.Stands a b)
  pub still : idle ≡ true → disk.Stands a b

-- it does so by its moment
abbrev pub Stamps : ℕ → Held → LogFiles → LogFiles → HostState → HostState → Result (Unit {0}) StoreFault → Type 0
Stamps moment held old new a b result = StampsBy (is_stamped old moment) (stamp_closes old moment) moment held old new a b result
