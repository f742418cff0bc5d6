-- The file that a log writes, and when it is closed.
use Rattle.std.proofs.Common.{◌≡◌, ℕ, ◌+◌, ◌^◌, ◌≤◌, ◌==◌, Bool, true, false, List, [], Option, Some, None, is_some}
use Rattle.std.specs.Prelude.{◌&&◌, not, nat_lt, length, if◌then◌else◌, max}
use Rattle.cache_model.specs.declared.entries.Change.{Change}
use Rattle.cache_model.specs.declared.faults.Spent.{Spent}
use Rattle.cache_model.specs.declared.faults.Spent.TheVariants.{Files, Sequence}
use Rattle.cache_model.specs.declared.files.FileKind.TheVariants as kind
use Rattle.cache_model.specs.declared.files.FileName.{FileName}
use Rattle.cache_model.specs.Files.{file_in, IsFileName}
use Rattle.cache_model.specs.Items.{Item, spelling}
use Rattle.cache_model.specs.DataFiles.{Frame}
use Rattle.cache_disk.specs.State.{HostState}
use Rattle.cache_disk.specs.Calls.{AllLeft}
use Rattle.data_file.specs.declared.appender.Appender.{Appender}
use Rattle.data_file.specs.Appending.{name_of, size_of, due_bytes, is_spoilt, StandsFor, sealed}
use Rattle.record_format.specs.Changing.{item_by}
use Rattle.append_log.specs.declared.log_files.LogFiles.{LogFiles}
use Rattle.append_log.specs.declared.log_calls.Log.{Log}

-- the data file of a store with this number
abbrev pub data_name : ℕ → ℕ → FileName
data_name store number = record { kind = kind.Log; store = store; id = number }

-- the greatest size that a file may be given
abbrev pub most_file_size : ℕ
most_file_size = 16777216

-- how many bytes the end of a frame takes, where there is one in the making
abbrev pub closing : Bool → ℕ
closing true = 11
closing false = 0

-- what writes the current file, where there is one, writes that file, may be used, and has room to end its frame
abbrev pub IsLogOf : ℕ → Option Appender → ℕ → Bool → Type 0
IsLogOf store None number unsealed = unsealed ≡ false
IsLogOf store (Some log) number unsealed =
    (name_of log ≡ data_name store number) × (is_spoilt log ≡ false) × IsFileName (data_name store number) × (size_of log + closing unsealed ≤ most_file_size + 2) × (unsealed ≡ true → due_bytes log ≡ 0)

-- the current file holds these frames and records, or is in no image where it isn't made
abbrev pub IsFileOf : ℕ → Option Appender → ℕ → HostState → List Frame → List Item → Type 0
IsFileOf store None number state frames records = (frames ≡ []) × (records ≡ []) × AllLeft state (λ image. file_in image (data_name store number) ≡ None)
IsFileOf store (Some log) number state frames records = StandsFor log state frames records

-- what writes the file writes the one with this number
abbrev pub IsNamed : ℕ → Option Appender → ℕ → Type 0
IsNamed store None number = Unit {0}
IsNamed store (Some log) number = name_of log ≡ data_name store number

-- the file is made, and holds these
abbrev pub IsLogStanding : Option Appender → HostState → List Frame → List Item → Type 0
IsLogStanding None state frames records = ⊥
IsLogStanding (Some log) state frames records = StandsFor log state frames records

-- a file that was just made has nothing but its closed gate
abbrev pub IsNewLog : Option Appender → Type 0
IsNewLog None = ⊥
IsNewLog (Some log) = (size_of log ≡ 1) × (due_bytes log ≡ 1)

-- there is a current file, and it has its version byte
abbrev pub HasVersion : Option Appender → Type 0
HasVersion None = ⊥
HasVersion (Some log) = due_bytes log ≡ 0

-- a moment, where there is one, isn't above the mark
abbrev pub IsMarked : Option ℕ → ℕ → Type 0
IsMarked None mark = Unit {0}
IsMarked (Some moment) mark = moment ≤ mark

-- Without a current file there is no last frame. A current file has its version byte, and the moment of its last frame
-- isn't above the mark.
abbrev pub IsEnded : Option Appender → Option ℕ → ℕ → Type 0
IsEnded None last mark = last ≡ None
IsEnded (Some log) last mark = (due_bytes log ≡ 0) × IsMarked last mark

-- a record of so many bytes fits into the current file, or into one that may be made
abbrev pub Fits : Option Appender → ℕ → ℕ → Type 0
Fits None number size = number ≤ 4294967294
Fits (Some log) number size = size_of log + size + 10 ≤ most_file_size

-- there is a current file, and the record fits
abbrev pub HasRoom : Option Appender → ℕ → Type 0
HasRoom None size = ⊥
HasRoom (Some log) size = size_of log + size + 10 ≤ most_file_size

-- there is a current file, and the end of a frame fits
abbrev pub HasEndRoom : Option Appender → Type 0
HasEndRoom None = ⊥
HasEndRoom (Some log) = size_of log + 11 ≤ most_file_size + 2

-- the end of a frame fits into the current file, or into one that may be made
abbrev pub EndFits : Option Appender → ℕ → Type 0
EndFits None number = number ≤ 4294967294
EndFits (Some log) number = size_of log + 11 ≤ most_file_size + 2

-- the number of the next file to be made
abbrev pub next_file : Option Appender → ℕ → ℕ
next_file None number = number
next_file (Some log) number = number + 1

-- whether the current file is closed before a record of so many bytes: it holds something, and would get too large
abbrev pub is_over : Option Appender → ℕ → ℕ → Bool
is_over None file_size size = false
is_over (Some log) file_size size = nat_lt 1 (size_of log) && nat_lt file_size (size_of log + size + 10)

-- whether an empty frame is too much for the current file, in which nothing waits
abbrev pub is_full : Option Appender → Bool → ℕ → Bool
is_full None unsealed file_size = false
is_full (Some log) unsealed file_size = not unsealed && nat_lt file_size (size_of log + 10)

-- whether nothing waits, and the last frame has this moment
abbrev pub is_stamped_by : Option ℕ → Bool → ℕ → Bool
is_stamped_by None unsealed moment = false
is_stamped_by (Some last) unsealed moment = not unsealed && last == moment

-- whether a file is made for a record, where that closes the current one or doesn't
abbrev pub makes_file : Option Appender → Bool → Bool
makes_file None over = true
makes_file (Some log) over = over

-- the current file, its size and whether something in it waits for a seal
abbrev pub tail_by : Option Appender → ℕ → Bool → Option (ℕ × ℕ × Bool)
tail_by None number unsealed = None
tail_by (Some log) number unsealed = Some (number, size_of log, unsealed)

-- what a file holds once it is sealed: what waits becomes a frame
abbrev pub closed_frames : Bool → List Frame → List Item → ℕ → List Frame
closed_frames true frames records moment = sealed frames records moment
closed_frames false frames records moment = frames

-- the greatest moment of a sealed frame, after a seal
abbrev pub marked : Bool → ℕ → ℕ → ℕ
marked true mark moment = max mark moment
marked false mark moment = mark

-- what a log is, apart from its buffer
abbrev pub files_of : Log → LogFiles
files_of log = log.files

-- its store
abbrev pub store_of : LogFiles → ℕ
store_of files = files.store

-- how large a file gets before the next one is begun
abbrev pub size_limit : LogFiles → ℕ
size_limit files = files.file_size

-- the number of the next change
abbrev pub next_seq_of : LogFiles → ℕ
next_seq_of files = files.next

-- the number of the next file
abbrev pub next_file_of : LogFiles → ℕ
next_file_of files = next_file files.log files.file

-- the greatest moment of a frame that it sealed, or 0
abbrev pub mark_of : LogFiles → ℕ
mark_of files = files.mark

-- the moment of the last frame of its current file, where there is one
abbrev pub last_of : LogFiles → Option ℕ
last_of files = files.last

-- it may be used no more
abbrev pub is_spoilt_log : LogFiles → Bool
is_spoilt_log files = files.spoilt

-- its current file, with its size and whether something in it waits for a seal
abbrev pub tail_of : LogFiles → Option (ℕ × ℕ × Bool)
tail_of files = tail_by files.log files.file files.unsealed

-- the number of a current file
abbrev pub current_by : Option (ℕ × ℕ × Bool) → Option ℕ
current_by None = None
current_by (Some tail) = Some tail.0

-- whether something waits for a seal
abbrev pub is_unsealed : LogFiles → Bool
is_unsealed files = files.unsealed

-- whether it has a current file
abbrev pub has_current : LogFiles → Bool
has_current files = is_some files.log

-- what writes the current file
abbrev pub writer_of : LogFiles → Option Appender
writer_of files = files.log

-- the number of the file that it writes, or is to make
abbrev pub number_of : LogFiles → ℕ
number_of files = files.file

-- that file
abbrev pub file_of : LogFiles → FileName
file_of files = data_name files.store files.file

-- the file that it makes once that one is closed
abbrev pub file_behind : LogFiles → FileName
file_behind files = data_name files.store (files.file + 1)

-- The log may be used.
pub record IsUsable (files : LogFiles) : Type 0 where
  pub sound : files.spoilt ≡ false
  pub log : IsLogOf files.store files.log files.file files.unsealed
  pub next : files.next ≤ 2 ^ 62
  pub some : 1 ≤ files.file
  pub file_size : files.file_size ≤ most_file_size
  pub ended : IsEnded files.log files.last files.mark

-- how many bytes the record of a change has
abbrev pub record_size : LogFiles → Change → ℕ
record_size files change = length (spelling (item_by files.next change))

-- whether a change closes the current file before its record is written
abbrev pub closes : LogFiles → Change → Bool
closes files change = is_over files.log files.file_size (record_size files change)

-- whether a record of so many bytes closes the current file before it
abbrev pub closes_before : LogFiles → ℕ → Bool
closes_before files size = is_over files.log files.file_size size

-- whether a stamp with this moment does nothing: nothing waits, and the current file's last frame has the moment
abbrev pub is_stamped : LogFiles → ℕ → Bool
is_stamped files moment = is_stamped_by files.last files.unsealed moment

-- whether a stamp with this moment closes the current file: its frame would be an empty one, and too much for the file
abbrev pub stamp_closes : LogFiles → ℕ → Bool
stamp_closes files moment = if is_stamped files moment then false else is_full files.log files.unsealed files.file_size

-- whether a file is made for a record, which closes the current one or doesn't
abbrev pub makes_by : LogFiles → Bool → Bool
makes_by files over = makes_file files.log over

-- the number that a record of so many bytes finds at its end: that of the file to be made for it
abbrev pub file_spent : LogFiles → ℕ → Option Spent
file_spent files size = if makes_file files.log (is_over files.log files.file_size size) && next_file files.log files.file == 4294967295 then Some (Files 4294967295) else None

-- the number that a change finds at its end: its own, or that of the file to be made for it
abbrev pub spent_by : LogFiles → Change → Option Spent
spent_by files change = if files.next == 4611686018427387904 then Some (Sequence files.next) else file_spent files (record_size files change)

-- the number that a stamp finds at its end: that of the file to be made for its frame
abbrev pub stamp_spent : LogFiles → ℕ → Option Spent
stamp_spent files moment = if makes_by files (stamp_closes files moment) && next_file files.log files.file == 4294967295 then Some (Files 4294967295) else None
