-- What the files of a log hold.
use Rattle.std.proofs.Common.{◌≡◌, ◌⊎◌, ℕ, ◌≤◌, ◌<◌, Bool, true, false, List, [], ◌∷◌, ◌++◌, Option, Some, None, Contains, IsSome}
use Rattle.std.specs.Prelude.{length, if◌then◌else◌}
use Rattle.cache_model.specs.declared.files.Place.{Place}
use Rattle.cache_model.specs.declared.replies.Turned.{Turned}
use Rattle.cache_model.specs.declared.replies.Turned.TheVariants.{Done, Idle}
use Rattle.cache_model.specs.Files.{file_in}
use Rattle.cache_model.specs.Items.{Item, IsRecord, spelling}
use Rattle.cache_model.specs.DataFiles.{Frame, AreFrames, file_spelling, placed_frames}
use Rattle.cache_disk.specs.State.{HostState}
use Rattle.cache_disk.specs.Calls.{AllLeft}
use Rattle.data_file.proofs.Frame.{placed_of}
use Rattle.append_log.specs.declared.log_files.LogFiles.{LogFiles}
use Rattle.append_log.specs.Current.{data_name, next_file_of, file_of, IsFileOf, closed_frames}

-- A file that the log closed: its number and its frames.
pub record Closed : Type 0 where
  pub number : ℕ
  pub frames : List Frame

-- What a log wrote to its files: the closed ones in their order, and of the current one the frames and the records
-- behind them.
pub record Held : Type 0 where
  pub closed : List Closed
  pub frames : List Frame
  pub records : List Item

-- nothing was written
abbrev pub nothing_held : Held
nothing_held = record { closed = []; frames = []; records = [] }

-- whether there are records
abbrev pub waits : List Item → Bool
waits [] = false
waits (item ∷ items) = true

-- the moment of the last of some frames, behind one with this moment
abbrev pub last_behind : ℕ → List Frame → ℕ
last_behind moment [] = moment
last_behind moment (frame ∷ frames) = last_behind frame.moment frames

-- the moment of the last frame, where there is one
abbrev pub last_moment : List Frame → Option ℕ
last_moment [] = None
last_moment (frame ∷ frames) = Some (last_behind frame.moment frames)

-- a file that was closed isn't there, or has these frames and no more
abbrev pub IsGoneOr : List Frame → Option (List ℕ) → Type 0
IsGoneOr frames found = (found ≡ None) ⊎ (found ≡ Some (file_spelling frames))

-- A closed file is there with its frames, as read and in every image, unless it was deleted since.
pub record IsClosedIn (store : ℕ) (state : HostState) (file : Closed) : Type 0 where
  pub in_grammar : AreFrames file.frames
  pub reads : IsGoneOr file.frames (file_in state.files (data_name store file.number))
  pub images : AllLeft state (λ image. IsGoneOr file.frames (file_in image (data_name store file.number)))
  pub stays : IsSome (file_in state.files (data_name store file.number)) → AllLeft state (λ image. file_in image (data_name store file.number) ≡ Some (file_spelling file.frames))

-- each of these does
abbrev pub AreClosedIn : ℕ → HostState → List Closed → Type 0
AreClosedIn store state [] = Unit {0}
AreClosedIn store state (file ∷ files) = IsClosedIn store state file × AreClosedIn store state files

-- their numbers are below this one
abbrev pub AreBelow : List Closed → ℕ → Type 0
AreBelow [] number = Unit {0}
AreBelow (file ∷ files) number = (file.number < number) × AreBelow files number

-- their numbers rise, from above this one on
abbrev pub RiseFrom : ℕ → List Closed → Type 0
RiseFrom number [] = Unit {0}
RiseFrom number (file ∷ files) = (number < file.number) × RiseFrom file.number files

-- The log's files hold this. No file of its store has the next number or a greater one, and where nothing waits for a
-- seal, every image has the current file as it reads.
pub record Stands (files : LogFiles) (state : HostState) (held : Held) : Type 0 where
  pub current : IsFileOf files.store files.log files.file state held.frames held.records
  pub closed : AreClosedIn files.store state held.closed
  pub below : AreBelow held.closed files.file
  pub rising : RiseFrom 0 held.closed
  pub beyond : (n : ℕ) → next_file_of files ≤ n → file_in state.files (data_name files.store n) ≡ None
  pub absent : (n : ℕ) → next_file_of files ≤ n → AllLeft state (λ image. file_in image (data_name files.store n) ≡ None)
  pub pending : files.unsealed ≡ waits held.records
  pub last : files.last ≡ last_moment held.frames
  pub rests : files.unsealed ≡ false → AllLeft state (λ image. file_in image (file_of files) ≡ file_in state.files (file_of files))

-- it holds something
abbrev pub IsStanding : LogFiles → HostState → Type 0
IsStanding files state = (held : Held) × Stands files state held

-- what is held once the current file is sealed
abbrev pub sealed_held : Bool → ℕ → Held → Held
sealed_held unsealed moment held = record { closed = held.closed; frames = closed_frames unsealed held.frames held.records moment; records = [] }

-- what is held once the current file, which has this number, is closed
abbrev pub closed_held : Bool → ℕ → ℕ → Held → Held
closed_held unsealed number moment held = record {
  closed = held.closed ++ (record { number = number; frames = closed_frames unsealed held.frames held.records moment } ∷ []);
  frames = [];
  records = [];
}

-- what is held after a rotation, which is idle where there is no current file
abbrev pub turned_held : Turned → Bool → ℕ → ℕ → Held → Held
turned_held Done unsealed number moment held = closed_held unsealed number moment held
turned_held Idle unsealed number moment held = held

-- what is held after one record more
abbrev pub more_held : Held → Item → Held
more_held held one = record { closed = held.closed; frames = held.frames; records = held.records ++ one ∷ [] }

-- what is held after one record more, where the current file is closed before it or isn't
abbrev pub put_held : Bool → Bool → ℕ → ℕ → Held → Item → Held
put_held over unsealed number moment held one = more_held (if over then closed_held unsealed number moment held else held) one

-- what is held before the frame of a stamp, where the current file, which has this number, is closed first or isn't
abbrev pub opened_held : Bool → ℕ → ℕ → Held → Held
opened_held over number moment held = if over then closed_held false number moment held else held

-- What is held after a stamp: what waits is a frame, or an empty frame stands behind it all. Where the last frame has the
-- moment already, it is what was held.
abbrev pub stamped_held : Bool → Bool → ℕ → ℕ → Held → Held
stamped_held idle over number moment held = if idle then held else sealed_held true moment (opened_held over number moment held)

-- The log wrote this item: it stands at this offset of the file with this number. The current file has the number that
-- is given.
abbrev pub HoldsAt : Held → ℕ → ℕ → ℕ → Item → Type 0
HoldsAt held current number at item =
    ((number ≡ current) × Contains (placed_of held.frames held.records) (at, item))
    ⊎ ((file : Closed) × Contains held.closed file × (number ≡ file.number) × Contains (placed_frames 2 file.frames) (at, item))

-- the log wrote this record to this place
abbrev pub Wrote : Held → ℕ → Place → Item → Type 0
Wrote held current place item = IsRecord item × (place.length ≡ length (spelling item)) × HoldsAt held current place.file place.at item

-- no image has a data file of a store
pub record Starts (store : ℕ) (state : HostState) : Type 0 where
  pub reads : (n : ℕ) → file_in state.files (data_name store n) ≡ None
  pub images : (n : ℕ) → AllLeft state (λ image. file_in image (data_name store n) ≡ None)
