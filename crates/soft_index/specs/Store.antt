-- What a store over the data files of a directory stands for.
use Rattle.std.proofs.Common.{◌≡◌, ◌⊎◌, ℕ, ◌+◌, ◌^◌, ◌≤◌, ◌<◌, ◌==◌, Bool, true, false, List, [], ◌∷◌, ◌++◌, Option, Some, None}
use Rattle.std.specs.Prelude.{◌&&◌, ◌||◌, min, length, if◌then◌else◌}
use Rattle.cache_model.specs.declared.entries.Change.{Change}
use Rattle.cache_model.specs.declared.faults.Spent.{Spent}
use Rattle.cache_model.specs.declared.faults.Spent.TheVariants.{Files, Sequence}
use Rattle.cache_model.specs.declared.files.FileName.{FileName}
use Rattle.cache_model.specs.declared.commands.StepKind.{StepKind}
use Rattle.cache_model.specs.declared.commands.StepKind.TheVariants.{Index, Flush, Compact, Evict, Reap, Rotate}
use Rattle.cache_model.specs.declared.replies.Turned.{Turned}
use Rattle.cache_model.specs.declared.settings.Settings.{Settings}
use Rattle.cache_model.specs.declared.replies.Turned.TheVariants.{Done, Idle}
use Rattle.cache_model.specs.Files.{Image, file_in, kind_number}
use Rattle.cache_model.specs.Items.{Item, end}
use Rattle.cache_model.specs.DataFiles.{Frame, IsUndamaged}
use Rattle.cache_model.specs.Images.{log_name, IsCounted, key_of, sequence_of, IsMark, IsSound}
use Rattle.cache_model.specs.Numbers.{IsNextSequence, IsNextFile}
use Rattle.cache_disk.specs.State.{HostState}
use Rattle.cache_disk.specs.Calls.{AllLeft}
use Rattle.data_file.specs.declared.appender.Appender.{Appender}
use Rattle.data_file.specs.Appending.{sealed, written}
pub use Rattle.record_format.specs.Changing.{item_by}
use Rattle.append_log.specs.declared.log_files.LogFiles.{LogFiles}
pub use Rattle.append_log.specs.Current.{most_file_size, next_file, closed_frames, IsNamed, IsFileOf}
use Rattle.append_log.specs.Current as append
use Rattle.append_log.specs.Standing.{Closed, Stands}
pub use Rattle.append_log.specs.Calls.{IsSpentBy}
use Rattle.data_file.proofs.Frame.{placed_of}
pub use Rattle.compactor.specs.Counting.{IsNewestBy, HasNone, HasReading}
use Rattle.compactor.specs.Counting.{counts_in}
use Rattle.compactor.specs.Indexing.{AreIndexed, AreUsable}
use Rattle.compactor.specs.Looking.{look_bytes}
use Rattle.compactor.specs.Rows.{parts_rows}
pub use Rattle.rebuild.specs.Listing.{IsFirstDamageOf}
use Rattle.store_trait.specs.Meaning.{Reading, Content, read_in, Row, StoreFacts, StoreState}
use Rattle.store_trait.specs.Keeping.{SameContent}
use Rattle.soft_index.specs.declared.log_store.LogStore.{LogStore}
use Rattle.soft_index.specs.Compacting.{CountsBy, row_with}
use Rattle.soft_index.specs.Counted.{AreCounted}

-- the content of the store, as its parts read these files
abbrev pub content_of : LogStore → Image → Content
content_of store files = parts_rows files store.parts

-- what counts where the file with this number holds these items, and the other files are as in the image
abbrev pub Holds : ℕ → List (ℕ × Item) → Image → ℕ → ℕ → Item → Type 0
Holds file items image = counts_in (record { number = file; items = items; files = image })

-- an image has the same data files of the main store, the one with this number aside
abbrev pub SameOthers : ℕ → Image → Image → Type 0
SameOthers file files image = (n : ℕ) → (n ≡ file → ⊥) → file_in image (log_name n) ≡ file_in files (log_name n)

-- a key reads so in an image that a crash at that turn may leave, which has that mark
pub record ImagePair (state : HostState) (t : ℕ) (key : List ℕ) (reading : Reading) (mark : ℕ) : Type 0 where
  pub image : Image
  pub left : state.left t image
  pub reads : HasReading (IsCounted image) key reading
  pub marked : IsMark image mark

-- the same of all keys together
pub record ImageWhole (state : HostState) (t : ℕ) (content : Content) (mark : ℕ) : Type 0 where
  pub image : Image
  pub left : state.left t image
  pub reads : (key : List ℕ) → HasReading (IsCounted image) key (read_in content key)
  pub marked : IsMark image mark

-- The settings that the store goes by are in their ranges.
pub record AreInRange (settings : Settings) : Type 0 where
  pub file_size : settings.file_size ≤ most_file_size
  pub bits : settings.hash_bits ≤ 32
  pub queue : (1 ≤ settings.queue) × (settings.queue ≤ 65536)

-- the number of the current file, none where there is none
abbrev pub current_of : Option Appender → ℕ → Option ℕ
current_of None number = None
current_of (Some log) number = Some number

-- the parts of the store: how many requests wait for the index, and the current file
abbrev pub row_of : ℕ → Option ℕ → List Row
row_of queued current = row_with queued current None

-- How a change moves the parts, where the queue has so much room: its file is the current one, and one request more
-- waits; where the queue is full one is taken before.
abbrev pub Queues : ℕ → List Row → List Row → Type 0
Queues limit a b = (q : ℕ) × (c : Option ℕ) × (n : ℕ) × (a ≡ row_of q c) × (b ≡ row_of (min (q + 1) limit) (Some n))

-- how the steps for room move them: not at all, or the queue was full and one request less waits
abbrev pub MakesRoom : ℕ → List Row → List Row → Type 0
MakesRoom limit a b = (b ≡ a) ⊎ ((q : ℕ) × (c : Option ℕ) × (limit ≡ q + 1) × (a ≡ row_of (q + 1) c) × (b ≡ row_of q c))

-- how a rotation moves them: the current file is closed, idle exactly where there is none
abbrev pub Rotates : Turned → List Row → List Row → Type 0
Rotates Done a b = (q : ℕ) × (n : ℕ) × (a ≡ row_of q (Some n)) × (b ≡ row_of q None)
Rotates Idle a b = (q : ℕ) × (a ≡ row_of q None) × (b ≡ a)

-- how an index step moves them: one request less waits, idle exactly where none does
abbrev pub Indexes : Turned → List Row → List Row → Type 0
Indexes Done a b = (q : ℕ) × (c : Option ℕ) × (a ≡ row_of (q + 1) c) × (b ≡ row_of q c)
Indexes Idle a b = (c : Option ℕ) × (a ≡ row_of 0 c) × (b ≡ a)

-- how a step moves the parts
abbrev pub StepsBy : StepKind → Turned → List Row → List Row → Type 0
StepsBy Rotate turned a b = Rotates turned a b
StepsBy Index turned a b = Indexes turned a b
StepsBy Flush turned a b = (turned ≡ Idle) × (b ≡ a)
StepsBy Compact turned a b = (turned ≡ Idle) × (b ≡ a)
StepsBy Evict turned a b = (turned ≡ Idle) × (b ≡ a)
StepsBy Reap turned a b = (turned ≡ Idle) × (b ≡ a)

-- what the current file holds after one record more: where changes are synced at once, a frame that ends with it
abbrev pub frames_after : Bool → List Frame → List Item → Item → ℕ → List Frame
frames_after true frames records one moment = sealed frames (records ++ one ∷ []) moment
frames_after false frames records one moment = frames

-- and the records behind its last frame
abbrev pub records_after : Bool → List Item → Item → List Item
records_after true records one = []
records_after false records one = records ++ one ∷ []

-- its log: what it knows of its files, apart from the name of its store, which is the main one
abbrev pub main_files : LogStore → LogFiles
main_files store = record (append.files_of store.parts.log) { store = 0 }

-- the number of the file that is written, or is to be made
abbrev pub number : LogStore → ℕ
number store = append.number_of (append.files_of store.parts.log)

-- what writes it, where it is made
abbrev pub writer : LogStore → Option Appender
writer store = append.writer_of (append.files_of store.parts.log)

-- the next sequence number
abbrev pub next_of : LogStore → ℕ
next_of store = append.next_seq_of (append.files_of store.parts.log)

-- whether something waits for a seal
abbrev pub waiting : LogStore → Bool
waiting store = append.is_unsealed (append.files_of store.parts.log)

-- the current file of a log holds these frames and records
abbrev pub HoldsLog : LogFiles → HostState → List Frame → List Item → Type 0
HoldsLog files state frames records = (closed : List Closed) × Stands files state (record { closed = closed; frames = frames; records = records })

-- The log holds frames and records. Every image has each other file as it reads. The parts stand for the newest records,
-- with those that aren't sealed yet, and the content is theirs. The statistics are those of the data files.
pub record LogStands (store : LogStore) (state : HostState) (frames : List Frame) (records : List Item) : Type 0 where
  pub main : append.store_of (append.files_of store.parts.log) ≡ 0
  pub log : HoldsLog (main_files store) state frames records
  pub named : IsNamed 0 (writer store) (number store)
  pub others : AllLeft state (λ image. SameOthers (number store) state.files image)
  pub sound : (n : ℕ) (bytes : List ℕ) → (n ≡ number store → ⊥) → file_in state.files (log_name n) ≡ Some bytes → IsUndamaged bytes
  pub indexed : AreIndexed (Holds (number store) (placed_of frames records) state.files) store.parts
  pub content : (key : List ℕ) → HasReading (Holds (number store) (placed_of frames records) state.files) key (read_in (content_of store state.files) key)
  pub counted : AreCounted (record { number = number store; items = placed_of frames records; files = state.files }) store.parts
  pub above : (n a : ℕ) (item : Item) (key : List ℕ) → Holds (number store) (placed_of frames records) state.files n a item → key_of item ≡ Some key → sequence_of item < next_of store
  pub mark : (n a m : ℕ) → Holds (number store) (placed_of frames records) state.files n a (end m) → m ≤ store.latest

-- the store may be used
abbrev pub IsUsable : LogStore → Type 0
IsUsable store = AreUsable store.parts

-- whether a change closes the current file before its record is written
abbrev pub closes : LogStore → Change → Bool
closes store change = append.closes (append.files_of store.parts.log) change

-- A change is one record more that waits for a seal, in the current file, or in the next one where the current one is
-- closed before it.
pub record IsPutIn (change : Change) (moment : ℕ) (frames : List Frame) (records : List Item) (old new : LogStore) (after : HostState) : Type 0 where
  pub holds : LogStands new after (if closes old change then [] else frames) ((if closes old change then [] else records) ++ item_by (next_of old) change ∷ [])
  pub closed : closes old change ≡ true → file_in after.files (log_name (number old)) ≡ Some (written (closed_frames (waiting old) frames records moment) [])

-- A change is one record more of the current file, or the first record of the next one, where the current one is closed
-- before it: its number is the next one, and where changes are synced at once it ends a frame with the moment.
pub record IsWritten (change : Change) (moment : ℕ) (frames : List Frame) (records : List Item) (old new : LogStore) (after : HostState) : Type 0 where
  pub file : number new ≡ (if closes old change then number old + 1 else number old)
  pub holds : LogStands new after
      (frames_after old.sync_writes (if closes old change then [] else frames) (if closes old change then [] else records) (item_by (next_of old) change) moment)
      (records_after old.sync_writes (if closes old change then [] else records) (item_by (next_of old) change))
  pub closed : closes old change ≡ true → file_in after.files (log_name (number old)) ≡ Some (written (closed_frames (waiting old) frames records moment) [])

-- the number that a change finds at its end: its own, or that of the file to be made for it
abbrev pub spent_by : LogStore → Change → Option Spent
spent_by store change = append.spent_by (append.files_of store.parts.log) change

-- whether a file is a data file or the index of the main store
abbrev pub owns_file : FileName → Bool
owns_file name = (1 == kind_number name.kind || 2 == kind_number name.kind) && (0 == name.store)

abbrev pub log_facts : LogStore → StoreFacts
log_facts store = record {
  bits = store.parts.tree.bits;
  spoilt = store.parts.spoilt;
  usable = IsUsable store;
  latest = store.latest;
  forgets = λ key. ⊥;
  owns = owns_file;
  ordered = true;
  firm = store.sync_writes;
  quiet = λ key. false;
  drawn = next_of store;
  made = next_file (writer store) (number store);
  numbers = Some (record { sequence = next_of store; file = number store });
  parts = row_of (length store.parts.requests.waiting) (current_of (writer store) (number store));
  moves = λ change a b. Queues store.parts.requests.limit a b;
  empties = λ a b. b ≡ a;
  room = λ a b. MakesRoom store.parts.requests.limit a b;
  steps = λ files kind turned a b. StepsBy kind turned a b;
  compacts = λ files mid file turned turns a b. (turned ≡ Idle) × (turns ≡ 0) × (b ≡ a);
  turns = λ files mid file rows. 0;
  compacts_all = λ files mid turns a b. (turns ≡ 0) × (b ≡ a);
  turns_all = λ files mid rows turns. turns ≡ 0;
  sweeps = λ files image. Unit {0};
  counts = CountsBy;
}

-- which number is at its end
abbrev pub is_spent : LogStore → Spent → Type 0
is_spent store s = ((s ≡ Sequence (next_of store)) × (next_of store ≡ 2 ^ 62)) ⊎ ((s ≡ Files 4294967295) × (next_file (writer store) (number store) ≡ 4294967295))

-- What an image reads may be left, and between two calls the content too.
abbrev pub log_means : LogStore → HostState → StoreState
log_means store state = record {
  stands = (frames : List Frame) × (records : List Item) × LogStands store state frames records;
  content = content_of store state.files;
  may = λ t key r mark. ImagePair state t key r mark
      ⊎ ((store.parts.spoilt ≡ false) × (t ≡ state.turn) × (r ≡ read_in (content_of store state.files) key) × (store.latest ≤ mark));
  whole = λ t c mark. ImageWhole state t c mark
      ⊎ ((store.parts.spoilt ≡ false) × (t ≡ state.turn) × SameContent (content_of store state.files) c × (store.latest ≤ mark));
  opens = λ t. (image : Image) → state.left t image → IsSound image;
  sound = Unit {0};
  spent = is_spent store;
  most = λ key. look_bytes store.parts key;
  fetches = λ key. Unit {0};
}

-- The store goes by these settings.
pub record GoesBy (settings : Settings) (store : LogStore) : Type 0 where
  pub bits : store.parts.tree.bits ≡ settings.hash_bits
  pub queue : store.parts.requests.limit ≡ settings.queue
  pub file_size : append.size_limit (append.files_of store.parts.log) ≡ settings.file_size
  pub sync_writes : store.sync_writes ≡ settings.sync_writes

-- A store that was opened from the files as they read: its content is theirs, its mark, and the numbers it goes on with.
-- Nothing waits for the index.
pub record IsOpened (files : Image) (now : HostState) (settings : Settings) (store : LogStore) (mark : ℕ) : Type 0 where
  pub stands : LogStands store now [] []
  pub content : (key : List ℕ) → HasReading (IsCounted files) key (read_in (content_of store now.files) key)
  pub mark_is : IsMark files mark
  pub latest : store.latest ≡ mark
  pub sound : IsSound files
  pub next : IsNextSequence files (next_of store)
  pub number : IsNextFile files (number store)
  pub made : writer store ≡ None
  pub empty : store.parts.requests.waiting ≡ []
  pub goes_by : GoesBy settings store
