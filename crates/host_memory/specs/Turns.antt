-- What turns do to the files as they read, to what a crash may leave, and to the output.
use Rattle.std.specs.Prelude.{◌≡◌, ℕ, ◌+◌, Bool, true, false, zero, suc, List, [], ◌∷◌, ◌++◌, length, Option, None}
use Rattle.cache_model.specs.Files.{Image}
use Rattle.cache_disk.specs.State.{SameFiles}
use Rattle.cache_disk.specs.Calls.{Makes, Unmakes, Tears, Stays, Settles, HasNames, and_then_said}
use Rattle.host_memory.specs.declared.turns.Call.{Call}
use Rattle.host_memory.specs.declared.turns.Call.TheVariants.{Create, Write, Sync, Delete, SyncNames, Say}
use Rattle.host_memory.specs.declared.turns.Turn.{Turn}
use Rattle.host_memory.specs.Files.{made, written, without}

-- the files after a call, where these were read before it
abbrev pub after : Call → Image → Image
after (Create name) files = made name files
after (Write name at bytes) files = written name at bytes.items files
after (Sync name ok) files = files
after (Delete name) files = without name files
after (SyncNames ok) files = files
after (Say bytes ok) files = files

-- what a sync that succeeded promises
abbrev pub Syncs : Bool → Image → (Image → Image → Type 0) → Image → Type 0
Syncs true old promise new = promise old new
Syncs false old promise new = Stays old new

-- what a call does to an image that a crash may leave, where these files are read
abbrev pub Steps : Image → Call → Image → Image → Type 0
Steps files (Create name) old new = Makes name old new
Steps files (Write name at bytes) old new = Tears name at (length bytes.items) old new
Steps files (Sync name ok) old new = Syncs ok old (Settles files name) new
Steps files (Delete name) old new = Unmakes name old new
Steps files (SyncNames ok) old new = Syncs ok old (HasNames files) new
Steps files (Say bytes ok) old new = Stays old new

-- the files as they read after some turns
abbrev pub replayed : Image → List Turn → Image
replayed files [] = files
replayed files (turn ∷ turns) = replayed (after turn.call files) turns

-- The turns lead from one image to the other, where these files are read at first.
abbrev pub Leads : Image → List Turn → Image → Image → Type 0
Leads files [] from to = to ≡ from
Leads files (turn ∷ turns) from to = (next : Image) × Steps files turn.call from next × Leads (after turn.call files) turns next to

-- A crash after these turns may leave the image, where the files were synced at first.
abbrev pub MayBeLeft : Image → List Turn → Image → Type 0
MayBeLeft files turns image = (first : Image) × SameFiles files first × Leads files turns first image

-- what was said after a call
abbrev pub said_after : Option (List ℕ) → Call → Option (List ℕ)
said_after said (Create name) = said
said_after said (Write name at bytes) = said
said_after said (Sync name ok) = said
said_after said (Delete name) = said
said_after said (SyncNames ok) = said
said_after said (Say bytes true) = and_then_said said bytes.items
said_after said (Say bytes false) = None

-- what was said after some turns
abbrev pub said_since : Option (List ℕ) → List Turn → Option (List ℕ)
said_since said [] = said
said_since said (turn ∷ turns) = said_since (said_after said turn.call) turns

-- the bytes of a say that succeeded
abbrev pub words_of : Call → List ℕ
words_of (Create name) = []
words_of (Write name at bytes) = []
words_of (Sync name ok) = []
words_of (Delete name) = []
words_of (SyncNames ok) = []
words_of (Say bytes true) = bytes.items
words_of (Say bytes false) = []

-- the bytes of all says that succeeded
abbrev pub words_since : List ℕ → List Turn → List ℕ
words_since words [] = words
words_since words (turn ∷ turns) = words_since (words ++ words_of turn.call) turns

-- how many bytes a call writes to a file
abbrev pub out_of : Call → ℕ
out_of (Create name) = 0
out_of (Write name at bytes) = length bytes.items
out_of (Sync name ok) = 0
out_of (Delete name) = 0
out_of (SyncNames ok) = 0
out_of (Say bytes ok) = 0

-- how many bytes some turns write to files
abbrev pub out_since : ℕ → List Turn → ℕ
out_since out [] = out
out_since out (turn ∷ turns) = out_since (out + out_of turn.call) turns

-- how many bytes the reads asked for that were made before the turn rose above this one
abbrev pub asked_by : List Turn → ℕ → ℕ → ℕ
asked_by [] now t = now
asked_by (turn ∷ turns) now zero = turn.asked
asked_by (turn ∷ turns) now (suc t) = asked_by turns now t
