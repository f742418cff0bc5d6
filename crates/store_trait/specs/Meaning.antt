-- What a store stands for: readings of keys, contents, and what a crash may leave.
use Rattle.std.specs.Prelude.{◌≡◌, ◌⊎◌, ℕ, Bool, List, ◌∷◌, Option, Some, None, is_some}
use Rattle.std.specs.Map.{lookup}
use Rattle.std.specs.Str.{bytes_eq}
use Rattle.cache_model.specs.declared.entries.Entry.{Entry}
use Rattle.cache_model.specs.declared.entries.Change.{Change}
use Rattle.cache_model.specs.declared.entries.Change.TheVariants.{Put, Remove}
use Rattle.cache_model.specs.declared.files.FileName.{FileName}
use Rattle.cache_model.specs.declared.faults.Spent.{Spent}
use Rattle.cache_model.specs.declared.commands.StepKind.{StepKind}
use Rattle.cache_model.specs.declared.replies.Turned.{Turned}
use Rattle.cache_model.specs.Files.{Image}
use Rattle.cache_model.specs.Items.{IsUntil}
use Rattle.cache_model.specs.Plain.{visible_at}

-- a reading of a key: nothing, that it was removed, or an entry
abbrev pub Reading : Type 0
Reading = Option (Option Entry)

-- a content: under each key an entry, or that it was removed. Where a key stands twice, the first one counts.
abbrev pub Content : Type 0
Content = List (List ℕ × Option Entry)

-- what a key reads in a content
abbrev pub read_in : Content → List ℕ → Reading
read_in content key = lookup (λ other. bytes_eq other key) content

-- the entry of a reading, where it is visible at a moment
abbrev pub seen : ℕ → Reading → Option Entry
seen moment None = None
seen moment (Some entry) = visible_at moment entry

-- the key that a change changes
abbrev pub key_of : Change → List ℕ
key_of (Put key entry) = key
key_of (Remove key) = key

-- the entry that a change puts, none where it removes its key
abbrev pub entry_of : Change → Option Entry
entry_of (Put key entry) = Some entry
entry_of (Remove key) = None

-- a change that can be written: its entry never expires, or below 2^62
abbrev pub IsChange : Change → Type 0
IsChange (Put key entry) = IsUntil entry.until
IsChange (Remove key) = Unit {0}

-- a content after a change
abbrev pub changed : Change → Content → Content
changed change content = (key_of change, entry_of change) ∷ content

-- Neither of two readings is visible at a moment. Where the key isn't one that may be forgotten, both read something or
-- neither does.
pub record AreUnseen (forgets : Type 0) (moment : ℕ) (one other : Reading) : Type 0 where
  pub first : seen moment one ≡ None
  pub second : seen moment other ≡ None
  pub kind : (forgets → ⊥) → is_some one ≡ is_some other

-- Two readings of a key are alike at a moment where they are equal or both unseen, and so at each later one.
abbrev pub IsAlike : Type 0 → ℕ → Reading → Reading → Type 0
IsAlike forgets moment one other = (one ≡ other) ⊎ AreUnseen forgets moment one other

-- One of the parts that a store is made of, as steps name them: how many requests are queued, the keys of the pending
-- changes in order, the current file, and the file under compaction with the turns done.
pub record Row : Type 0 where
  pub queued : ℕ
  pub pending : List (List ℕ)
  pub current : Option ℕ
  pub run : Option (ℕ × ℕ)

-- The numbers of a store whose every change takes one: that of the next change, and that of the file that is written, or
-- that will be made.
pub record Numbers : Type 0 where
  pub sequence : ℕ
  pub file : ℕ

-- What is known of a store whatever the host tells.
pub record StoreFacts : Type 1 where
  -- how many bits of the keys' hash the walk order has
  pub bits : ℕ
  -- whether it may be used no more
  pub spoilt : Bool
  -- what its calls ask of it beside that it isn't spoilt, as that a kept rule may be called
  pub usable : Type 0
  -- the greatest moment of its calls so far
  pub latest : ℕ
  -- the keys of which an invisible entry or a removal may be forgotten
  pub forgets : List ℕ → Type 0
  -- the files on which alone it rests, and which alone its calls change
  pub owns : FileName → Bool
  -- whether what a crash may leave is told of all keys together too
  pub ordered : Bool
  -- whether a change is safe from crashes as soon as it is written
  pub firm : Bool
  -- the keys of which a change is written without a byte put out
  pub quiet : List ℕ → Bool
  -- no sequence number and no file number that its calls used is above these
  pub drawn : ℕ
  pub made : ℕ
  -- none where a change may take no number
  pub numbers : Option Numbers
  pub parts : List Row
  -- how the parts go on by a change that is written
  pub moves : Change → List Row → List Row → Type 0
  -- how they go on by a sync
  pub empties : List Row → List Row → Type 0
  -- how they go on by the steps for room that a call takes before it is refused for want of memory
  pub room : List Row → List Row → Type 0
  -- how they go on by a step of a kind with an answer, where the files read so
  pub steps : Image → StepKind → Turned → List Row → List Row → Type 0
  -- how they go on by the compaction of a file with an answer, in so many turns, where the files read so when it began, and so
  -- once the compaction that was under way had ended
  pub compacts : Image → Image → ℕ → Turned → ℕ → List Row → List Row → Type 0
  -- how many turns it takes at the most from such parts
  pub turns : Image → Image → ℕ → List Row → ℕ
  -- how they go on by the compaction of all files, in so many turns, where the files read so when it began, and so once the
  -- compaction that was under way had ended and all files were closed
  pub compacts_all : Image → Image → ℕ → List Row → List Row → Type 0
  -- whether it takes so many turns at the most from such parts
  pub turns_all : Image → Image → List Row → ℕ → Type 0
  -- what it leaves: how each image behind it is to the files as they read when it began
  pub sweeps : Image → Image → Type 0
  -- how they go on by a count of the files as they read, which gives how many there are, how many bytes they have, and
  -- how many of these are live
  pub counts : Image → ℕ × ℕ × ℕ → List Row → List Row → Type 0

-- What a store stands for on a host that tells its contents.
pub record StoreState : Type 1 where
  -- whether the files are as the store takes them to be, which is a condition of each call
  pub stands : Type 0
  -- what the store itself reads
  pub content : Content
  -- whether a crash at that turn may leave the key reading so, with this number as the least start of a later session
  pub may : ℕ → List ℕ → Reading → ℕ → Type 0
  -- the same of all keys together
  pub whole : ℕ → Content → ℕ → Type 0
  -- whether each image that a crash at that turn may leave opens
  pub opens : ℕ → Type 0
  -- whether no call finds damage
  pub sound : Type 0
  -- whether these numbers have reached their end
  pub spent : Spent → Type 0
  -- the greatest number of bytes that a load of the key asks for
  pub most : List ℕ → ℕ
  -- whether a load that finds the key's entry asks for its bytes
  pub fetches : List ℕ → Type 0
