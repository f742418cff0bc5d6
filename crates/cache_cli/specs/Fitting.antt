-- What may be read of a key, and of all keys together, after some commands and the one in hand.
use Rattle.std.specs.Prelude.{◌≡◌, ℕ, ◌+◌, ◌≤◌, Bool, List, [], ◌∷◌, ◌++◌, take, length, Option, Some, None, if◌then◌else◌}
use Rattle.std.specs.FinMap.{get}
use Rattle.cache_model.specs.declared.entries.Entry.{Entry}
use Rattle.cache_model.specs.declared.entries.Change.{Change}
use Rattle.cache_model.specs.declared.commands.Command.{Command}
use Rattle.cache_model.specs.Plain.{Plain, visible_at, effect_of, plain_after}
use Rattle.cache_model.specs.Changes.{changes_by, changes_of, entry_after}
use Rattle.store_trait.specs.Meaning.{Reading, Content, read_in, seen}
use Rattle.cache_session.specs.Changing.{of_key, IsOrder}
use Rattle.cache_session.specs.Turns.{promises}

-- How many changes of a key the answers to these commands promise: those up to the last one that promises it. So many
-- were made before, and so many of them were promised.
abbrev pub promised_from : Bool → Plain → ℕ → ℕ → List Command → List ℕ → ℕ
promised_from synced plain made promised [] key = promised
promised_from synced plain made promised (command ∷ commands) key =
    let now = made + length (changes_by (effect_of plain command) key) in
    promised_from synced (plain_after plain command) now (if promises synced plain command key then now else promised) commands key

-- how many changes of a key the answers to these commands promise
abbrev pub promised_of : Bool → Plain → List Command → List ℕ → ℕ
promised_of synced plain commands key = promised_from synced plain 0 0 commands key

-- The changes of these commands in turn, those of each command in an order of its keys.
abbrev pub IsLog : Plain → List Command → List Change → Type 0
IsLog plain [] log = log ≡ []
IsLog plain (command ∷ commands) log =
    (one : List Change) × (two : List Change) × (log ≡ one ++ two) × IsOrder (effect_of plain command) one × IsLog (plain_after plain command) commands two

-- a reading is, at each moment from a mark on, as after so many of a key's changes
abbrev pub ReadsAs : Plain → List Change → ℕ → List ℕ → Reading → ℕ → Type 0
ReadsAs plain log count key r mark = (m : ℕ) → mark ≤ m → seen m r ≡ visible_at m (entry_after (get plain.entries key) (of_key key log) count)

-- A key reads as after the first so many of its changes by the commands that were done and the one in hand: no fewer than
-- the answers promised.
pub record ReadsPrefix (synced : Bool) (plain : Plain) (done hand : List Command) (key : List ℕ) (r : Reading) (mark : ℕ) : Type 0 where
  pub count : ℕ
  pub holds : promised_of synced plain done key ≤ count
  pub within : count ≤ length (changes_of plain (done ++ hand) key)
  pub reads : (m : ℕ) → mark ≤ m → seen m r ≡ visible_at m (entry_after (get plain.entries key) (changes_of plain (done ++ hand) key) count)

-- All keys together read as after the first so many of all changes, in an order of the removals of each clear.
pub record ReadsCut (synced : Bool) (plain : Plain) (done hand : List Command) (c : Content) (mark : ℕ) : Type 0 where
  pub log : List Change
  pub is_log : IsLog plain (done ++ hand) log
  pub count : ℕ
  pub within : count ≤ length log
  pub holds : (key : List ℕ) → promised_of synced plain done key ≤ length (of_key key (take count log))
  pub reads : (key : List ℕ) → ReadsAs plain log (length (of_key key (take count log))) key (read_in c key) mark

-- the entry of a reading
abbrev pub entry_of_reading : Reading → Option Entry
entry_of_reading None = None
entry_of_reading (Some entry) = entry

-- a plain map has the entries of a content
abbrev pub IsOpening : Plain → Content → Type 0
IsOpening plain content = (key : List ℕ) → entry_of_reading (read_in content key) ≡ get plain.entries key
