-- What a turn of a session does.
use Rattle.std.specs.Prelude.{◌≡◌, ◌⊎◌, ℕ, ◌+◌, ◌≤◌, ◌<◌, ◌||◌, ◌&&◌, Bool, true, false, List, [], ◌∷◌, Option, Some, None, Result, take, length, IfOk, OnOk, OnErr, IsErrOf}
use Rattle.cache_model.specs.declared.entries.Change.{Change}
use Rattle.cache_model.specs.declared.commands.Command.{Command}
use Rattle.cache_model.specs.declared.commands.Command.TheVariants.{At, Sync, Stop, Step, Evict, Halt, CompactAll, CompactFile, Stats, Export}
use Rattle.cache_model.specs.declared.commands.StepKind.{StepKind}
use Rattle.cache_model.specs.declared.commands.StepKind.TheVariants as step
use Rattle.cache_model.specs.declared.replies.Figures.{Figures}
use Rattle.cache_model.specs.declared.replies.Reply.{Reply}
use Rattle.cache_model.specs.declared.replies.Reply.TheVariants as reply
use Rattle.cache_model.specs.declared.replies.Turned.{Turned}
use Rattle.cache_model.specs.declared.replies.Turned.TheVariants.{Idle}
use Rattle.cache_model.specs.declared.faults.StoreFault.{StoreFault}
use Rattle.cache_model.specs.declared.faults.StoreFault.TheVariants as fault
use Rattle.cache_model.specs.declared.faults.Spent.{Spent}
use Rattle.cache_model.specs.declared.faults.Spent.TheVariants.{Files, Sequence}
use Rattle.cache_model.specs.declared.faults.Damage.{Damage}
use Rattle.cache_model.specs.Files.{Image}
use Rattle.cache_model.specs.Plain.{Plain, effect_of, plain_after, plain_reply, moment_after}
use Rattle.cache_model.specs.Changes.{changes_by}
use Rattle.cache_disk.specs.State.{HostState, Silent}
use Rattle.cache_disk.specs.Calls.{AllLeft}
use Rattle.store_trait.specs.Meaning.{Reading, Content, read_in, IsAlike, Row, StoreFacts, StoreState}
use Rattle.store_trait.specs.Keeping.{Leaves, IsOld, IsNew, IsOldWhole, IsNewWhole, Opens, IsKept, SameStore, IsOnly}
use Rattle.store_trait.specs.Calls.{IsReady, IsNumbered, DrawsNone, MayHaveRead, CompactsAllIn, CompactsIn}
use Rattle.cache_session.specs.declared.session.Session.{Session}
use Rattle.cache_session.specs.declared.event.Event.{Event}
use Rattle.cache_session.specs.declared.event.Event.TheVariants.{Client, Actor}
use Rattle.cache_session.specs.Changing.{after_all, of_key, IsOrder, Shows, has_some}

-- the store of a session
abbrev pub store_of : {S : Type 0} → Session S → S
store_of session = session.store

-- its moment
abbrev pub moment_of : {S : Type 0} → Session S → ℕ
moment_of session = session.moment

-- whether a turn of it stopped halfway
abbrev pub is_broken : {S : Type 0} → Session S → Bool
is_broken session = session.broken

-- an actor's step is what the command of that step is
abbrev pub command_of : Event → Command
command_of (Client command) = command
command_of (Actor kind) = Step kind

-- the commands that a session does
abbrev pub IsBuilt : Command → Type 0
IsBuilt Export = ⊥
IsBuilt command = Unit {0}

-- A reading is as after the first so many of a call's changes.
pub record IsNewBy (forgets : Type 0) (moment : ℕ) (changes : List Change) (content : Content) (key : List ℕ) (r : Reading) (mark : ℕ) : Type 0 where
  pub count : ℕ
  pub within : count ≤ length changes
  pub new : IsNew forgets moment (read_in (after_all (take count changes) content) key) r mark

-- All keys together are as after the first so many of a call's changes.
pub record IsNewWholeBy (forgets : List ℕ → Type 0) (moment : ℕ) (changes : List Change) (content c : Content) (mark : ℕ) : Type 0 where
  pub count : ℕ
  pub within : count ≤ length changes
  pub new : IsNewWhole forgets moment (after_all (take count changes) content) c mark

-- What may be left at a turn since the call began was possible when it began, or is as after the first so many of these
-- changes. What might be left before stays so.
pub record KeepsBy (f : StoreFacts) (from to moment : ℕ) (old new : StoreState) (changes : List Change) : Type 0 where
  pub past : (t : ℕ) (key : List ℕ) (r : Reading) (mark : ℕ) → t < from → new.may t key r mark → old.may t key r mark
  pub since : (t : ℕ) (key : List ℕ) (r : Reading) (mark : ℕ) → from ≤ t → t ≤ to → new.may t key r mark
      → IsOld (f.forgets key) (old.may from key) r mark ⊎ IsNewBy (f.forgets key) moment changes old.content key r mark
  pub past_whole : (t : ℕ) (c : Content) (mark : ℕ) → t < from → new.whole t c mark → old.whole t c mark
  pub since_whole : f.ordered ≡ true → (t : ℕ) (c : Content) (mark : ℕ) → from ≤ t → t ≤ to → new.whole t c mark
      → IsOldWhole f.forgets (old.whole from) c mark ⊎ IsNewWholeBy f.forgets moment changes old.content c mark

-- The content is that after these changes: as it is seen from the moment on, and as it is seen at the mark of each pair
-- that may be left at the turn.
pub record IsContentAfter (f : StoreFacts) (moment turn : ℕ) (changes : List Change) (old new : StoreState) : Type 0 where
  pub kept : IsKept f moment (after_all changes old.content) new.content
  pub at_marks : (key : List ℕ) (r : Reading) (mark : ℕ) → new.may turn key r mark
      → IsAlike (f.forgets key) mark (read_in new.content key) (read_in (after_all changes old.content) key)

-- How a call goes about: by its changes alone, by a sync, by a count of the files, by the compaction of one file or of all
-- of them, or by a step.
pub data Way : Type 0 where
  by_changes : Way
  by_sync : Way
  by_count : Way
  by_compaction : (file : ℕ) → Way
  by_sweep : Way
  by_step : (kind : StepKind) → Way

-- how changes that are written in turn move the parts of a store
abbrev pub MovesBy : (Change → List Row → List Row → Type 0) → List Change → List Row → List Row → Type 0
MovesBy moves [] a b = b ≡ a
MovesBy moves (change ∷ changes) a b = (c : List Row) × moves change a c × MovesBy moves changes c b

-- how a call moves them; a count, compactions and a step say it with their answers
abbrev pub PartsBy : Way → StoreFacts → List Change → List Row → List Row → Type 0
PartsBy by_changes f changes a b = MovesBy f.moves changes a b
PartsBy by_sync f changes a b = f.empties a b
PartsBy by_count f changes a b = Unit {0}
PartsBy (by_compaction file) f changes a b = Unit {0}
PartsBy by_sweep f changes a b = Unit {0}
PartsBy (by_step kind) f changes a b = Unit {0}

-- they stay, or room was made in them
abbrev pub IsRoom : StoreFacts → List Row → List Row → Type 0
IsRoom f a b = (b ≡ a) ⊎ f.room a b

-- how many files a turn of a compaction makes at the most
abbrev pub files_of : StepKind → ℕ
files_of step.Compact = 1
files_of kind = 0

-- how many files a call makes at the most, beside those for its changes and for compactions of named or all files
abbrev pub files_in : Way → ℕ
files_in by_changes = 0
files_in by_sync = 0
files_in by_count = 0
files_in (by_compaction file) = 0
files_in by_sweep = 0
files_in (by_step kind) = files_of kind

-- A call makes one file at the most for each of so many changes, and so many beside. The compaction of one file makes no more
-- than it takes turns, where the files read so when the compaction that was under way had ended, and so does that of all
-- files.
abbrev pub MakesBy : Way → StoreFacts → StoreFacts → HostState → HostState → ℕ → Type 0
MakesBy (by_compaction file) f g before after count = (mid : Image) × MayHaveRead before after mid × (g.made ≤ f.made + count + f.turns before.files mid file f.parts)
MakesBy by_sweep f g before after count = (mid : Image) × (turns : ℕ) × MayHaveRead before after mid × f.turns_all before.files mid f.parts turns × (g.made ≤ f.made + count + turns)
MakesBy way f g before after count = g.made ≤ f.made + count + files_in way

-- Nothing was changed: neither what the content shows, nor what may be left, nor a number.
pub record IsUnchanged (f g : StoreFacts) (from to moment : ℕ) (old new : StoreState) : Type 0 where
  pub keeps : KeepsBy f from to moment old new []
  pub content : IsContentAfter f moment to [] old new
  pub numbers : DrawsNone f g
  pub parts : IsRoom f f.parts g.parts

-- These changes were made: all of them where the answer is Ok, none where it is Memory and the object is unspoilt, and
-- else some first of them. They moved the parts of the store.
pub record Did {T : Type 0} (way : Way) (f g : StoreFacts) (spoilt : Bool) (old new : StoreState) (before after : HostState) (moment : ℕ) (changes : List Change) (result : Result T StoreFault) : Type 0 where
  pub stands : spoilt ≡ false → new.stands
  pub others : Leaves f.owns false before after
  pub silent : Silent before after
  pub keeps : KeepsBy f before.turn after.turn moment old new changes
  pub opens : Opens before.turn after.turn old new
  pub sound : old.sound → new.sound
  pub undamaged : old.sound → (d : Damage) → IsErrOf result (fault.Damaged d) → ⊥
  pub spent : (s : Spent) → IsErrOf result (fault.Spent s) → new.spent s
  pub content : OnOk result (IsContentAfter f moment after.turn changes old new)
  pub refused : IsErrOf result fault.Memory → spoilt ≡ false → IsUnchanged f g before.turn after.turn moment old new
  -- where the store is firm nothing else is possible of a changed key
  pub firm : f.firm ≡ true → (key : List ℕ) → has_some (of_key key changes) ≡ true → OnOk result (IsOnly g new after.turn key)
  -- each change takes one number and makes one file at the most
  pub drawn : g.drawn ≤ f.drawn + length changes
  pub made : MakesBy way f g before after (length changes)
  pub numbers : OnOk result (IsNumbered (length changes) f.numbers g.numbers)
  pub parts : OnOk result (PartsBy way f changes f.parts g.parts)

-- what each call asks of a session, whatever the host tells
pub record IsFit (f : StoreFacts) (broken : Bool) (moment : ℕ) : Type 0 where
  pub whole : broken ≡ false
  pub ready : IsReady f moment

-- whether the reply to a command promises every key
abbrev pub is_settling : Command → Bool
is_settling Sync = true
is_settling Stop = true
is_settling command = false

-- whether the reply to a command promises a key: where each write is synced also each key that it changed
abbrev pub promises : Bool → Plain → Command → List ℕ → Bool
promises synced plain command key = is_settling command || (synced && has_some (changes_by (effect_of plain command) key))

-- the reply is the plain map's, where it says one
abbrev pub IsReplyOf : Option Reply → Reply → Type 0
IsReplyOf None reply = Unit {0}
IsReplyOf (Some wanted) reply = reply ≡ wanted

-- a step that gives up what is held in memory
abbrev pub gives_up : StepKind → Bool
gives_up step.Evict = true
gives_up step.Reap = true
gives_up kind = false

-- what a step does to the parts of a store, where the files read so: nothing is held in memory that could be given up
abbrev pub StepMoves : StepKind → StoreFacts → Image → Turned → List Row → List Row → Type 0
StepMoves step.Evict f files turned a b = (turned ≡ Idle) × (b ≡ a)
StepMoves step.Reap f files turned a b = (turned ≡ Idle) × (b ≡ a)
StepMoves kind f files turned a b = f.steps files kind turned a b

-- the figures of a count of the files, where no change waits to be written and nothing is held in memory
abbrev pub figures_of : ℕ × ℕ × ℕ → Figures
figures_of count = record { files = count.0; bytes = count.1; live = count.2; pending = 0; held = 0 }

-- What the store itself answers: a step is answered with what it did, `stats` with the figures of the files as they read, and
-- the compaction of a file with whether it was one that could be compacted. The parts were moved so. Behind the compaction of
-- all files each image is what the store leaves by it.
abbrev pub IsStoreReply : Command → StoreFacts → StoreFacts → HostState → HostState → Reply → Type 0
IsStoreReply (Step kind) f g before after answer = (turned : Turned) × (answer ≡ reply.Turned turned) × StepMoves kind f before.files turned f.parts g.parts
IsStoreReply Stats f g before after answer = (count : ℕ × ℕ × ℕ) × (answer ≡ reply.Stats (figures_of count)) × f.counts before.files count f.parts g.parts
IsStoreReply (CompactFile file) f g before after answer = (turned : Turned) × (answer ≡ reply.Turned turned) × CompactsIn file f g before after turned
IsStoreReply CompactAll f g before after answer = CompactsAllIn f g before after × AllLeft after (f.sweeps before.files)
IsStoreReply command f g before after answer = Unit {0}

-- how a command goes about
abbrev pub way_of : Command → Way
way_of Sync = by_sync
way_of Stop = by_sync
way_of Stats = by_count
way_of (CompactFile file) = by_compaction file
way_of CompactAll = by_sweep
way_of (Step kind) = by_step kind
way_of command = by_changes

-- how many files a command makes at the most, beside those for its changes and for compactions of named or all files
abbrev pub files_by : Command → ℕ
files_by command = files_in (way_of command)

-- a command that asks nothing of the disk
abbrev pub is_idle : Command → Bool
is_idle (At moment) = true
is_idle (Evict key) = true
is_idle Halt = true
is_idle command = false

-- The turn did a command as the plain map does it.
pub record Turns (publish : List ℕ) (plain : Plain) (command : Command) (f g : StoreFacts) (spoilt : Bool) (old new : StoreState) (before after : HostState) (result : Result Reply StoreFault) : Type 0 where
  pub changes : List Change
  pub order : IsOrder (effect_of plain command) changes
  pub did : Did (way_of command) f g spoilt old new before after plain.moment changes result
  pub shows : OnOk result (Shows (plain_after plain command) new.content)
  pub reply : IfOk result (λ reply. IsReplyOf (plain_reply publish plain command) reply)
  pub store : IfOk result (λ reply. IsStoreReply command f g before after reply)
  pub promised : (key : List ℕ) → promises f.firm plain command key ≡ true → OnOk result (IsOnly g new after.turn key)
  pub idle : is_idle command ≡ true → after.turn ≡ before.turn

-- the turn did a command as each plain map does it that the content shows
abbrev pub TurnsShown : Command → StoreFacts → StoreFacts → Bool → StoreState → StoreState → HostState → HostState → ℕ → Result Reply StoreFault → Type 0
TurnsShown command f g spoilt old new before after moment result =
    (publish : List ℕ) (plain : Plain) → plain.moment ≡ moment → Shows plain old.content → Turns publish plain command f g spoilt old new before after result

-- What a turn says whatever the host tells.
pub record Goes (command : Command) (f g : StoreFacts) (old_moment moment : ℕ) (broken : Bool) (result : Result Reply StoreFault) : Type 0 where
  pub same : SameStore f g
  pub goes : OnOk result (moment ≡ moment_after old_moment command)
  pub stays : OnErr result (moment ≡ old_moment)
  pub fit : (broken || g.spoilt) ≡ false → IsFit g broken moment
  pub unspoilt : OnOk result ((broken || g.spoilt) ≡ false)
  pub spoilt : OnErr result (((broken || g.spoilt) ≡ true) ⊎ IsErrOf result fault.Memory)
  pub sequence : (n : ℕ) → IsErrOf result (fault.Spent (Sequence n)) → n ≤ g.drawn
  pub files : (n : ℕ) → IsErrOf result (fault.Spent (Files n)) → n ≤ g.made
