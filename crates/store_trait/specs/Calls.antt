-- What each call of a store does.
use Rattle.std.specs.Prelude.{◌≡◌, ◌⊎◌, ℕ, ◌+◌, ◌-◌, ◌≤◌, ◌<◌, ◌^◌, true, false, List, Option, Some, None, Result, length, All, [], IsSome, IfOk, OnOk, OnErr, IsErrOf}
use Rattle.cache_model.specs.declared.entries.Answer.{Answer}
use Rattle.cache_model.specs.declared.entries.Answer.TheVariants.{Known, Gone, Unknown}
use Rattle.cache_model.specs.declared.entries.Change.{Change}
use Rattle.cache_model.specs.declared.faults.StoreFault.{StoreFault}
use Rattle.cache_model.specs.declared.faults.StoreFault.TheVariants as fault
use Rattle.cache_model.specs.declared.faults.Spent.{Spent}
use Rattle.cache_model.specs.declared.faults.Spent.TheVariants.{Files, Sequence}
use Rattle.cache_model.specs.declared.faults.Damage.{Damage}
use Rattle.cache_model.specs.declared.commands.StepKind.{StepKind}
use Rattle.cache_model.specs.declared.commands.StepKind.TheVariants.{Index, Flush, Compact, Evict, Reap, Rotate}
use Rattle.cache_model.specs.declared.replies.Turned.{Turned}
use Rattle.cache_model.specs.declared.replies.Turned.TheVariants.{Idle}
use Rattle.cache_model.specs.Files.{Image}
use Rattle.cache_model.specs.Hash.{precedes, follows}
use Rattle.cache_disk.specs.State.{HostState, Rose, Silent}
use Rattle.cache_disk.specs.Calls.{AllLeft}
use Rattle.store_trait.specs.Meaning.{Reading, Content, read_in, seen, key_of, changed, Numbers, StoreFacts, StoreState}
use Rattle.store_trait.specs.Keeping.{Leaves, Keeps, Opens, IsKept, IsKeptAtMarks, SameContent, IsOnly, IsSettled, SameStore}

-- What each call asks of a store, whatever the host tells: it isn't spoilt, and its moment is none before the latest.
pub record IsReady (facts : StoreFacts) (moment : ℕ) : Type 0 where
  pub unspoilt : facts.spoilt ≡ false
  pub usable : facts.usable
  pub late : facts.latest ≤ moment
  pub moment_fits : moment < 2 ^ 61

-- What each call says whatever the host tells. After Ok the store isn't spoilt, and after a fault other than Memory it is.
pub record Plainly {T : Type 0} (old new : StoreFacts) (moment : ℕ) (result : Result T StoreFault) : Type 0 where
  pub same : SameStore old new
  pub usable : new.spoilt ≡ false → new.usable
  pub unspoilt : OnOk result (new.spoilt ≡ false)
  pub spoilt : OnErr result ((new.spoilt ≡ true) ⊎ IsErrOf result fault.Memory)
  pub late : new.latest ≤ moment
  pub sequence : (n : ℕ) → IsErrOf result (fault.Spent (Sequence n)) → n ≤ new.drawn
  pub files : (n : ℕ) → IsErrOf result (fault.Spent (Files n)) → n ≤ new.made

-- Numbers went on by so many changes. Where there was a change, no number is beyond its end.
pub record GoesOnBy (count : ℕ) (old new : Numbers) : Type 0 where
  pub sequence : new.sequence ≡ old.sequence + count
  pub file : old.file ≤ new.file
  pub within : 1 ≤ count → (new.sequence ≤ 2 ^ 62) × (old.file < 2 ^ 32 - 1)

-- so many changes took their numbers, where changes take them
abbrev pub IsNumbered : ℕ → Option Numbers → Option Numbers → Type 0
IsNumbered count None new = new ≡ None
IsNumbered count (Some old) new = (after : Numbers) × (new ≡ Some after) × GoesOnBy count old after

-- A call that takes no number and makes no file.
pub record DrawsNone (old new : StoreFacts) : Type 0 where
  pub drawn : new.drawn ≤ old.drawn
  pub made : new.made ≤ old.made
  pub numbers : IsNumbered 0 old.numbers new.numbers

-- A change takes a number, and one file may be made for it. Neither happens where the answer is Memory and the store is
-- unspoilt.
pub record DrawsOne {T : Type 0} (old new : StoreFacts) (result : Result T StoreFault) : Type 0 where
  pub drawn : new.drawn ≤ old.drawn + 1
  pub made : new.made ≤ old.made + 1
  pub numbers : OnOk result (IsNumbered 1 old.numbers new.numbers)
  pub refused : IsErrOf result fault.Memory → new.spoilt ≡ false → DrawsNone old new

-- A turn of a compaction takes no number, and may make one file, but none where it is idle, nor where the answer is Memory
-- and the store is unspoilt.
pub record MakesOne (old new : StoreFacts) (result : Result Turned StoreFault) : Type 0 where
  pub drawn : new.drawn ≤ old.drawn
  pub made : new.made ≤ old.made + 1
  pub numbers : OnOk result (IsNumbered 0 old.numbers new.numbers)
  pub idle : IfOk result (λ turned. turned ≡ Idle → new.made ≤ old.made)
  pub refused : IsErrOf result fault.Memory → new.spoilt ≡ false → DrawsNone old new

-- A compaction of a file takes no number. It may make files.
pub record TakesNone {T : Type 0} (old new : StoreFacts) (result : Result T StoreFault) : Type 0 where
  pub drawn : new.drawn ≤ old.drawn
  pub numbers : OnOk result (IsNumbered 0 old.numbers new.numbers)

-- A step takes no number, and only that of a compaction may make a file.
abbrev pub DrawsBy : StepKind → StoreFacts → StoreFacts → Result Turned StoreFault → Type 0
DrawsBy Compact old new result = MakesOne old new result
DrawsBy Index old new result = DrawsNone old new
DrawsBy Flush old new result = DrawsNone old new
DrawsBy Evict old new result = DrawsNone old new
DrawsBy Reap old new result = DrawsNone old new
DrawsBy Rotate old new result = DrawsNone old new

-- What each call says on a host that tells its contents. Each key is kept up to the wanted content.
pub record Acts {T : Type 0} (f g : StoreFacts) (old new : StoreState) (before after : HostState) (moment : ℕ) (wanted : Content) (result : Result T StoreFault) : Type 0 where
  pub stands : g.spoilt ≡ false → new.stands
  pub others : Leaves f.owns false before after
  pub silent : Silent before after
  pub keeps : Keeps f before.turn after.turn moment old new wanted
  pub opens : Opens before.turn after.turn old new
  pub sound : old.sound → new.sound
  pub undamaged : old.sound → (d : Damage) → IsErrOf result (fault.Damaged d) → ⊥
  pub spent : (s : Spent) → IsErrOf result (fault.Spent s) → new.spent s
  -- want of memory leaves what it stands for
  pub refused : IsErrOf result fault.Memory → g.spoilt ≡ false → IsKept f moment old.content new.content
  pub room : IsErrOf result fault.Memory → g.spoilt ≡ false → f.room f.parts g.parts

-- What an answer says of a reading at a moment: a visible entry, that there is something but nothing visible, or that there
-- is nothing, or nothing visible of a key that may be forgotten.
abbrev pub IsAnswer : Type 0 → ℕ → Reading → Answer → Type 0
IsAnswer forgets moment reading (Known entry) = seen moment reading ≡ Some entry
IsAnswer forgets moment reading Gone = (seen moment reading ≡ None) × IsSome reading
IsAnswer forgets moment reading Unknown = (seen moment reading ≡ None) × ((reading ≡ None) ⊎ forgets)

-- what an answer has of bytes
abbrev pub known_bytes : List ℕ → Answer → ℕ
known_bytes key (Known entry) = length key + length entry.value
known_bytes key Gone = 0
known_bytes key Unknown = 0

-- The call of `load` told what the content has of a key.
pub record Loaded (key : List ℕ) (f g : StoreFacts) (old new : StoreState) (before after : HostState) (moment : ℕ) (result : Result Answer StoreFault) : Type 0 where
  pub acts : Acts f g old new before after moment old.content result
  pub content : SameContent old.content new.content
  pub answer : IfOk result (λ answer. IsAnswer (f.forgets key) moment (read_in old.content key) answer)
  pub parts : OnOk result (g.parts ≡ f.parts)
  pub most : (Rose before.short_reads after.short_reads → ⊥) → after.asked after.turn ≤ before.asked before.turn + old.most key
  pub fetched : old.fetches key → IfOk result (λ answer. before.asked before.turn + known_bytes key answer ≤ after.asked after.turn)

-- a key is visible, and stands behind another
pub record IsAhead (bits moment : ℕ) (content : Content) (after : Option (List ℕ)) (key : List ℕ) : Type 0 where
  pub visible : IsSome (seen moment (read_in content key))
  pub behind : follows bits after key ≡ true

-- the first visible key behind another, None where there is none
abbrev pub IsNextKey : ℕ → ℕ → Content → Option (List ℕ) → Option (List ℕ) → Type 0
IsNextKey bits moment content after None = (k : List ℕ) → IsAhead bits moment content after k → ⊥
IsNextKey bits moment content after (Some key) = IsAhead bits moment content after key × ((k : List ℕ) → IsAhead bits moment content after k → (k ≡ key) ⊎ (precedes bits key k ≡ true))

-- The call of `next_key` told the first visible key behind another.
pub record Walked (from : Option (List ℕ)) (f g : StoreFacts) (old new : StoreState) (before after : HostState) (moment : ℕ) (result : Result (Option (List ℕ)) StoreFault) : Type 0 where
  pub acts : Acts f g old new before after moment old.content result
  pub content : SameContent old.content new.content
  pub next : IfOk result (λ key. IsNextKey f.bits moment old.content from key)
  pub parts : OnOk result (g.parts ≡ f.parts)

-- The call of `write` made the change the content of its key.
pub record Written (change : Change) (f g : StoreFacts) (old new : StoreState) (before after : HostState) (moment : ℕ) (result : Result (Unit {0}) StoreFault) : Type 0 where
  pub acts : Acts f g old new before after moment (changed change old.content) result
  pub content : OnOk result (SameContent (changed change old.content) new.content)
  pub unchanged : IsErrOf result fault.Memory → g.spoilt ≡ false → SameContent old.content new.content
  -- want of memory comes before the change was begun: at no turn is anything possible but what was, or the content
  pub kept : IsErrOf result fault.Memory → g.spoilt ≡ false → Keeps f before.turn after.turn moment old new old.content
  pub quiet : f.quiet (key_of change) ≡ true → after.put_out after.turn ≡ before.put_out before.turn
  pub firm : f.firm ≡ true → OnOk result (IsOnly g new after.turn (key_of change))
  pub parts : OnOk result (f.moves change f.parts g.parts)

-- The call of `sync` left the content, and after Ok nothing else is possible.
pub record SyncedStore (f g : StoreFacts) (old new : StoreState) (before after : HostState) (moment : ℕ) (result : Result (Unit {0}) StoreFault) : Type 0 where
  pub acts : Acts f g old new before after moment old.content result
  pub content : OnOk result (SameContent old.content new.content)
  pub unchanged : IsErrOf result fault.Memory → g.spoilt ≡ false → SameContent old.content new.content
  pub settled : OnOk result (IsSettled g new after.turn)
  pub parts : OnOk result (f.empties f.parts g.parts)
  pub flushed : OnOk result (All (λ row. row.pending ≡ []) g.parts)

-- The call of `step` kept the content, at the call's moment and at the mark of each pair that may be left then.
pub record Stepped (step : StepKind) (f g : StoreFacts) (old new : StoreState) (before after : HostState) (moment : ℕ) (result : Result Turned StoreFault) : Type 0 where
  pub acts : Acts f g old new before after moment old.content result
  pub content : OnOk result (IsKept f moment old.content new.content)
  pub marks : OnOk result (IsKeptAtMarks f after.turn old new)
  pub parts : IfOk result (λ turned. f.steps before.files step turned f.parts g.parts)

-- The call of `figures` kept the content, at the call's moment and at the mark of each pair that may be left then, and
-- counted the files as they read.
pub record Figured (f g : StoreFacts) (old new : StoreState) (before after : HostState) (moment : ℕ) (result : Result (ℕ × ℕ × ℕ) StoreFault) : Type 0 where
  pub acts : Acts f g old new before after moment old.content result
  pub content : OnOk result (IsKept f moment old.content new.content)
  pub marks : OnOk result (IsKeptAtMarks f after.turn old new)
  pub parts : IfOk result (λ figures. f.counts before.files figures f.parts g.parts)

-- files may have read so between two states: a crash might have left them at a turn between
abbrev pub MayHaveRead : HostState → HostState → Image → Type 0
MayHaveRead before after files = (t : ℕ) × (before.turn ≤ t) × (t ≤ after.turn) × after.left t files

-- no more files were made than the compaction of a file takes turns, where the files read so in between
abbrev pub MakesFor : ℕ → StoreFacts → StoreFacts → HostState → HostState → Type 0
MakesFor file f g before after = (mid : Image) × MayHaveRead before after mid × (g.made ≤ f.made + f.turns before.files mid file f.parts)

-- the compaction of a file moved the parts with this answer, in so many turns, of which each made one file at the most
abbrev pub CompactsIn : ℕ → StoreFacts → StoreFacts → HostState → HostState → Turned → Type 0
CompactsIn file f g before after turned =
    (mid : Image) × (turns : ℕ) × MayHaveRead before after mid × f.compacts before.files mid file turned turns f.parts g.parts × (g.made ≤ f.made + turns)

-- The call of `compact_file` kept the content, at the call's moment and at the mark of each pair that may be left then.
pub record CompactedFile (file : ℕ) (f g : StoreFacts) (old new : StoreState) (before after : HostState) (moment : ℕ) (result : Result Turned StoreFault) : Type 0 where
  pub acts : Acts f g old new before after moment old.content result
  pub content : OnOk result (IsKept f moment old.content new.content)
  pub marks : OnOk result (IsKeptAtMarks f after.turn old new)
  pub made : MakesFor file f g before after
  pub parts : IfOk result (CompactsIn file f g before after)

-- no more files were made than the compaction of all files takes turns, where the files read so in between
abbrev pub MakesForAll : StoreFacts → StoreFacts → HostState → HostState → Type 0
MakesForAll f g before after =
    (mid : Image) × (turns : ℕ) × MayHaveRead before after mid × f.turns_all before.files mid f.parts turns × (g.made ≤ f.made + turns)

-- the compaction of all files moved the parts, in so many turns, of which each made one file at the most
abbrev pub CompactsAllIn : StoreFacts → StoreFacts → HostState → HostState → Type 0
CompactsAllIn f g before after =
    (mid : Image) × (turns : ℕ) × MayHaveRead before after mid × f.compacts_all before.files mid turns f.parts g.parts × (g.made ≤ f.made + turns)

-- The call of `compact_all` kept the content, at the call's moment and at the mark of each pair that may be left then.
pub record CompactedAll (f g : StoreFacts) (old new : StoreState) (before after : HostState) (moment : ℕ) (result : Result (Unit {0}) StoreFault) : Type 0 where
  pub acts : Acts f g old new before after moment old.content result
  pub content : OnOk result (IsKept f moment old.content new.content)
  pub marks : OnOk result (IsKeptAtMarks f after.turn old new)
  pub made : MakesForAll f g before after
  pub parts : OnOk result (CompactsAllIn f g before after)
  pub swept : OnOk result (AllLeft after (f.sweeps before.files))
