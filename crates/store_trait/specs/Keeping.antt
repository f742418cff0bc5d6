-- How what a store stands for goes on from one moment to a later one.
use Rattle.std.specs.Prelude.{◌≡◌, ◌⊎◌, ℕ, ◌≤◌, ◌<◌, ◌↔◌, Bool, true, List}
use Rattle.cache_model.specs.declared.entries.Change.{Change}
use Rattle.cache_model.specs.declared.files.FileName.{FileName}
use Rattle.cache_model.specs.declared.faults.Spent.{Spent}
use Rattle.cache_model.specs.declared.commands.StepKind.{StepKind}
use Rattle.cache_model.specs.declared.replies.Turned.{Turned}
use Rattle.cache_model.specs.Files.{Image, file_in}
use Rattle.cache_disk.specs.State.{HostState, Moves}
use Rattle.store_trait.specs.Meaning.{Reading, Content, read_in, IsAlike, Row, StoreFacts, StoreState}

-- the same files of those that the test picks
abbrev pub SameWhere : (FileName → Bool) → Bool → Image → Image → Type 0
SameWhere owns which old new = (name : FileName) → owns name ≡ which → file_in new name ≡ file_in old name

-- Files that the test says this of stay as they read, and in every image since they are as in one from the start.
pub record Leaves (owns : FileName → Bool) (which : Bool) (old new : HostState) : Type 0 where
  pub files : SameWhere owns which old.files new.files
  pub images : Moves old new (SameWhere owns which)

-- a pair is alike to one that was possible with no later mark
pub record IsOld (forgets : Type 0) (was : Reading → ℕ → Type 0) (reading : Reading) (mark : ℕ) : Type 0 where
  pub before : Reading
  pub least : ℕ
  pub possible : was before least
  pub no_later : least ≤ mark
  pub alike : IsAlike forgets mark reading before

-- a pair is alike to what is wanted, and its mark isn't below the call's moment
pub record IsNew (forgets : Type 0) (moment : ℕ) (wanted reading : Reading) (mark : ℕ) : Type 0 where
  pub late : moment ≤ mark
  pub alike : IsAlike forgets mark reading wanted

-- a whole content is alike, key by key, to one that was possible with no later mark
pub record IsOldWhole (forgets : List ℕ → Type 0) (was : Content → ℕ → Type 0) (content : Content) (mark : ℕ) : Type 0 where
  pub before : Content
  pub least : ℕ
  pub possible : was before least
  pub no_later : least ≤ mark
  pub alike : (key : List ℕ) → IsAlike (forgets key) mark (read_in content key) (read_in before key)

-- a whole content is alike, key by key, to the wanted one, and its mark isn't below the call's moment
pub record IsNewWhole (forgets : List ℕ → Type 0) (moment : ℕ) (wanted content : Content) (mark : ℕ) : Type 0 where
  pub late : moment ≤ mark
  pub alike : (key : List ℕ) → IsAlike (forgets key) mark (read_in content key) (read_in wanted key)

-- Each key is kept up to a wanted content: what may be left at a turn since the call began was possible when it began,
-- or it is the wanted one. What might be left before stays so.
pub record Keeps (facts : StoreFacts) (from to moment : ℕ) (old new : StoreState) (wanted : Content) : Type 0 where
  pub past : (t : ℕ) (key : List ℕ) (r : Reading) (mark : ℕ) → t < from → new.may t key r mark → old.may t key r mark
  pub since : (t : ℕ) (key : List ℕ) (r : Reading) (mark : ℕ) → from ≤ t → t ≤ to → new.may t key r mark
      → IsOld (facts.forgets key) (old.may from key) r mark ⊎ IsNew (facts.forgets key) moment (read_in wanted key) r mark
  pub past_whole : (t : ℕ) (c : Content) (mark : ℕ) → t < from → new.whole t c mark → old.whole t c mark
  pub since_whole : facts.ordered ≡ true → (t : ℕ) (c : Content) (mark : ℕ) → from ≤ t → t ≤ to → new.whole t c mark
      → IsOldWhole facts.forgets (old.whole from) c mark ⊎ IsNewWhole facts.forgets moment wanted c mark

-- Each image opens at each turn since the call began, and as before at each turn before.
pub record Opens (from to : ℕ) (old new : StoreState) : Type 0 where
  pub past : (t : ℕ) → t < from → old.opens t → new.opens t
  pub since : old.sound → (t : ℕ) → from ≤ t → t ≤ to → new.opens t

-- A content is kept: each key reads alike at a moment, so that the same is visible then and at each later one.
abbrev pub IsKept : StoreFacts → ℕ → Content → Content → Type 0
IsKept facts moment old new = (key : List ℕ) → IsAlike (facts.forgets key) moment (read_in new key) (read_in old key)

-- A content is kept at the mark of each pair that may be left at a turn.
abbrev pub IsKeptAtMarks : StoreFacts → ℕ → StoreState → StoreState → Type 0
IsKeptAtMarks facts turn old new = (key : List ℕ) (r : Reading) (mark : ℕ) → new.may turn key r mark → IsAlike (facts.forgets key) mark (read_in new.content key) (read_in old.content key)

-- a content stays, key by key
abbrev pub SameContent : Content → Content → Type 0
SameContent old new = (key : List ℕ) → read_in new key ≡ read_in old key

-- Only the content is possible of this key at a turn: each pair that may be left reads alike at its mark.
abbrev pub IsOnly : StoreFacts → StoreState → ℕ → List ℕ → Type 0
IsOnly facts state turn key = (r : Reading) (mark : ℕ) → state.may turn key r mark → IsAlike (facts.forgets key) mark r (read_in state.content key)

-- only the content is possible at a turn, of each key and of all together
pub record IsSettled (facts : StoreFacts) (state : StoreState) (turn : ℕ) : Type 0 where
  pub each : (key : List ℕ) → IsOnly facts state turn key
  pub whole : (c : Content) (mark : ℕ) → state.whole turn c mark → (key : List ℕ) → IsAlike (facts.forgets key) mark (read_in c key) (read_in state.content key)

-- what no call changes
pub record SameStore (old new : StoreFacts) : Type 0 where
  pub bits : new.bits ≡ old.bits
  pub owns : new.owns ≡ old.owns
  pub ordered : new.ordered ≡ old.ordered
  pub firm : new.firm ≡ old.firm
  pub forgets : (key : List ℕ) → (new.forgets key ↔ old.forgets key)
  pub moves : (change : Change) (a b : List Row) → (new.moves change a b ↔ old.moves change a b)
  pub empties : (a b : List Row) → (new.empties a b ↔ old.empties a b)
  pub room : (a b : List Row) → (new.room a b ↔ old.room a b)
  pub steps : (files : Image) (kind : StepKind) (turned : Turned) (a b : List Row) → (new.steps files kind turned a b ↔ old.steps files kind turned a b)
  pub compacts : (files mid : Image) (file : ℕ) (turned : Turned) (turns : ℕ) (a b : List Row) → (new.compacts files mid file turned turns a b ↔ old.compacts files mid file turned turns a b)
  pub turns : (files mid : Image) (file : ℕ) (rows : List Row) → new.turns files mid file rows ≡ old.turns files mid file rows
  pub compacts_all : (files mid : Image) (turns : ℕ) (a b : List Row) → (new.compacts_all files mid turns a b ↔ old.compacts_all files mid turns a b)
  pub turns_all : (files mid : Image) (rows : List Row) (turns : ℕ) → (new.turns_all files mid rows turns ↔ old.turns_all files mid rows turns)
  pub sweeps : (files image : Image) → (new.sweeps files image ↔ old.sweeps files image)
  pub counts : (files : Image) (figures : ℕ × ℕ × ℕ) (a b : List Row) → (new.counts files figures a b ↔ old.counts files figures a b)

-- What holds between two calls. The content is among what may be left, of each key and of all together, with each mark
-- from the greatest moment of the calls on: a later call can leave that. Each image opens, where the store is sound.
pub record HoldsNow (facts : StoreFacts) (state : StoreState) (turn : ℕ) : Type 0 where
  pub each : (key : List ℕ) (mark : ℕ) → facts.latest ≤ mark → state.may turn key (read_in state.content key) mark
  pub whole : (mark : ℕ) → facts.latest ≤ mark → state.whole turn state.content mark
  -- all keys together read as each of them may
  pub fits : (c : Content) (mark : ℕ) → state.whole turn c mark → (key : List ℕ) → state.may turn key (read_in c key) mark
  pub opens : state.sound → state.opens turn

-- What a store stands for is carried over calls that leave its own files alone.
pub record Carries (from to : ℕ) (old new : StoreState) : Type 0 where
  pub stands : old.stands → new.stands
  pub content : SameContent old.content new.content
  pub past : (t : ℕ) (key : List ℕ) (r : Reading) (mark : ℕ) → t < from → new.may t key r mark → old.may t key r mark
  pub since : (t : ℕ) (key : List ℕ) (r : Reading) (mark : ℕ) → from ≤ t → t ≤ to → new.may t key r mark → old.may from key r mark
  pub past_whole : (t : ℕ) (c : Content) (mark : ℕ) → t < from → new.whole t c mark → old.whole t c mark
  pub since_whole : (t : ℕ) (c : Content) (mark : ℕ) → from ≤ t → t ≤ to → new.whole t c mark → old.whole from c mark
  pub opened : (t : ℕ) → t < from → old.opens t → new.opens t
  pub opens : (t : ℕ) → from ≤ t → t ≤ to → old.opens from → new.opens t
  pub sound : old.sound → new.sound
  pub spent : (s : Spent) → (new.spent s ↔ old.spent s)
  pub most : (key : List ℕ) → new.most key ≡ old.most key
  pub fetches : (key : List ℕ) → (new.fetches key ↔ old.fetches key)
