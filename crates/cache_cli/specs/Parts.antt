-- The parts of a store, and how the commands of a talk move them, with the actors that are built so far.
use Rattle.std.specs.Prelude.{◌≡◌, ◌⊎◌, ℕ, ◌+◌, ◌-◌, ◌≤◌, min, List, [], ◌∷◌, Option, None, IsSome}
use Rattle.cache_model.specs.declared.commands.Command.{Command}
use Rattle.cache_model.specs.declared.commands.Command.TheVariants.{Step, Sync, Stop, Stats, CompactFile, CompactAll}
use Rattle.cache_model.specs.declared.commands.StepKind.{StepKind}
use Rattle.cache_model.specs.declared.commands.StepKind.TheVariants.{Index, Compact, Rotate}
use Rattle.cache_model.specs.declared.entries.Change.{Change}
use Rattle.cache_model.specs.declared.replies.Reply.{Reply}
use Rattle.cache_model.specs.declared.replies.Reply.TheVariants as reply
use Rattle.cache_model.specs.declared.replies.Turned.{Turned}
use Rattle.cache_model.specs.declared.replies.Turned.TheVariants.{Done, Idle}
use Rattle.cache_model.specs.Files.{Image}
use Rattle.cache_model.specs.Plain.{Plain, effect_of}
use Rattle.cache_model.specs.Lines.{LineMeaning, asks, refuses}
use Rattle.cache_model.specs.Replies.{Response, replies, refused}
use Rattle.store_trait.specs.Meaning.{Row, StoreFacts}
use Rattle.soft_index.specs.Compacting.{CompactsAll, CompactsBy, CompactsFile, CountsBy, TurnsAll}
use Rattle.soft_index.specs.Turns.{turns_for}
use Rattle.cache_session.specs.Changing.{IsOrder}
use Rattle.cache_session.specs.Turns.{figures_of}

-- How a store works beside its answers: how many requests its queue takes, of how many percent of a file's bytes fewer are
-- live where it is compacted, and how many background steps follow each answer.
pub record Pace : Type 0 where
  pub queue : ℕ
  pub threshold : ℕ
  pub pump : ℕ

-- What commands and steps move of a store: how many requests to its index are queued, the file that is written, or none,
-- and the file under compaction with the turns that were done, or none. Beside these, how many turns the lines that compact
-- files took so far.
pub record Parts : Type 0 where
  pub queued : ℕ
  pub current : Option ℕ
  pub run : Option (ℕ × ℕ)
  pub turned : ℕ

-- the parts of a store that has only these: no change is pending, and it knows of no turns but those of its run
abbrev pub rows_of : Parts → List Row
rows_of parts = record { queued = parts.queued; pending = []; current = parts.current; run = parts.run } ∷ []

-- the parts at the opening
abbrev pub no_parts : Parts
no_parts = record { queued = 0; current = None; run = None; turned = 0 }

-- How a change that is written moves them, with so much room in the queue: one request more is queued, and its file is the
-- current one. Where the queue is full one request is taken before. A queue without room never has one.
pub record ChangeMoves (queue : ℕ) (a b : Parts) : Type 0 where
  pub queued : b.queued ≡ min (a.queued + 1) queue
  pub current : IsSome b.current
  pub run : b.run ≡ a.run
  pub turned : b.turned ≡ a.turned

-- how changes that are written in turn move them
abbrev pub ChangesMove : ℕ → List Change → Parts → Parts → Type 0
ChangesMove queue [] a b = b ≡ a
ChangesMove queue (change ∷ changes) a b = (c : Parts) × ChangeMoves queue a c × ChangesMove queue changes c b

-- how a step of the index moves them: Done exactly where a request is queued, which is one less then
abbrev pub IndexingMoves : Turned → Parts → Parts → Type 0
IndexingMoves Done a b = (1 ≤ a.queued) × (b ≡ record a { queued = a.queued - 1 })
IndexingMoves Idle a b = (a.queued ≡ 0) × (b ≡ a)

-- how closing a file moves them: Done exactly where there is a current file, which is none then
abbrev pub ClosingMoves : Turned → Parts → Parts → Type 0
ClosingMoves Done a b = IsSome a.current × (b ≡ record a { current = None })
ClosingMoves Idle a b = (a.current ≡ None) × (b ≡ a)

-- how a turn of a compaction moves them, by files that read so
abbrev pub CompactingMoves : (Image → Type 0) → Pace → Turned → Parts → Parts → Type 0
CompactingMoves read pace turned a b = (files : Image) × read files × CompactsBy pace.queue pace.threshold files turned (rows_of a) (rows_of b) × (b.turned ≡ a.turned)

-- how a step moves them, where these files read so: the other actors have nothing to do yet
abbrev pub ActorMoves : (Image → Type 0) → Pace → StepKind → Turned → Parts → Parts → Type 0
ActorMoves read pace Index turned a b = IndexingMoves turned a b
ActorMoves read pace Rotate turned a b = ClosingMoves turned a b
ActorMoves read pace Compact turned a b = CompactingMoves read pace turned a b
ActorMoves read pace kind turned a b = (turned ≡ Idle) × (b ≡ a)

-- how the steps for room move them that were taken before a refusal: one step of the index where the queue is full, or none
abbrev pub RoomMoves : ℕ → Parts → Parts → Type 0
RoomMoves queue a b = (b ≡ a) ⊎ ((a.queued ≡ queue) × IndexingMoves Done a b)

-- How `stats` moves them, and what it answers: the figures are those of a recount of files that read so. No change waits
-- to be written, and nothing is held in memory.
pub record CountMoves (read : Image → Type 0) (given : Reply) (a b : Parts) : Type 0 where
  pub files : Image
  pub is_read : read files
  pub figures : ℕ × ℕ × ℕ
  pub reply : given ≡ reply.Stats (figures_of figures)
  pub counts : CountsBy files figures (rows_of a) (rows_of b)
  pub turned : b.turned ≡ a.turned

-- How the compaction of one file moves them, and what it answers: it ends a compaction that is under way, and then takes all
-- turns of one over this file, or is idle where that isn't a closed one. The files read so when it began, and so once the
-- compaction that was under way had ended.
pub record FileMoves (read : Image → Type 0) (pace : Pace) (file : ℕ) (given : Reply) (a b : Parts) : Type 0 where
  pub files : Image
  pub is_read : read files
  pub mid : Image
  pub mid_is_read : read mid
  pub turned : Turned
  pub reply : given ≡ reply.Turned turned
  pub turns : ℕ
  pub compacts : CompactsFile pace.queue files mid file turned turns (rows_of a) (rows_of b)
  pub took : b.turned ≡ a.turned + turns

-- How the compaction of all files moves them: it ends a compaction that is under way, closes the current file, and then takes
-- all turns of one over each file that is there. The files read so when it began, and so once the compaction that was under way
-- had ended and all files were closed.
pub record SweepMoves (read : Image → Type 0) (pace : Pace) (a b : Parts) : Type 0 where
  pub files : Image
  pub is_read : read files
  pub mid : Image
  pub mid_is_read : read mid
  pub turns : ℕ
  pub compacts : CompactsAll pace.queue files mid turns (rows_of a) (rows_of b)
  pub took : b.turned ≡ a.turned + turns

-- How a command with its reply moves the parts, where these files read so: by its changes, in an order of its keys. A sync
-- leaves them. The reply to a step says what it did, that to `stats` what a count of the files gave, and that to the
-- compaction of one file whether it could be compacted.
abbrev pub CommandMoves : (Image → Type 0) → Pace → Plain → Command → Reply → Parts → Parts → Type 0
CommandMoves read pace plain (Step kind) given a b = (turned : Turned) × (given ≡ reply.Turned turned) × ActorMoves read pace kind turned a b
CommandMoves read pace plain Stats given a b = CountMoves read given a b
CommandMoves read pace plain (CompactFile file) given a b = FileMoves read pace file given a b
CommandMoves read pace plain CompactAll given a b = SweepMoves read pace a b
CommandMoves read pace plain Sync given a b = b ≡ a
CommandMoves read pace plain Stop given a b = b ≡ a
CommandMoves read pace plain command given a b = (changes : List Change) × IsOrder (effect_of plain command) changes × ChangesMove pace.queue changes a b

-- how the answer to a line moves them: a line that is refused leaves them, or makes room where its command wants memory
abbrev pub AnswerMoves : (Image → Type 0) → Pace → Plain → LineMeaning → Response → Parts → Parts → Type 0
AnswerMoves read pace plain (refuses refusal) response a b = b ≡ a
AnswerMoves read pace plain (asks command) (refused refusal) a b = RoomMoves pace.queue a b
AnswerMoves read pace plain (asks command) (replies given) a b = CommandMoves read pace plain command given a b

-- The rows of a store go on as its parts move: where they were those of parts within the queue's room, they are so again.
abbrev pub RowsMove : ℕ → (Parts → Parts → Type 0) → List Row → List Row → Type 0
RowsMove queue moves rows next = (a : Parts) → rows ≡ rows_of a → a.queued ≤ queue → (b : Parts) × (next ≡ rows_of b) × (b.queued ≤ queue) × moves a b

-- A store keeps these rules, at this pace.
pub record FollowsParts (pace : Pace) (facts : StoreFacts) : Type 0 where
  pub moves : (change : Change) (rows next : List Row) → facts.moves change rows next → RowsMove pace.queue (ChangeMoves pace.queue) rows next
  pub empties : (rows next : List Row) → facts.empties rows next → RowsMove pace.queue (λ a b. b ≡ a) rows next
  pub room : (rows next : List Row) → facts.room rows next → RowsMove pace.queue (RoomMoves pace.queue) rows next
  pub counts : (files : Image) (figures : ℕ × ℕ × ℕ) (rows next : List Row) → facts.counts files figures rows next
      → RowsMove pace.queue (λ a b. CountsBy files figures (rows_of a) (rows_of b) × (b.turned ≡ a.turned)) rows next
  pub compacts : (files mid : Image) (file : ℕ) (turned : Turned) (turns : ℕ) (rows next : List Row) → facts.compacts files mid file turned turns rows next
      → RowsMove pace.queue (λ a b. CompactsFile pace.queue files mid file turned turns (rows_of a) (rows_of b) × (b.turned ≡ a.turned + turns)) rows next
  pub turns : (files mid : Image) (file : ℕ) (rows : List Row) → facts.turns files mid file rows ≡ turns_for files mid file rows
  pub compacts_all : (files mid : Image) (turns : ℕ) (rows next : List Row) → facts.compacts_all files mid turns rows next
      → RowsMove pace.queue (λ a b. CompactsAll pace.queue files mid turns (rows_of a) (rows_of b) × (b.turned ≡ a.turned + turns)) rows next
  pub turns_all : (files mid : Image) (rows : List Row) (turns : ℕ) → facts.turns_all files mid rows turns → TurnsAll files mid rows turns
  pub steps : (files : Image) (kind : StepKind) (turned : Turned) (rows next : List Row) → facts.steps files kind turned rows next → RowsMove pace.queue (ActorMoves (λ image. image ≡ files) pace kind turned) rows next
