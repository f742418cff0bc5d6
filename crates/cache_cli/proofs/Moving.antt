-- A store that keeps the rules of parts moves them as the talk says.
use Rattle.std.proofs.Common.{◌≡◌, inl, ⊎_elim, ℕ, ◌+◌, ◌≤◌, List, [], ◌∷◌, length, refl, sym, ◌∙◌, ap, subst, arith}
use Rattle.cache_model.specs.declared.commands.Command.{Command}
use Rattle.cache_model.specs.declared.commands.Command.TheVariants.{Step, Sync, Stop, Stats, CompactFile, CompactAll}
use Rattle.cache_model.specs.declared.commands.StepKind.{StepKind}
use Rattle.cache_model.specs.declared.commands.StepKind.TheVariants.{Index, Flush, Compact, Evict, Reap, Rotate}
use Rattle.cache_model.specs.declared.entries.Change.{Change}
use Rattle.cache_model.specs.declared.replies.Reply.{Reply}
use Rattle.cache_model.specs.declared.replies.Turned.{Turned}
use Rattle.cache_model.specs.declared.replies.Turned.TheVariants.{Done, Idle}
use Rattle.cache_model.specs.Files.{Image}
use Rattle.cache_model.specs.Plain.{Plain, effect_of}
use Rattle.cache_disk.specs.State.{HostState}
use Rattle.store_trait.specs.Meaning.{Row, StoreFacts}
use Rattle.store_trait.specs.Keeping.{SameStore}
use Rattle.store_trait.specs.Calls.{MayHaveRead}
use Rattle.cache_session.specs.Changing.{IsOrder}
use Rattle.cache_session.specs.Turns.{MovesBy, PartsBy, MakesBy, IsRoom, IsStoreReply, StepMoves, way_of, files_by}
use Rattle.cache_cli.specs.Parts.{Pace, Parts, ChangesMove, IndexingMoves, ClosingMoves, ActorMoves, RoomMoves, CommandMoves, RowsMove, FollowsParts}
use Rattle.cache_cli.proofs.Later.{actor_more}

-- rows that stay are those of the same parts
pub rows_stay : (queue : ℕ) (rows next : List Row) → next ≡ rows → RowsMove queue (λ a b. b ≡ a) rows next
rows_stay queue rows next same = λ a is within. (a, same ∙ is, within, refl)

-- what a move of the rows is, it is by each weaker one
pub rows_more : (queue : ℕ) (one two : Parts → Parts → Type 0) (rows next : List Row) → ((a b : Parts) → one a b → two a b) → RowsMove queue one rows next → RowsMove queue two rows next
rows_more queue one two rows next more moves = λ a is within. let moved = moves a is within in (moved.0, moved.1, moved.2, more a moved.0 moved.3)

-- The turns that lines which compact files took stay, but by such a line.

indexing_turned : (turned : Turned) (a b : Parts) → IndexingMoves turned a b → b.turned ≡ a.turned
indexing_turned Done a b moves = ap (λ (p : Parts). p.turned) moves.1
indexing_turned Idle a b moves = ap (λ (p : Parts). p.turned) moves.1

closing_turned : (turned : Turned) (a b : Parts) → ClosingMoves turned a b → b.turned ≡ a.turned
closing_turned Done a b moves = ap (λ (p : Parts). p.turned) moves.1
closing_turned Idle a b moves = ap (λ (p : Parts). p.turned) moves.1

pub actor_turned : (read : Image → Type 0) (pace : Pace) (kind : StepKind) (turned : Turned) (a b : Parts) → ActorMoves read pace kind turned a b → b.turned ≡ a.turned
actor_turned read pace Index turned a b moves = indexing_turned turned a b moves
actor_turned read pace Rotate turned a b moves = closing_turned turned a b moves
actor_turned read pace Compact turned a b moves = moves.3
actor_turned read pace Flush turned a b moves = ap (λ (p : Parts). p.turned) moves.1
actor_turned read pace Evict turned a b moves = ap (λ (p : Parts). p.turned) moves.1
actor_turned read pace Reap turned a b moves = ap (λ (p : Parts). p.turned) moves.1

changes_turned : (queue : ℕ) (changes : List Change) (a b : Parts) → ChangesMove queue changes a b → b.turned ≡ a.turned
changes_turned queue [] a b moves = ap (λ (p : Parts). p.turned) moves
changes_turned queue (change ∷ changes) a b moves = changes_turned queue changes moves.0 b moves.2 ∙ moves.1.turned

pub room_turned : (queue : ℕ) (a b : Parts) → RoomMoves queue a b → b.turned ≡ a.turned
room_turned queue a b = ⊎_elim (λ same. ap (λ (p : Parts). p.turned) same) (λ room. indexing_turned Done a b room.1)

still : (a b : Parts) → b ≡ a → (b ≡ a) × (b.turned ≡ a.turned + 0)
still a b same = (same, omega (arith, ap (λ (p : Parts). p.turned) same))

-- no call changes by what rules a store moves its parts
pub follows_same : (pace : Pace) (f g : StoreFacts) → SameStore f g → FollowsParts pace f → FollowsParts pace g
follows_same pace f g same follows = record {
  moves = λ change rows next moves. follows.moves change rows next ((same.moves change rows next).0 moves);
  empties = λ rows next empties. follows.empties rows next ((same.empties rows next).0 empties);
  room = λ rows next room. follows.room rows next ((same.room rows next).0 room);
  counts = λ files figures rows next counts. follows.counts files figures rows next ((same.counts files figures rows next).0 counts);
  compacts = λ files mid file turned turns rows next compacts. follows.compacts files mid file turned turns rows next ((same.compacts files mid file turned turns rows next).0 compacts);
  turns = λ files mid file rows. same.turns files mid file rows ∙ follows.turns files mid file rows;
  compacts_all = λ files mid turns rows next compacts. follows.compacts_all files mid turns rows next ((same.compacts_all files mid turns rows next).0 compacts);
  turns_all = λ files mid rows turns is. follows.turns_all files mid rows turns ((same.turns_all files mid rows turns).0 is);
  steps = λ files kind turned rows next steps. follows.steps files kind turned rows next ((same.steps files kind turned rows next).0 steps);
}

module _ (pace : Pace) (f : StoreFacts) (follows : FollowsParts pace f) where
  -- changes that are written in turn
  changes_move : (changes : List Change) (rows next : List Row) → MovesBy f.moves changes rows next → RowsMove pace.queue (ChangesMove pace.queue changes) rows next
  changes_move [] rows next moves = λ a is within. (a, moves ∙ is, within, refl)
  changes_move (change ∷ changes) rows next moves = λ a is within.
      let one = follows.moves change rows moves.0 moves.1 a is within in
      let all = changes_move changes moves.0 next moves.2 one.0 one.1 one.2 in
      (all.0, all.1, all.2, (one.0, one.3, all.3))

  module _ (read : Image → Type 0) (files : Image) (now : read files) where
    -- a step that the store takes, where the files read so
    store_moves : (kind : StepKind) (turned : Turned) (rows next : List Row) → f.steps files kind turned rows next → RowsMove pace.queue (ActorMoves read pace kind turned) rows next
    store_moves kind turned rows next steps = λ a is within.
        let moved = follows.steps files kind turned rows next steps a is within in
        (moved.0, moved.1, moved.2, actor_more (λ image. image ≡ files) read (λ image same. subst read (sym same) now) pace kind turned a moved.0 moved.3)

    -- a step
    pub actor_moves : (kind : StepKind) (turned : Turned) (rows next : List Row) → StepMoves kind f files turned rows next → RowsMove pace.queue (ActorMoves read pace kind turned) rows next
    actor_moves Evict turned rows next moves = λ a is within. (a, moves.1 ∙ is, within, (moves.0, refl))
    actor_moves Reap turned rows next moves = λ a is within. (a, moves.1 ∙ is, within, (moves.0, refl))
    actor_moves Index turned rows next moves = store_moves Index turned rows next moves
    actor_moves Flush turned rows next moves = store_moves Flush turned rows next moves
    actor_moves Compact turned rows next moves = store_moves Compact turned rows next moves
    actor_moves Rotate turned rows next moves = store_moves Rotate turned rows next moves

  -- A command that was done moves the rows so, in so many turns where it compacts files, of which each made one file at the most.
  module _ (g : StoreFacts) (before after : HostState) (read : Image → Type 0) (now : read before.files) (between : (mid : Image) → MayHaveRead before after mid → read mid) where
    pub command_moves : (command : Command) (plain : Plain) (changes : List Change) → IsOrder (effect_of plain command) changes → (reply : Reply)
        → PartsBy (way_of command) f changes f.parts g.parts → IsStoreReply command f g before after reply → MakesBy (way_of command) f g before after (length changes)
        → (turns : ℕ) × (g.made ≤ f.made + length changes + files_by command + turns)
        × RowsMove pace.queue (λ a b. CommandMoves read pace plain command reply a b × (b.turned ≡ a.turned + turns)) f.parts g.parts
    command_moves (Step kind) plain changes order reply parts store made = (
      0,
      omega (arith, made),
      λ a is within.
          let moved = actor_moves read before.files now kind store.0 f.parts g.parts store.2 a is within in
          (moved.0, moved.1, moved.2, ((store.0, store.1, moved.3), omega (arith, actor_turned read pace kind store.0 a moved.0 moved.3))),
    )
    command_moves Stats plain changes order reply parts store made = (
      0,
      omega (arith, made),
      λ a is within.
          let moved = follows.counts before.files store.0 f.parts g.parts store.2 a is within in (
            moved.0,
            moved.1,
            moved.2,
            (record { files = before.files; is_read = now; figures = store.0; reply = store.1; counts = moved.3.0; turned = moved.3.1 }, omega (arith, moved.3.1)),
          ),
    )
    command_moves (CompactFile file) plain changes order reply parts store made =
        let mid = store.2.0 in
        let turns = store.2.1 in (
          turns,
          omega (arith, store.2.4),
          λ a is within.
              let moved = follows.compacts before.files mid file store.0 turns f.parts g.parts store.2.3 a is within in (
                moved.0,
                moved.1,
                moved.2,
                (
                  record {
                    files = before.files;
                    is_read = now;
                    mid = mid;
                    mid_is_read = between mid store.2.2;
                    turned = store.0;
                    reply = store.1;
                    turns = turns;
                    compacts = moved.3.0;
                    took = moved.3.1;
                  },
                  moved.3.1,
                ),
              ),
        )
    command_moves CompactAll plain changes order reply parts store made =
        let mid = store.0.0 in
        let turns = store.0.1 in (
          turns,
          omega (arith, store.0.4),
          λ a is within.
              let moved = follows.compacts_all before.files mid turns f.parts g.parts store.0.3 a is within in (
                moved.0,
                moved.1,
                moved.2,
                (
                  record { files = before.files; is_read = now; mid = mid; mid_is_read = between mid store.0.2; turns = turns; compacts = moved.3.0; took = moved.3.1 },
                  moved.3.1,
                ),
              ),
        )
    command_moves Sync plain changes order reply parts store made = (0, omega (arith, made), rows_more pace.queue (λ a b. b ≡ a) (λ a b. (b ≡ a) × (b.turned ≡ a.turned + 0)) f.parts g.parts still (follows.empties f.parts g.parts parts))
    command_moves Stop plain changes order reply parts store made = (0, omega (arith, made), rows_more pace.queue (λ a b. b ≡ a) (λ a b. (b ≡ a) × (b.turned ≡ a.turned + 0)) f.parts g.parts still (follows.empties f.parts g.parts parts))
    command_moves command plain changes order reply parts store made = (
      0,
      omega (arith, made),
      λ a is within.
          let moved = changes_move changes f.parts g.parts parts a is within in
          (moved.0, moved.1, moved.2, ((changes, order, moved.3), omega (arith, changes_turned pace.queue changes a moved.0 moved.3))),
    )

  -- the room that was made before a refusal
  pub room_moves : (rows next : List Row) → IsRoom f rows next → RowsMove pace.queue (RoomMoves pace.queue) rows next
  room_moves rows next = ⊎_elim (λ same a is within. (a, same ∙ is, within, inl refl)) (λ room. follows.room rows next room)
