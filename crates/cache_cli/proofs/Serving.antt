-- The run of the whole program, by what the run over its store told.
use Rattle.std.proofs.Common.{◌≡◌, ◌⊎◌, inl, inr, ⊎_elim, ℕ, ◌+◌, ◌-◌, ◌^◌, ◌≤◌, ◌<◌, Bool, true, false, List, [], ◌∷◌, ◌++◌, take, length, Option, Some, None, Result, Ok, Err, refl, sym, ◌∙◌, ap, subst, arith}
use Rattle.std.specs.Prelude.{max, min, is_some}
use Rattle.std.proofs.lemmas.Bool.{cases_lt}
use Rattle.cache_model.specs.declared.entries.Entry.{Entry}
use Rattle.cache_model.specs.declared.faults.Damage.{Damage}
use Rattle.cache_model.specs.declared.faults.Spent.{Spent}
use Rattle.cache_model.specs.declared.faults.Spent.TheVariants.{Files, Sequence}
use Rattle.cache_model.specs.declared.files.FileName.{FileName}
use Rattle.cache_model.specs.declared.replies.Status.{Status}
use Rattle.cache_model.specs.declared.replies.Status.TheVariants as status
use Rattle.cache_model.specs.declared.settings.Settings.{Settings}
use Rattle.cache_model.specs.declared.commands.StepKind.{StepKind}
use Rattle.cache_model.specs.declared.commands.StepKind.TheVariants.{Index, Flush, Compact, Evict, Reap, Rotate}
use Rattle.cache_model.specs.declared.replies.Turned.{Turned}
use Rattle.cache_model.specs.declared.replies.Turned.TheVariants.{Done, Idle}
use Rattle.cache_model.specs.Settings.{AreInRange}
use Rattle.cache_model.specs.Files.{Image}
use Rattle.std.specs.FinMap.{get}
use Rattle.cache_model.specs.Changes.{KeyChange, entry_after}
use Rattle.cache_model.specs.Plain.{visible_at}
use Rattle.cache_model.specs.Images.{IsCounted, IsMark, IsSound, HasEntry, SameRecords}
use Rattle.cache_model.proofs.Existing.{mark_exists, mark_is_single}
use Rattle.cache_disk.specs.State.{HostState, SameFiles, Stands}
use Rattle.cache_disk.specs.Calls.{AllLeft, and_then_said}
use Rattle.store_trait.specs.Meaning.{Reading, Content, Row, seen, StoreFacts, StoreState, read_in}
use Rattle.store_trait.specs.Keeping.{Leaves, IsSettled}
use Rattle.store_trait.specs.Calls.{IsReady}
use Rattle.store_trait.proofs.Runs.{leaves_then}
use Rattle.cache_script.specs.Damages.{damage_line}
use Rattle.soft_index.specs.declared.soft_index.SoftIndex.{SoftIndex}
use Rattle.soft_index.specs.Compacting.{Run, ByRun, CompactsAll, CompactsBy, CompactsFile, CountsBy, GoesOnWith, TakesAction, row_with, waiting_behind, with_run}
use Rattle.soft_index.specs.Index.{IsRead, IsStarted, index_means}
use Rattle.rebuild.specs.Listing.{IsFirstDamageOf}
use Rattle.soft_index.specs.Store.{AreInRange as IsInRangeOfStore, HasReading, MakesRoom, Queues, owns_file}
use Rattle.soft_index.specs.Steps.{StepsIn}
use Rattle.cache_session.specs.declared.session.Session.{Session}
use Rattle.cache_session.specs.Changing.{of_key}
use Rattle.cache_session.specs.Turns.{store_of, moment_of, is_broken, IsFit}
use Rattle.cache_cli.specs.Fitting.{entry_of_reading}
use Rattle.cache_cli.specs.Talk.{Course, FitsTalkTogether, HoldsAtTurn, HoldsTogetherAtTurn, done_in, is_over, hand_of}
use Rattle.cache_cli.specs.Parts.{Pace, Parts, rows_of, no_parts, ChangeMoves, CompactingMoves, ActorMoves, RoomMoves, RowsMove, FollowsParts}
use Rattle.cache_cli.specs.Run.{View, view, view_by, TellsAt, HoldsSince, EndsSaying, EndsAtSpent, EndsBy}
use Rattle.cache_cli.specs.Ends.{EndsSpent, Ends, EndsRefused}
use Rattle.cache_cli.specs.Opening.{Begins, Finished}
use Rattle.cache_cli.specs.Serving.{pace_of, course_by, IsStill, IsOpenedFrom, Serves, TellsDamage, HoldsTogetherFrom}
use Rattle.cache_cli.proofs.Same.{same_then, same_back, records_same, mark_same, sound_same, next_sequence_same, next_file_same}
use Rattle.cache_cli.proofs.Contents.{opening_of, entry_read, content_exists}
use Rattle.cache_cli.proofs.Logs.{log_of_key}
use Rattle.cache_cli.proofs.Standing.{front_within}
use Rattle.cache_cli.proofs.Moving.{rows_stay}
use Rattle.cache_cli.proofs.Running.{leaves_all}

-- two steps that leave all files
pub still_then : (a b c : HostState) → Stands a b → IsRead b c → IsRead a c
still_then a b c stands read = record {
  files = same_then a.files b.files c.files stands.files read.files;
  images = record {
    later = omega (arith, read.images.later, stands.turn);
    past = λ t i early left. stands.past t i early (read.images.past t i (omega (arith, early, stands.turn)) left);
    kept = λ t i early left. read.images.kept t i (omega (arith, early, stands.turn)) (stands.kept t i early left);
    now = λ t i after before left.
        let d = read.images.now t i (omega (arith, after, stands.turn)) before left in
        (d.0, stands.past a.turn d.0 (omega arith) (subst (λ (n : ℕ). b.left n d.0) stands.turn d.1), d.2);
  };
  silent = record {
    stays = λ t early. read.silent.stays t (omega (arith, early, stands.turn)) ∙ stands.said t early;
    since = λ t after before. read.silent.since t (omega (arith, after, stands.turn)) before ∙ ap (λ (n : ℕ). b.said n) stands.turn ∙ stands.said a.turn (omega arith);
  };
}

-- what was said is what was said before
pub read_said : (a b : HostState) → IsRead a b → b.said b.turn ≡ a.said a.turn
read_said a b read = ⊎_elim (λ later. read.silent.since b.turn later (omega arith)) (λ early. let same : b.turn ≡ a.turn = omega (arith, early, read.images.later) in ap (λ (t : ℕ). b.said t) same ∙ read.silent.stays a.turn (omega arith)) (cases_lt a.turn b.turn)

-- an image before anything is said
untouched_at : (from to : HostState) (course : Course) (said : Option (List ℕ)) (before image : Image)
    → said ≡ from.said from.turn → from.left from.turn before → SameFiles before image → IsSound image → HoldsTogetherAtTurn from to course said image
untouched_at from to course None before image silent left same sound = sound
untouched_at from to course (Some said) before image silent left same sound = (sound, inl (record { silent = silent; before = before; left = left; same = records_same before image same }))

-- it holds up to the turn at which the store was opened
opened_at : (from mid to : HostState) (course : Course) → IsRead from mid → AllLeft from (λ image. IsSound image) → (t : ℕ) (image : Image) (said : Option (List ℕ))
    → from.turn ≤ t → t ≤ mid.turn → said ≡ mid.said t → mid.left t image → HoldsTogetherAtTurn from to course said image
opened_at from mid to course read sound t image said after before is left =
    ⊎_elim
    (λ later.
    let d = read.images.now t image later before left in
    untouched_at from to course said d.0 image (is ∙ read.silent.since t later before) d.1 d.2 (sound_same d.0 image d.2 (sound d.0 d.1)))
    (λ early.
    let same : t ≡ from.turn = omega (arith, early, after) in
    let was : from.left from.turn image = subst (λ (n : ℕ). from.left n image) same (read.images.past t image early left) in
    untouched_at from to course said image image (is ∙ read.silent.stays t early ∙ ap (λ (n : ℕ). from.said n) same) was (λ name. refl) (sound image was))
    (cases_lt from.turn t)

-- a run that read the files and did no more
pub read_holds : (from mid : HostState) (course : Course) → IsRead from mid → HoldsTogetherFrom from mid course
read_holds from mid course read = λ sound. record {
  later = read.images.later;
  each = λ t image after before left. opened_at from mid mid course read sound t image (mid.said t) after before refl left;
}

-- all keys of an image together fit the talk that was said by then
image_fits : (course : Course) (now : View) (t : ℕ) (said : List ℕ) (image : Image)
    → ((c : Content) (mark : ℕ) → ((key : List ℕ) → HasReading (IsCounted image) key (read_in c key)) → IsMark image mark → now.store.whole t c mark)
    → TellsAt course true now t said → FitsTalkTogether course now.host said image
image_fits course now t said image whole tells =
    let content = content_exists image in
    let mark = mark_exists image in
    let cut = tells.cut refl content.0 mark.0 (whole content.0 mark.0 content.1 mark.1) in
    let commands = done_in tells.talk ++ hand_of (is_over tells.talk) tells.left in
    record {
      talk = tells.talk;
      left = tells.left;
      is_talk = tells.is_talk;
      says = tells.says;
      log = cut.log;
      is_log = cut.is_log;
      count = cut.count;
      within = cut.within;
      fits = λ key.
          let same = log_of_key tells.talk.opening commands cut.log key cut.is_log in
          let r = read_in content.0 key in (
            record {
              entry = entry_of_reading r;
              read = entry_read image key r (content.1 key);
              count = length (of_key key (take cut.count cut.log));
              holds = cut.holds key;
              within = omega (arith, front_within key cut.log cut.count, ap (λ (l : List KeyChange). length l) same);
              reads = λ other moment marked late. seen_is moment r ∙ cut.reads key moment (omega (arith, late, mark_is_single image mark.0 other mark.1 marked))
                  ∙ ap (λ (l : List KeyChange). visible_at moment (entry_after (get tells.talk.opening.entries key) l (length (of_key key (take cut.count cut.log))))) same;
            },
            refl,
          );
    }
  where
    seen_is : (m : ℕ) (r : Reading) → visible_at m (entry_of_reading r) ≡ seen m r
    seen_is m None = refl
    seen_is m (Some entry) = refl

-- what holds of all keys together holds of each one
each_at : (from to : HostState) (course : Course) (said : Option (List ℕ)) (image : Image) → HoldsTogetherAtTurn from to course said image → HoldsAtTurn from to course said image
each_at from to course None image holds = holds
each_at from to course (Some said) image holds = (
  holds.0,
  ⊎_elim (λ untouched. inl untouched) (λ together. inr (record { talk = together.talk; left = together.left; is_talk = together.is_talk; says = together.says; fits = λ key. (together.fits key).0 })) holds.1,
)

-- a run that ended, where what holds is told of all keys together
pub serves_by : (ended : Status) (from to : HostState) (course : Course) → Ends ended course to → Leaves owns_file false from to → HoldsTogetherFrom from to course → Serves ended from to course
serves_by ended from to course ends others cut = record {
  ends = ends;
  others = others;
  crash = λ sound. record { later = (cut sound).later; each = λ t image after before left. each_at from to course (to.said t) image ((cut sound).each t image after before left) };
  cut = cut;
}

-- it holds at every turn of the whole run
pub run_holds : (from mid : HostState) (course : Course) (now : View)
    → IsRead from mid
    → ((t : ℕ) (image : Image) (c : Content) (mark : ℕ) → now.host.left t image → ((key : List ℕ) → HasReading (IsCounted image) key (read_in c key)) → IsMark image mark → now.store.whole t c mark)
    → ((t : ℕ) (image : Image) → now.store.opens t → now.host.left t image → IsSound image)
    → HoldsSince mid course true now
    → HoldsTogetherFrom from now.host course
run_holds from mid course now read whole opens holds = λ sound. record {
  later = omega (arith, read.images.later, holds.others.images.later);
  each = λ t image after before left.
      ⊎_elim
      (λ later. at_talk t image (now.host.said t) later before left refl)
      (λ early. opened_at from mid now.host course read sound t image (now.host.said t) after early (holds.past t early) (holds.others.images.past t image early left))
      (cases_lt mid.turn t);
}
  where
    at_talk : (t : ℕ) (image : Image) (said : Option (List ℕ)) → mid.turn < t → t ≤ now.host.turn → now.host.left t image → now.host.said t ≡ said → HoldsTogetherAtTurn from now.host course said image
    at_talk t image None later before left is = opens t image (holds.opens t (omega (arith, later)) before) left
    at_talk t image (Some said) later before left is = (
      opens t image (holds.opens t (omega (arith, later)) before) left,
      inr (image_fits course now t said image (λ c mark. whole t image c mark left) (holds.each t said later before is)),
    )

-- how the run ends

-- a number that is at its end
spent_by : (course : Course) (now : View) → ((s : Spent) → now.store.spent s → (s ≡ Sequence (2 ^ 62)) ⊎ (s ≡ Files (2 ^ 32 - 1))) → EndsAtSpent course now → EndsSpent course now.host
spent_by course now is spent = record {
  talk = spent.talk;
  left = spent.left;
  says = spent.says;
  going = spent.going;
  log = spent.log;
  is_log = spent.is_log;
  turns = spent.turns;
  takes = spent.takes;
  spent = ⊎_elim (λ sequence. inl (spent.sequence (2 ^ 62) sequence)) (λ files. inr (spent.files (2 ^ 32 - 1) files)) (is spent.number spent.spent);
}

by_status : (course : Course) (now : View) (ended : Status) → ((s : Spent) → now.store.spent s → (s ≡ Sequence (2 ^ 62)) ⊎ (s ≡ Files (2 ^ 32 - 1))) → EndsBy ended course now → Ends ended course now.host
by_status course now status.Done is ends = absurd ends
by_status course now status.Usage is ends = absurd ends
by_status course now status.Settings is ends = absurd ends
by_status course now status.Damaged is ends = absurd ends
by_status course now status.DiskFailed is ends = inr ends
by_status course now status.ScriptFailed is ends = ends
by_status course now status.SayFailed is ends = inr ends
by_status course now status.NoMemory is ends = inr ends
by_status course now status.Spent is ends = spent_by course now is ends
by_status course now status.LinesSpent is ends = ends

-- a run that ended while its first line was said
by_saying : (course : Course) (mid to : HostState) (ended : Status) → mid.said mid.turn ≡ course.said → EndsSaying ended mid to → Ends ended course to
by_saying course mid to ended silent = ⊎_elim
    (λ lost. subst (λ (s : Status). Ends s course to) (sym lost.0) (inl (record { turn = mid.turn; said = lost.1.said ∙ silent; before = lost.1.later; lost = lost.1.lost })))
    (λ memory. subst (λ (s : Status). Ends s course to) (sym memory.0) (inl (memory.1 ∙ silent)))

pub finished_whole : (course : Course) (ordered : Bool) (mid : HostState) (now : View) → Finished mid course ordered now (Ok tt) → Ends status.Done course now.host
finished_whole course ordered mid now finished = finished.whole

pub finished_early : (course : Course) (ordered : Bool) (mid : HostState) (now : View) (ended : Status) → mid.said mid.turn ≡ course.said
    → ((s : Spent) → now.store.spent s → (s ≡ Sequence (2 ^ 62)) ⊎ (s ≡ Files (2 ^ 32 - 1)))
    → Finished mid course ordered now (Err ended) → Ends ended course now.host
finished_early course ordered mid now ended silent is finished = ⊎_elim (λ saying. by_saying course mid now.host ended silent saying) (λ ends. by_status course now ended is ends) finished.ends

-- other files than the store's were left alone through the whole run
pub others_all : (from mid to : HostState) (owns : FileName → Bool) → IsRead from mid → Leaves owns false mid to → Leaves owns false from to
others_all from mid to owns read leaves = leaves_then owns false from mid to (leaves_all from mid owns false read.files read.images) leaves

-- The store moves its parts by the rules of one with a queue.

abbrev first_current : List Row → Option ℕ
first_current [] = None
first_current (row ∷ rows) = row.current

abbrev first_run : List Row → Run
first_run [] = None
first_run (row ∷ rows) = row.run

abbrev first_queued : List Row → ℕ
first_queued [] = 0
first_queued (row ∷ rows) = row.queued

-- rows that a call leaves, with their run
left_by_run : (queue : ℕ) (turned : Turned) (rows next : List Row) → ByRun (λ a b. (turned ≡ Idle) × (b ≡ a)) rows next → RowsMove queue (λ a b. (turned ≡ Idle) × (b ≡ a)) rows next
left_by_run queue turned rows next by = λ a is within. (a, by.5 ∙ ap (with_run by.0) by.3.1 ∙ sym by.4 ∙ is, within, (by.3.0, refl))

store_moves : (queue : ℕ) (rows next : List Row) → ByRun (Queues queue) rows next → RowsMove queue (ChangeMoves queue) rows next
store_moves queue rows next by = λ a is within.
    let moves = by.3 in
    let was : rows_of a ≡ row_with moves.0 moves.1 by.0 = sym is ∙ by.4 ∙ ap (with_run by.0) moves.3 in
    let queued : a.queued ≡ moves.0 = ap first_queued was in (
      record { queued = min (moves.0 + 1) queue; current = Some moves.2; run = by.0; turned = a.turned },
      by.5 ∙ ap (with_run by.0) moves.4,
      omega arith,
      record { queued = ap (λ (n : ℕ). min (n + 1) queue) (sym queued); current = refl; run = sym (ap first_run was); turned = refl },
    )

-- one request less
one_less : (a : Parts) (q : ℕ) (c : Option ℕ) (run : Run) (next : List Row) → rows_of a ≡ row_with (q + 1) c run → next ≡ row_with q c run → (next ≡ rows_of (record a { queued = a.queued - 1 })) × (a.queued ≡ q + 1)
one_less a q c run next is after =
    let queued : a.queued ≡ q + 1 = ap first_queued is in
    let less : q ≡ a.queued - 1 = omega (arith, queued) in
    (after ∙ ap (λ (n : ℕ). row_with n c run) less ∙ ap (λ (d : Option ℕ). row_with (a.queued - 1) d run) (sym (ap first_current is)) ∙ ap (λ (r : Run). row_with (a.queued - 1) a.current r) (sym (ap first_run is)), queued)

store_room : (queue : ℕ) (rows next : List Row) → ByRun (MakesRoom queue) rows next → RowsMove queue (RoomMoves queue) rows next
store_room queue rows next by = λ a is within.
    ⊎_elim
    (λ same. (a, by.5 ∙ ap (with_run by.0) same ∙ sym by.4 ∙ is, within, inl refl))
    (λ room.
    let less = one_less a room.0 room.1 by.0 next (sym is ∙ by.4 ∙ ap (with_run by.0) room.3) (by.5 ∙ ap (with_run by.0) room.4) in
    (record a { queued = a.queued - 1 }, less.0, omega (arith, within), inr (omega (arith, less.1, room.2), (omega (arith, less.1), refl))))
    by.3

-- the requests that wait while a turn of a compaction is taken
waiting_within : (queue threshold : ℕ) (files : Image) (queued : ℕ) (current : Option ℕ) (run : Run) (number done waiting : ℕ) → GoesOnWith threshold files queued current run number done waiting → queued ≤ queue → waiting ≤ queue
waiting_within queue threshold files queued current None number done waiting goes within = omega (arith, goes.2)
waiting_within queue threshold files queued current (Some run) number done waiting goes within = omega (arith, goes.2, within)

-- and those that wait behind it
left_within : (queue number records done waiting : ℕ) (current : Option ℕ) (left : ℕ) (now : Option ℕ) (next : Run) → TakesAction queue number records done waiting current left now next → waiting ≤ queue → left ≤ queue
left_within queue number records done waiting current left now next action within = ⊎_elim
    (λ looked. ⊎_elim (λ passed. omega (arith, passed.0, within)) (λ copied. omega (arith, copied.0)) looked.1)
    (⊎_elim (λ stamped. omega (arith, stamped.1, within)) (λ taken. omega (arith, taken.1)))
    action

store_compacts : (pace : Pace) (files : Image) (turned : Turned) (rows next : List Row) → CompactsBy pace.queue pace.threshold files turned rows next → RowsMove pace.queue (CompactingMoves (λ image. image ≡ files) pace turned) rows next
store_compacts pace files Done rows next turn = λ a is within.
    let was : rows_of a ≡ row_with turn.queued turn.current turn.run = sym is ∙ turn.before in
    let waiting = waiting_within pace.queue pace.threshold files turn.queued turn.current turn.run turn.number turn.done turn.waiting turn.goes_on (omega (arith, within, ap first_queued was)) in (
      record { queued = turn.left; current = turn.now; run = turn.next; turned = a.turned },
      turn.after,
      left_within pace.queue turn.number _ turn.done turn.waiting turn.current turn.left turn.now turn.next turn.action waiting,
      (
        files,
        refl,
        record {
          queued = turn.queued;
          current = turn.current;
          run = turn.run;
          before = was;
          number = turn.number;
          done = turn.done;
          waiting = turn.waiting;
          goes_on = turn.goes_on;
          left = turn.left;
          now = turn.now;
          next = turn.next;
          after = refl;
          action = turn.action;
        },
        refl,
      ),
    )
store_compacts pace files Idle rows next none = λ a is within. (record { queued = 0; current = none.1; run = None; turned = a.turned }, none.4, omega arith, (files, refl, (none.0, none.1, sym is ∙ none.2, none.3, refl), refl))

store_steps : (pace : Pace) (files : Image) (kind : StepKind) (turned : Turned) (rows next : List Row) → StepsIn pace.queue pace.threshold files kind turned rows next → RowsMove pace.queue (ActorMoves (λ image. image ≡ files) pace kind turned) rows next
store_steps pace files Rotate Done rows next by = λ a is within.
    let steps = by.3 in
    let was : rows_of a ≡ row_with steps.0 (Some steps.1) by.0 = sym is ∙ by.4 ∙ ap (with_run by.0) steps.2 in (
      record a { current = None },
      by.5 ∙ ap (with_run by.0) steps.3 ∙ ap (λ (n : ℕ). row_with n None by.0) (sym (ap first_queued was)) ∙ ap (λ (r : Run). row_with a.queued None r) (sym (ap first_run was)),
      within,
      (ap is_some (ap first_current was), refl),
    )
store_steps pace files Rotate Idle rows next by = λ a is within.
    let steps = by.3 in
    (a, by.5 ∙ ap (with_run by.0) steps.2 ∙ sym by.4 ∙ is, within, (ap first_current (sym is ∙ by.4 ∙ ap (with_run by.0) steps.1), refl))
store_steps pace files Index Done rows next by = λ a is within.
    let steps = by.3 in
    let less = one_less a steps.0 steps.1 by.0 next (sym is ∙ by.4 ∙ ap (with_run by.0) steps.2) (by.5 ∙ ap (with_run by.0) steps.3) in
    (record a { queued = a.queued - 1 }, less.0, omega (arith, within), (omega (arith, less.1), refl))
store_steps pace files Index Idle rows next by = λ a is within.
    let steps = by.3 in
    (a, by.5 ∙ ap (with_run by.0) steps.2 ∙ sym by.4 ∙ is, within, (ap first_queued (sym is ∙ by.4 ∙ ap (with_run by.0) steps.1), refl))
store_steps pace files Compact turned rows next steps = store_compacts pace files turned rows next steps
store_steps pace files Flush turned rows next by = left_by_run pace.queue turned rows next by
store_steps pace files Evict turned rows next by = left_by_run pace.queue turned rows next by
store_steps pace files Reap turned rows next by = left_by_run pace.queue turned rows next by

store_counts : (queue : ℕ) (files : Image) (figures : ℕ × ℕ × ℕ) (rows next : List Row) → CountsBy files figures rows next → RowsMove queue (λ a b. CountsBy files figures (rows_of a) (rows_of b) × (b.turned ≡ a.turned)) rows next
store_counts queue files figures rows next counts = λ a is within.
    (record { queued = 0; current = counts.1; run = counts.2; turned = a.turned }, counts.5, omega arith, ((counts.0, counts.1, counts.2, sym is ∙ counts.3, counts.4, refl), refl))

-- the parts behind the compaction of a file with so many records
abbrev behind_file : Parts → ℕ → ℕ → ℕ → Option ℕ → Parts
behind_file a queue records turns now = record { queued = min records queue; current = now; run = None; turned = a.turned + turns }

-- the compaction of one file, whose turns are counted
store_compacts_file : (queue : ℕ) (files mid : Image) (file : ℕ) (turned : Turned) (turns : ℕ) (rows next : List Row) → CompactsFile queue files mid file turned turns rows next
    → RowsMove queue (λ a b. CompactsFile queue files mid file turned turns (rows_of a) (rows_of b) × (b.turned ≡ a.turned + turns)) rows next
store_compacts_file queue files mid file Done turns rows next by = λ a is within. (
  behind_file a queue _ turns by.4,
  by.10,
  omega arith,
  ((by.0, by.1, by.2, by.3, by.4, sym is ∙ by.5, by.6, by.7, by.8, by.9, refl), refl),
)
store_compacts_file queue files mid file Idle turns rows next by = λ a is within. (
  record { queued = 0; current = by.3; run = None; turned = a.turned + turns },
  by.8,
  omega arith,
  ((by.0, by.1, by.2, by.3, sym is ∙ by.4, by.5, by.6, by.7, refl), refl),
)

capped : (records queue : ℕ) → min records queue ≤ queue
capped records queue = omega arith

-- the requests that wait behind runs over files are within the queue's room where those before are
swept_within : (queue : ℕ) (files : Image) (numbers : List ℕ) (queued : ℕ) → queued ≤ queue → waiting_behind queue files queued numbers ≤ queue
swept_within queue files [] queued within = within
swept_within queue files (number ∷ numbers) queued within = swept_within queue files numbers _ (capped _ queue)

-- the compaction of all files, whose turns are counted
store_compacts_all : (queue : ℕ) (files mid : Image) (turns : ℕ) (rows next : List Row) → CompactsAll queue files mid turns rows next
    → RowsMove queue (λ a b. CompactsAll queue files mid turns (rows_of a) (rows_of b) × (b.turned ≡ a.turned + turns)) rows next
store_compacts_all queue files mid turns rows next by = λ a is within. (
  record { queued = waiting_behind queue mid 0 by.3; current = by.4; run = None; turned = a.turned + turns },
  by.9,
  swept_within queue mid by.3 0 (omega arith),
  ((by.0, by.1, by.2, by.3, by.4, sym is ∙ by.5, by.6, by.7, by.8, refl), refl),
)

-- a store that was opened follows the rules of its settings
pub started_follows : (files : Image) (settings : Settings) (facts : StoreFacts) (state : StoreState) (mark : ℕ) → IsStarted files settings facts state mark → FollowsParts (pace_of settings) facts
started_follows files settings facts state mark started = record {
  moves = λ change rows next moves. store_moves settings.queue rows next (started.moves change rows next moves);
  empties = λ rows next same. rows_stay settings.queue rows next (started.empties rows next same);
  room = λ rows next room. store_room settings.queue rows next (started.room rows next room);
  counts = λ files figures rows next counts. store_counts settings.queue files figures rows next (started.counts files figures rows next counts);
  compacts = λ files mid file turned turns rows next compacts. store_compacts_file settings.queue files mid file turned turns rows next (started.compacts files mid file turned turns rows next compacts);
  turns = started.turns;
  compacts_all = λ files mid turns rows next compacts. store_compacts_all settings.queue files mid turns rows next (started.compacts_all files mid turns rows next compacts);
  turns_all = started.turns_all;
  steps = λ files kind turned rows next steps. store_steps (pace_of settings) files kind turned rows next (started.steps files kind turned rows next steps);
}

-- how it begins

-- a key reads the same where the same records count
reading_same : (a b : Image) → SameRecords a b → (key : List ℕ) (r : Reading) → HasReading (IsCounted b) key r → HasReading (IsCounted a) key r
reading_same a b same key r = ⊎_elim
    (λ none. inl (λ n at item counted of_key. none.0 n at item ((same n at item).1 counted) of_key, none.1))
    (λ some. inr (
      some.0,
      some.1,
      some.2,
      record {
        counted = (same some.0 some.1 some.2).0 some.3.counted;
        of_key = some.3.of_key;
        newest = λ n at other counted of_key. some.3.newest n at other ((same n at other).1 counted) of_key;
      },
      some.4,
    ))

-- a store was opened from these files, where it was from the same ones
pub started_same : (a b : Image) (settings : Settings) (facts : StoreFacts) (state : StoreState) (mark : ℕ) → SameFiles a b → IsStarted b settings facts state mark → IsStarted a settings facts state mark
started_same a b settings facts state mark same started =
    let records = records_same a b same in
    record {
      stands = started.stands;
      content = λ key. reading_same a b records key (read_in state.content key) (started.content key);
      mark_is = mark_same a b records mark started.mark_is;
      latest = started.latest;
      undamaged = sound_same b a (same_back a b same) started.undamaged;
      numbers = (started.numbers.0, started.numbers.1, next_sequence_same a b records started.numbers.0.sequence started.numbers.2, next_file_same a b same started.numbers.0.file started.numbers.3);
      bits = started.bits;
      firm = started.firm;
      drawn = started.drawn;
      made = started.made;
      parts = started.parts;
      moves = started.moves;
      empties = started.empties;
      room = started.room;
      steps = started.steps;
      compacts = started.compacts;
      turns = started.turns;
      compacts_all = started.compacts_all;
      turns_all = started.turns_all;
      sweeps = started.sweeps;
      counts = started.counts;
    }

pub begins : (settings : Settings) (from mid : HostState) (given moment mark : ℕ) (lines : List (List ℕ)) (facts : StoreFacts) (state : StoreState)
    → (opened : IsOpenedFrom settings from mid facts state mark)
    → state.sound → facts.ordered ≡ true
    → moment ≡ max given mark
    → Begins (course_by settings from given lines) true (record { facts = facts; store = state; host = mid; moment = moment })
begins settings from mid given moment mark lines facts state opened sound ordered is =
    let started = opened.started in
    let plain = opening_of state.content moment in
    record {
      opening = plain.0;
      first = started.numbers.0;
      is_talk = record {
        opens = record {
          entries = λ key. subst (λ (e : Option Entry). HasEntry from.files key e) (plain.1 key) (entry_read from.files key (read_in state.content key) (started.content key));
          mark = mark;
          marked = started.mark_is;
          moment = plain.2 ∙ is;
        };
        first = started.numbers.2;
        file = started.numbers.3;
        split = refl;
        answers = tt;
        parts = (0, no_parts, (0, omega arith, omega arith, refl));
        whole = λ ended. absurd (false_true ended);
      };
      since = opened.read.images.later;
      silent = read_said from mid opened.read;
      stands = started.stands;
      sound = sound;
      is_opening = plain.1;
      settled = opened.settled.each;
      moment = plain.2;
      numbers = started.numbers.1;
      drawn = started.drawn;
      made = started.made;
      follows = started_follows from.files settings facts state mark started;
      parts = started.parts;
      firm = started.firm;
      is_ordered = ordered;
    }
  where
    false_true : false ≡ true → ⊥
    false_true h = cc

-- a directory that is damaged isn't one that a run may begin on
pub never_damaged : (from : HostState) (to : HostState) (course : Course) (damage : Damage) → from.left from.turn from.files → IsFirstDamageOf from.files damage → HoldsTogetherFrom from to course
never_damaged from to course damage reads first = λ sound. absurd (no_damage (sound from.files reads damage.file.id first.1.bytes first.1.there) first.1.damage)
  where
    no_damage : {A : Type 0} {found : Option A} {x : A} → found ≡ None → found ≡ Some x → ⊥
    no_damage none some = let both : None ≡ Some _ = sym none ∙ some in cc

-- a damage was told, or couldn't be
pub told_damage : (from mid to : HostState) (course : Course) (damage : Damage) (ended : Status)
    → course.files ≡ from.files → course.said ≡ from.said from.turn
    → IsRead from mid → IsStill mid to
    → IsFirstDamageOf from.files damage → TellsDamage ended damage mid to → Ends ended course to
told_damage from mid to course damage status.Damaged files said read still first tells = record {
  damage = damage;
  first = subst (λ (i : Image). IsFirstDamageOf i damage) (sym files) first;
  files = subst (λ (i : Image). SameFiles i to.files) (sym files) (same_then from.files mid.files to.files read.files still.files);
  said = tells ∙ ap (λ (s : Option (List ℕ)). and_then_said s (damage_line damage)) (read_said from mid read ∙ sym said);
}
told_damage from mid to course damage status.SayFailed files said read still first tells = inl (record { turn = mid.turn; said = tells.said ∙ read_said from mid read ∙ sym said; before = tells.later; lost = tells.lost })
told_damage from mid to course damage status.NoMemory files said read still first tells = inl (tells ∙ read_said from mid read ∙ sym said)
told_damage from mid to course damage status.Done files said read still first tells = absurd tells
told_damage from mid to course damage status.Usage files said read still first tells = absurd tells
told_damage from mid to course damage status.Settings files said read still first tells = absurd tells
told_damage from mid to course damage status.DiskFailed files said read still first tells = absurd tells
told_damage from mid to course damage status.ScriptFailed files said read still first tells = absurd tells
told_damage from mid to course damage status.Spent files said read still first tells = absurd tells
told_damage from mid to course damage status.LinesSpent files said read still first tells = absurd tells

pub refused_damage : (mid to : HostState) (damage : Damage) (ended : Status) → TellsDamage ended damage mid to → EndsRefused ended
refused_damage mid to damage status.Damaged tells = inl refl
refused_damage mid to damage status.SayFailed tells = inr (inr (inl refl))
refused_damage mid to damage status.NoMemory tells = inr (inr (inr refl))
refused_damage mid to damage status.Done tells = absurd tells
refused_damage mid to damage status.Usage tells = absurd tells
refused_damage mid to damage status.Settings tells = absurd tells
refused_damage mid to damage status.DiskFailed tells = absurd tells
refused_damage mid to damage status.ScriptFailed tells = absurd tells
refused_damage mid to damage status.Spent tells = absurd tells
refused_damage mid to damage status.LinesSpent tells = absurd tells

-- a number of the store is spent at its end alone
pub index_spent : {F : Type 0} (store : SoftIndex F) (host : HostState) (s : Spent) → (index_means store host).spent s → (s ≡ Sequence (2 ^ 62)) ⊎ (s ≡ Files (2 ^ 32 - 1))
index_spent store host s = ⊎_elim (λ sequence. inl (sequence.0 ∙ ap (λ (n : ℕ). Sequence n) sequence.1)) (λ files. inr files.0)

-- a session over a store that was opened

pub fit_session : {S : Type 0} (facts : S → StoreFacts) (session : Session S) (store : S) (moment : ℕ) → store_of session ≡ store → moment_of session ≡ moment
    → is_broken session ≡ false → IsReady (facts store) moment → IsFit (facts (store_of session)) (is_broken session) (moment_of session)
fit_session {S} facts session store moment same at whole ready = record {
  whole = whole;
  ready = subst (λ (s : S). IsReady (facts s) (moment_of session)) (sym same) (subst (λ (m : ℕ). IsReady (facts store) m) (sym at) ready);
}

-- the later one of two moments
pub later_of : (m given mark : ℕ) → m ≡ max given mark → mark ≤ m
later_of m given mark is = omega (arith, is)

pub later_fits : (m given mark : ℕ) → m ≡ max given mark → given < 2 ^ 61 → mark < 2 ^ 61 → m < 2 ^ 61
later_fits m given mark is one other = omega (arith, is, one, other)

pub stands_session : {S : Type 0} (means : S → HostState → StoreState) (session : Session S) (store : S) → store_of session ≡ store → (host : HostState) → (means store host).stands → (means (store_of session) host).stands
stands_session {S} means session store same host = subst (λ (s : S). (means s host).stands) (sym same)

pub begins_session : {S : Type 0} (facts : S → StoreFacts) (means : S → HostState → StoreState) (session : Session S) (store : S) (moment : ℕ) (ordered : Bool) → store_of session ≡ store → moment_of session ≡ moment
    → (course : Course) (host : HostState) → Begins course ordered (view (facts store) (means store host) host moment) → Begins course ordered (view_by facts means session host)
begins_session {S} facts means session store moment ordered same at course host begun =
    subst (λ (m : ℕ). Begins course ordered (view (facts (store_of session)) (means (store_of session) host) host m)) (sym at)
    (subst (λ (s : S). Begins course ordered (view (facts s) (means s host) host moment)) (sym same) begun)

-- a run that was answered to its end, or ended
pub serves_whole : (from mid : HostState) (course : Course) (now : View) (result : Result Unit Status)
    → Finished mid course true now result → result ≡ Ok tt
    → now.facts.owns ≡ owns_file
    → IsRead from mid
    → ((t : ℕ) (image : Image) (c : Content) (mark : ℕ) → now.host.left t image → ((key : List ℕ) → HasReading (IsCounted image) key (read_in c key)) → IsMark image mark → now.store.whole t c mark)
    → ((t : ℕ) (image : Image) → now.store.opens t → now.host.left t image → IsSound image)
    → Serves status.Done from now.host course
serves_whole from mid course now result finished is owns read whole opens =
    serves_by status.Done from now.host course
    (finished_whole course true mid now (subst (λ (r : Result Unit Status). Finished mid course true now r) is finished))
    (subst (λ (o : FileName → Bool). Leaves o false from now.host) owns (others_all from mid now.host now.facts.owns read finished.holds.others))
    (run_holds from mid course now read whole opens finished.holds)

pub serves_early : (from mid : HostState) (course : Course) (now : View) (ended : Status) (result : Result Unit Status)
    → Finished mid course true now result → result ≡ Err ended
    → now.facts.owns ≡ owns_file
    → IsRead from mid → course.said ≡ from.said from.turn
    → ((s : Spent) → now.store.spent s → (s ≡ Sequence (2 ^ 62)) ⊎ (s ≡ Files (2 ^ 32 - 1)))
    → ((t : ℕ) (image : Image) (c : Content) (mark : ℕ) → now.host.left t image → ((key : List ℕ) → HasReading (IsCounted image) key (read_in c key)) → IsMark image mark → now.store.whole t c mark)
    → ((t : ℕ) (image : Image) → now.store.opens t → now.host.left t image → IsSound image)
    → Serves ended from now.host course
serves_early from mid course now ended result finished same owns read said is whole opens =
    serves_by ended from now.host course
    (finished_early course true mid now ended (read_said from mid read ∙ sym said) is (subst (λ (r : Result Unit Status). Finished mid course true now r) same finished))
    (subst (λ (o : FileName → Bool). Leaves o false from now.host) owns (others_all from mid now.host now.facts.owns read finished.holds.others))
    (run_holds from mid course now read whole opens finished.holds)

-- a run that read the files and did no more
pub serves_read : (from mid : HostState) (course : Course) (ended : Status) → course.said ≡ from.said from.turn → IsRead from mid
    → (mid.said mid.turn ≡ course.said → Ends ended course mid) → Serves ended from mid course
serves_read from mid course ended said read ends =
    serves_by ended from mid course
    (ends (read_said from mid read ∙ sym said))
    (leaves_all from mid owns_file false read.files read.images)
    (read_holds from mid course read)

-- nothing was done
pub stands_read : (a b : HostState) → Stands a b → IsRead a b
stands_read a b stands = record {
  files = stands.files;
  images = record {
    later = omega (arith, stands.turn);
    past = stands.past;
    kept = stands.kept;
    now = λ t i after before left. absurd (omega (arith, after, before, stands.turn));
  };
  silent = record { stays = stands.said; since = λ t after before. absurd (omega (arith, after, before, stands.turn)) };
}

-- a directory that is damaged
pub serves_damage : (from mid to : HostState) (course : Course) (damage : Damage) (ended : Status)
    → course.files ≡ from.files → course.said ≡ from.said from.turn
    → from.left from.turn from.files
    → IsRead from mid → IsStill mid to
    → IsFirstDamageOf from.files damage → TellsDamage ended damage mid to → Serves ended from to course
serves_damage from mid to course damage ended files said reads read still first tells =
    serves_by ended from to course
    (told_damage from mid to course damage ended files said read still first tells)
    (others_all from mid to owns_file read (leaves_all mid to owns_file false still.files still.images))
    (never_damaged from to course damage reads first)

-- the files as they read are one of the images, at another host that stands so
pub reads_before : (a b : HostState) → Stands a b → b.left b.turn b.files → (i : Image) × a.left a.turn i × SameFiles a.files i
reads_before a b stands left = (b.files, stands.past a.turn b.files (omega arith) (subst (λ (n : ℕ). b.left n b.files) stands.turn left), stands.files)

-- a call that changes nothing leaves the files
pub still_files : (a b : HostState) → Stands a b → SameFiles a.files b.files
still_files a b stands = stands.files

pub opened_by : (settings : Settings) (from mid : HostState) (facts : StoreFacts) (state : StoreState) (mark : ℕ) → IsRead from mid → IsStarted from.files settings facts state mark → IsSettled facts state mid.turn → IsOpenedFrom settings from mid facts state mark
opened_by settings from mid facts state mark read started settled = record { read = read; started = started; settled = settled }

-- the store's own ranges are among those of all settings
pub store_in_range : (settings : Settings) → AreInRange settings → IsInRangeOfStore settings
store_in_range settings range = record { file_size = range.file_size.1; bits = range.hash_bits; queue = range.queue }
