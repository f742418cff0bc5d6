-- How a run ends, by what its session told until then.
use Rattle.std.proofs.Common.{◌≡◌, inl, inr, ⊎_elim, ℕ, ◌+◌, ◌≤◌, Bool, false, List, [], ◌∷◌, ◌++◌, length, Option, Some, Result, Ok, Err, refl, sym, ◌∙◌, ap, subst, arith, length-append}
use Rattle.std.specs.Prelude.{sum_by}
use Rattle.std.proofs.lemmas.Bool.{cases_lt}
use Rattle.std.proofs.lemmas.List.Sums.{sum_by_push}
use Rattle.cache_model.specs.declared.commands.Command.{Command}
use Rattle.cache_model.specs.declared.commands.Command.TheVariants.{CompactFile, CompactAll}
use Rattle.cache_model.specs.declared.faults.Damage.{Damage}
use Rattle.cache_model.specs.declared.faults.StoreFault.{StoreFault}
use Rattle.cache_model.specs.declared.faults.StoreFault.TheVariants as fault
use Rattle.cache_model.specs.declared.faults.Spent.{Spent}
use Rattle.cache_model.specs.declared.replies.Status.{Status}
use Rattle.cache_disk.specs.declared.host.HostFault.TheVariants.{Failed, Memory}
use Rattle.cache_model.specs.Files.{Image}
use Rattle.cache_disk.specs.State.{HostState, SameFiles, Silent}
use Rattle.store_trait.specs.Meaning.{Numbers, Row, StoreFacts}
use Rattle.cache_model.specs.declared.files.FileName.{FileName}
use Rattle.store_trait.specs.Keeping.{SameWhere, Carries, Leaves}
use Rattle.store_trait.specs.Calls.{IsNumbered, MayHaveRead}
use Rattle.soft_index.specs.Compacting.{TurnsAll}
use Rattle.soft_index.specs.Turns.{turns_for}
use Rattle.cache_session.specs.Turns.{MakesBy, way_of, files_by, Turns, Goes}
use Rattle.cache_cli.specs.Fitting.{IsLog}
use Rattle.cache_cli.specs.Saying.{SaidBy, ended_by, IsNoDamage}
use Rattle.cache_cli.specs.Parts.{Pace, Parts, rows_of, FollowsParts}
use Rattle.cache_cli.specs.Pump.{HasMoved}
use Rattle.cache_cli.specs.Talk.{Course, Talk, HasRead, done_in, plain_of, next_command, asked_in}
use Rattle.cache_cli.specs.Ends.{IsWithin, Says, TurnsInHand, TakesTurns, EndsEarly, EndsUnsaid}
use Rattle.cache_cli.specs.Run.{View, IsLater, IsTelling, IsPumping, IsTalking, IsInHand, IsLost, EndsSaying, Told, EndsAtSpent, EndsBy}
use Rattle.cache_cli.proofs.Later.{later_by, read_at, read_between, talk_later, moved_later}
use Rattle.cache_cli.proofs.Logs.{log_snoc}
use Rattle.cache_cli.proofs.Running.{said_tells, unsaid_holds, leaves_all}

-- the numbers of a talk are within their ends
within_of : (n : ℕ) (first : Numbers) (now : Option Numbers) → IsNumbered n (Some first) now → IsWithin first n
within_of n first now is some = let ends = is.2.within some in (omega (arith, ends.0, is.2.sequence), ends.1)

-- what a session told
pub says_of : (from : HostState) (course : Course) (ordered : Bool) (left : List (List ℕ)) (talk : Talk) (taken : ℕ) (old : View) (said : Option (List ℕ)) (to : HostState)
    → IsTelling from course ordered left talk taken old said → to.said to.turn ≡ said → IsLater old.host to → Says course to left talk
says_of from course ordered left talk taken old said to telling same later = record {
  is_talk = talk_later course old.host to later talk left telling.is_talk;
  said = same ∙ telling.says;
  log = telling.standing.log;
  is_log = telling.standing.is_log;
  within = within_of (length telling.standing.log) talk.first old.facts.numbers telling.numbers;
}

-- a run that is cut short behind what its session told
pub ends_early : (from : HostState) (course : Course) (ordered : Bool) (left : List (List ℕ)) (talk : Talk) (taken : ℕ) (old : View) (to : HostState)
    → IsPumping from course ordered left talk taken old → to.said to.turn ≡ old.host.said old.host.turn → IsLater old.host to → EndsEarly course to
ends_early from course ordered left talk taken old to pumping same later = record {
  talk = talk;
  left = left;
  says = says_of from course ordered left talk taken old (old.host.said old.host.turn) to pumping.0 same later;
  going = pumping.1;
}

-- a run whose saying failed behind what its session told
pub ends_unsaid : (from : HostState) (course : Course) (ordered : Bool) (left : List (List ℕ)) (talk : Talk) (old : View) (mid to : HostState)
    → IsTalking from course ordered left talk old → mid.said mid.turn ≡ old.host.said old.host.turn → IsLater old.host to → IsLost mid to → EndsUnsaid course to
ends_unsaid from course ordered left talk old mid to talking same later lost = record {
  turn = mid.turn;
  talk = talk;
  left = left;
  is_talk = talk_later course old.host to later talk left talking.0.is_talk;
  said = lost.said ∙ same ∙ talking.0.says;
  before = lost.later;
  lost = lost.lost;
}

-- a say that ended the run
pub ends_saying : (from : HostState) (course : Course) (ordered : Bool) (left : List (List ℕ)) (talk : Talk) (old now : View) (mid : HostState) (ended : Status)
    → IsTalking from course ordered left talk old → mid.said mid.turn ≡ old.host.said old.host.turn → IsLater old.host now.host → EndsSaying ended mid now.host → EndsBy ended course now
ends_saying from course ordered left talk old now mid ended talking same later = ⊎_elim
    (λ lost. subst (λ (s : Status). EndsBy s course now) (sym lost.0) (ends_unsaid from course ordered left talk old mid now.host talking same later lost.1))
    (λ memory. subst (λ (s : Status). EndsBy s course now) (sym memory.0) (ends_early from course ordered left talk (asked_in course talk) old now.host talking (memory.1 ∙ same) later))

-- what a say that didn't say its bytes does
saying : (bytes : List ℕ) (a b : HostState) (ended : Status) → SaidBy bytes a b (Err ended) → EndsSaying ended a b
saying bytes a b ended (Failed, said, is) = inl (
  is,
  record {
    later = said.failed.failed refl;
    said = said.failed.said.stays a.turn (omega arith);
    lost = λ t after before. said.failed.said.since t after before;
  },
)
saying bytes a b ended (Memory, said, is) = inr (is, ap (λ (t : ℕ). b.said t) (said.failed.memory refl).turn ∙ (said.failed.memory refl).said a.turn (omega arith))

-- a call that says leads to a later host
said_later : (bytes : List ℕ) (a b : HostState) (result : Result (Unit {0}) Status) → SaidBy bytes a b result → IsLater a b
said_later bytes a b (Ok done) said = later_by a b SameFiles said.ok.images
said_later bytes a b (Err ended) said = later_by a b SameFiles said.1.failed.images

-- an answer in hand was said, or not
pub told : (from : HostState) (course : Course) (ordered : Bool) (left : List (List ℕ)) (talk : Talk) (taken : ℕ) (bytes : List ℕ) (old new : View) (result : Result (Unit {0}) Status)
    → IsInHand from course ordered left talk taken bytes old
    → new.facts ≡ old.facts
    → new.moment ≡ old.moment
    → Carries old.host.turn new.host.turn old.store new.store
    → SaidBy bytes old.host new.host result
    → Told from course ordered left talk taken old new result
told from course ordered left talk taken bytes old new (Ok done) hand same moment carries said =
    let telling = said_tells from course ordered left talk taken bytes old new hand same carries said moment in
    record { goes = telling; ends = tt; later = said_later bytes old.host new.host (Ok done) said; holds = telling.holds }
told from course ordered left talk taken bytes old new (Err ended) hand same moment carries said = record {
  goes = tt;
  ends = saying bytes old.host new.host ended said;
  later = said_later bytes old.host new.host (Err ended) said;
  holds = unsaid_holds from course ordered left talk taken bytes old new hand same carries said.0 said.1;
}

-- a call that said nothing
pub quiet_end : (a b : HostState) → a.turn ≤ b.turn → Silent a b → b.said b.turn ≡ a.said a.turn
quiet_end a b le silent = ⊎_elim (λ later. silent.since b.turn later (omega arith)) (λ early. let same : b.turn ≡ a.turn = omega (arith, early, le) in ap (λ (t : ℕ). b.said t) same ∙ silent.stays a.turn (omega arith)) (cases_lt a.turn b.turn)

-- no turn is taken for the command in hand where another call goes on
pub takes_none : (course : Course) (a b : HostState) → IsLater a b → (left : List (List ℕ)) (talk : Talk) (taken turned : ℕ) (rows : List Row)
    → HasMoved (HasRead course a) course.pace talk.opening talk.answered talk.responses taken turned rows → TakesTurns course b left talk turned
takes_none course a b later left talk taken turned rows moved =
    let since = moved_later course a b later talk.opening talk.answered talk.responses taken turned rows moved in
    record { taken = taken; parts = since.parts; moved = since.moved; in_hand = 0; takes = inl refl; all = omega (arith, since.counted) }

-- The turns that the command in hand takes at the most, where the rows are those of such parts: where it compacts files it makes
-- no more files.
in_hand_by : (pace : Pace) (f g : StoreFacts) → FollowsParts pace f → (a b : HostState) (read : Image → Type 0) → read a.files → ((mid : Image) → MayHaveRead a b mid → read mid)
    → (parts : Parts) → f.parts ≡ rows_of parts → (command : Command) (count : ℕ) → MakesBy (way_of command) f g a b count
    → (turns : ℕ) × TurnsInHand read parts (command ∷ []) turns × (g.made ≤ f.made + count + files_by command + turns)
in_hand_by pace f g follows a b read now between parts rows (CompactFile file) count made =
    let mid = made.0 in
    let turns = turns_for a.files mid file (rows_of parts) in
    let same : f.turns a.files mid file f.parts ≡ turns = follows.turns a.files mid file f.parts ∙ ap (λ (l : List Row). turns_for a.files mid file l) rows in (
      turns,
      inr (inl record { file = file; asked = refl; files = a.files; is_read = now; mid = mid; mid_is_read = between mid made.1; all = refl }),
      omega (arith, made.2, same),
    )
in_hand_by pace f g follows a b read now between parts rows CompactAll count made =
    let mid = made.0 in
    let turns = made.1 in
    let all : TurnsAll a.files mid (rows_of parts) turns = subst (λ (l : List Row). TurnsAll a.files mid l turns) rows (follows.turns_all a.files mid f.parts turns made.3) in
    (turns, inr (inr record { asked = refl; files = a.files; is_read = now; mid = mid; mid_is_read = between mid made.2; all = all }), omega (arith, made.4))
in_hand_by pace f g follows a b read now between parts rows command count made = (0, inl refl, omega (arith, made))

-- a number is at its end for a change of the command in hand
pub ends_spent : (from : HostState) (course : Course) (ordered : Bool) (left : List (List ℕ)) (talk : Talk) (old new : View) (command : Command) (spoilt broken : Bool) (s : Spent)
    → IsTalking from course ordered left talk old
    → next_command left ≡ command ∷ []
    → old.host.left old.host.turn old.host.files
    → Turns [] (plain_of talk) command old.facts new.facts spoilt old.store new.store old.host new.host (Err (fault.Spent s))
    → Goes command old.facts new.facts old.moment new.moment broken (Err (fault.Spent s))
    → EndsAtSpent course new
ends_spent from course ordered left talk old new command spoilt broken s talking hand reads turn goes =
    let so = talking.0 in
    let log = so.standing.log ++ turn.changes in
    let is_log = log_snoc talk.opening (done_in talk) command so.standing.log turn.changes so.standing.is_log turn.order in
    let files : sum_by files_by (done_in talk ++ next_command left) ≡ sum_by files_by (done_in talk) + files_by command =
    ap (λ (l : List Command). sum_by files_by (done_in talk ++ l)) hand ∙ sum_by_push files_by (done_in talk) command in
    let later = later_by old.host new.host (SameWhere old.facts.owns false) turn.did.others.images in
    let since : course.since ≤ old.host.turn = omega (arith, so.holds.since, so.holds.others.images.later) in
    let asked = asked_in course talk in
    let moved = moved_later course old.host new.host later talk.opening talk.answered talk.responses asked so.turned old.facts.parts so.parts in
    let takes = in_hand_by course.pace old.facts new.facts so.follows old.host new.host (HasRead course new.host) (read_at course old.host new.host since reads later) (read_between course old.host new.host since) moved.parts moved.is_rows
    command (length turn.changes) turn.did.made in
    record {
      talk = talk;
      left = left;
      says = says_of from course ordered left talk (asked_in course talk) old (old.host.said old.host.turn) new.host so (quiet_end old.host new.host turn.did.others.images.later turn.did.silent)
          later;
      going = talking.1;
      log = log;
      is_log = subst (λ (l : List Command). IsLog talk.opening (done_in talk ++ l) log) (sym hand) is_log;
      turns = so.turned + takes.0;
      takes = record {
        taken = asked;
        parts = moved.parts;
        moved = moved.moved;
        in_hand = takes.0;
        takes = subst (λ (l : List Command). TurnsInHand (HasRead course new.host) moved.parts l takes.0) (sym hand) takes.1;
        all = omega (arith, moved.counted);
      };
      number = s;
      spent = turn.did.spent s refl;
      sequence = λ n is. omega (arith, goes.sequence n (ap (λ (x : Spent). Err (fault.Spent x)) is), turn.did.drawn, so.drawn, length-append so.standing.log turn.changes);
      files = λ n is. omega (arith, goes.files n (ap (λ (x : Spent). Err (fault.Spent x)) is), takes.2, so.made, length-append so.standing.log turn.changes, files);
    }

-- a fault of the store that isn't damage ends the run so
pub ends_by_fault : (course : Course) (now : View) (x : StoreFault) (ended : Status) → ended ≡ ended_by x → IsNoDamage x
    → EndsEarly course now.host → ((s : Spent) → x ≡ fault.Spent s → EndsAtSpent course now) → EndsBy ended course now
ends_by_fault course now fault.Failed ended is none early spent = subst (λ (s : Status). EndsBy s course now) (sym is) early
ends_by_fault course now fault.Memory ended is none early spent = subst (λ (s : Status). EndsBy s course now) (sym is) early
ends_by_fault course now (fault.Spent s) ended is none early spent = subst (λ (s : Status). EndsBy s course now) (sym is) (spent s refl)
ends_by_fault course now (fault.Damaged damage) ended is none early spent = absurd none

pub no_damage : (x : StoreFault) → ((damage : Damage) → x ≡ fault.Damaged damage → ⊥) → IsNoDamage x
no_damage fault.Failed never = tt
no_damage fault.Memory never = tt
no_damage (fault.Spent s) never = tt
no_damage (fault.Damaged damage) never = never damage refl

-- saying leaves every file
pub said_leaves : (bytes : List ℕ) (a b : HostState) (result : Result (Unit {0}) Status) → SaidBy bytes a b result → (owns : FileName → Bool) (which : Bool) → Leaves owns which a b
said_leaves bytes a b (Ok done) said owns which = leaves_all a b owns which said.files said.ok.images
said_leaves bytes a b (Err ended) said owns which = leaves_all a b owns which said.1.files said.1.failed.images
