-- A run goes on: by a turn of its session, by an answer that is said, by a line that is refused.
use Rattle.std.proofs.Common.{◌≡◌, ◌⊎◌, inl, inr, ⊎_elim, ℕ, ◌+◌, ◌-◌, ◌^◌, ◌≤◌, ◌<◌, Bool, false, List, [], ◌∷◌, ◌++◌, length, Option, Some, None, Result, Ok, Err, refl, sym, ◌∙◌, ap, subst, arith, length-append}
use Rattle.std.specs.Prelude.{sum_by}
use Rattle.std.proofs.lemmas.Bool.{cases_lt}
use Rattle.std.proofs.lemmas.List.{append-nil}
use Rattle.std.proofs.lemmas.List.Sums.{sum_by_push}
use Rattle.cache_model.specs.declared.commands.Command.{Command}
use Rattle.cache_model.specs.declared.entries.Change.{Change}
use Rattle.cache_model.specs.declared.faults.StoreFault.{StoreFault}
use Rattle.cache_model.specs.declared.files.FileName.{FileName}
use Rattle.cache_model.specs.declared.replies.Reply.{Reply}
use Rattle.cache_model.specs.Plain.{Plain, plain_after_all, moment_after}
use Rattle.cache_model.specs.Replies.{Response}
use Rattle.cache_model.proofs.Prefixes.{plain_after_all-append}
use Rattle.cache_disk.specs.declared.host.HostFault.{HostFault}
use Rattle.cache_disk.specs.State.{HostState, Silent, GoesOn, Moves, SameFiles}
use Rattle.cache_disk.specs.Calls.{Said, and_then_said}
use Rattle.cache_disk.proofs.Runs.{weaker}
use Rattle.store_trait.specs.Meaning.{Reading, Content, Numbers, StoreFacts, StoreState}
use Rattle.store_trait.specs.Keeping.{SameWhere, SameStore, Leaves, Carries, HoldsNow}
use Rattle.store_trait.specs.Calls.{IsNumbered}
use Rattle.store_trait.proofs.Runs.{leaves_then}
use Rattle.cache_session.specs.Turns.{files_by, KeepsBy, IsContentAfter, Turns}
use Rattle.cache_cli.specs.Fitting.{promised_of, IsLog}
use Rattle.cache_cli.specs.Parts.{FollowsParts}
use Rattle.cache_cli.specs.Pump.{HasMoved, files_by_steps}
use Rattle.cache_cli.specs.Standing.{Standing}
use Rattle.cache_cli.specs.Talk.{Course, Talk, HasRead, IsTalk, done_in, plain_of, text_of, is_over, hand_of, next_command, asked_in}
use Rattle.cache_cli.specs.Run.{View, IsLater, with_words, TellsAt, HoldsSince, IsTelling, IsPumping, IsTalking, IsInHand}
use Rattle.cache_cli.proofs.Later.{later_by, talk_later, moved_later}
use Rattle.cache_cli.proofs.Logs.{log_snoc, log_on}
use Rattle.cache_cli.proofs.Standing.{in_turn, in_turn_whole, to_prefix, to_cut, fit_more, fit_all_more, done_one, kept_one, carried}

-- a call that said nothing: what was said by a turn since then is what was said before
quiet : (a b : HostState) (t : ℕ) → a.turn ≤ t → t ≤ b.turn → Silent a b → b.said t ≡ a.said a.turn
quiet a b t after before silent =
    ⊎_elim (λ later. silent.since t later before) (λ early. let same : t ≡ a.turn = omega arith in subst (λ (n : ℕ). b.said n ≡ a.said a.turn) (sym same) (silent.stays a.turn (omega arith))) (cases_lt a.turn t)

-- what a talk tells of a store it tells of one that may be left with no more
tells_still : (course : Course) (ordered : Bool) (old new : View) (t : ℕ) (said : List ℕ)
    → ((key : List ℕ) (r : Reading) (mark : ℕ) → new.store.may t key r mark → old.store.may t key r mark)
    → ((c : Content) (mark : ℕ) → new.store.whole t c mark → old.store.whole t c mark)
    → IsLater old.host new.host
    → TellsAt course ordered old t said → TellsAt course ordered new t said
tells_still course ordered old new t said fewer fewer_whole later tells = record {
  talk = tells.talk;
  left = tells.left;
  is_talk = talk_later course old.host new.host later tells.talk tells.left tells.is_talk;
  says = tells.says;
  fits = λ key r mark may. tells.fits key r mark (fewer key r mark may);
  cut = λ is c mark may. tells.cut is c mark (fewer_whole c mark may);
}

-- other files than a store's were left alone in two steps
others_then : (f g : StoreFacts) (a b c : HostState) → SameStore f g → Leaves f.owns false a b → Leaves f.owns false b c → Leaves g.owns false a c
others_then f g a b c same first second = subst (λ (owns : FileName → Bool). Leaves owns false a c) (sym same.owns) (leaves_then f.owns false a b c first second)

-- with what a turn changed, a log goes on to one with the command in hand
abbrev pub GoesOnTo : Course → List (List ℕ) → Talk → List Change → Type 0
GoesOnTo course left talk log = (more : List Change) × IsLog talk.opening (done_in talk ++ hand_of (is_over talk) left) (log ++ more)

module _ (from : HostState) (course : Course) (ordered : Bool) (left : List (List ℕ)) (talk : Talk) (taken : ℕ) (old new : View) (command : Command) (spoilt : Bool) (result : Result Reply StoreFault)
    (pumping : IsPumping from course ordered left talk taken old)
    (same : SameStore old.facts new.facts)
    (turn : Turns [] (plain_of talk) command old.facts new.facts spoilt old.store new.store old.host new.host result)
    (on : GoesOnTo course left talk (pumping.0.standing.log ++ turn.changes)) where
  later_turn : IsLater old.host new.host
  later_turn = later_by old.host new.host (SameWhere old.facts.owns false) turn.did.others.images

  abbrev log_then : List Change
  log_then = pumping.0.standing.log ++ turn.changes

  -- within the turn everything fits the talk with the command in hand
  tells_within : (t : ℕ) (said : List ℕ) → old.host.turn ≤ t → t ≤ new.host.turn → new.host.said t ≡ Some said → TellsAt course ordered new t said
  tells_within t said late to is = record {
    talk = talk;
    left = left;
    is_talk = talk_later course old.host new.host later_turn talk left pumping.0.is_talk;
    says = sym is ∙ quiet old.host new.host t late to turn.did.silent ∙ pumping.0.says;
    fits = λ key r mark may. to_prefix course.synced talk.opening (done_in talk) (hand_of (is_over talk) left) (log_then ++ on.0) pumping.0.base key r mark pumping.0.opening on.1
        (fit_more (promised_of course.synced talk.opening (done_in talk)) log_then on.0 pumping.0.base key r mark
        (in_turn talk.opening (done_in talk) course.synced ordered old.facts pumping.0.base old.store new.store old.host.turn new.host.turn (plain_of talk).moment turn.changes pumping.0.standing refl turn.did.keeps t key r mark late to may));
    cut = λ orderly c mark may. to_cut course.synced talk.opening (done_in talk) (hand_of (is_over talk) left) (log_then ++ on.0) pumping.0.base c mark pumping.0.opening on.1
        (fit_all_more (promised_of course.synced talk.opening (done_in talk)) log_then on.0 pumping.0.base c mark
        (in_turn_whole talk.opening (done_in talk) course.synced ordered old.facts pumping.0.base old.store new.store old.host.turn new.host.turn (plain_of talk).moment turn.changes pumping.0.standing refl turn.did.keeps orderly t c mark late to may));
  }

  -- it holds through the turn, whatever it answers
  pub turn_holds : HoldsSince from course ordered new
  turn_holds = record {
    since = pumping.0.holds.since;
    others = others_then old.facts new.facts from old.host new.host same pumping.0.holds.others turn.did.others;
    past = λ t early. turn.did.silent.stays t (omega (arith, early, pumping.0.holds.others.images.later)) ∙ pumping.0.holds.past t early;
    each = λ t said since to is.
        ⊎_elim
        (λ early. tells_still course ordered old new t said (λ key r mark may. turn.did.keeps.past t key r mark early may) (λ c mark may. turn.did.keeps.past_whole t c mark early may) later_turn
        (pumping.0.holds.each t said since (omega (arith, early)) (sym (turn.did.silent.stays t (omega (arith, early))) ∙ is)))
        (λ late. tells_within t said late to is)
        (cases_lt t old.host.turn);
    opens = λ t since to.
        ⊎_elim
        (λ early. turn.did.opens.past t early (pumping.0.holds.opens t since (omega (arith, early))))
        (λ late. turn.did.opens.since pumping.0.sound t late to)
        (cases_lt t old.host.turn);
  }

-- a standing for an equal list of commands
standing_at : (plain : Plain) (d e : List Command) (synced orderly : Bool) (g : StoreFacts) (base : Content) (s : StoreState) (turn : ℕ) → d ≡ e
    → (so : Standing plain d synced orderly g base s turn) → (next : Standing plain e synced orderly g base s turn) × (next.log ≡ so.log)
standing_at plain d e synced orderly g base s turn same so =
    subst (λ (l : List Command). (next : Standing plain l synced orderly g base s turn) × (next.log ≡ so.log)) same (so, refl)

-- numbers went on twice
numbered_then : (n k : ℕ) (first : Numbers) (b c : Option Numbers) → IsNumbered n (Some first) b → IsNumbered k b c → IsNumbered (n + k) (Some first) c
numbered_then n k first None c one two = absurd (nothing one.0 one.1)
  where
    nothing : (m : Numbers) → None ≡ Some m → ⊥
    nothing m h = cc
numbered_then n k first (Some b) c one two = (
  two.0,
  two.1,
  record {
    sequence = omega (arith, two.2.sequence, ap (λ (m : Numbers). m.sequence) (same b one.0 one.1), one.2.sequence);
    file = omega (arith, two.2.file, ap (λ (m : Numbers). m.file) (same b one.0 one.1), one.2.file);
    within = λ some. by some (cases_lt 0 k);
  },
)
  where
    same : (x y : Numbers) → Some x ≡ Some y → x ≡ y
    same x y h = cc

    file_is : b.file ≡ one.0.file
    file_is = ap (λ (m : Numbers). m.file) (same b one.0 one.1)

    sequence_is : b.sequence ≡ one.0.sequence
    sequence_is = ap (λ (m : Numbers). m.sequence) (same b one.0 one.1)

    by : 1 ≤ n + k → (0 < k) ⊎ (k ≤ 0) → (two.0.sequence ≤ 2 ^ 62) × (first.file < 2 ^ 32 - 1)
    by some (inl more) = let ends = two.2.within (omega (arith, more)) in (ends.0, omega (arith, ends.1, file_is, one.2.file))
    by some (inr none) = let ends = one.2.within (omega (arith, some, none)) in (omega (arith, ends.0, two.2.sequence, sequence_is, none), ends.1)

numbered_by : (n m : ℕ) (a b : Option Numbers) → n ≡ m → IsNumbered n a b → IsNumbered m a b
numbered_by n m a b same is = subst (λ (k : ℕ). IsNumbered k a b) same is

-- a talk told by other words of it
pub retell : (from : HostState) (course : Course) (ordered : Bool) (left left_next : List (List ℕ)) (talk : Talk) (taken : ℕ) (now : View) (said said_next : Option (List ℕ)) (answered : List (List ℕ)) (responses : List Response) (ended : Bool)
    → (telling : IsTelling from course ordered left talk taken now said)
    → done_in (with_words talk answered responses ended) ≡ done_in talk
    → IsTalk (HasRead course now.host) (with_words talk answered responses ended) course left_next
    → HasMoved (HasRead course now.host) course.pace talk.opening answered responses taken telling.turned now.facts.parts
    → said_next ≡ and_then_said course.said (text_of (with_words talk answered responses ended))
    → IsTelling from course ordered left_next (with_words talk answered responses ended) taken now said_next
retell from course ordered left left_next talk taken now said said_next answered responses ended telling done is_talk moved says =
    let next = with_words talk answered responses ended in
    let standing = standing_at talk.opening (done_in talk) (done_in next) course.synced ordered now.facts telling.base now.store now.host.turn (sym done) telling.standing in
    let len : length telling.standing.log ≡ length standing.0.log = ap (λ (l : List Change). length l) (sym standing.1) in
    record {
      is_talk = is_talk;
      says = says;
      stands = telling.stands;
      sound = telling.sound;
      base = telling.base;
      opening = telling.opening;
      standing = standing.0;
      moment = ap (λ (l : List Command). (plain_after_all talk.opening l).moment) done ∙ telling.moment;
      follows = telling.follows;
      turned = telling.turned;
      parts = moved;
      numbers = numbered_by (length telling.standing.log) (length standing.0.log) (Some talk.first) now.facts.numbers len telling.numbers;
      drawn = omega (arith, telling.drawn, len);
      made = omega (arith, telling.made, len, ap (λ (l : List Command). sum_by files_by l) done);
      holds = telling.holds;
    }

module _ (from : HostState) (course : Course) (ordered : Bool) (left : List (List ℕ)) (talk : Talk) (old new : View) (command : Command) (spoilt : Bool)
    (talking : IsTalking from course ordered left talk old)
    (hand : next_command left ≡ command ∷ [])
    (same : SameStore old.facts new.facts) where
  -- a command goes on from the commands before to those with it
  on_command : (log : List Change) → IsLog talk.opening (done_in talk ++ command ∷ []) log → GoesOnTo course left talk log
  on_command log is =
      let hand_is : command ∷ [] ≡ hand_of (is_over talk) left = sym (ap (λ (b : Bool). hand_of b left) talking.1 ∙ hand) in
      ([], subst (λ (h : List Command). IsLog talk.opening (done_in talk ++ h) (log ++ [])) hand_is (subst (λ (l : List Change). IsLog talk.opening (done_in talk ++ command ∷ []) l) (sym (append-nil log)) is))

  -- what holds through a turn of a command
  pub command_holds : (result : Result Reply StoreFault) → Turns [] (plain_of talk) command old.facts new.facts spoilt old.store new.store old.host new.host result → HoldsSince from course ordered new
  command_holds result turn =
      turn_holds from course ordered left talk (asked_in course talk) old new command spoilt result talking same turn
      (on_command (talking.0.standing.log ++ turn.changes) (log_snoc talk.opening (done_in talk) command talking.0.standing.log turn.changes talking.0.standing.is_log turn.order))

  -- a command was done: with these words of the talk, which have that command more
  pub done_tells : (reply : Reply) (turns : ℕ) (left_next : List (List ℕ)) (said : Option (List ℕ)) (answered : List (List ℕ)) (responses : List Response) (ended : Bool)
      → (turn : Turns [] (plain_of talk) command old.facts new.facts spoilt old.store new.store old.host new.host (Ok reply))
      → spoilt ≡ false
      → HoldsNow new.facts new.store new.host.turn
      → new.facts.made ≤ old.facts.made + length turn.changes + files_by command + turns
      → new.moment ≡ moment_after old.moment command
      → FollowsParts course.pace new.facts
      → done_in (with_words talk answered responses ended) ≡ done_in talk ++ command ∷ []
      → IsTalk (HasRead course new.host) (with_words talk answered responses ended) course left_next
      → HasMoved (HasRead course new.host) course.pace talk.opening answered responses (asked_in course talk) (talking.0.turned + turns) new.facts.parts
      → said ≡ and_then_said course.said (text_of (with_words talk answered responses ended))
      → IsTelling from course ordered left_next (with_words talk answered responses ended) (asked_in course talk) new said
  done_tells reply turns left_next said answered responses ended turn unspoilt now made moment follows done is_talk moved says =
      let next = with_words talk answered responses ended in
      let so = talking.0 in
      let plain = talk.opening in
      let more = done_one plain (done_in talk) command course.synced ordered old.facts new.facts so.base old.store new.store old.host.turn new.host.turn turn.changes so.standing same turn.did.others.images.later turn.did.keeps turn.order
      (record { content = turn.did.content; shows = turn.shows; promised = turn.promised }) now.fits in
      let standing = standing_at plain (done_in talk ++ command ∷ []) (done_in next) course.synced ordered new.facts so.base new.store new.host.turn (sym done) more.0 in
      let len : length standing.0.log ≡ length so.standing.log + length turn.changes = ap (λ (l : List Change). length l) (standing.1 ∙ more.1) ∙ length-append so.standing.log turn.changes in
      let files : sum_by files_by (done_in next) ≡ sum_by files_by (done_in talk) + files_by command = ap (λ (l : List Command). sum_by files_by l) done ∙ sum_by_push files_by (done_in talk) command in
      record {
        is_talk = is_talk;
        says = says;
        stands = turn.did.stands unspoilt;
        sound = turn.did.sound so.sound;
        base = so.base;
        opening = so.opening;
        standing = standing.0;
        moment = ap (λ (l : List Command). (plain_after_all plain l).moment) done ∙ ap (λ (p : Plain). p.moment) (plain_after_all-append plain (done_in talk) (command ∷ []))
            ∙ ap (λ (m : ℕ). moment_after m command) so.moment ∙ sym moment;
        follows = follows;
        turned = so.turned + turns;
        parts = moved;
        numbers = numbered_by (length so.standing.log + length turn.changes) (length standing.0.log) (Some talk.first) new.facts.numbers (sym len)
            (numbered_then (length so.standing.log) (length turn.changes) talk.first old.facts.numbers new.facts.numbers so.numbers turn.did.numbers);
        drawn = omega (arith, so.drawn, turn.did.drawn, len);
        made = omega (arith, so.made, made, len, files);
        holds = command_holds (Ok reply) turn;
      }

-- Nothing was changed but the parts: with these words of the talk, which have no command more.
pub kept_tells : (from : HostState) (course : Course) (ordered : Bool) (left left_next : List (List ℕ)) (talk : Talk) (taken taken_next : ℕ) (old new : View) (said_old said : Option (List ℕ))
    (answered : List (List ℕ)) (responses : List Response) (ended : Bool) (files : ℕ)
    → (so : IsTelling from course ordered left talk taken old said_old)
    → SameStore old.facts new.facts
    → old.host.turn ≤ new.host.turn
    → KeepsBy old.facts old.host.turn new.host.turn (plain_of talk).moment old.store new.store []
    → IsContentAfter old.facts (plain_of talk).moment new.host.turn [] old.store new.store
    → IsNumbered 0 old.facts.numbers new.facts.numbers → new.facts.drawn ≤ old.facts.drawn
    → new.facts.made ≤ old.facts.made + files → files_by_steps taken_next ≡ files_by_steps taken + files
    → new.store.stands → new.store.sound → new.moment ≡ old.moment
    → FollowsParts course.pace new.facts
    → HoldsSince from course ordered new
    → done_in (with_words talk answered responses ended) ≡ done_in talk
    → IsTalk (HasRead course new.host) (with_words talk answered responses ended) course left_next
    → HasMoved (HasRead course new.host) course.pace talk.opening answered responses taken_next so.turned new.facts.parts
    → said ≡ and_then_said course.said (text_of (with_words talk answered responses ended))
    → IsTelling from course ordered left_next (with_words talk answered responses ended) taken_next new said
kept_tells from course ordered left left_next talk taken taken_next old new said_old said answered responses ended files so same later keeps content numbers drawn made more stands sound moment follows holds done is_talk moved says =
    let next = with_words talk answered responses ended in
    let plain = talk.opening in
    let kept = kept_one plain (done_in talk) course.synced ordered old.facts new.facts so.base old.store new.store old.host.turn new.host.turn so.standing same later keeps content in
    let standing = standing_at plain (done_in talk) (done_in next) course.synced ordered new.facts so.base new.store new.host.turn (sym done) kept.0 in
    let len : length standing.0.log ≡ length so.standing.log = ap (λ (l : List Change). length l) (standing.1 ∙ kept.1) in
    record {
      is_talk = is_talk;
      says = says;
      stands = stands;
      sound = sound;
      base = so.base;
      opening = so.opening;
      standing = standing.0;
      moment = ap (λ (l : List Command). (plain_after_all plain l).moment) done ∙ so.moment ∙ sym moment;
      follows = follows;
      turned = so.turned;
      parts = moved;
      numbers = numbered_by (length so.standing.log + 0) (length standing.0.log) (Some talk.first) new.facts.numbers (omega (arith, len))
          (numbered_then (length so.standing.log) 0 talk.first old.facts.numbers new.facts.numbers so.numbers numbers);
      drawn = omega (arith, so.drawn, drawn, len);
      made = omega (arith, so.made, made, more, len, ap (λ (l : List Command). sum_by files_by l) done);
      holds = holds;
    }

-- a call that leaves every file leaves those of a store
pub leaves_all : (a b : HostState) (owns : FileName → Bool) (which : Bool) → SameFiles a.files b.files → Moves a b SameFiles → Leaves owns which a b
leaves_all a b owns which files moves = record {
  files = λ name is. files name;
  images = weaker a b SameFiles (SameWhere owns which) moves (λ d m left same name is. same name);
}

module _ (from : HostState) (course : Course) (ordered : Bool) (left : List (List ℕ)) (talk : Talk) (taken : ℕ) (bytes : List ℕ) (old new : View)
    (hand : IsInHand from course ordered left talk taken bytes old)
    (same : new.facts ≡ old.facts)
    (carries : Carries old.host.turn new.host.turn old.store new.store) where
  back : (t : ℕ) (key : List ℕ) (r : Reading) (mark : ℕ) → t ≤ old.host.turn → t ≤ new.host.turn → new.store.may t key r mark → old.store.may t key r mark
  back t key r mark early to may =
      ⊎_elim (λ lt. carries.past t key r mark lt may)
      (λ ge. let at : t ≡ old.host.turn = omega arith in subst (λ (x : ℕ). old.store.may x key r mark) (sym at) (carries.since t key r mark ge to may))
      (cases_lt t old.host.turn)

  back_whole : (t : ℕ) (c : Content) (mark : ℕ) → t ≤ old.host.turn → t ≤ new.host.turn → new.store.whole t c mark → old.store.whole t c mark
  back_whole t c mark early to may =
      ⊎_elim (λ lt. carries.past_whole t c mark lt may)
      (λ ge. let at : t ≡ old.host.turn = omega arith in subst (λ (x : ℕ). old.store.whole x c mark) (sym at) (carries.since_whole t c mark ge to may))
      (cases_lt t old.host.turn)

  more : (ys : List Change) × IsLog talk.opening (done_in talk ++ hand_of (is_over talk) left) (hand.standing.log ++ ys)
  more = log_on talk.opening (done_in talk) (hand_of (is_over talk) left) hand.standing.log hand.standing.is_log

  -- with the answer said, everything fits the talk with it
  tells_since : (t : ℕ) (said : List ℕ) → old.host.turn ≤ t → t ≤ new.host.turn → IsLater old.host new.host → Some said ≡ and_then_said (old.host.said old.host.turn) bytes → TellsAt course ordered new t said
  tells_since t said late to later is = record {
    talk = talk;
    left = left;
    is_talk = talk_later course old.host new.host later talk left hand.is_talk;
    says = is ∙ hand.says;
    fits = λ key r mark may. to_prefix course.synced talk.opening (done_in talk) (hand_of (is_over talk) left) (hand.standing.log ++ more.0) hand.base key r mark hand.opening more.1
        (fit_more (promised_of course.synced talk.opening (done_in talk)) hand.standing.log more.0 hand.base key r mark (hand.standing.each key r mark (carries.since t key r mark late to may)));
    cut = λ orderly c mark may. to_cut course.synced talk.opening (done_in talk) (hand_of (is_over talk) left) (hand.standing.log ++ more.0) hand.base c mark hand.opening more.1
        (fit_all_more (promised_of course.synced talk.opening (done_in talk)) hand.standing.log more.0 hand.base c mark (hand.standing.whole orderly c mark (carries.since_whole t c mark late to may)));
  }

  -- what was said is what it was, or this
  said_holds : (now : Option (List ℕ)) → SameFiles old.host.files new.host.files → Moves old.host new.host SameFiles → GoesOn old.host.turn new.host.turn old.host.said new.host.said now
      → ((t : ℕ) (said : List ℕ) → old.host.turn < t → t ≤ new.host.turn → now ≡ Some said → TellsAt course ordered new t said)
      → HoldsSince from course ordered new
  said_holds now files moves goes tells = record {
    since = hand.holds.since;
    others = subst (λ (f : StoreFacts). Leaves f.owns false from new.host) (sym same) (leaves_then old.facts.owns false from old.host new.host hand.holds.others (leaves_all old.host new.host old.facts.owns false files moves));
    past = λ t early. goes.stays t (omega (arith, early, hand.holds.others.images.later)) ∙ hand.holds.past t early;
    each = λ t said since to is.
        ⊎_elim
        (λ late. tells t said late to (sym (goes.since t late to) ∙ is))
        (λ early. tells_still course ordered old new t said (λ key r mark may. back t key r mark early to may) (λ c mark may. back_whole t c mark early to may) (later_by old.host new.host SameFiles moves)
        (hand.holds.each t said since early (sym (goes.stays t early) ∙ is)))
        (cases_lt old.host.turn t);
    opens = λ t since to.
        ⊎_elim
        (λ early. carries.opened t early (hand.holds.opens t since (omega (arith, early))))
        (λ late. carries.opens t late to (hand.holds.opens old.host.turn hand.holds.others.images.later (omega arith)))
        (cases_lt t old.host.turn);
  }

  -- the answer was said
  pub said_tells : Said bytes old.host new.host (Ok tt) → new.moment ≡ old.moment → IsTelling from course ordered left talk taken new (new.host.said new.host.turn)
  said_tells said moment =
      let at = carried talk.opening (done_in talk) course.synced ordered old.facts hand.base old.store new.store old.host.turn new.host.turn (omega (arith, said.ok.ok)) carries hand.standing in
      let len : length at.0.log ≡ length hand.standing.log = ap (λ (l : List Change). length l) at.1 in
      let Stands : StoreFacts → Type 0 = λ (f : StoreFacts). (next : Standing talk.opening (done_in talk) course.synced ordered f hand.base new.store new.host.turn) × (length next.log ≡ length hand.standing.log) in
      let standing : Stands new.facts = subst Stands (sym same) (at.0, len) in
      let later = later_by old.host new.host SameFiles said.ok.images in
      let moved = moved_later course old.host new.host later talk.opening talk.answered talk.responses taken hand.turned old.facts.parts hand.parts in
      record {
        is_talk = talk_later course old.host new.host later talk left hand.is_talk;
        says = said.ok.said.since new.host.turn said.ok.ok (omega arith) ∙ hand.says;
        stands = carries.stands hand.stands;
        sound = carries.sound hand.sound;
        base = hand.base;
        opening = hand.opening;
        standing = standing.0;
        moment = hand.moment ∙ sym moment;
        follows = subst (λ (f : StoreFacts). FollowsParts course.pace f) (sym same) hand.follows;
        turned = hand.turned;
        parts = subst (λ (f : StoreFacts). HasMoved (HasRead course new.host) course.pace talk.opening talk.answered talk.responses taken hand.turned f.parts) (sym same) moved;
        numbers = numbered_by (length hand.standing.log) (length standing.0.log) (Some talk.first) new.facts.numbers (sym standing.1)
            (subst (λ (f : StoreFacts). IsNumbered (length hand.standing.log) (Some talk.first) f.numbers) (sym same) hand.numbers);
        drawn = omega (arith, hand.drawn, standing.1, ap_drawn);
        made = omega (arith, hand.made, standing.1, ap_made);
        holds = said_holds (and_then_said (old.host.said old.host.turn) bytes) said.files said.ok.images said.ok.said (λ t text late to is. tells_since t text (omega (arith, late)) to later (sym is));
      }
    where
      ap_drawn : new.facts.drawn ≡ old.facts.drawn
      ap_drawn = ap (λ (f : StoreFacts). f.drawn) same

      ap_made : new.facts.made ≡ old.facts.made
      ap_made = ap (λ (f : StoreFacts). f.made) same

  -- the answer couldn't be said
  pub unsaid_holds : (fault : HostFault) → Said bytes old.host new.host (Err fault) → HoldsSince from course ordered new
  unsaid_holds fault said = said_holds None said.files said.failed.images said.failed.said (λ t text late to is. absurd (nothing text is))
    where
      nothing : (l : List ℕ) → None ≡ Some l → ⊥
      nothing l h = cc
