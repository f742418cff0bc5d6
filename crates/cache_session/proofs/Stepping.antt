-- A step of an actor.
use Rattle.std.proofs.Common.{◌≡◌, ℕ, ◌+◌, ◌≤◌, Bool, true, false, List, [], refl, sym, ◌∙◌, ap, arith}
use Rattle.std.specs.Prelude.{Result, Ok, Err, OnOk, ◌||◌}
use Rattle.cache_model.specs.declared.commands.Command.TheVariants.{Step}
use Rattle.cache_model.specs.declared.commands.StepKind.{StepKind}
use Rattle.cache_model.specs.declared.commands.StepKind.TheVariants.{Index, Flush, Compact, Evict, Reap, Rotate}
use Rattle.cache_model.specs.declared.faults.StoreFault.{StoreFault}
use Rattle.cache_model.specs.declared.faults.StoreFault.TheVariants as fault
use Rattle.cache_model.specs.declared.replies.Reply.TheVariants as reply
use Rattle.cache_model.specs.declared.replies.Turned.{Turned}
use Rattle.cache_model.specs.declared.replies.Turned.TheVariants.{Idle}
use Rattle.cache_model.specs.Plain.{Plain}
use Rattle.cache_model.specs.Files.{Image}
use Rattle.cache_disk.specs.State.{HostState}
use Rattle.store_trait.specs.Meaning.{Row, StoreFacts, StoreState}
use Rattle.store_trait.specs.Keeping.{HoldsNow}
use Rattle.store_trait.specs.Calls.{Stepped, DrawsBy, IsNumbered}
use Rattle.cache_session.specs.Changing.{Shows}
use Rattle.cache_session.specs.Turns.{Did, by_changes, by_step, Turns, StepMoves, gives_up, files_of}
use Rattle.cache_session.proofs.Keeping.{always, keeps_none, same_fault}
use Rattle.cache_session.proofs.Turning.{never, turns_still, did_nothing}

-- a step that did nothing
did_step : {T : Type 0} (kind : StepKind) (f g : StoreFacts) (p : Bool) (s t : StoreState) (a b : HostState) (m : ℕ) (r : Result T StoreFault) → Did {T = T} by_changes f g p s t a b m [] r → Did {T = T} (by_step kind) f g p s t a b m [] r
did_step kind f g p s t a b m r did = record {
  stands = did.stands;
  others = did.others;
  silent = did.silent;
  keeps = did.keeps;
  opens = did.opens;
  sound = did.sound;
  undamaged = did.undamaged;
  spent = did.spent;
  content = did.content;
  refused = did.refused;
  firm = did.firm;
  drawn = did.drawn;
  made = omega (arith, did.made);
  numbers = did.numbers;
  parts = always r tt;
}

given : (kind : StepKind) (f : StoreFacts) (files : Image) (parts : List Row) → gives_up kind ≡ true → StepMoves kind f files Idle parts parts
given Index f files parts h = absurd (never h)
given Flush f files parts h = absurd (never h)
given Compact f files parts h = absurd (never h)
given Evict f files parts h = (refl, refl)
given Reap f files parts h = (refl, refl)
given Rotate f files parts h = absurd (never h)

taken : (kind : StepKind) (f : StoreFacts) (files : Image) (turned : Turned) (a b : List Row) → gives_up kind ≡ false → f.steps files kind turned a b → StepMoves kind f files turned a b
taken Index f files turned a b h steps = steps
taken Flush f files turned a b h steps = steps
taken Compact f files turned a b h steps = steps
taken Evict f files turned a b h steps = absurd (never (sym h))
taken Reap f files turned a b h steps = absurd (never (sym h))
taken Rotate f files turned a b h steps = steps

drawn_by : (kind : StepKind) (f g : StoreFacts) (r : Result Turned StoreFault) → DrawsBy kind f g r → (g.drawn ≤ f.drawn) × (g.made ≤ f.made + files_of kind) × OnOk r (IsNumbered 0 f.numbers g.numbers)
drawn_by Index f g r d = (d.drawn, omega (arith, d.made), always r d.numbers)
drawn_by Flush f g r d = (d.drawn, omega (arith, d.made), always r d.numbers)
drawn_by Compact f g r d = (d.drawn, omega (arith, d.made), d.numbers)
drawn_by Evict f g r d = (d.drawn, omega (arith, d.made), always r d.numbers)
drawn_by Reap f g r d = (d.drawn, omega (arith, d.made), always r d.numbers)
drawn_by Rotate f g r d = (d.drawn, omega (arith, d.made), always r d.numbers)

-- nothing is there to be given up
pub idle_step : (publish : List ℕ) (plain : Plain) (kind : StepKind) (f : StoreFacts) (p : Bool) (s : StoreState) (a : HostState) (m : ℕ)
    → gives_up kind ≡ true
    → plain.moment ≡ m → Shows plain s.content → s.stands → HoldsNow f s a.turn
    → Turns publish plain (Step kind) f f p s s a a (Ok (reply.Turned Idle))
idle_step publish plain kind f p s a m gives at shows stands now =
    turns_still publish plain (Step kind) f f p s s a a m (Ok (reply.Turned Idle)) at shows (omega arith) refl (λ key. refl)
    (did_step kind f f p s s a a m (Ok (reply.Turned Idle)) (did_nothing f s a p m (reply.Turned Idle) stands now))
    tt (Idle, refl, given kind f a.files f.parts gives) (λ busy. refl)

-- the store took a step
pub store_step : (publish : List ℕ) (plain : Plain) (kind : StepKind) (f g : StoreFacts) (broken : Bool) (s t : StoreState) (a b : HostState) (m : ℕ) (turned : Turned)
    → gives_up kind ≡ false → broken ≡ false
    → Stepped kind f g s t a b m (Ok turned) → DrawsBy kind f g (Ok turned)
    → plain.moment ≡ m → Shows plain s.content
    → Turns publish plain (Step kind) f g (broken || g.spoilt) s t a b (Ok (reply.Turned turned))
store_step publish plain kind f g broken s t a b m turned takes whole did draws at shows =
    turns_still publish plain (Step kind) f g (broken || g.spoilt) s t a b m (Ok (reply.Turned turned)) at shows (omega arith) refl (λ key. refl)
    record {
      stands = λ unspoilt. did.acts.stands (ap (λ (x : Bool). x || g.spoilt) (sym whole) ∙ unspoilt);
      others = did.acts.others;
      silent = did.acts.silent;
      keeps = keeps_none f a.turn b.turn m s t did.acts.keeps;
      opens = did.acts.opens;
      sound = did.acts.sound;
      undamaged = λ is d of. cc;
      spent = λ n of. cc;
      content = record { kept = did.content; at_marks = did.marks };
      refused = λ of unspoilt. cc;
      firm = λ firm key has. absurd (never has);
      drawn = omega (arith, (drawn_by kind f g (Ok turned) draws).0);
      made = omega (arith, (drawn_by kind f g (Ok turned) draws).1);
      numbers = (drawn_by kind f g (Ok turned) draws).2;
      parts = tt;
    }
    tt (turned, refl, taken kind f a.files turned f.parts g.parts takes did.parts) (λ idle. absurd (never idle))

-- the store took none, or none to its end
pub failed_step : (publish : List ℕ) (plain : Plain) (kind : StepKind) (f g : StoreFacts) (s t : StoreState) (a b : HostState) (m : ℕ) (e : StoreFault)
    → Stepped kind f g s t a b m (Err e) → DrawsBy kind f g (Err e)
    → plain.moment ≡ m → Shows plain s.content
    → Turns publish plain (Step kind) f g true s t a b (Err e)
failed_step publish plain kind f g s t a b m e did draws at shows =
    turns_still publish plain (Step kind) f g true s t a b m (Err e) at shows (omega arith) refl (λ key. refl)
    record {
      stands = λ unspoilt. absurd (never (sym unspoilt));
      others = did.acts.others;
      silent = did.acts.silent;
      keeps = keeps_none f a.turn b.turn m s t did.acts.keeps;
      opens = did.acts.opens;
      sound = did.acts.sound;
      undamaged = λ is d of. did.acts.undamaged is d (same_fault e (fault.Damaged d) of);
      spent = λ n of. did.acts.spent n (same_fault e (fault.Spent n) of);
      content = tt;
      refused = λ of unspoilt. absurd (never (sym unspoilt));
      firm = λ firm key has. absurd (never has);
      drawn = omega (arith, (drawn_by kind f g (Err e) draws).0);
      made = omega (arith, (drawn_by kind f g (Err e) draws).1);
      numbers = tt;
      parts = tt;
    }
    tt tt (λ idle. absurd (never idle))
