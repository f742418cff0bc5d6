-- A count of the files, and the compaction of one or of all.
use Rattle.std.proofs.Common.{◌≡◌, ℕ, true, List, refl, sym, ◌∙◌, arith}
use Rattle.std.specs.Prelude.{Ok, Err}
use Rattle.cache_model.specs.declared.commands.Command.TheVariants.{Stats, CompactAll, CompactFile}
use Rattle.cache_model.specs.declared.faults.StoreFault.{StoreFault}
use Rattle.cache_model.specs.declared.faults.StoreFault.TheVariants as fault
use Rattle.cache_model.specs.declared.replies.Reply.TheVariants as reply
use Rattle.cache_model.specs.declared.replies.Turned.{Turned}
use Rattle.cache_model.specs.Plain.{Plain}
use Rattle.cache_disk.specs.State.{HostState}
use Rattle.store_trait.specs.Meaning.{StoreFacts, StoreState}
use Rattle.store_trait.specs.Calls.{DrawsNone, TakesNone, Figured, CompactedAll, CompactedFile}
use Rattle.cache_session.specs.Changing.{Shows}
use Rattle.cache_session.specs.Turns.{Turns, figures_of}
use Rattle.cache_session.proofs.Keeping.{keeps_none, same_fault}
use Rattle.cache_session.proofs.Turning.{never, turns_still}

module _ (publish : List ℕ) (plain : Plain) (f g : StoreFacts) (s t : StoreState) (a b : HostState) (m : ℕ) (draws : DrawsNone f g) (at : plain.moment ≡ m) (shows : Shows plain s.content) where
  -- the files were counted
  pub counted : (files bytes live : ℕ) → Figured f g s t a b m (Ok (files, bytes, live)) → Turns publish plain Stats f g g.spoilt s t a b (Ok (reply.Stats (figures_of (files, bytes, live))))
  counted files bytes live did =
      turns_still publish plain Stats f g g.spoilt s t a b m (Ok (reply.Stats (figures_of (files, bytes, live)))) at shows (omega arith) refl (λ key. refl)
      record {
        stands = did.acts.stands;
        others = did.acts.others;
        silent = did.acts.silent;
        keeps = keeps_none f a.turn b.turn m s t did.acts.keeps;
        opens = did.acts.opens;
        sound = did.acts.sound;
        undamaged = λ is d of. cc;
        spent = λ n of. cc;
        content = record { kept = did.content; at_marks = did.marks };
        refused = λ of unspoilt. cc;
        firm = λ firm key has. absurd (never has);
        drawn = omega (arith, draws.drawn);
        made = omega (arith, draws.made);
        numbers = draws.numbers;
        parts = tt;
      }
      tt ((files, bytes, live), refl, did.parts) (λ idle. absurd (never idle))

  -- they weren't, and the store is spoilt
  pub uncounted : (e : StoreFault) → Figured f g s t a b m (Err e) → g.spoilt ≡ true → Turns publish plain Stats f g g.spoilt s t a b (Err e)
  uncounted e did spoilt =
      turns_still publish plain Stats f g g.spoilt s t a b m (Err e) at shows (omega arith) refl (λ key. refl)
      record {
        stands = did.acts.stands;
        others = did.acts.others;
        silent = did.acts.silent;
        keeps = keeps_none f a.turn b.turn m s t did.acts.keeps;
        opens = did.acts.opens;
        sound = did.acts.sound;
        undamaged = λ is d of. did.acts.undamaged is d (same_fault e (fault.Damaged d) of);
        spent = λ n of. did.acts.spent n (same_fault e (fault.Spent n) of);
        content = tt;
        refused = λ of unspoilt. absurd (never (sym unspoilt ∙ spoilt));
        firm = λ firm key has. absurd (never has);
        drawn = omega (arith, draws.drawn);
        made = omega (arith, draws.made);
        numbers = tt;
        parts = tt;
      }
      tt tt (λ idle. absurd (never idle))

module _ (publish : List ℕ) (plain : Plain) (file : ℕ) (f g : StoreFacts) (s t : StoreState) (a b : HostState) (m : ℕ) (at : plain.moment ≡ m) (shows : Shows plain s.content) where
  -- the compaction of a file was answered
  pub compacted : (turned : Turned) → TakesNone f g (Ok turned) → CompactedFile file f g s t a b m (Ok turned) → Turns publish plain (CompactFile file) f g g.spoilt s t a b (Ok (reply.Turned turned))
  compacted turned takes did =
      turns_still publish plain (CompactFile file) f g g.spoilt s t a b m (Ok (reply.Turned turned)) at shows (omega arith) refl (λ key. refl)
      record {
        stands = did.acts.stands;
        others = did.acts.others;
        silent = did.acts.silent;
        keeps = keeps_none f a.turn b.turn m s t did.acts.keeps;
        opens = did.acts.opens;
        sound = did.acts.sound;
        undamaged = λ is d of. cc;
        spent = λ n of. cc;
        content = record { kept = did.content; at_marks = did.marks };
        refused = λ of unspoilt. cc;
        firm = λ firm key has. absurd (never has);
        drawn = omega (arith, takes.drawn);
        made = (did.made.0, did.made.1, omega (arith, did.made.2));
        numbers = takes.numbers;
        parts = tt;
      }
      tt (turned, refl, did.parts) (λ idle. absurd (never idle))

  -- it wasn't, and the store is spoilt
  pub uncompacted : (e : StoreFault) → TakesNone {T = Turned} f g (Err e) → CompactedFile file f g s t a b m (Err e) → g.spoilt ≡ true → Turns publish plain (CompactFile file) f g g.spoilt s t a b (Err e)
  uncompacted e takes did spoilt =
      turns_still publish plain (CompactFile file) f g g.spoilt s t a b m (Err e) at shows (omega arith) refl (λ key. refl)
      record {
        stands = did.acts.stands;
        others = did.acts.others;
        silent = did.acts.silent;
        keeps = keeps_none f a.turn b.turn m s t did.acts.keeps;
        opens = did.acts.opens;
        sound = did.acts.sound;
        undamaged = λ is d of. did.acts.undamaged is d (same_fault e (fault.Damaged d) of);
        spent = λ n of. did.acts.spent n (same_fault e (fault.Spent n) of);
        content = tt;
        refused = λ of unspoilt. absurd (never (sym unspoilt ∙ spoilt));
        firm = λ firm key has. absurd (never has);
        drawn = omega (arith, takes.drawn);
        made = (did.made.0, did.made.1, omega (arith, did.made.2));
        numbers = tt;
        parts = tt;
      }
      tt tt (λ idle. absurd (never idle))

module _ (publish : List ℕ) (plain : Plain) (f g : StoreFacts) (s t : StoreState) (a b : HostState) (m : ℕ) (at : plain.moment ≡ m) (shows : Shows plain s.content) where
  -- all files were compacted
  pub compacted_all : TakesNone {T = Unit {0}} f g (Ok tt) → CompactedAll f g s t a b m (Ok tt) → Turns publish plain CompactAll f g g.spoilt s t a b (Ok reply.Compacted)
  compacted_all takes did =
      turns_still publish plain CompactAll f g g.spoilt s t a b m (Ok reply.Compacted) at shows (omega arith) refl (λ key. refl)
      record {
        stands = did.acts.stands;
        others = did.acts.others;
        silent = did.acts.silent;
        keeps = keeps_none f a.turn b.turn m s t did.acts.keeps;
        opens = did.acts.opens;
        sound = did.acts.sound;
        undamaged = λ is d of. cc;
        spent = λ n of. cc;
        content = record { kept = did.content; at_marks = did.marks };
        refused = λ of unspoilt. cc;
        firm = λ firm key has. absurd (never has);
        drawn = omega (arith, takes.drawn);
        made = (did.made.0, did.made.1, did.made.2, did.made.3, omega (arith, did.made.4));
        numbers = takes.numbers;
        parts = tt;
      }
      refl (did.parts, did.swept) (λ idle. absurd (never idle))

  -- they weren't, and the store is spoilt
  pub uncompacted_all : (e : StoreFault) → TakesNone {T = Unit {0}} f g (Err e) → CompactedAll f g s t a b m (Err e) → g.spoilt ≡ true → Turns publish plain CompactAll f g g.spoilt s t a b (Err e)
  uncompacted_all e takes did spoilt =
      turns_still publish plain CompactAll f g g.spoilt s t a b m (Err e) at shows (omega arith) refl (λ key. refl)
      record {
        stands = did.acts.stands;
        others = did.acts.others;
        silent = did.acts.silent;
        keeps = keeps_none f a.turn b.turn m s t did.acts.keeps;
        opens = did.acts.opens;
        sound = did.acts.sound;
        undamaged = λ is d of. did.acts.undamaged is d (same_fault e (fault.Damaged d) of);
        spent = λ n of. did.acts.spent n (same_fault e (fault.Spent n) of);
        content = tt;
        refused = λ of unspoilt. absurd (never (sym unspoilt ∙ spoilt));
        firm = λ firm key has. absurd (never has);
        drawn = omega (arith, takes.drawn);
        made = (did.made.0, did.made.1, did.made.2, did.made.3, omega (arith, did.made.4));
        numbers = tt;
        parts = tt;
      }
      tt tt (λ idle. absurd (never idle))
