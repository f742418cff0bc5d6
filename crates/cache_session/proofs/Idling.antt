-- Commands that ask nothing of the disk.
use Rattle.std.proofs.Common.{◌≡◌, ℕ, ◌≤◌, Bool, List, refl, sym, ◌∙◌, ap, subst, arith}
use Rattle.std.specs.Prelude.{Ok, if◌then◌else◌, nat_lt}
use Rattle.std.proofs.lemmas.Bool.Decides.{nat_tests}
use Rattle.cache_model.specs.declared.commands.Command.{Command}
use Rattle.cache_model.specs.declared.commands.Command.TheVariants.{At, Evict, Halt}
use Rattle.cache_model.specs.declared.replies.Reply.{Reply}
use Rattle.cache_model.specs.declared.replies.Reply.TheVariants.{Past, Done, Halted}
use Rattle.cache_model.specs.Plain.{Plain}
use Rattle.cache_disk.specs.State.{HostState}
use Rattle.store_trait.specs.Meaning.{StoreFacts, StoreState}
use Rattle.store_trait.specs.Keeping.{HoldsNow}
use Rattle.cache_session.specs.Changing.{Shows}
use Rattle.cache_session.specs.Turns.{Turns}
use Rattle.cache_session.proofs.Turning.{turns_still, did_nothing}

later_moment : (m n : ℕ) → m ≤ (if nat_lt n m then m else n)
later_moment m n = grind (arith, nat_tests)

module _ (publish : List ℕ) (plain : Plain) (command : Command) (f : StoreFacts) (p : Bool) (s : StoreState) (a : HostState) (m : ℕ)
    (at : plain.moment ≡ m) (shows : Shows plain s.content) (stands : s.stands) (now : HoldsNow f s a.turn) where
  pub at_turns : (wanted : ℕ) (reply : Reply) → command ≡ At wanted → reply ≡ (if nat_lt wanted m then Past m else Done) → Turns publish plain command f f p s s a a (Ok reply)
  at_turns wanted reply is answer =
      subst (λ (x : Command). Turns publish plain x f f p s s a a (Ok reply)) (sym is)
      (turns_still publish plain (At wanted) f f p s s a a m (Ok reply) at shows (later_moment plain.moment wanted) refl (λ key. refl)
      (did_nothing f s a p m reply stands now)
      (answer ∙ ap (λ (x : ℕ). if nat_lt wanted x then Past x else Done) (sym at)) tt (λ idle. refl))

  pub evict_turns : (key : List ℕ) → command ≡ Evict key → Turns publish plain command f f p s s a a (Ok Done)
  evict_turns key is =
      subst (λ (x : Command). Turns publish plain x f f p s s a a (Ok Done)) (sym is)
      (turns_still publish plain (Evict key) f f p s s a a m (Ok Done) at shows (omega arith) refl (λ key. refl) (did_nothing f s a p m Done stands now) refl tt (λ idle. refl))

  pub halt_turns : command ≡ Halt → Turns publish plain command f f p s s a a (Ok Halted)
  halt_turns is =
      subst (λ (x : Command). Turns publish plain x f f p s s a a (Ok Halted)) (sym is)
      (turns_still publish plain Halt f f p s s a a m (Ok Halted) at shows (omega arith) refl (λ key. refl) (did_nothing f s a p m Halted stands now) refl tt (λ idle. refl))
