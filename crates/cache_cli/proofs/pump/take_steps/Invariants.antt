use Rattle.std.proofs.Common.{◌≡◌, ℕ, ◌+◌, ◌≤◌, Bool, List, IsTrue}
use Rattle.cache_session.specs.Turns.{store_of, moment_of, is_broken, IsFit}
use Rattle.cache_cli.specs.Causes.{Unfaulted}
use Rattle.cache_cli.specs.Pump.{background_step}
use Rattle.cache_cli.specs.Talk.{Course, Talk, asked_in}
use Rattle.cache_cli.specs.Run.{view_by, IsPumping}
use Rattle.cache_cli.proofs.pump.take_steps.Given as goal

-- so many steps were taken
abbrev pub invariant-steps : goal.invariant-steps
invariant-steps g l = record {
  fit : IsFit (g.S.Keyed.facts (store_of l.session)) (is_broken l.session) (moment_of l.session);
  stands : IsTrue g.H.Host.tells → (g.S.Keyed.means (store_of l.session) (g.H.Host.state l.host)).stands;
  unfaulted : Unfaulted (g.H.Host.state l.fn.host) (g.H.Host.state l.host);
  count : l.pump.count ≡ l.fn.pump.count;
  next : (taken : ℕ) → l.fn.pump.next ≡ background_step taken → l.pump.next ≡ background_step (taken + l.counter);
  pumping : IsTrue g.H.Host.tells → (from : g.row.H.Denot) (course : Course) (ordered : Bool) (left : List (List ℕ)) (talk : Talk) (taken : ℕ)
      → IsPumping (g.H.Host.state from) course ordered left talk taken (view_by g.S.Keyed.facts g.S.Keyed.means l.fn.session (g.H.Host.state l.fn.host))
      → l.fn.pump.next ≡ background_step taken → taken + l.fn.pump.count ≤ asked_in course talk
      → IsPumping (g.H.Host.state from) course ordered left talk (taken + l.counter) (view_by g.S.Keyed.facts g.S.Keyed.means l.session (g.H.Host.state l.host));
}
