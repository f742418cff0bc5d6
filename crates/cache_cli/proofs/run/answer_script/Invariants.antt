use Rattle.std.proofs.Common.{◌≡◌, ◌-◌, ◌^◌, Bool, IsTrue}
use Rattle.cache_script.specs.LineReader.{units_taken}
use Rattle.cache_session.specs.Turns.{store_of, moment_of, is_broken, IsFit}
use Rattle.cache_cli.specs.Causes.{Unfaulted}
use Rattle.cache_cli.specs.Talk.{Course, Talk, asked_in}
use Rattle.cache_cli.specs.Run.{view_by}
use Rattle.cache_cli.specs.Steps.{IsTalkingOn, IsPaced}
use Rattle.cache_cli.proofs.run.answer_script.Given as goal

-- the session talks on, with what is left of the script
abbrev pub invariant-lines : goal.invariant-lines
invariant-lines g l = record {
  fit : IsFit (g.S.Keyed.facts (store_of l.session)) (is_broken l.session) (moment_of l.session);
  stands : IsTrue g.H.Host.tells → (g.S.Keyed.means (store_of l.session) (g.H.Host.state l.host)).stands;
  unfaulted : Unfaulted (g.H.Host.state l.fn.host) (g.H.Host.state l.host);
  read : g.I.Source.faults l.script ≡ g.I.Source.faults l.fn.script;
  talks : IsTrue g.H.Host.tells → IsTrue g.I.Source.tells → (from : g.row.H.Denot) (course : Course) (ordered : Bool) (talk : Talk)
      → IsTalkingOn (g.H.Host.state from) course ordered talk (view_by g.S.Keyed.facts g.S.Keyed.means l.fn.session (g.H.Host.state l.fn.host)) l.fn.reader (g.I.Source.rest l.fn.script)
      → IsPaced course (asked_in course talk) l.fn.pump
      → (now : Talk) × IsTalkingOn (g.H.Host.state from) course ordered now (view_by g.S.Keyed.facts g.S.Keyed.means l.session (g.H.Host.state l.host)) l.reader (g.I.Source.rest l.script)
      × IsPaced course (asked_in course now) l.pump;
}

abbrev pub decreases-lines : goal.decreases-lines
decreases-lines g l = 2 ^ 32 - units_taken l.reader
