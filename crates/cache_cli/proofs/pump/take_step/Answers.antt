use Rattle.std.proofs.Common.{◌∙◌, suc, Err, sym, ap, subst, []}
use Rattle.std.specs.Prelude.{◌||◌, Result}
use Rattle.cache_model.specs.declared.faults.StoreFault.{StoreFault}
use Rattle.cache_model.specs.declared.replies.Status.{Status}
use Rattle.cache_session.specs.Turns.{store_of, is_broken}
use Rattle.cache_cli.specs.Talk.{plain_of}
use Rattle.cache_cli.specs.Run.{View, view_by, Pumped}
use Rattle.cache_cli.proofs.Background.{step_taken, step_ended}
use Rattle.cache_cli.proofs.Ending.{no_damage}
use Rattle.cache_cli.proofs.pump.take_step.Goals as goal
use Rattle.cache_cli.proofs.pump.take_step.Goals.{in-Ok, in-Err}

pub returns-clause-pumped : goal.returns-clause-pumped
returns-clause-pumped g c = λ tells from course ordered left talk taken pumping next room.
    let start = g.H.Host.state from in
    let a = g.H.Host.state c.args.host.now in
    let session = c.args.session.now in
    let after = c.turn.new.self in
    let old = view_by g.S.Keyed.facts g.S.Keyed.means session a in
    let at : g.row.H.Denot → View = λ host. view_by g.S.Keyed.facts g.S.Keyed.means after (g.H.Host.state host) in
    let new = at c.turn.new.host in
    let kind = c.args.pump.now.next in
    let spoilt = is_broken after || (g.S.Keyed.facts (store_of after)).spoilt in
    elim c.match-turn.branch [
      | in-Ok w ↦
          let ensures = w.in-Ok.ensures in
          let turn = ensures.turns tells [] (plain_of talk) pumping.0.moment pumping.0.standing.shows in
          let taken_one = step_taken start course ordered left talk taken old new kind spoilt pumping ensures.goes.same next room w.in-Ok.field-0 (g.met.H.Host.reads_now c.args.host.now tells) ensures.goes.unspoilt ensures.goes.goes turn in
          subst (λ (host : g.row.H.Denot). Pumped start course ordered left talk (suc taken) (at host) c.match-turn.result) (sym w.host-is)
          (subst (λ (r : Result (Unit {0}) Status). Pumped start course ordered left talk (suc taken) new r) (sym w.result-is) taken_one)
      | in-Err w ↦
          let ensures = w.in-Err.ensures in
          let x = w.in-Err.fault in
          let turn = ensures.turns tells [] (plain_of talk) pumping.0.moment pumping.0.standing.shows in
          let calm = no_damage x (λ damage is. turn.did.undamaged pumping.0.sound damage (ap (λ (y : StoreFault). Err y) is)) in
          let ended = w.end_by.ensures.plain calm in
          let out = step_ended start course ordered left talk taken old new kind spoilt pumping ensures.goes.same next room x w.end_by.result (is_broken after) ended.0 calm turn ensures.goes in
          subst (λ (host : g.row.H.Denot). Pumped start course ordered left talk (suc taken) (at host) c.match-turn.result) (sym (w.host-is ∙ ended.1))
          (subst (λ (r : Result (Unit {0}) Status). Pumped start course ordered left talk (suc taken) new r) (sym w.result-is) out)
    ]
