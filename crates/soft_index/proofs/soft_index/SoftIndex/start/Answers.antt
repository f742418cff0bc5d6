use Rattle.std.proofs.Common.{◌≡◌, ◌≤◌, ◌∙◌, ℕ, List, Option, None, ap, arith, length, refl, subst, sym}
use Rattle.data_file.specs.declared.appender.Appender.{Appender}
use Rattle.cache_model.specs.Images.{IsMark}
use Rattle.temporary_table.specs.declared.requests.Request.{Request}
use Rattle.store_trait.specs.Meaning.{Row}
use Rattle.soft_index.specs.declared.running.Run.{Run}
use Rattle.soft_index.specs.Compacting.{ByRun, CompactsAll, CompactsFile, with_run}
use Rattle.soft_index.specs.Running.{run_of}
use Rattle.soft_index.specs.Steps.{StepsIn}
use Rattle.soft_index.specs.Store.{MakesRoom, Queues, current_of, log_facts, next_file, next_of, number, row_of, writer}
use Rattle.soft_index.specs.Turns.{run_facts, run_means}
use Rattle.soft_index.specs.Rule.{Allows}
use Rattle.soft_index.proofs.Ruled.{settled_ruled}
use Rattle.soft_index.proofs.soft_index.SoftIndex.start.Goals as goal

pub returns-in-Ok-clause-settled : goal.returns-in-Ok-clause-settled
returns-in-Ok-clause-settled g c told =
    let log = c.in-Ok.log in
    let now = g.H.Host.state c.start.new.host in
    settled_ruled (run_facts log) (run_facts log) (Unit {0}) _ (Allows g.F.Fn c.args.forget) (λ key none. absurd none) (λ key none. absurd none) (run_means log now) now.turn (c.in-Ok.ensures.settled told)

pub returns-in-Err-clause-damaged : goal.returns-in-Err-clause-damaged
returns-in-Err-clause-damaged g c told damage err = c.in-Err.ensures.damaged told damage cc

-- no number is used yet above those that the store goes on with
none_made : (log : Option Appender) (number : ℕ) → log ≡ None → next_file log number ≤ number
none_made log number none = omega (arith, ap (λ (l : Option Appender). next_file l number) none)

pub returns-in-Ok-clause-started : goal.returns-in-Ok-clause-started
returns-in-Ok-clause-started g c told =
    let store = c.in-Ok.log in
    let log = store.log in
    let opened = c.in-Ok.ensures.opened told in
    let idle = c.in-Ok.ensures.idle in
    let limit = opened.goes_by.queue in
    let rows : (log_facts log).parts ≡ row_of 0 None =
    ap (λ (w : List Request). row_of (length w) (current_of (writer log) (number log))) opened.empty ∙ ap (λ (l : Option Appender). row_of 0 (current_of l (number log))) opened.made in
    record {
      stands = c.in-Ok.ensures.stands told;
      content = opened.content;
      mark_is = subst (λ (m : ℕ). IsMark (g.H.Host.state c.args.host.now).files m) (sym c.latest-mark.ensures) opened.mark_is;
      latest = sym c.latest-mark.ensures;
      undamaged = opened.sound;
      numbers = (record { sequence = next_of log; file = number log }, refl, opened.next, opened.number);
      drawn = omega arith;
      made = none_made (writer log) (number log) opened.made;
      bits = opened.goes_by.bits;
      firm = opened.goes_by.sync_writes;
      parts = ap (λ (run : Option Run). with_run (run_of run) (log_facts log).parts) idle.0 ∙ ap (λ (r : List Row). with_run None r) rows;
      moves = λ change a b. subst (λ (n : ℕ). ByRun (Queues n) a b) limit;
      empties = λ a b same. same;
      room = λ a b. subst (λ (n : ℕ). ByRun (MakesRoom n) a b) limit;
      steps = λ read kind turned a b steps.
          subst (λ (n : ℕ). StepsIn c.args.settings.now.queue n read kind turned a b) idle.1 (subst (λ (n : ℕ). StepsIn n store.threshold read kind turned a b) limit steps);
      compacts = λ read mid file turned turns a b. subst (λ (n : ℕ). CompactsFile n read mid file turned turns a b) limit;
      turns = λ read mid file rows. refl;
      compacts_all = λ read mid turns a b. subst (λ (n : ℕ). CompactsAll n read mid turns a b) limit;
      turns_all = λ read mid rows turns is. is;
      sweeps = λ read image is. is;
      counts = λ read figures a b counts. counts;
    }
