use Rattle.std.proofs.Common.{◌∙◌, Err, Option, Some, ap, refl, sym, true, ℕ}
use Rattle.std.specs.Prelude.{length}
use Rattle.soft_index.specs.declared.running.Run.{Run}
use Rattle.soft_index.specs.Store.{current_of, number, row_of, writer}
use Rattle.soft_index.proofs.Chaining.{acts_err, acts_ok, acts_or}
use Rattle.soft_index.proofs.RunRows.{marked_rows}
use Rattle.soft_index.proofs.RunTurns.{run_marked}
use Rattle.soft_index.proofs.Indexing.{same_queued}
use Rattle.soft_index.proofs.running.mark.Goals as goal

pub returns-in-Ok-clause-told : goal.returns-in-Ok-clause-told
returns-in-Ok-clause-told g c told was held read none =
    let old = c.args.store.now in
    let new = c.stamp.new.store in
    let next : Run = record c.args.run { is_stamped = true } in
    let a = g.H.Host.state c.args.host.now in
    let b = g.H.Host.state c.stamp.new.host in
    let is = c.in-Ok.ensures.told told held.frames held.records held.log in
    let rows = c.in-Ok.ensures.rows in
    record {
      acts = acts_ok {Q = Unit {0}} {R = Option Run} old new a b c.args.moment tt (Some next) is.acts;
      content = is.content;
      held = record {
        frames = is.stamped.0.fs;
        records = is.stamped.0.rs;
        log = is.stamped.0.holds;
        runs = run_marked was c.args.run next old new a b held.frames held.records c.args.moment held.runs read none refl refl refl is.stamped c.in-Ok.ensures.plain.late;
        zero = is.stamped.0.grows.zero held.zero;
      };
      stays = (is.stamped.0.grows.closed was.file held.runs.closed held.runs.there).1;
      files = record { later = is.stamped.0.grows.later; below = λ n less apart. is.stamped.0.grows.below n less };
      rows = marked_rows old.parts.requests.limit was c.args.run next old a.files held.frames held.records (length old.parts.requests.waiting) rows.2 (current_of (writer old) (number old)) _ held.runs read refl refl refl none
          (rows.4 ∙ ap (λ (q : ℕ). row_of q (Some rows.2)) (sym (same_queued (length old.parts.requests.waiting) rows.0 (current_of (writer old) (number old)) rows.1 rows.3)));
    }

pub returns-in-Err-clause-told : goal.returns-in-Err-clause-told
returns-in-Err-clause-told g c told was held read none =
    let old = c.args.store.now in
    let new = c.stamp.new.store in
    let a = g.H.Host.state c.args.host.now in
    let b = g.H.Host.state c.stamp.new.host in
    let is = c.in-Err.ensures.told told held.frames held.records held.log in
    record {
      acts = acts_err {Q = Unit {0}} {R = Option Run} old new a b c.args.moment c.in-Err.fault (acts_or {R = Unit {0}} old new a b c.args.moment (Err c.in-Err.fault) is.acts);
      content = tt;
      held = tt;
      stays = tt;
      files = tt;
      rows = tt;
    }
