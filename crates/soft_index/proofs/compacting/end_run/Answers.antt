use Rattle.std.proofs.Common.{arith, rules, ◌∙◌, Err, Ok, refl, sym}
use Rattle.cache_model.specs.declared.replies.Turned.{Turned}
use Rattle.soft_index.specs.Store.{log_facts}
use Rattle.soft_index.proofs.Chaining.{plain_err, plain_ok}
use Rattle.soft_index.proofs.Ending.{gone_failed, gone_more, gone_none}
use Rattle.soft_index.proofs.Lowered.{latest_same}
use Rattle.soft_index.proofs.Turning.{plainly_then}
use Rattle.soft_index.proofs.compacting.end_run.Goals as goal

pub loop-run-init : goal.loop-run-init
loop-run-init g c =
    let ready = c.requires.ready in
    record {
      plain = record { same = latest_same c.args.store.now.log c.args.moment; usable = λ sound. ready.usable.0; unspoilt = ready.unspoilt; spoilt = tt; late = omega arith; sequence = λ n err. cc; files = λ n err. cc };
      threshold = refl;
      may = ready.usable.1;
      next = refl;
      file = omega arith;
      told = λ told. gone_none c.args.store.now (g.H.Host.state c.args.host.now) c.args.moment ready.unspoilt ready.late (c.requires.stands told);
      cause = search rules;
    }

pub returns-in-Err-clause-plain : goal.returns-in-Err-clause-plain
returns-in-Err-clause-plain g c =
    let f = log_facts c.args.store.now.log in
    let h = log_facts c.go_on.new.store.log in
    plain_err {T = Turned} {U = Unit {0}} f h c.args.moment c.in-Err.fault
    (plainly_then {T = Unit {0}} {U = Turned} f (log_facts c.loop-run.store.log) h c.args.moment (Ok tt) (Err c.in-Err.fault) c.loop-run.invariant.plain c.in-Err.ensures.plain)

pub returns-in-Err-clause-told : goal.returns-in-Err-clause-told
returns-in-Err-clause-told g c told =
    gone_failed c.args.store.now c.loop-run.store (g.H.Host.state c.args.host.now) (g.H.Host.state c.loop-run.host) c.args.moment (c.loop-run.invariant.told told) c.loop-run.invariant.plain.same
    c.go_on.new.store (g.H.Host.state c.go_on.new.host) c.in-Some.run' c.take.new.self (sym c.in-Some.ensures.value) c.in-Err.fault c.in-Err.ensures.makes (c.in-Err.ensures.told told)

pub loop-run-preserved : goal.loop-run-preserved
loop-run-preserved g c =
    let was = c.loop-run.invariant in
    let on = c.in_default-go_on in
    let f = log_facts c.args.store.now.log in
    let h = log_facts c.go_on.new.store.log in
    record {
      plain = plain_ok {T = Turned} {U = Unit {0}} f h c.args.moment on.field-0 tt (plainly_then {T = Unit {0}} {U = Turned} f (log_facts c.loop-run.store.log) h c.args.moment (Ok tt) (Ok on.field-0) was.plain on.ensures.plain);
      threshold = c.go_on.ensures.goes.0 ∙ was.threshold;
      may = c.go_on.ensures.goes.1;
      next = on.ensures.makes.next ∙ was.next;
      file = omega (arith, on.ensures.makes.file, was.file);
      told = λ told.
          gone_more c.args.store.now c.loop-run.store (g.H.Host.state c.args.host.now) (g.H.Host.state c.loop-run.host) c.args.moment (was.told told) was.plain.same
          c.go_on.new.store (g.H.Host.state c.go_on.new.host) c.in-Some.run' c.take.new.self (sym c.in-Some.ensures.value) on.field-0 on.ensures.makes (on.ensures.told told);
      cause = search rules;
    }
