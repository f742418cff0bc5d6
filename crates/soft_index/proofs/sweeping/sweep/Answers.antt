use Rattle.std.proofs.Common.{◌≡◌, ◌∙◌, ap, ◌++◌, ◌∷◌, arith, rules, Err, None, Ok, [], refl, subst, sym}
use Rattle.std.specs.Vec.Iter.{into_iter_items}
use Rattle.std.proofs.lemmas.List.{append_assoc}
use Rattle.cache_model.specs.declared.replies.Turned.{Turned}
use Rattle.soft_index.specs.Running.{HoldsRun}
use Rattle.soft_index.specs.Store.{log_facts}
use Rattle.soft_index.specs.Sweeping.{HasSwept}
use Rattle.soft_index.proofs.Acting.{held_later}
use Rattle.cache_disk.proofs.Runs.{Stands-same}
use Rattle.soft_index.proofs.Chaining.{plain_err, plain_ok}
use Rattle.soft_index.proofs.Lowered.{latest_same}
use Rattle.soft_index.proofs.Swept.{next_swept, swept_failed, swept_more, swept_none}
use Rattle.soft_index.proofs.Turning.{plainly_then}
use Rattle.soft_index.proofs.sweeping.sweep.Goals as goal

pub loop-file-init : goal.loop-file-init
loop-file-init g c =
    let ready = c.requires.ready in
    record {
      done = [];
      split = sym c.into_iter-file-iterator.ensures.into_iter_gives.0;
      plain = record { same = latest_same c.args.store.now.log c.args.moment; usable = λ sound. ready.usable.0; unspoilt = ready.unspoilt; spoilt = tt; late = omega arith; sequence = λ n err. cc; files = λ n err. cc };
      threshold = refl;
      may = ready.usable.1;
      ended = c.requires.none;
      next = refl;
      file = omega arith;
      held = λ told.
          let a = g.H.Host.state c.args.host.now in
          held_later None c.args.store.now.log c.args.moment a a ready.late (Stands-same a) (subst (λ r. HoldsRun r c.args.store.now.log a) c.requires.none (c.requires.stands told));
      told = λ told to. swept_none c.args.store.now (g.H.Host.state c.args.host.now) c.args.moment ready.unspoilt ready.late c.requires.none (c.requires.stands told);
      cause = search rules;
    }

pub returns-in-Err-clause-plain : goal.returns-in-Err-clause-plain
returns-in-Err-clause-plain g c =
    let f = log_facts c.args.store.now.log in
    let h = log_facts c.compact_closed.new.store.log in
    plain_err {T = Turned} {U = Unit {0}} f h c.args.moment c.in-Err.fault
    (plainly_then {T = Unit {0}} {U = Turned} f (log_facts c.loop-file.store.log) h c.args.moment (Ok tt) (Err c.in-Err.fault) c.loop-file.invariant.plain c.in-Err.ensures.plain)

pub returns-in-Err-clause-told : goal.returns-in-Err-clause-told
returns-in-Err-clause-told g c told to =
    let was = c.loop-file.invariant in
    let rest = into_iter_items c.next.new.self in
    let split : c.args.files.items ≡ was.done ++ c.in-Some.file ∷ rest = was.split ∙ ap (λ l. was.done ++ l) c.in-Some.ensures.steps.0 in
    let next = next_swept c.args.files.items was.done c.in-Some.file rest c.args.store.now.log (g.H.Host.state c.args.host.now).files to split in
    subst (λ l. HasSwept l c.args.store.now c.compact_closed.new.store (g.H.Host.state c.args.host.now) (g.H.Host.state c.compact_closed.new.host) c.args.moment (Err c.in-Err.fault)) (sym split)
    (
    swept_failed was.done c.in-Some.file c.args.store.now c.loop-file.store c.compact_closed.new.store (g.H.Host.state c.args.host.now) (g.H.Host.state c.loop-file.host) (g.H.Host.state c.compact_closed.new.host) c.args.moment
    (was.told told to) was.plain.same next.less next.other rest c.in-Err.fault (c.in-Err.ensures.told told)
    )

pub loop-file-preserved : goal.loop-file-preserved
loop-file-preserved g c =
    let was = c.loop-file.invariant in
    let on = c.in_default in
    let f = log_facts c.args.store.now.log in
    let h = log_facts c.compact_closed.new.store.log in
    let rest = into_iter_items c.next.new.self in
    let split : c.args.files.items ≡ was.done ++ c.in-Some.file ∷ rest = was.split ∙ ap (λ l. was.done ++ l) c.in-Some.ensures.steps.0 in
    record {
      done = was.done ++ c.in-Some.file ∷ [];
      split = split ∙ sym (append_assoc was.done (c.in-Some.file ∷ []) rest);
      plain = plain_ok {T = Turned} {U = Unit {0}} f h c.args.moment on.field-0 tt (plainly_then {T = Unit {0}} {U = Turned} f (log_facts c.loop-file.store.log) h c.args.moment (Ok tt) (Ok on.field-0) was.plain on.ensures.plain);
      threshold = c.compact_closed.ensures.goes.0 ∙ was.threshold;
      may = c.compact_closed.ensures.goes.1;
      ended = on.ensures.ended;
      next = on.ensures.next.next ∙ was.next;
      file = omega (arith, on.ensures.next.file, was.file);
      held = λ told. (on.ensures.told told).held;
      told = λ told to.
          let next = next_swept c.args.files.items was.done c.in-Some.file rest c.args.store.now.log (g.H.Host.state c.args.host.now).files to split in
          swept_more was.done c.in-Some.file c.args.store.now c.loop-file.store c.compact_closed.new.store (g.H.Host.state c.args.host.now) (g.H.Host.state c.loop-file.host) (g.H.Host.state c.compact_closed.new.host) c.args.moment
          (was.told told to) was.plain.same next.less next.other next.there on.field-0 next.lower (on.ensures.told told);
      cause = search rules;
    }
