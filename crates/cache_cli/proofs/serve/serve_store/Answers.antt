use Rattle.std.proofs.Common.{refl, true, ap, inl, Err, arith}
use Rattle.cache_model.specs.declared.faults.StoreFault.{StoreFault}
use Rattle.cache_model.specs.Lines.{lines_of}
use Rattle.cache_session.specs.Turns.{store_of}
use Rattle.cache_cli.specs.Serving.{course_by}
use Rattle.cache_cli.proofs.Serving.{still_then, started_same, opened_by, begins, later_of, later_fits, serves_whole, serves_early, serves_damage, index_spent, store_in_range}
use Rattle.cache_cli.proofs.Same.{damage_same}
use Rattle.cache_cli.proofs.serve.serve_store.Goals as goal

pub start-requires-clause-settings : goal.start-requires-clause-settings
start-requires-clause-settings g c = store_in_range c.args.settings.now c.requires.range

pub run_store-ran-requires-clause-ready : goal.run_store-ran-requires-clause-ready
run_store-ran-requires-clause-ready g c = record {
  unspoilt = c.in-Ok.ensures.ready.unspoilt;
  usable = c.in-Ok.ensures.ready.usable;
  late = omega (arith, c.in-Ok.ensures.ready.late, later_of c.start_moment-moment.result c.args.given c.in-Ok.mark c.start_moment-moment.ensures);
  moment_fits = later_fits c.start_moment-moment.result c.args.given c.in-Ok.mark c.start_moment-moment.ensures c.requires.given c.in-Ok.ensures.ready.moment_fits;
}

pub run_store-ran-requires-clause-stands : goal.run_store-ran-requires-clause-stands
run_store-ran-requires-clause-stands g c = λ tells. (c.in-Ok.ensures.started tells).stands

pub returns-in-Ok-result-clause-serves : goal.returns-in-Ok-result-clause-serves
returns-in-Ok-result-clause-serves g c = λ tells told from stands.
    let start = g.H.Host.state from in
    let a = g.H.Host.state c.args.host.now in
    let mid = g.H.Host.state c.start.new.host in
    let lines = lines_of (g.I.Source.rest c.args.script.now) in
    let course = course_by c.args.settings.now start c.args.given lines in
    let store = c.in-Ok.store in
    let read = still_then start a mid stands (c.in-Ok.ensures.read tells) in
    let started = started_same start.files a.files c.args.settings.now _ _ c.in-Ok.mark stands.files (c.in-Ok.ensures.started tells) in
    let opened = opened_by c.args.settings.now start mid _ _ c.in-Ok.mark read started (c.in-Ok.ensures.settled tells) in
    let finished = c.run_store-ran.ensures.finished tells told course true refl refl
    (begins c.args.settings.now start mid c.args.given c.start_moment-moment.result c.in-Ok.mark lines _ _ opened
    tt refl c.start_moment-moment.ensures) in
    serves_whole start mid course _ _ finished c.in-Ok-result.is refl read (λ t image content mark left reads marked. inl (record { image = image; left = left; reads = reads; marked = marked })) (λ t image opens left. opens image left)

pub returns-in-Ok-clause-serves : goal.returns-in-Ok-clause-serves
returns-in-Ok-clause-serves g c = λ tells told from stands.
    let start = g.H.Host.state from in
    let a = g.H.Host.state c.args.host.now in
    let mid = g.H.Host.state c.start.new.host in
    let lines = lines_of (g.I.Source.rest c.args.script.now) in
    let course = course_by c.args.settings.now start c.args.given lines in
    let store = c.in-Ok.store in
    let read = still_then start a mid stands (c.in-Ok.ensures.read tells) in
    let started = started_same start.files a.files c.args.settings.now _ _ c.in-Ok.mark stands.files (c.in-Ok.ensures.started tells) in
    let opened = opened_by c.args.settings.now start mid _ _ c.in-Ok.mark read started (c.in-Ok.ensures.settled tells) in
    let finished = c.run_store-ran.ensures.finished tells told course true refl refl
    (begins c.args.settings.now start mid c.args.given c.start_moment-moment.result c.in-Ok.mark lines _ _ opened
    tt refl c.start_moment-moment.ensures) in
    serves_early start mid course _ c.in-Err.status _ finished c.in-Err.is refl read refl (λ s spent. index_spent (store_of c.run_store-ran.result.session) (g.H.Host.state c.run_store-ran.new.host) s spent) (λ t image content mark left reads marked. inl (record { image = image; left = left; reads = reads; marked = marked })) (λ t image opens left. opens image left)

pub returns-clause-serves : goal.returns-clause-serves
returns-clause-serves g c = λ tells told from stands.
    let start = g.H.Host.state from in
    let a = g.H.Host.state c.args.host.now in
    let mid = g.H.Host.state c.start.new.host in
    let damage = c.in-Err-Damaged.damage in
    serves_damage start mid (g.H.Host.state c.tell_damage.new.host) (course_by c.args.settings.now start c.args.given (lines_of (g.I.Source.rest c.args.script.now))) damage c.tell_damage.result refl refl
    (g.met.H.Host.reads_now from tells) (still_then start a mid stands (c.in-Err-Damaged.ensures.read tells)) (c.tell_damage.ensures.still tells)
    (damage_same start.files a.files stands.files damage (c.in-Err-Damaged.ensures.damaged tells damage (ap (λ (f : StoreFault). Err f) c.in-Err-Damaged.field-0-is))) (c.tell_damage.ensures.tells tells)
