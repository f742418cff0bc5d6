use Rattle.std.proofs.Common.{List, ℕ, Option, Ok, Err, None, sym, subst, ap}
use Rattle.std.specs.Prelude.{IsSome}
use Rattle.cache_model.specs.Images.{log_name}
use Rattle.append_log.specs.Current.{number_of}
use Rattle.soft_index.specs.declared.running.Run.{Run}
use Rattle.soft_index.specs.Running.{spoil}
use Rattle.soft_index.specs.Store.{content_of, log_facts, log_means}
use Rattle.soft_index.specs.RunLaws.{run_grows}
use Rattle.soft_index.proofs.Acting.{acted_failed, reclaimed}
use Rattle.soft_index.proofs.Chaining.{acts_chain, acts_err, acts_or, plain_err, plain_ok}
use Rattle.soft_index.proofs.Growing.{grows_still}
use Rattle.soft_index.proofs.Indexing.{acts_alike, fault_alike}
use Rattle.soft_index.proofs.Lowered.{run_may}
use Rattle.soft_index.proofs.Turning.{plainly_then}
use Rattle.soft_index.proofs.running.reclaim.Goals as goal

pub take_away-requires-clause-there : goal.take_away-requires-clause-there
take_away-requires-clause-there g c told =
    let held = c.requires.held told in
    subst (λ (f : Option (List ℕ)). IsSome f) (sym ((c.empty.ensures.still told).files (log_name c.args.run.file))) held.runs.there

pub take_away-requires-clause-stands : goal.take_away-requires-clause-stands
take_away-requires-clause-stands g c told =
    let held = c.requires.held told in
    (held.frames, held.records, (c.in_default.ensures.told told held.frames held.records held.log).kept)

pub lower-requires-clause-stands : goal.lower-requires-clause-stands
lower-requires-clause-stands g c told =
    let held = c.requires.held told in
    let old = c.args.store.now in
    let new = c.empty.new.store in
    let a = g.H.Host.state c.args.host.now in
    let b = g.H.Host.state c.empty.new.host in
    let kept = (c.in_default.ensures.told told held.frames held.records held.log).kept in
    let grown = grows_still old new a b held.frames held.records (ap number_of c.in_default.ensures.log) (c.empty.ensures.still told) kept in
    let runs = run_grows c.args.run old new a.files b.files held.frames held.frames held.records held.records grown.grows held.runs in
    let may = run_may c.args.run new b.files held.frames held.records runs c.requires.stamped in
    (held.frames, held.records, (c.in_default-take_away.ensures.told told held.frames held.records kept may).taken)

pub returns-in-Err-clause-told : goal.returns-in-Err-clause-told
returns-in-Err-clause-told g c told stamped held =
    let old = c.args.store.now in
    let new = c.empty.new.store in
    let a = g.H.Host.state c.args.host.now in
    let b = g.H.Host.state c.empty.new.host in
    let f = c.in-Err.fault in
    record {
      acts = acts_alike {T = Unit {0}} {U = Option Run} (log_facts old) (log_facts (spoil new)) (log_means old a) (log_means (spoil new) b) a b c.args.moment (content_of old a.files) (Err f) (Err f)
          (λ e err. fault_alike {T = Option Run} {U = Unit {0}} f e err) (c.in-Err.ensures.told told held.frames held.records held.log).acts;
      content = tt;
      held = tt;
      stays = tt;
      files = tt;
      rows = tt;
    }

pub returns-in-Err-take_away-clause-told : goal.returns-in-Err-take_away-clause-told
returns-in-Err-take_away-clause-told g c told stamped held =
    let old = c.args.store.now in
    let mid = c.empty.new.store in
    let new = c.take_away.new.store in
    let a = g.H.Host.state c.args.host.now in
    let b = g.H.Host.state c.empty.new.host in
    let d = g.H.Host.state c.take_away.new.host in
    let f = c.in-Err-take_away.fault in
    let is = c.in_default.ensures.told told held.frames held.records held.log in
    let grown = grows_still old mid a b held.frames held.records (ap number_of c.in_default.ensures.log) (c.empty.ensures.still told) is.kept in
    let runs = run_grows c.args.run old mid a.files b.files held.frames held.frames held.records held.records grown.grows held.runs in
    let taken = c.in-Err-take_away.ensures.told told held.frames held.records is.kept (run_may c.args.run mid b.files held.frames held.records runs stamped) in
    record {
      acts = acts_alike {T = Unit {0}} {U = Option Run} (log_facts old) (log_facts (spoil new)) (log_means old a) (log_means (spoil new) d) a d c.args.moment (content_of old a.files) (Err f) (Err f)
          (λ e err. fault_alike {T = Option Run} {U = Unit {0}} f e err)
          (acts_chain {Q = Unit {0}} {R = Unit {0}} old mid new a b d c.args.moment tt (Err f) c.in_default.ensures.plain.same is.content is.acts (acts_or {R = Unit {0}} mid new b d c.args.moment (Err f) taken.acts));
      content = tt;
      held = tt;
      stays = tt;
      files = tt;
      rows = tt;
    }

pub returns-in-Err-take_away-clause-plain : goal.returns-in-Err-take_away-clause-plain
returns-in-Err-take_away-clause-plain g c =
    let old = log_facts c.args.store.now in
    let mid = log_facts c.empty.new.store in
    let new = log_facts c.take_away.new.store in
    let f = c.in-Err-take_away.fault in
    plainly_then {T = Unit {0}} {U = Option Run} old mid new c.args.moment (Ok tt) (Err f) c.in_default.ensures.plain (plain_err {T = Unit {0}} {U = Option Run} mid new c.args.moment f c.in-Err-take_away.ensures.plain)

pub returns-in-Ok-clause-plain : goal.returns-in-Ok-clause-plain
returns-in-Ok-clause-plain g c =
    let f = log_facts c.args.store.now in
    let mid = log_facts c.empty.new.store in
    let taken = log_facts c.take_away.new.store in
    let h = log_facts c.lower.new.store in
    plain_ok {T = Unit {0}} {U = Option Run} f h c.args.moment tt None
    (plainly_then {T = Unit {0}} {U = Unit {0}} f mid h c.args.moment (Ok tt) (Ok tt) c.in_default.ensures.plain
    (plainly_then {T = Unit {0}} {U = Unit {0}} mid taken h c.args.moment (Ok tt) (Ok tt) c.in_default-take_away.ensures.plain c.in-Ok.ensures.plain))

pub returns-clause-plain : goal.returns-clause-plain
returns-clause-plain g c =
    let f = log_facts c.args.store.now in
    let mid = log_facts c.empty.new.store in
    let taken = log_facts c.take_away.new.store in
    let h = log_facts c.lower.new.store in
    let e = c.in-Err-lower.fault in
    plain_err {T = Unit {0}} {U = Option Run} f h c.args.moment e
    (plainly_then {T = Unit {0}} {U = Unit {0}} f mid h c.args.moment (Ok tt) (Err e) c.in_default.ensures.plain
    (plainly_then {T = Unit {0}} {U = Unit {0}} mid taken h c.args.moment (Ok tt) (Err e) c.in_default-take_away.ensures.plain c.in-Err-lower.ensures.plain))

pub returns-in-Ok-clause-told : goal.returns-in-Ok-clause-told
returns-in-Ok-clause-told g c told stamped held =
    let old = c.args.store.now in
    let mid = c.empty.new.store in
    let new = c.take_away.new.store in
    let a = g.H.Host.state c.args.host.now in
    let b = g.H.Host.state c.empty.new.host in
    let is = c.in_default.ensures.told told held.frames held.records held.log in
    let grown = grows_still old mid a b held.frames held.records (ap number_of c.in_default.ensures.log) (c.empty.ensures.still told) is.kept in
    let runs = run_grows c.args.run old mid a.files b.files held.frames held.frames held.records held.records grown.grows held.runs in
    let taken = c.in_default-take_away.ensures.told told held.frames held.records is.kept (run_may c.args.run mid b.files held.frames held.records runs stamped) in
    reclaimed c.args.run old mid new c.lower.new.store a b (g.H.Host.state c.take_away.new.host) (g.H.Host.state c.lower.new.host) c.args.moment held stamped
    c.in_default.ensures.plain.same c.in_default.ensures.log (c.empty.ensures.still told) is
    c.in_default-take_away.ensures.plain.same c.in_default-take_away.ensures.rows taken
    c.in-Ok.ensures.log c.in-Ok.ensures.queued (c.lower.ensures.still told) (c.in-Ok.ensures.told told held.frames held.records taken.taken)

pub returns-clause-told : goal.returns-clause-told
returns-clause-told g c told stamped held =
    let old = c.args.store.now in
    let mid = c.empty.new.store in
    let new = c.take_away.new.store in
    let last = c.lower.new.store in
    let a = g.H.Host.state c.args.host.now in
    let b = g.H.Host.state c.empty.new.host in
    let d = g.H.Host.state c.take_away.new.host in
    let e = g.H.Host.state c.lower.new.host in
    let f = c.in-Err-lower.fault in
    let is = c.in_default.ensures.told told held.frames held.records held.log in
    let grown = grows_still old mid a b held.frames held.records (ap number_of c.in_default.ensures.log) (c.empty.ensures.still told) is.kept in
    let runs = run_grows c.args.run old mid a.files b.files held.frames held.frames held.records held.records grown.grows held.runs in
    let taken = c.in_default-take_away.ensures.told told held.frames held.records is.kept (run_may c.args.run mid b.files held.frames held.records runs stamped) in
    acted_failed c.args.run old last a e c.args.moment f
    (acts_err {Q = Unit {0}} {R = Option Run} old last a e c.args.moment f
    (acts_chain {Q = Unit {0}} {R = Unit {0}} old mid last a b e c.args.moment tt (Err f) c.in_default.ensures.plain.same is.content is.acts
    (acts_chain {Q = Unit {0}} {R = Unit {0}} mid new last b d e c.args.moment tt (Err f) c.in_default-take_away.ensures.plain.same taken.content taken.acts (c.in-Err-lower.ensures.told told held.frames held.records taken.taken).acts)))
