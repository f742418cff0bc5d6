use Rattle.std.proofs.Common.{◌∙◌, Err, Ok}
use Rattle.cache_model.specs.declared.replies.Turned.{Turned}
use Rattle.soft_index.specs.Store.{log_facts}
use Rattle.soft_index.proofs.Chaining.{plain_err}
use Rattle.soft_index.proofs.Turned.{plain_turned}
use Rattle.soft_index.proofs.Turning.{plainly_then}
use Rattle.soft_index.proofs.Whole.{whole_over, whole_refused}
use Rattle.soft_index.proofs.compacting.compact_whole.Goals as goal

pub returns-in-Err-clause-plain : goal.returns-in-Err-clause-plain
returns-in-Err-clause-plain g c =
    let f = log_facts c.args.store.now.log in
    let h = log_facts c.end_run.new.store.log in
    plain_turned {R = Turned} c.args.store.now c.end_run.new.store c.args.moment (Err c.in-Err.fault) c.end_run.ensures.goes.0 c.end_run.ensures.goes.1 (plain_err {T = Unit {0}} {U = Turned} f h c.args.moment c.in-Err.fault c.in-Err.ensures.plain)

pub returns-in-Err-clause-told : goal.returns-in-Err-clause-told
returns-in-Err-clause-told g c told =
    whole_refused c.args.file c.args.store.now c.end_run.new.store (g.H.Host.state c.args.host.now) (g.H.Host.state c.end_run.new.host) c.args.moment c.in-Err.fault (g.met.H.Host.reads_now c.end_run.new.host told) (c.in-Err.ensures.told told)

pub returns-in-Ok-clause-plain : goal.returns-in-Ok-clause-plain
returns-in-Ok-clause-plain g c =
    let f = log_facts c.args.store.now.log in
    let m = log_facts c.end_run.new.store.log in
    let last = c.compact_closed in
    let h = log_facts last.new.store.log in
    plain_turned {R = Turned} c.args.store.now last.new.store c.args.moment last.result (last.ensures.goes.0 ∙ c.end_run.ensures.goes.0) last.ensures.goes.1
    (plainly_then {T = Unit {0}} {U = Turned} f m h c.args.moment (Ok c.in-Ok.field-0) last.result c.in-Ok.ensures.plain last.ensures.plain)

pub returns-in-Ok-clause-told : goal.returns-in-Ok-clause-told
returns-in-Ok-clause-told g c told =
    whole_over c.args.file c.args.store.now c.end_run.new.store c.compact_closed.new.store (g.H.Host.state c.args.host.now) (g.H.Host.state c.end_run.new.host) (g.H.Host.state c.compact_closed.new.host) c.args.moment (g.met.H.Host.reads_now c.end_run.new.host told)
    (c.in-Ok.ensures.told told) c.in-Ok.ensures.plain.same c.compact_closed.result c.compact_closed.ensures.ended (c.compact_closed.ensures.told told)
