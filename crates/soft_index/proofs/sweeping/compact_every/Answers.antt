use Rattle.std.proofs.Common.{◌∙◌, Err, Ok, ap, subst, sym}
use Rattle.cache_model.specs.declared.replies.Turned.{Turned}
use Rattle.cache_model.specs.declared.faults.StoreFault.TheVariants as fault
use Rattle.file_stats.specs.Figures.{numbers_of}
use Rattle.soft_index.specs.Running.{HoldsRun}
use Rattle.soft_index.specs.Store.{log_facts}
use Rattle.soft_index.specs.Sweeping.{AreToSweep, HasSwept}
use Rattle.soft_index.proofs.Chaining.{acts_or, plain_err}
use Rattle.soft_index.proofs.Every.{all_to_sweep, cleared, empty_failed, every_refused, every_swept, numbers_refused, plain_memory, rotate_failed}
use Rattle.soft_index.proofs.Turned.{plain_turned}
use Rattle.soft_index.proofs.Turning.{plainly_then}
use Rattle.soft_index.proofs.sweeping.compact_every.Goals as goal

pub returns-in-Err-clause-plain : goal.returns-in-Err-clause-plain
returns-in-Err-clause-plain g c =
    plain_turned {R = Unit {0}} c.args.store.now c.end_run.new.store c.args.moment (Err c.in-Err.fault) c.end_run.ensures.goes.0 c.end_run.ensures.goes.1 c.in-Err.ensures.plain

pub returns-in-Err-clause-told : goal.returns-in-Err-clause-told
returns-in-Err-clause-told g c told =
    let held = c.requires.stands told in
    let ended = c.in-Err.ensures.told told in
    every_refused c.args.store.now (g.H.Host.state c.args.host.now) held.frames held.records held.log (g.met.H.Host.reads_now c.args.host.now told) c.args.moment c.end_run.new.store (g.H.Host.state c.end_run.new.host) c.in-Err.fault ended.acts ended.made

pub returns-in-Err-rotate-clause-plain : goal.returns-in-Err-rotate-clause-plain
returns-in-Err-rotate-clause-plain g c =
    let f = log_facts c.args.store.now.log in
    let x = log_facts c.end_run.new.store.log in
    let y = log_facts c.rotate.new.store in
    plain_turned {R = Unit {0}} c.args.store.now (record c.end_run.new.store { log = c.rotate.new.store }) c.args.moment (Err c.in-Err-rotate.fault) c.end_run.ensures.goes.0 c.end_run.ensures.goes.1
    (plain_err {T = Turned} {U = Unit {0}} f y c.args.moment c.in-Err-rotate.fault (plainly_then {T = Unit {0}} {U = Turned} f x y c.args.moment (Ok c.in_default.field-0) (Err c.in-Err-rotate.fault) c.in_default.ensures.plain c.in-Err-rotate.ensures.plain))

pub returns-in-Err-rotate-clause-told : goal.returns-in-Err-rotate-clause-told
returns-in-Err-rotate-clause-told g c told =
    let held = c.requires.stands told in
    let a = g.H.Host.state c.args.host.now in
    let b = g.H.Host.state c.end_run.new.host in
    let d = g.H.Host.state c.rotate.new.host in
    let so =
    rotate_failed c.args.store.now c.end_run.new.store c.rotate.new.store a b d c.args.moment (c.in_default.ensures.told told) c.in_default.ensures.plain.same c.in-Err-rotate.ensures.draws c.in-Err-rotate.fault
    (acts_or {R = Turned} c.end_run.new.store.log c.rotate.new.store b d c.args.moment (Err c.in-Err-rotate.fault) (c.in-Err-rotate.ensures.told told).acts) in
    every_refused c.args.store.now a held.frames held.records held.log (g.met.H.Host.reads_now c.args.host.now told) c.args.moment (record c.end_run.new.store { log = c.rotate.new.store }) d c.in-Err-rotate.fault so.0 so.1

pub returns-in-Err-empty-clause-plain : goal.returns-in-Err-empty-clause-plain
returns-in-Err-empty-clause-plain g c =
    let f = log_facts c.args.store.now.log in
    let x = log_facts c.end_run.new.store.log in
    let y = log_facts c.rotate.new.store in
    let z = log_facts c.empty.new.store in
    plain_turned {R = Unit {0}} c.args.store.now (record c.end_run.new.store { log = c.empty.new.store }) c.args.moment (Err c.in-Err-empty.fault) c.end_run.ensures.goes.0 c.end_run.ensures.goes.1
    (
    plainly_then {T = Turned} {U = Unit {0}} f y z c.args.moment (Ok c.in_default-rotate.field-0) (Err c.in-Err-empty.fault)
    (plainly_then {T = Unit {0}} {U = Turned} f x y c.args.moment (Ok c.in_default.field-0) (Ok c.in_default-rotate.field-0) c.in_default.ensures.plain c.in_default-rotate.ensures.plain) c.in-Err-empty.ensures.plain
    )

pub returns-in-Err-empty-clause-told : goal.returns-in-Err-empty-clause-told
returns-in-Err-empty-clause-told g c told =
    let held = c.requires.stands told in
    let a = g.H.Host.state c.args.host.now in
    let b = g.H.Host.state c.end_run.new.host in
    let m = g.H.Host.state c.rotate.new.host in
    let d = g.H.Host.state c.empty.new.host in
    let ended = c.in_default.ensures.told told in
    let grown = c.in_default-rotate.ensures.grows told (c.in_default-rotate.ensures.plain.unspoilt) ended.held.frames ended.held.records ended.held.log in
    let so =
    empty_failed c.args.store.now c.end_run.new.store c.rotate.new.store a b m c.args.moment ended c.in_default.ensures.plain.same c.in_default-rotate.ensures.draws c.in_default-rotate.field-0 (c.in_default-rotate.ensures.told told).acts
    (c.in_default-rotate.ensures.content told) c.in_default-rotate.ensures.plain.same c.empty.new.store d grown.fs grown.rs c.in-Err-empty.ensures.draws c.in-Err-empty.fault (c.in-Err-empty.ensures.told told grown.fs grown.rs grown.holds) in
    every_refused c.args.store.now a held.frames held.records held.log (g.met.H.Host.reads_now c.args.host.now told) c.args.moment (record c.end_run.new.store { log = c.empty.new.store }) d c.in-Err-empty.fault so.0 so.1

pub returns-in_default-numbers-clause-plain : goal.returns-in_default-numbers-clause-plain
returns-in_default-numbers-clause-plain g c =
    let f = log_facts c.args.store.now.log in
    let x = log_facts c.end_run.new.store.log in
    let y = log_facts c.rotate.new.store in
    let z = log_facts c.empty.new.store in
    plain_turned {R = Unit {0}} c.args.store.now (record c.end_run.new.store { log = c.empty.new.store }) c.args.moment (Err _) c.end_run.ensures.goes.0 c.end_run.ensures.goes.1
    (
    plain_memory {T = Unit {0}} f z c.args.moment c.in_default-empty.field-0
    (
    plainly_then {T = Turned} {U = Unit {0}} f y z c.args.moment (Ok c.in_default-rotate.field-0) (Ok c.in_default-empty.field-0)
    (plainly_then {T = Unit {0}} {U = Turned} f x y c.args.moment (Ok c.in_default.field-0) (Ok c.in_default-rotate.field-0) c.in_default.ensures.plain c.in_default-rotate.ensures.plain) c.in_default-empty.ensures.plain
    )
    )

pub returns-in_default-numbers-clause-told : goal.returns-in_default-numbers-clause-told
returns-in_default-numbers-clause-told g c told =
    let held = c.requires.stands told in
    let a = g.H.Host.state c.args.host.now in
    let b = g.H.Host.state c.end_run.new.host in
    let m = g.H.Host.state c.rotate.new.host in
    let d = g.H.Host.state c.empty.new.host in
    let w = record c.end_run.new.store { log = c.empty.new.store } in
    let ended = c.in_default.ensures.told told in
    let turned = c.in_default-rotate in
    let last = c.in_default-empty.ensures in
    let grown = turned.ensures.grows told turned.ensures.plain.unspoilt ended.held.frames ended.held.records ended.held.log in
    let all =
    cleared c.args.store.now c.end_run.new.store c.rotate.new.store a b m c.args.moment ended c.in_default.ensures.plain.same turned.ensures.draws turned.field-0 (turned.ensures.told told).acts (turned.ensures.content told) turned.ensures.plain.same
    c.empty.new.store d grown.fs grown.rs last.draws turned.ensures.rows turned.ensures.next (grown.grows.zero ended.held.zero) (last.still told) last.plain.same last.log last.emptied (last.told told grown.fs grown.rs grown.holds) in
    every_refused c.args.store.now a held.frames held.records held.log (g.met.H.Host.reads_now c.args.host.now told) c.args.moment w d fault.Memory
    (numbers_refused c.args.store.now w a d c.args.moment all held.frames held.records held.log last.plain.unspoilt last.latest) all.made

pub sweep-requires-clause-stands : goal.sweep-requires-clause-stands
sweep-requires-clause-stands g c told =
    let held = c.requires.stands told in
    let a = g.H.Host.state c.args.host.now in
    let b = g.H.Host.state c.end_run.new.host in
    let m = g.H.Host.state c.rotate.new.host in
    let d = g.H.Host.state c.empty.new.host in
    let w = record c.end_run.new.store { log = c.empty.new.store } in
    let ended = c.in_default.ensures.told told in
    let turned = c.in_default-rotate in
    let last = c.in_default-empty.ensures in
    let grown = turned.ensures.grows told turned.ensures.plain.unspoilt ended.held.frames ended.held.records ended.held.log in
    let all =
    cleared c.args.store.now c.end_run.new.store c.rotate.new.store a b m c.args.moment ended c.in_default.ensures.plain.same turned.ensures.draws turned.field-0 (turned.ensures.told told).acts (turned.ensures.content told) turned.ensures.plain.same
    c.empty.new.store d grown.fs grown.rs last.draws turned.ensures.rows turned.ensures.next (grown.grows.zero ended.held.zero) (last.still told) last.plain.same last.log last.emptied (last.told told grown.fs grown.rs grown.holds) in
    subst (λ r. HoldsRun r c.empty.new.store d) (sym c.in_default.ensures.ended) all.held

pub returns-clause-plain : goal.returns-clause-plain
returns-clause-plain g c =
    let f = log_facts c.args.store.now.log in
    let x = log_facts c.end_run.new.store.log in
    let y = log_facts c.rotate.new.store in
    let z = log_facts c.empty.new.store in
    plain_turned {R = Unit {0}} c.args.store.now c.sweep.new.store c.args.moment c.sweep.result (c.sweep.ensures.goes.0 ∙ c.end_run.ensures.goes.0) c.sweep.ensures.goes.1
    (
    plainly_then {T = Unit {0}} {U = Unit {0}} f z (log_facts c.sweep.new.store.log) c.args.moment (Ok c.in_default-empty.field-0) c.sweep.result
    (
    plainly_then {T = Turned} {U = Unit {0}} f y z c.args.moment (Ok c.in_default-rotate.field-0) (Ok c.in_default-empty.field-0)
    (plainly_then {T = Unit {0}} {U = Turned} f x y c.args.moment (Ok c.in_default.field-0) (Ok c.in_default-rotate.field-0) c.in_default.ensures.plain c.in_default-rotate.ensures.plain) c.in_default-empty.ensures.plain
    )
    c.sweep.ensures.plain
    )

pub returns-clause-told : goal.returns-clause-told
returns-clause-told g c told =
    let held = c.requires.stands told in
    let a = g.H.Host.state c.args.host.now in
    let b = g.H.Host.state c.end_run.new.host in
    let m = g.H.Host.state c.rotate.new.host in
    let d = g.H.Host.state c.empty.new.host in
    let w = record c.end_run.new.store { log = c.empty.new.store } in
    let ended = c.in_default.ensures.told told in
    let turned = c.in_default-rotate in
    let last = c.in_default-empty.ensures in
    let grown = turned.ensures.grows told turned.ensures.plain.unspoilt ended.held.frames ended.held.records ended.held.log in
    let all =
    cleared c.args.store.now c.end_run.new.store c.rotate.new.store a b m c.args.moment ended c.in_default.ensures.plain.same turned.ensures.draws turned.field-0 (turned.ensures.told told).acts (turned.ensures.content told) turned.ensures.plain.same
    c.empty.new.store d grown.fs grown.rs last.draws turned.ensures.rows turned.ensures.next (grown.grows.zero ended.held.zero) (last.still told) last.plain.same last.log last.emptied (last.told told grown.fs grown.rs grown.holds) in
    let e = g.H.Host.state c.sweep.new.host in
    let listed = c.in-Ok.ensures ∙ ap numbers_of c.rows.ensures.rows in
    let to = subst (λ l. AreToSweep l c.empty.new.store d.files) (sym listed) (all_to_sweep c.args.store.now w a d c.args.moment all held.frames held.records held.log) in
    every_swept c.args.store.now w a d c.args.moment all held.frames held.records held.log c.sweep.new.store e (g.met.H.Host.reads_now c.empty.new.host told) c.sweep.result c.sweep.ensures.ended
    (subst (λ l. HasSwept l w c.sweep.new.store d e c.args.moment c.sweep.result) listed (c.sweep.ensures.told told to))
