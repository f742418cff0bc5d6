use Rattle.std.proofs.Common.{Err, Ok, Option, subst}
use Rattle.cache_model.specs.declared.replies.Turned.{Turned}
use Rattle.cache_model.specs.declared.replies.Turned.TheVariants.{Done, Idle}
use Rattle.soft_index.specs.declared.running.Run.{Run}
use Rattle.soft_index.specs.Running.{HasBegunOver}
use Rattle.soft_index.specs.Store.{log_facts}
use Rattle.soft_index.proofs.Chaining.{plain_err, plain_ok}
use Rattle.soft_index.proofs.Over.{over_begun_failed, over_done, over_failed, over_idle}
use Rattle.soft_index.proofs.Turning.{plainly_then}
use Rattle.soft_index.proofs.compacting.compact_closed.Goals as goal

pub returns-in-Err-clause-plain : goal.returns-in-Err-clause-plain
returns-in-Err-clause-plain g c = plain_err {T = Option Run} {U = Turned} (log_facts c.args.store.now.log) (log_facts c.begin_over.new.store) c.args.moment c.in-Err.fault c.in-Err.ensures.plain

pub returns-in-Ok-None-clause-plain : goal.returns-in-Ok-None-clause-plain
returns-in-Ok-None-clause-plain g c = plain_ok {T = Option Run} {U = Turned} (log_facts c.args.store.now.log) (log_facts c.begin_over.new.store) c.args.moment c.in-Ok-None.field-0 Idle c.in-Ok-None.ensures.plain

pub returns-in-Ok-clause-plain : goal.returns-in-Ok-clause-plain
returns-in-Ok-clause-plain g c =
    let f = log_facts c.args.store.now.log in
    let m = log_facts c.begin_over.new.store in
    let h = log_facts c.end_run.new.store.log in
    plain_ok {T = Unit {0}} {U = Turned} f h c.args.moment c.in-Ok.field-0 Done (plainly_then {T = Option Run} {U = Unit {0}} f m h c.args.moment (Ok c.in-Ok-Some.field-0) (Ok c.in-Ok.field-0) c.in-Ok-Some.ensures.plain c.in-Ok.ensures.plain)

pub returns-in-Err-end_run-clause-plain : goal.returns-in-Err-end_run-clause-plain
returns-in-Err-end_run-clause-plain g c =
    let f = log_facts c.args.store.now.log in
    let m = log_facts c.begin_over.new.store in
    let h = log_facts c.end_run.new.store.log in
    let e = c.in-Err-end_run.fault in
    plain_err {T = Unit {0}} {U = Turned} f h c.args.moment e (plainly_then {T = Option Run} {U = Unit {0}} f m h c.args.moment (Ok c.in-Ok-Some.field-0) (Err e) c.in-Ok-Some.ensures.plain c.in-Err-end_run.ensures.plain)

pub returns-in-Err-clause-told : goal.returns-in-Err-clause-told
returns-in-Err-clause-told g c told =
    over_begun_failed c.args.file c.args.store.now c.begin_over.new.store (g.H.Host.state c.args.host.now) (g.H.Host.state c.begin_over.new.host) c.args.moment c.begin_over.ensures.draws c.in-Err.fault (c.in-Err.ensures.told told)

pub returns-in-Ok-None-clause-told : goal.returns-in-Ok-None-clause-told
returns-in-Ok-None-clause-told g c told =
    let new = c.begin_over.new.store in
    let a = g.H.Host.state c.args.host.now in
    let b = g.H.Host.state c.begin_over.new.host in
    over_idle c.args.file c.args.store.now new a b c.args.moment c.begin_over.ensures.draws c.in-Ok-None.ensures.number
    (subst (λ (found : Option Run). HasBegunOver c.args.file c.args.store.now.log new a b c.args.moment (Ok found)) c.in-Ok-None.field-0-is (c.in-Ok-None.ensures.told told))

pub returns-in-Ok-clause-told : goal.returns-in-Ok-clause-told
returns-in-Ok-clause-told g c told =
    let new = c.begin_over.new.store in
    let a = g.H.Host.state c.args.host.now in
    let b = g.H.Host.state c.begin_over.new.host in
    over_done c.args.file c.args.store.now new a b c.args.moment c.begin_over.ensures.draws c.in-Ok-Some.run' c.end_run.new.store (g.H.Host.state c.end_run.new.host) c.in-Ok-Some.ensures.number
    (subst (λ (found : Option Run). HasBegunOver c.args.file c.args.store.now.log new a b c.args.moment (Ok found)) c.in-Ok-Some.field-0-is (c.in-Ok-Some.ensures.told told))
    c.in-Ok-Some.ensures.plain.same (c.in-Ok.ensures.told told)

pub returns-in-Err-end_run-clause-told : goal.returns-in-Err-end_run-clause-told
returns-in-Err-end_run-clause-told g c told =
    let new = c.begin_over.new.store in
    let a = g.H.Host.state c.args.host.now in
    let b = g.H.Host.state c.begin_over.new.host in
    over_failed c.args.file c.args.store.now new a b c.args.moment c.begin_over.ensures.draws c.in-Ok-Some.run' c.end_run.new.store (g.H.Host.state c.end_run.new.host) c.in-Ok-Some.ensures.number
    (subst (λ (found : Option Run). HasBegunOver c.args.file c.args.store.now.log new a b c.args.moment (Ok found)) c.in-Ok-Some.field-0-is (c.in-Ok-Some.ensures.told told))
    c.in-Ok-Some.ensures.plain.same c.in-Err-end_run.fault (c.in-Err-end_run.ensures.told told)
