use Rattle.std.proofs.Common.{true, Err, Ok, None, Option, Some, refl, subst}
use Rattle.cache_disk.proofs.Runs.{Stands-same}
use Rattle.data_file.specs.declared.scan.Scanned.{Scanned}
use Rattle.compactor.specs.Passing.{Passes}
use Rattle.soft_index.specs.declared.log_store.LogStore.{LogStore}
use Rattle.soft_index.specs.declared.running.Run.{Run}
use Rattle.soft_index.proofs.Acting.{acted_failed, acted_later, held_later, read_on, read_sound}
use Rattle.soft_index.proofs.Chaining.{still_acts_or}
use Rattle.soft_index.proofs.running.act.Goals as goal

pub reclaim-requires-clause-held : goal.reclaim-requires-clause-held
reclaim-requires-clause-held g c told =
    let a = g.H.Host.state c.args.host.now in
    held_later (Some c.args.run) c.args.store.now c.args.moment a a c.requires.ready.late (Stands-same a) (c.requires.stands told)

pub reclaim-requires-clause-stands : goal.reclaim-requires-clause-stands
reclaim-requires-clause-stands g c told =
    let a = g.H.Host.state c.args.host.now in
    let held = held_later (Some c.args.run) c.args.store.now c.args.moment a a c.requires.ready.late (Stands-same a) (c.requires.stands told) in
    (held.frames, held.records, held.log)

pub returns-then-run-clause-told : goal.returns-then-run-clause-told
returns-then-run-clause-told g c told =
    let old = c.args.store.now in
    let a = g.H.Host.state c.args.host.now in
    let held = held_later (Some c.args.run) old c.args.moment a a c.requires.ready.late (Stands-same a) (c.requires.stands told) in
    acted_later c.args.run old c.reclaim.new.store a a (g.H.Host.state c.reclaim.new.host) c.args.moment c.reclaim.result c.requires.ready.unspoilt c.requires.ready.late (Stands-same a) (c.requires.stands told)
    (c.reclaim.ensures.told told c.if-run.true held)

pub look-requires-clause-stands : goal.look-requires-clause-stands
look-requires-clause-stands g c told =
    let a = g.H.Host.state c.args.host.now in
    let b = g.H.Host.state c.next_record.new.host in
    let held = held_later (Some c.args.run) c.args.store.now c.args.moment a b c.requires.ready.late (c.next_record.ensures.told told).stands (c.requires.stands told) in
    (held.frames, held.records, held.log)

pub mark-requires-clause-stands : goal.mark-requires-clause-stands
mark-requires-clause-stands g c told =
    let a = g.H.Host.state c.args.host.now in
    let b = g.H.Host.state c.next_record.new.host in
    let held = held_later (Some c.args.run) c.args.store.now c.args.moment a b c.requires.ready.late (c.next_record.ensures.told told).stands (c.requires.stands told) in
    (held.frames, held.records, held.log)

pub returns-in-Ok-Some-clause-told : goal.returns-in-Ok-Some-clause-told
returns-in-Ok-Some-clause-told g c told =
    let old = c.args.store.now in
    let was = c.args.run in
    let a = g.H.Host.state c.args.host.now in
    let b = g.H.Host.state c.next_record.new.host in
    let passes = subst (λ (found : Option Scanned). Passes was.scan c.next_record.new.scan a b (Ok found)) c.in-Ok-Some.field-0-is (c.in-Ok-Some.ensures.told told) in
    let held = held_later (Some was) old c.args.moment a b c.requires.ready.late passes.stands (c.requires.stands told) in
    let read = read_on was c.next_record.new.scan a b (Some c.in-Ok-Some.one) c.requires.run.scans c.if-run.false (c.requires.stands told) passes in
    acted_later was old c.look.new.store a b (g.H.Host.state c.look.new.host) c.args.moment c.look.result c.requires.ready.unspoilt c.requires.ready.late passes.stands (c.requires.stands told)
    (c.look.ensures.told told was held read.0 read.1)

pub returns-in-Ok-None-clause-told : goal.returns-in-Ok-None-clause-told
returns-in-Ok-None-clause-told g c told =
    let old = c.args.store.now in
    let was = c.args.run in
    let a = g.H.Host.state c.args.host.now in
    let b = g.H.Host.state c.next_record.new.host in
    let passes = subst (λ (found : Option Scanned). Passes was.scan c.next_record.new.scan a b (Ok found)) c.in-Ok-None.field-0-is (c.in-Ok-None.ensures.told told) in
    let held = held_later (Some was) old c.args.moment a b c.requires.ready.late passes.stands (c.requires.stands told) in
    let read = read_on was c.next_record.new.scan a b None c.requires.run.scans c.if-run.false (c.requires.stands told) passes in
    acted_later was old c.mark.new.store a b (g.H.Host.state c.mark.new.host) c.args.moment c.mark.result c.requires.ready.unspoilt c.requires.ready.late passes.stands (c.requires.stands told)
    (c.mark.ensures.told told was held read.0 read.1)

pub returns-in-Err-clause-told : goal.returns-in-Err-clause-told
returns-in-Err-clause-told g c told =
    let old = c.args.store.now in
    let new : LogStore = record old { parts = record old.parts { spoilt = true }; latest = c.args.moment } in
    let a = g.H.Host.state c.args.host.now in
    let b = g.H.Host.state c.next_record.new.host in
    let held = c.requires.stands told in
    let passes = c.in-Err.ensures.told told in
    acted_failed c.args.run old new a b c.args.moment c.in-Err.fault
    (still_acts_or {R = Option Run} old new a b held.frames held.records c.args.moment (Err c.in-Err.fault) held.log c.requires.ready.unspoilt c.requires.ready.late refl passes.stands tt tt
    (λ d err. passes.undamaged (read_sound c.args.run a c.requires.run.scans c.if-run.false held) d cc) (λ s err. c.in-Err.ensures.spent s cc)).acts
