use Rattle.std.proofs.Common.{◌≡◌, ◌∙◌, Bool, Err, Ok, ap, refl, sym, true, false}
use Rattle.cache_model.specs.declared.faults.StoreFault.TheVariants as fault
use Rattle.cache_model.specs.Items.{Item}
use Rattle.data_file.proofs.Frame.{placed_of}
use Rattle.record_format.specs.Meaning.{own_item}
use Rattle.append_log.specs.Current as append
use Rattle.compactor.specs.Counting.{Kept}
use Rattle.soft_index.specs.declared.log_store.LogStore.{LogStore}
use Rattle.soft_index.specs.Store.{log_facts, number}
use Rattle.soft_index.proofs.Chaining.{acts_ok, still_acts_or}
use Rattle.soft_index.proofs.LookedAt.{looked_behind, looked_failed, looked_still, looks_plain, looks_still, newest_still}
use Rattle.soft_index.proofs.There.{there_by}
use Rattle.soft_index.proofs.Turning.{plainly_then}
use Rattle.soft_index.proofs.running.look_at.Goals as goal

pub copy_record-requires-clause-stands : goal.copy_record-requires-clause-stands
copy_record-requires-clause-stands g c told =
    let old = c.args.store.now in
    let mid : LogStore = record old { parts = c.is_newest.new.self; latest = c.args.moment } in
    let stands = c.requires.stands told in
    let ens = c.in-Ok-true.ensures in
    (stands.0, stands.1, (looks_still {R = Bool} old mid (g.H.Host.state c.args.host.now) (g.H.Host.state c.is_newest.new.host) stands.0 stands.1 c.args.moment c.in-Ok-true.field-0 stands.2 c.requires.ready.unspoilt c.requires.ready.late refl ens.looks (ens.stands told)).kept)

pub returns-in-Ok-true-clause-plain : goal.returns-in-Ok-true-clause-plain
returns-in-Ok-true-clause-plain g c =
    let old = c.args.store.now in
    let mid : LogStore = record old { parts = c.is_newest.new.self; latest = c.args.moment } in
    plainly_then {T = Bool} {U = Unit {0}} (log_facts old) (log_facts mid) (log_facts c.copy_record.new.store) c.args.moment (Ok c.in-Ok-true.field-0) c.copy_record.result
    (looks_plain {R = Bool} old mid c.args.moment c.in-Ok-true.field-0 c.in-Ok-true.ensures.looks refl refl) c.copy_record.ensures.plain

pub returns-in-Ok-true-clause-told : goal.returns-in-Ok-true-clause-told
returns-in-Ok-true-clause-told g c told frames records stands holds closed =
    let old = c.args.store.now in
    let mid : LogStore = record old { parts = c.is_newest.new.self; latest = c.args.moment } in
    let a = g.H.Host.state c.args.host.now in
    let b = g.H.Host.state c.is_newest.new.host in
    let d = g.H.Host.state c.copy_record.new.host in
    let item : Item = own_item c.args.one.now.item in
    let file = c.args.one.now.place.file in
    let at = c.args.one.now.place.at in
    let ens = c.in-Ok-true.ensures in
    let still = ens.stands told in
    let log = ens.looks.log ens.looks.unspoilt in
    let is = looks_still {R = Bool} old mid a b frames records c.args.moment c.in-Ok-true.field-0 stands c.requires.ready.unspoilt c.requires.ready.late refl ens.looks still in
    let kept : Kept = record { number = number old; items = placed_of frames records; files = a.files } in
    let newest = (ens.newest told kept stands.indexed (there_by old a frames records stands.log stands.named) item holds c.requires.of_key).0 c.in-Ok-true.field-0-test in
    looked_behind {Q = Bool} {R = Unit {0}} old mid c.copy_record.new.store a b d frames records c.args.moment file at item c.in-Ok-true.field-0 c.copy_record.result
    (looks_plain {R = Bool} old mid c.args.moment c.in-Ok-true.field-0 ens.looks refl refl).same log still is.kept is.content is.acts
    (c.copy_record.ensures.told told frames records is.kept (λ here. closed (here ∙ ap append.number_of log)) (newest_still old mid a b frames records c.args.key.now file at item log still newest))

pub returns-in-Ok-false-clause-told : goal.returns-in-Ok-false-clause-told
returns-in-Ok-false-clause-told g c told frames records stands holds closed =
    let old = c.args.store.now in
    let new : LogStore = record old { parts = c.is_newest.new.self; latest = c.args.moment } in
    let a = g.H.Host.state c.args.host.now in
    let b = g.H.Host.state c.is_newest.new.host in
    let item : Item = own_item c.args.one.now.item in
    let ens = c.in-Ok-false.ensures in
    let still = ens.stands told in
    let is = looks_still {R = Bool} old new a b frames records c.args.moment c.in-Ok-false.field-0 stands c.requires.ready.unspoilt c.requires.ready.late refl ens.looks still in
    let kept : Kept = record { number = number old; items = placed_of frames records; files = a.files } in
    let tells = ens.newest told kept stands.indexed (there_by old a frames records stands.log stands.named) item holds c.requires.of_key in
    looked_still old new a b frames records c.args.moment c.args.one.now.place.file c.args.one.now.place.at item c.args.key.now (ens.looks.log ens.looks.unspoilt) still c.requires.of_key
    (record { acts = acts_ok {Q = Bool} {R = Unit {0}} old new a b c.args.moment c.in-Ok-false.field-0 tt is.acts; content = is.content; kept = is.kept })
    (λ newest. let no : false ≡ true = sym c.in-Ok-false.field-0-test ∙ tells.1 newest in cc)

pub returns-in-Err-clause-told : goal.returns-in-Err-clause-told
returns-in-Err-clause-told g c told frames records stands holds closed =
    let old = c.args.store.now in
    let new : LogStore = record old { parts = c.is_newest.new.self; latest = c.args.moment } in
    let a = g.H.Host.state c.args.host.now in
    let b = g.H.Host.state c.is_newest.new.host in
    let ens = c.in-Err.ensures in
    looked_failed {R = Unit {0}} old new a b frames records c.args.moment c.args.one.now.place.file c.args.one.now.place.at (own_item c.args.one.now.item) c.in-Err.fault
    (still_acts_or {R = Unit {0}} old new a b frames records c.args.moment (Err c.in-Err.fault) stands c.requires.ready.unspoilt c.requires.ready.late refl (ens.stands told) tt tt
    (λ d err. let memory : c.in-Err.fault ≡ fault.Memory = ens.memory in cc) (λ s err. let memory : c.in-Err.fault ≡ fault.Memory = ens.memory in cc)).acts
