use Rattle.std.proofs.Common.{ℕ, refl, subst}
use Rattle.append_log.specs.Current.{closes_before, files_of}
use Rattle.append_log.specs.Calls.{PutsBy}
use Rattle.append_log.specs.Standing.{Held}
use Rattle.std.specs.Prelude.{length}
use Rattle.soft_index.specs.declared.log_store.LogStore.{LogStore}
use Rattle.soft_index.proofs.Copied.{copy_makes, copy_plain, copy_rows, copy_told}
use Rattle.soft_index.proofs.Turning.{from_main}
use Rattle.soft_index.proofs.copying.copy.Goals as goal

pub returns-clause-plain : goal.returns-clause-plain
returns-clause-plain g c =
    let old = c.args.store.now in
    let new : LogStore = record old { parts = c.copy.new.self; latest = c.args.moment } in
    let said = c.copy.ensures in
    copy_plain c.args.key c.args.from c.args.gone c.args.item.now c.args.moment old new c.requires.ready.usable c.requires.ready.late refl c.copy.result
    said.copied said.spoilt said.bits said.limit said.goes said.spent c.requires.ready.unspoilt refl

pub returns-clause-makes : goal.returns-clause-makes
returns-clause-makes g c =
    let old = c.args.store.now in
    let new : LogStore = record old { parts = c.copy.new.self; latest = c.args.moment } in
    copy_makes c.args.key c.args.from c.args.gone c.args.item.now c.args.moment old new c.requires.ready.usable c.requires.ready.late refl c.copy.result c.copy.ensures.copied c.copy.ensures.takes

pub returns-clause-queued : goal.returns-clause-queued
returns-clause-queued g c =
    let old = c.args.store.now in
    let new : LogStore = record old { parts = c.copy.new.self; latest = c.args.moment } in
    copy_rows c.args.key c.args.from c.args.gone c.args.item.now c.args.moment old new c.requires.ready.usable c.requires.ready.late refl c.copy.result c.copy.ensures.copied c.requires.room

pub returns-clause-told : goal.returns-clause-told
returns-clause-told g c told frames records one is =
    let old = c.args.store.now in
    let new : LogStore = record old { parts = c.copy.new.self; latest = c.args.moment } in
    let a = g.H.Host.state c.args.host.now in
    let b = g.H.Host.state c.copy.new.host in
    let said = c.copy.ensures in
    let F = files_of old.parts.log in
    let held : Held = record { closed = is.stands.log.0; frames = frames; records = records } in
    let main = c.requires.ready.usable.main in
    copy_told c.args.key c.args.from c.args.gone c.args.item.now c.args.moment old new c.requires.ready.usable c.requires.ready.late refl c.copy.result
    said.copied said.spoilt said.goes said.spent c.requires.ready.unspoilt a b frames records one is
    (subst (λ (s : ℕ). PutsBy (closes_before F (length c.args.item.now)) one c.args.moment held (record F { store = s }) (files_of new.parts.log) a b c.copy.result) main
    (said.told told held one (from_main F a held main is.stands.log.1) is.is_record is.spelled_is))
