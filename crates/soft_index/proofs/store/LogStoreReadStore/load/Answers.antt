use Rattle.std.proofs.Common.{Err, Ok, Option, refl}
use Rattle.record_format.specs.declared.items.OwnItem.{OwnItem}
use Rattle.data_file.proofs.Frame.{placed_of}
use Rattle.soft_index.specs.declared.log_store.LogStore.{LogStore}
use Rattle.soft_index.specs.Store.{number}
use Rattle.soft_index.proofs.Answering.{counts_there, load_failed, loaded, looks_grows}
use Rattle.soft_index.proofs.store.LogStoreReadStore.load.Goals as goal

pub returns-in-Ok-clause-told : goal.returns-in-Ok-clause-told
returns-in-Ok-clause-told g c told =
    let old = c.args.self.now in
    let new : LogStore = record old { parts = c.record_of.new.self; latest = c.args.moment } in
    let a = g.H.Host.state c.args.host.now in
    let b = g.H.Host.state c.record_of.new.host in
    let stands = c.requires.stands told in
    let ready = c.requires.ready in
    let finds = c.in-Ok.ensures.finds told (record { number = number old; items = placed_of stands.0 stands.1; files = a.files }) stands.2.indexed (counts_there old a stands.0 stands.1 stands.2) in
    loaded old new a b stands.0 stands.1 c.args.moment stands.2 ready.unspoilt ready.late refl (c.in-Ok.ensures.stands told) c.args.key.now c.in-Ok.found c.answer_by.result c.in-Ok.ensures.looks finds c.answer_by.ensures

pub returns-in-Err-clause-told : goal.returns-in-Err-clause-told
returns-in-Err-clause-told g c told =
    let old = c.args.self.now in
    let new : LogStore = record old { parts = c.record_of.new.self; latest = c.args.moment } in
    let a = g.H.Host.state c.args.host.now in
    let b = g.H.Host.state c.record_of.new.host in
    let stands = c.requires.stands told in
    let ready = c.requires.ready in
    let finds = c.in-Err.ensures.finds told (record { number = number old; items = placed_of stands.0 stands.1; files = a.files }) stands.2.indexed (counts_there old a stands.0 stands.1 stands.2) in
    load_failed old new a b stands.0 stands.1 c.args.moment stands.2 ready.unspoilt ready.late refl (c.in-Err.ensures.stands told) c.args.key.now c.in-Err.fault c.in-Err.ensures.looks finds c.in-Err.ensures.unspent

pub returns-in-Ok-clause-grows : goal.returns-in-Ok-clause-grows
returns-in-Ok-clause-grows g c told unspoilt frames records stands =
    let old = c.args.self.now in
    let new : LogStore = record old { parts = c.record_of.new.self; latest = c.args.moment } in
    let ready = c.requires.ready in
    looks_grows old new (g.H.Host.state c.args.host.now) (g.H.Host.state c.record_of.new.host) frames records c.args.moment stands ready.unspoilt ready.late refl (c.in-Ok.ensures.stands told) (Ok c.in-Ok.found) c.in-Ok.ensures.looks unspoilt frames records stands

pub returns-in-Err-clause-grows : goal.returns-in-Err-clause-grows
returns-in-Err-clause-grows g c told unspoilt frames records stands =
    let old = c.args.self.now in
    let new : LogStore = record old { parts = c.record_of.new.self; latest = c.args.moment } in
    let ready = c.requires.ready in
    looks_grows old new (g.H.Host.state c.args.host.now) (g.H.Host.state c.record_of.new.host) frames records c.args.moment stands ready.unspoilt ready.late refl (c.in-Err.ensures.stands told) {R = Option OwnItem} (Err c.in-Err.fault) c.in-Err.ensures.looks unspoilt frames records stands
