use Rattle.std.proofs.Common.{refl}
use Rattle.std.specs.Prelude.{option_map}
use Rattle.data_file.proofs.Frame.{placed_of}
use Rattle.soft_index.specs.declared.log_store.LogStore.{LogStore}
use Rattle.soft_index.specs.Store.{number}
use Rattle.soft_index.proofs.Answering.{counts_there, looks_grows, walked}
use Rattle.soft_index.proofs.store.LogStoreReadStore.next_key.Goals as goal

pub returns-clause-told : goal.returns-clause-told
returns-clause-told g c told =
    let old = c.args.self.now in
    let new : LogStore = record old { parts = c.next_shown.new.parts; latest = c.args.moment } in
    let a = g.H.Host.state c.args.host.now in
    let b = g.H.Host.state c.next_shown.new.host in
    let stands = c.requires.stands told in
    let ready = c.requires.ready in
    let shows = c.next_shown.ensures.shows told (record { number = number old; items = placed_of stands.0 stands.1; files = a.files }) stands.2.indexed (counts_there old a stands.0 stands.1 stands.2) in
    walked old new a b stands.0 stands.1 c.args.moment stands.2 ready.unspoilt ready.late refl (c.next_shown.ensures.stands told) (option_map (λ key. key.now) c.args.after) c.next_shown.result c.next_shown.ensures.looks shows c.next_shown.ensures.unspent

pub returns-clause-grows : goal.returns-clause-grows
returns-clause-grows g c told unspoilt frames records stands =
    let old = c.args.self.now in
    let new : LogStore = record old { parts = c.next_shown.new.parts; latest = c.args.moment } in
    let ready = c.requires.ready in
    looks_grows old new (g.H.Host.state c.args.host.now) (g.H.Host.state c.next_shown.new.host) frames records c.args.moment stands ready.unspoilt ready.late refl (c.next_shown.ensures.stands told) c.next_shown.result c.next_shown.ensures.looks unspoilt frames records stands
