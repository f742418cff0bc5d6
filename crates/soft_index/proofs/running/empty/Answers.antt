use Rattle.std.proofs.Common.{refl}
use Rattle.data_file.proofs.Frame.{placed_of}
use Rattle.compactor.specs.Counting.{Kept}
use Rattle.soft_index.specs.declared.log_store.LogStore.{LogStore}
use Rattle.soft_index.specs.Store.{number}
use Rattle.soft_index.proofs.Chaining.{emptied_rows, emptied_still}
use Rattle.soft_index.proofs.There.{there_by}
use Rattle.soft_index.proofs.running.empty.Goals as goal

pub returns-clause-told : goal.returns-clause-told
returns-clause-told g c told frames records stands =
    let old = c.args.store.now in
    let new : LogStore = record old { parts = c.empty_queue.new.self; latest = c.args.moment } in
    let a = g.H.Host.state c.args.host.now in
    let b = g.H.Host.state c.empty_queue.new.host in
    let ens = c.empty_queue.ensures in
    let kept : Kept = record { number = number old; items = placed_of frames records; files = a.files } in
    let there = there_by old a frames records stands.log stands.named in
    emptied_still old new a b frames records c.args.moment c.empty_queue.result stands c.requires.ready.unspoilt c.requires.ready.late refl (ens.stands told) ens.empties
    (ens.keeps told kept stands.indexed there) (ens.figures told kept stands.indexed there stands.counted.live) ens.unspent

pub returns-clause-rows : goal.returns-clause-rows
returns-clause-rows g c told frames records stands =
    let old = c.args.store.now in
    let new = c.empty_queue.new.self in
    let a = g.H.Host.state c.args.host.now in
    let kept : Kept = record { number = number old; items = placed_of frames records; files = a.files } in
    let there = there_by old a frames records stands.log stands.named in
    emptied_rows old new a frames records c.empty_queue.result stands c.empty_queue.ensures.empties (c.empty_queue.ensures.keeps told kept stands.indexed there) (c.empty_queue.ensures.figures told kept stands.indexed there stands.counted.live)
