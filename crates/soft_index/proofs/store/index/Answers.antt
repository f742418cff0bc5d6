use Rattle.std.proofs.Common.{◌≡◌, List, false, refl}
use Rattle.std.specs.Prelude.{IsTrue}
use Rattle.cache_model.specs.Items.{Item}
use Rattle.cache_model.specs.DataFiles.{Frame}
use Rattle.compactor.specs.Counting.{Kept}
use Rattle.soft_index.specs.Counted.{AreCounted}
use Rattle.data_file.proofs.Frame.{placed_of}
use Rattle.soft_index.specs.declared.log_store.LogStore.{LogStore}
use Rattle.soft_index.specs.Store.{LogStands, number}
use Rattle.soft_index.proofs.Changes.{draws_spoilt}
use Rattle.soft_index.proofs.Indexing.{index_acts, index_told, indexed_stands}
use Rattle.soft_index.proofs.Counted.{sizes_counted}
use Rattle.soft_index.proofs.There.{there_by}
use Rattle.soft_index.proofs.store.index.Given as given
use Rattle.soft_index.proofs.store.index.Goals as goal

pub returns-clause-draws : goal.returns-clause-draws
returns-clause-draws g c =
    let old = c.args.store.now in
    let new : LogStore = record old { parts = c.index_step.new.self; latest = c.args.moment } in
    draws_spoilt old new c.index_step.ensures.steps.same_log

-- the statistics go along with the index
counted : (g : given.Over) (c : goal.After-index_step g) → IsTrue g.H.Host.tells → (frames : List Frame) (records : List Item) → LogStands c.args.store.now (g.H.Host.state c.args.host.now) frames records → c.index_step.new.self.spoilt ≡ false
    → AreCounted (record { number = number c.args.store.now; items = placed_of frames records; files = (g.H.Host.state c.args.host.now).files }) c.index_step.new.self
counted g c told frames records stands unspoilt =
    let old = c.args.store.now in
    let a = g.H.Host.state c.args.host.now in
    let ens = c.index_step.ensures in
    let kept : Kept = record { number = number old; items = placed_of frames records; files = a.files } in
    sizes_counted kept old.parts c.index_step.new.self (ens.steps.sizes unspoilt) stands.counted (ens.figures told kept stands.indexed (there_by old a frames records stands.log stands.named) stands.counted.live unspoilt)

pub returns-clause-kept : goal.returns-clause-kept
returns-clause-kept g c told unspoilt frames records stands =
    let old = c.args.store.now in
    let new : LogStore = record old { parts = c.index_step.new.self; latest = c.args.moment } in
    let a = g.H.Host.state c.args.host.now in
    let b = g.H.Host.state c.index_step.new.host in
    let ens = c.index_step.ensures in
    indexed_stands old new a b frames records stands (ens.steps.log unspoilt) (λ indexed there. (ens.keeps told (record { number = number old; items = placed_of frames records; files = a.files }) indexed there).indexed unspoilt) (counted g c told frames records stands unspoilt) (ens.stands told) c.requires.ready.late

pub returns-clause-told : goal.returns-clause-told
returns-clause-told g c told =
    let old = c.args.store.now in
    let new : LogStore = record old { parts = c.index_step.new.self; latest = c.args.moment } in
    let a = g.H.Host.state c.args.host.now in
    let b = g.H.Host.state c.index_step.new.host in
    let ens = c.index_step.ensures in
    let stands = c.requires.stands told in
    index_told old new a b stands.0 stands.1 c.args.moment c.index_step.result stands.2 c.requires.ready.unspoilt c.requires.ready.late refl ens.steps
    (λ indexed there. ens.keeps told (record { number = number old; items = placed_of stands.0 stands.1; files = a.files }) indexed there) (counted g c told stands.0 stands.1 stands.2) ens.unspent (ens.stands told)

pub returns-clause-acts : goal.returns-clause-acts
returns-clause-acts g c told wanted =
    let old = c.args.store.now in
    let new : LogStore = record old { parts = c.index_step.new.self; latest = c.args.moment } in
    let a = g.H.Host.state c.args.host.now in
    let b = g.H.Host.state c.index_step.new.host in
    let ens = c.index_step.ensures in
    let stands = c.requires.stands told in
    index_acts old new a b stands.0 stands.1 c.args.moment wanted c.index_step.result stands.2 c.requires.ready.unspoilt c.requires.ready.late refl ens.steps
    (λ indexed there. ens.keeps told (record { number = number old; items = placed_of stands.0 stands.1; files = a.files }) indexed there) (counted g c told stands.0 stands.1 stands.2) ens.unspent (ens.stands told)
