use Rattle.std.proofs.Common.{◌≡◌, ℕ, ap, true, refl}
use Rattle.data_file.proofs.Frame.{placed_of}
use Rattle.compactor.specs.Counting.{Kept}
use Rattle.soft_index.specs.declared.log_store.LogStore.{LogStore}
use Rattle.soft_index.specs.Store.{number}
use Rattle.soft_index.proofs.Counted.{sizes_counted}
use Rattle.append_log.specs.Current.{number_of}
use Rattle.soft_index.proofs.Growing.{grows_still}
use Rattle.soft_index.proofs.Indexing.{indexed_stands}
use Rattle.soft_index.proofs.Emptied.{figured, figures_failed}
use Rattle.soft_index.proofs.There.{there_by}
use Rattle.soft_index.proofs.log_store.LogStore.figures.Goals as goal

pub returns-in-Err-clause-told : goal.returns-in-Err-clause-told
returns-in-Err-clause-told g c told =
    let old = c.args.self.now in
    let new : LogStore = record old { parts = record c.empty_queue.new.self { spoilt = true }; latest = c.args.moment } in
    let a = g.H.Host.state c.args.host.now in
    let b = g.H.Host.state c.empty_queue.new.host in
    let stands = c.requires.stands told in
    let ens = c.in-Err.ensures in
    let kept : Kept = record { number = number old; items = placed_of stands.0 stands.1; files = a.files } in
    let there = there_by old a stands.0 stands.1 stands.2.log stands.2.named in
    figures_failed old new a b stands.0 stands.1 c.args.moment stands.2 c.requires.ready.unspoilt c.requires.ready.late refl (ens.stands told) c.in-Err.fault refl
    (λ d err. (ens.keeps told kept stands.2.indexed there).undamaged d cc) (λ s err. ens.unspent s cc)

triple : (p : ℕ × ℕ × ℕ) (a b d : ℕ) → p.0 ≡ a → p.1 ≡ b → p.2 ≡ d → p ≡ (a, b, d)
triple (x, y, z) a b d first second third = cc

pub returns-clause-told : goal.returns-clause-told
returns-clause-told g c told =
    let old = c.args.self.now in
    let new : LogStore = record old { parts = c.empty_queue.new.self; latest = c.args.moment } in
    let a = g.H.Host.state c.args.host.now in
    let b = g.H.Host.state c.empty_queue.new.host in
    let stands = c.requires.stands told in
    let ens = c.in_default.ensures in
    let kept : Kept = record { number = number old; items = placed_of stands.0 stands.1; files = a.files } in
    let there = there_by old a stands.0 stands.1 stands.2.log stands.2.named in
    let unspoilt = ens.empties.unspoilt in
    figured old new a b stands.0 stands.1 c.args.moment stands.2 c.requires.ready.unspoilt c.requires.ready.late refl (ens.stands told) c.totals.result
    (ens.empties.log unspoilt) ((ens.keeps told kept stands.2.indexed there).indexed unspoilt)
    (sizes_counted kept old.parts new.parts (ens.empties.sizes unspoilt) stands.2.counted (ens.figures told kept stands.2.indexed there stands.2.counted.live unspoilt))
    ens.empties.emptied (triple c.totals.result _ _ _ c.totals.ensures.files c.totals.ensures.bytes c.totals.ensures.live)

pub returns-in-Err-clause-grows : goal.returns-in-Err-clause-grows
returns-in-Err-clause-grows g c told unspoilt = cc

pub returns-clause-grows : goal.returns-clause-grows
returns-clause-grows g c told unspoilt frames records stands =
    let old = c.args.self.now in
    let new : LogStore = record old { parts = c.empty_queue.new.self; latest = c.args.moment } in
    let a = g.H.Host.state c.args.host.now in
    let b = g.H.Host.state c.empty_queue.new.host in
    let ens = c.in_default.ensures in
    let kept : Kept = record { number = number old; items = placed_of frames records; files = a.files } in
    let there = there_by old a frames records stands.log stands.named in
    let log = ens.empties.log ens.empties.unspoilt in
    let counted = sizes_counted kept old.parts new.parts (ens.empties.sizes ens.empties.unspoilt) stands.counted (ens.figures told kept stands.indexed there stands.counted.live ens.empties.unspoilt) in
    let holds = indexed_stands old new a b frames records stands log (λ is all. (ens.keeps told kept is all).indexed ens.empties.unspoilt) counted (ens.stands told) c.requires.ready.late in
    grows_still old new a b frames records (ap number_of log) (ens.stands told) holds
