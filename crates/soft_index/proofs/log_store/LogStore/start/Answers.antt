use Rattle.std.proofs.Common.{◌≡◌, IfOk, None, Ok, Err, [], refl, subst}
use Rattle.std.specs.Prelude.{OnOk, Result}
use Rattle.cache_model.specs.declared.faults.StoreFault.{StoreFault}
use Rattle.std.proofs.lemmas.Result.{IfOk-weaker}
use Rattle.cache_model.specs.Files.{file_in}
use Rattle.cache_model.specs.Images.{log_name}
use Rattle.soft_index.specs.declared.log_store.LogStore.{LogStore}
use Rattle.soft_index.specs.Store.{IsFirstDamageOf, IsOpened}
use Rattle.soft_index.proofs.Images.{settled_now}
use Rattle.soft_index.proofs.Opened.{no_zero, opened_of}
use Rattle.soft_index.proofs.log_store.LogStore.start.Goals as goal

pub returns-in-Ok-clause-opened : goal.returns-in-Ok-clause-opened
returns-in-Ok-clause-opened g c told =
    let a = g.H.Host.state c.make.new._host in
    let b = g.H.Host.state c.rebuild.new.host in
    let is = c.in-Ok.ensures in
    subst (λ h. IfOk c.store_of.result (λ store. IsOpened (g.H.Host.state h).files b c.args.settings.now store store.latest)) c.make.ensures.untouched
    (IfOk-weaker c.store_of.result _ _
    (λ store made. opened_of a b c.in-Ok.found c.rebuild.new.tree c.args.settings.now store (is.rebuilt told) (is.undamaged told) (is.read told).files (is.settled told) made)
    c.store_of.ensures.made)

pub returns-in-Ok-clause-stands : goal.returns-in-Ok-clause-stands
returns-in-Ok-clause-stands g c told = IfOk-weaker c.store_of.result _ _ (λ store is. ([], [], is.stands)) (returns-in-Ok-clause-opened g c told)

pub returns-in-Ok-clause-settled : goal.returns-in-Ok-clause-settled
returns-in-Ok-clause-settled g c told =
    IfOk-weaker c.store_of.result _ _ (λ store is. settled_now store (g.H.Host.state c.rebuild.new.host) [] [] refl is.stands) (returns-in-Ok-clause-opened g c told)

pub returns-in-Err-clause-damaged : goal.returns-in-Err-clause-damaged
returns-in-Err-clause-damaged g c told damage err = subst (λ h. IsFirstDamageOf (g.H.Host.state h).files damage) c.make.ensures.untouched (c.in-Err.ensures.damaged told damage cc)

pub returns-in-Ok-clause-zero : goal.returns-in-Ok-clause-zero
returns-in-Ok-clause-zero g c told =
    let a = g.H.Host.state c.make.new._host in
    let b = g.H.Host.state c.rebuild.new.host in
    let is = c.in-Ok.ensures in
    by c.store_of.result (no_zero a.files b.files c.args.settings.now.hash_bits c.rebuild.new.tree.entries c.in-Ok.found (is.rebuilt told) is.bounded.files (is.read told).files)
  where
    by : (r : Result LogStore StoreFault) → file_in (g.H.Host.state c.rebuild.new.host).files (log_name 0) ≡ None → OnOk r (file_in (g.H.Host.state c.rebuild.new.host).files (log_name 0) ≡ None)
    by (Ok store) none = none
    by (Err f) none = tt
