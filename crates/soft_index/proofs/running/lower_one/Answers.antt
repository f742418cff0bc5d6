use Rattle.std.proofs.Common.{Err, Ok, refl}
use Rattle.soft_index.specs.declared.log_store.LogStore.{LogStore}
use Rattle.soft_index.specs.Running.{IsStill}
use Rattle.soft_index.specs.Store.{content_of}
use Rattle.soft_index.proofs.Chaining.{acts_or, still_chain}
use Rattle.soft_index.proofs.Lowered.{less_still}
use Rattle.soft_index.proofs.running.lower_one.Goals as goal

pub returns-in-Err-clause-told : goal.returns-in-Err-clause-told
returns-in-Err-clause-told g c told frames records stands =
    let old = c.args.store.now in
    record {
      acts = acts_or {R = Unit {0}} old c.make_room.new.store (g.H.Host.state c.args.host.now) (g.H.Host.state c.make_room.new.host) c.args.moment (Err c.in-Err.fault) (c.in-Err.ensures.told told (content_of old (g.H.Host.state c.args.host.now).files));
      content = tt;
      kept = tt;
    }

pub returns-clause-told : goal.returns-clause-told
returns-clause-told g c told frames records stands =
    let old = c.args.store.now in
    let mid = c.make_room.new.store in
    let new : LogStore = record mid { parts = c.less.new.self } in
    let a = g.H.Host.state c.args.host.now in
    let b = g.H.Host.state c.make_room.new.host in
    let ens = c.in_default.ensures in
    let sound = ens.plain.unspoilt in
    let roomy : IsStill {R = Unit {0}} old mid a b frames records c.args.moment (Ok tt) = record { acts = ens.told told (content_of old a.files); content = ens.content told sound; kept = ens.kept told sound frames records stands } in
    still_chain {Q = Unit {0}} {R = Unit {0}} old mid new a b b frames records c.args.moment tt (Ok tt) ens.plain.same roomy
    (less_still mid new c.args.key c.less.ensures.notes b frames records c.args.moment refl c.make_room.ensures.latest sound (ens.kept told sound frames records stands))
