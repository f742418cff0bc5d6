use Rattle.std.proofs.Common.{◌∙◌, Err, Ok, refl, subst, true}
use Rattle.cache_model.specs.declared.faults.StoreFault.TheVariants as fault
use Rattle.cache_disk.proofs.Runs.{Stands-same}
use Rattle.append_log.specs.Current.{files_of, tail_of}
use Rattle.append_log.specs.Standing.{Held}
use Rattle.soft_index.specs.declared.log_store.LogStore.{LogStore}
use Rattle.soft_index.specs.Counted.{CountsWritten}
use Rattle.soft_index.specs.Store.{content_of}
use Rattle.soft_index.proofs.Changes.{as_was, still_acts}
use Rattle.soft_index.proofs.Stamps.{failed_told, stamped_rows, stamped_told, stamps_main}
use Rattle.soft_index.proofs.Turning.{from_main}
use Rattle.soft_index.proofs.stamping.stamp.Goals as goal

pub returns-in_default-clause-told : goal.returns-in_default-clause-told
returns-in_default-clause-told g c told frames records stands =
    let old = c.args.store.now in
    let new : LogStore = record old { parts = record old.parts { stats = c.reserve.new.self; spoilt = true }; latest = c.args.moment } in
    let a = g.H.Host.state c.args.host.now in
    record {
      acts = still_acts {R = Unit {0}} old new a a c.args.moment (content_of old a.files) frames records (Err fault.Memory) stands c.requires.ready.unspoilt c.requires.ready.late refl
          (as_was old new a.files a.files refl (refl, refl, refl) c.reserve.ensures.rows (λ n. refl)) (Stands-same a) (λ d err. cc) (λ s err. cc) (λ err unspoilt. refl);
      content = tt;
      stamped = tt;
    }

pub returns-in-Err-clause-told : goal.returns-in-Err-clause-told
returns-in-Err-clause-told g c told frames records stands =
    let old = c.args.store.now in
    let F = old.parts.log.files in
    let a = g.H.Host.state c.args.host.now in
    let b = g.H.Host.state c.stamp.new.host in
    let main = c.requires.ready.usable.main in
    let held : Held = record { closed = stands.log.0; frames = frames; records = records } in
    failed_told old c.stamp.new.self c.reserve.new.self c.args.moment c.in-Err.fault c.in-Err.ensures.goes c.in-Err.ensures.spent a b frames records stands c.requires.ready.unspoilt c.requires.ready.late
    (stamps_main F c.stamp.new.self.files a b c.args.moment held (Err c.in-Err.fault) main (c.in-Err.ensures.told told held (from_main F a held main stands.log.1)))

pub returns-clause-rows : goal.returns-clause-rows
returns-clause-rows g c =
    let old = c.args.store.now in
    let new : LogStore = record old { parts = record old.parts { log = c.stamp.new.self; stats = c.count_written.new.stats }; latest = c.args.moment } in
    stamped_rows c.args.moment old new refl c.in_default-stamp.ensures.stamped

pub returns-clause-told : goal.returns-clause-told
returns-clause-told g c told frames records stands =
    let old = c.args.store.now in
    let new : LogStore = record old { parts = record old.parts { log = c.stamp.new.self; stats = c.count_written.new.stats }; latest = c.args.moment } in
    let F = old.parts.log.files in
    let G = c.stamp.new.self.files in
    let a = g.H.Host.state c.args.host.now in
    let b = g.H.Host.state c.stamp.new.host in
    let main = c.requires.ready.usable.main in
    let held : Held = record { closed = stands.log.0; frames = frames; records = records } in
    let ens = c.in_default-stamp.ensures in
    stamped_told old new a b frames records c.args.moment c.reserve.new.self stands c.requires.ready.late refl c.requires.ready.usable.log (ens.goes.usable ens.goes.ok) (ens.goes.store ∙ main) ens.takes.0
    (refl, refl, refl) c.reserve.ensures.rows c.in-Ok.ensures.room
    (subst (λ t. CountsWritten t (tail_of (files_of c.stamp.new.self)) c.reserve.new.self c.count_written.new.stats) c.tail-before.ensures
    (subst (λ t. CountsWritten c.tail-before.result t c.reserve.new.self c.count_written.new.stats) c.tail.ensures c.count_written.ensures))
    c.requires.ready.unspoilt (stamps_main F G a b c.args.moment held (Ok tt) main (ens.told told held (from_main F a held main stands.log.1))) ens.stamped
