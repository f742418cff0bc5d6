use Rattle.std.proofs.Common.{◌≡◌, ◌∙◌, Err, Ok, refl, subst, sym, false}
use Rattle.append_log.specs.Current.{files_of, tail_of}
use Rattle.append_log.specs.Standing.{Held, turned_held}
use Rattle.cache_model.specs.declared.replies.Turned.{Turned}
use Rattle.cache_model.specs.Images.{log_name}
use Rattle.soft_index.specs.declared.log_store.LogStore.{LogStore}
use Rattle.soft_index.specs.Counted.{CountsWritten}
use Rattle.soft_index.proofs.Changes.{as_was, draws_none, same_rows, still_stands}
use Rattle.soft_index.proofs.Growing.{grows_as_was}
use Rattle.soft_index.proofs.Turning.{from_main, sealing_acts, seals_main, turned_content, turned_grows, turned_rows, turned_told}
use Rattle.soft_index.proofs.store.rotate.Goals as goal

pub rotate-requires-clause-stands : goal.rotate-requires-clause-stands
rotate-requires-clause-stands g c told =
    let stands = c.requires.stands told in
    let held : Held = record { closed = stands.2.log.0; frames = stands.0; records = stands.1 } in
    (held, from_main c.args.store.now.parts.log.files (g.H.Host.state c.args.host.now) held c.requires.ready.usable.main stands.2.log.1)

pub returns-in-Err-clause-draws : goal.returns-in-Err-clause-draws
returns-in-Err-clause-draws g c =
    let old = c.args.store.now in
    let new : LogStore = record old { parts = record old.parts { log = c.rotate.new.self; spoilt = c.is_spoilt-store.result }; latest = c.args.moment } in
    let takes = c.rotate.ensures.takes in
    draws_none old new takes.0 takes.1 takes.2

pub returns-in-Ok-clause-draws : goal.returns-in-Ok-clause-draws
returns-in-Ok-clause-draws g c =
    let old = c.args.store.now in
    let new : LogStore = record old { parts = record old.parts { log = c.rotate.new.self; stats = c.count_written.new.stats }; latest = c.args.moment } in
    let takes = c.rotate.ensures.takes in
    draws_none old new takes.0 takes.1 takes.2

pub returns-in-Err-clause-told : goal.returns-in-Err-clause-told
returns-in-Err-clause-told g c told =
    let old = c.args.store.now in
    let new : LogStore = record old { parts = record old.parts { log = c.rotate.new.self; spoilt = c.is_spoilt-store.result }; latest = c.args.moment } in
    let F = old.parts.log.files in
    let G = c.rotate.new.self.files in
    let a = g.H.Host.state c.args.host.now in
    let b = g.H.Host.state c.rotate.new.host in
    let stands = c.requires.stands told in
    let main = c.requires.ready.usable.main in
    let held : Held = record { closed = stands.2.log.0; frames = stands.0; records = stands.1 } in
    let after = λ (t : Turned). turned_held t F.unsealed F.file c.args.moment held in
    let seals = seals_main {R = Turned} F G a b c.args.moment held after (Err c.in-Err.fault) main (c.in-Err.ensures.told told held (from_main F a held main stands.2.log.1)) in
    let kept = λ (unspoilt : c.is_spoilt-store.result ≡ false). as_was old new a.files b.files (c.in-Err.ensures.goes.refused (sym c.is_spoilt-store.ensures ∙ unspoilt)).1 (refl, refl, refl) refl (λ n. (seals.refused (sym c.is_spoilt-store.ensures ∙ unspoilt)).files (log_name n)) in
    record {
      acts = sealing_acts {R = Turned} old new a b stands.0 stands.1 c.args.moment stands.2.log.0 after G (Err c.in-Err.fault) stands.2 c.requires.ready.unspoilt c.requires.ready.late refl seals (λ unspoilt. (kept unspoilt).content)
          (λ unspoilt. (stands.0, stands.1, still_stands old new a b stands.0 stands.1 stands.2 (kept unspoilt) c.requires.ready.late (seals.refused (sym c.is_spoilt-store.ensures ∙ unspoilt))))
          c.in-Err.ensures.goes.damaged c.in-Err.ensures.unspent
          (λ err unspoilt. same_rows old new (kept unspoilt).files refl);
      content = tt;
      marks = tt;
      parts = tt;
    }

pub returns-in-Ok-clause-told : goal.returns-in-Ok-clause-told
returns-in-Ok-clause-told g c told =
    let old = c.args.store.now in
    let new : LogStore = record old { parts = record old.parts { log = c.rotate.new.self; stats = c.count_written.new.stats }; latest = c.args.moment } in
    let F = old.parts.log.files in
    let G = c.rotate.new.self.files in
    let a = g.H.Host.state c.args.host.now in
    let b = g.H.Host.state c.rotate.new.host in
    let stands = c.requires.stands told in
    let main = c.requires.ready.usable.main in
    let held : Held = record { closed = stands.2.log.0; frames = stands.0; records = stands.1 } in
    let after = λ (t : Turned). turned_held t F.unsealed F.file c.args.moment held in
    let ens = c.in-Ok.ensures in
    let seals = seals_main {R = Turned} F G a b c.args.moment held after (Ok c.in-Ok.turned) main (ens.told told held (from_main F a held main stands.2.log.1)) in
    turned_told c.in-Ok.turned old new a b stands.0 stands.1 c.args.moment stands.2 c.requires.ready.unspoilt c.requires.ready.late refl c.requires.ready.usable.log (ens.goes.usable ens.goes.ok) (ens.goes.store ∙ main) ens.takes ens.turned seals (refl, refl, refl)
    (subst (λ t. CountsWritten t (tail_of (files_of c.rotate.new.self)) old.parts.stats c.count_written.new.stats) c.tail-before.ensures
    (subst (λ t. CountsWritten c.tail-before.result t old.parts.stats c.count_written.new.stats) c.tail.ensures c.count_written.ensures))

pub returns-in-Ok-clause-rows : goal.returns-in-Ok-clause-rows
returns-in-Ok-clause-rows g c =
    let old = c.args.store.now in
    let new : LogStore = record old { parts = record old.parts { log = c.rotate.new.self; stats = c.count_written.new.stats }; latest = c.args.moment } in
    turned_rows c.in-Ok.turned c.args.moment old new refl c.in-Ok.ensures.turned

pub returns-in-Err-clause-grows : goal.returns-in-Err-clause-grows
returns-in-Err-clause-grows g c told unspoilt frames records stands =
    let old = c.args.store.now in
    let new : LogStore = record old { parts = record old.parts { log = c.rotate.new.self; spoilt = c.is_spoilt-store.result }; latest = c.args.moment } in
    let F = old.parts.log.files in
    let G = c.rotate.new.self.files in
    let a = g.H.Host.state c.args.host.now in
    let b = g.H.Host.state c.rotate.new.host in
    let main = c.requires.ready.usable.main in
    let held : Held = record { closed = stands.log.0; frames = frames; records = records } in
    let after = λ (t : Turned). turned_held t F.unsealed F.file c.args.moment held in
    let seals = seals_main {R = Turned} F G a b c.args.moment held after (Err c.in-Err.fault) main (c.in-Err.ensures.told told held (from_main F a held main stands.log.1)) in
    let sound = sym c.is_spoilt-store.ensures ∙ unspoilt in
    let kept = as_was old new a.files b.files (c.in-Err.ensures.goes.refused sound).1 (refl, refl, refl) refl (λ n. (seals.refused sound).files (log_name n)) in
    grows_as_was old new a b kept c.requires.ready.late (seals.refused sound) frames records stands

pub returns-in-Ok-clause-grows : goal.returns-in-Ok-clause-grows
returns-in-Ok-clause-grows g c told unspoilt frames records stands =
    let old = c.args.store.now in
    let new : LogStore = record old { parts = record old.parts { log = c.rotate.new.self; stats = c.count_written.new.stats }; latest = c.args.moment } in
    let F = old.parts.log.files in
    let G = c.rotate.new.self.files in
    let a = g.H.Host.state c.args.host.now in
    let b = g.H.Host.state c.rotate.new.host in
    let main = c.requires.ready.usable.main in
    let held : Held = record { closed = stands.log.0; frames = frames; records = records } in
    let after = λ (t : Turned). turned_held t F.unsealed F.file c.args.moment held in
    let ens = c.in-Ok.ensures in
    let seals = seals_main {R = Turned} F G a b c.args.moment held after (Ok c.in-Ok.turned) main (ens.told told held (from_main F a held main stands.log.1)) in
    turned_grows c.in-Ok.turned old new a b frames records c.args.moment stands c.requires.ready.late refl c.requires.ready.usable.log (ens.goes.usable ens.goes.ok) (ens.goes.store ∙ main) ens.takes ens.turned seals (refl, refl, refl)
    (subst (λ t. CountsWritten t (tail_of (files_of c.rotate.new.self)) old.parts.stats c.count_written.new.stats) c.tail-before.ensures
    (subst (λ t. CountsWritten c.tail-before.result t old.parts.stats c.count_written.new.stats) c.tail.ensures c.count_written.ensures))

pub returns-in-Ok-clause-content : goal.returns-in-Ok-clause-content
returns-in-Ok-clause-content g c told =
    let old = c.args.store.now in
    let new : LogStore = record old { parts = record old.parts { log = c.rotate.new.self; stats = c.count_written.new.stats }; latest = c.args.moment } in
    let F = old.parts.log.files in
    let G = c.rotate.new.self.files in
    let a = g.H.Host.state c.args.host.now in
    let b = g.H.Host.state c.rotate.new.host in
    let stands = c.requires.stands told in
    let main = c.requires.ready.usable.main in
    let held : Held = record { closed = stands.2.log.0; frames = stands.0; records = stands.1 } in
    let after = λ (t : Turned). turned_held t F.unsealed F.file c.args.moment held in
    let ens = c.in-Ok.ensures in
    let seals = seals_main {R = Turned} F G a b c.args.moment held after (Ok c.in-Ok.turned) main (ens.told told held (from_main F a held main stands.2.log.1)) in
    turned_content c.in-Ok.turned old new a b stands.0 stands.1 c.args.moment stands.2 c.requires.ready.late refl c.requires.ready.usable.log (ens.goes.usable ens.goes.ok) (ens.goes.store ∙ main) ens.takes ens.turned seals (refl, refl, refl)
    (subst (λ t. CountsWritten t (tail_of (files_of c.rotate.new.self)) old.parts.stats c.count_written.new.stats) c.tail-before.ensures
    (subst (λ t. CountsWritten c.tail-before.result t old.parts.stats c.count_written.new.stats) c.tail.ensures c.count_written.ensures))

pub returns-in-Ok-clause-next : goal.returns-in-Ok-clause-next
returns-in-Ok-clause-next g c = c.rotate.ensures.takes.1
