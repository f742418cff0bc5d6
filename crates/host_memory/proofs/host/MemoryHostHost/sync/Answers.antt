use Rattle.std.proofs.Common.{◌∙◌, ap, refl, not}
use Rattle.host_memory.specs.History.{fails_next}
use Rattle.host_memory.specs.declared.turns.Call.TheVariants.{Sync}
use Rattle.host_memory.proofs.Calls.{synced}
use Rattle.host_memory.proofs.Views.{seen, disk_turn, took_disk, fits_disk}
use Rattle.host_memory.proofs.host.MemoryHostHost.sync.Goals as goal

pub invariant_of-self-2 : goal.invariant_of-self-2
invariant_of-self-2 c =
    let inside = c.self.inside in
    let is = c.succeeds-ok.ensures ∙ ap (λ fail. not (fails_next fail inside.disk_calls)) c.deref.ensures.value in
    fits_disk inside c.reserve.new.self.items c.note.new.turns.items (Sync c.args.name c.succeeds-ok.result) c.end_call.new.calls c.end_call.new.faults c.succeeds-ok.result inside.files.items
    c.self.invariant c.note.ensures c.reserve.ensures.items refl refl c.self.invariant.apart is c.end_call.ensures.faults

pub returns-clause-told : goal.returns-clause-told
returns-clause-told c told =
    let inside = c.self.inside in
    rw (← c.self.view_is) (synced (seen inside) (disk_turn inside c.note.new.turns.items c.end_call.new.calls c.end_call.new.faults) c.args.name c.succeeds-ok.result c.end_call.result
    (took_disk inside c.reserve.new.self.items c.note.new.turns.items (Sync c.args.name c.succeeds-ok.result) c.end_call.new.calls c.end_call.new.faults c.note.ensures c.reserve.ensures.items)
    c.end_call.ensures.answer)
