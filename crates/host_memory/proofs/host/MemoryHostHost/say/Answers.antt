use Rattle.std.proofs.Common.{◌≡◌, ◌∙◌, ap, subst, refl, sym, not, ◌++◌, [], List, ℕ, Bool, true, false, if◌then◌else◌}
use Rattle.std.specs.Prelude.{Vec}
use Rattle.std.specs.declared.alloc.Global.{Global}
use Rattle.cache_disk.specs.Calls.{Said}
use Rattle.host_memory.specs.Turns.{words_of}
use Rattle.host_memory.specs.History.{fails_next, memory_state}
use Rattle.host_memory.specs.declared.turns.Call.TheVariants.{Say}
use Rattle.host_memory.proofs.Calls.{said}
use Rattle.host_memory.proofs.Views.{seen, say_turn, took_say, fits_say}
use Rattle.host_memory.proofs.host.MemoryHostHost.say.Goals as goal

-- what is said is the words of the call
spoken : (bytes : Vec ℕ Global) (ok : Bool) → (if ok then bytes.items else []) ≡ words_of (Say bytes ok)
spoken bytes true = refl
spoken bytes false = refl

pub invariant_of-self-2 : goal.invariant_of-self-2
invariant_of-self-2 c =
    let inside = c.self.inside in
    let is = c.succeeds-ok.ensures ∙ ap (λ fail. not (fails_next fail inside.says)) c.deref.ensures.value in
    let h = c.in_ok-speak.ensures.said in
    let kept = c.in_ok-kept.ensures.same in
    fits_say inside c.reserve.new.self.items c.note.new.turns.items (Say c.in_ok-kept.kept c.succeeds-ok.result) c.end_call.new.calls c.end_call.new.faults c.succeeds-ok.result c.speak.new.said.items
    c.self.invariant c.note.ensures c.reserve.ensures.items (h ∙ ap (λ words. inside.said.items ++ words) (ap (λ bytes. if c.succeeds-ok.result then bytes else []) (sym kept) ∙ spoken c.in_ok-kept.kept c.succeeds-ok.result)) refl is c.end_call.ensures.faults

pub returns-clause-told : goal.returns-clause-told
returns-clause-told c told =
    let inside = c.self.inside in
    let done = said (seen inside) (say_turn inside c.note.new.turns.items c.end_call.new.calls c.end_call.new.faults) c.in_ok-kept.kept c.succeeds-ok.result c.end_call.result
    (took_say inside c.reserve.new.self.items c.note.new.turns.items (Say c.in_ok-kept.kept c.succeeds-ok.result) c.end_call.new.calls c.end_call.new.faults c.note.ensures c.reserve.ensures.items)
    c.end_call.ensures.answer in
    let P : List ℕ → Type 0 = λ bytes. Said bytes (memory_state (seen inside)) (memory_state (say_turn inside c.note.new.turns.items c.end_call.new.calls c.end_call.new.faults)) c.end_call.result in
    rw (← c.self.view_is) (subst P c.in_ok-kept.ensures.same done)
