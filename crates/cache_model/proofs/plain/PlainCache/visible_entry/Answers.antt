use Rattle.std.proofs.Common.{sym, ap, ◌∙◌, true, false}
use Rattle.std.specs.Option.{option_copied}
use Rattle.std.specs.FinMap.{find}
use Rattle.cache_model.proofs.PlainEntries.{order, visible_entry-found, visible_entry-none}
use Rattle.cache_model.proofs.plain.PlainCache.visible_entry.Goals as goal

pub returns-in_err-entry : goal.returns-in_err-entry
returns-in_err-entry c =
    let none = c.in_err-entry.ensures ∙ ap (find order c.args.key.now) c.deref.ensures.value in
    ap option_copied c.from_residual.ensures ∙ sym (visible_entry-none _ _ _ _ c.self.view_is c.self.invariant.0 none)

pub returns-then-is_visible : goal.returns-then-is_visible
returns-then-is_visible c =
    let some = c.in_ok-entry.ensures ∙ ap (find order c.args.key.now) c.deref.ensures.value in
    sym (visible_entry-found _ _ _ _ _ true c.self.view_is c.self.invariant.0 some c.if-is_visible.ensures)

pub returns-else-is_visible : goal.returns-else-is_visible
returns-else-is_visible c =
    let some = c.in_ok-entry.ensures ∙ ap (find order c.args.key.now) c.deref.ensures.value in
    sym (visible_entry-found _ _ _ _ _ false c.self.view_is c.self.invariant.0 some c.if-is_visible.ensures)
