use Rattle.std.proofs.Common.{sym, ap, subst, ◌∙◌}
use Rattle.cache_model.specs.Plain.{puts, put_now}
use Rattle.cache_model.specs.PlainCache.{plain_with}
use Rattle.cache_model.proofs.PlainEntries.{IsInOrder, IsInOrder-put, by_outcome, OnOk-map, plain_of, plain_of-put}
use Rattle.cache_model.proofs.plain.PlainCache.put.Goals as goal

pub invariant_of-self : goal.invariant_of-self
invariant_of-self c = (
  by_outcome c.put_entry.result c.put_entry.ensures.put c.put_entry.ensures.left
      (λ is. subst IsInOrder (sym is) (IsInOrder-put c.args.key _ _ c.self.invariant.0)) (λ is. subst IsInOrder (sym is) c.self.invariant.0),
  c.self.invariant.1,
)

pub returns-clause-done : goal.returns-clause-done
returns-clause-done c =
    let es = c.self.inside.entries.items in
    let moment = c.self.inside.moment in
    OnOk-map c.put_entry.result
    (λ is. ap (λ l. plain_of l moment) is ∙ plain_of-put es moment c.args.key _ c.self.invariant.0
    ∙ ap (λ u. plain_with (plain_of es moment) (puts c.args.key (record { value = c.args.value; until = u }))) c.until_of-until.ensures
    ∙ ap (λ p. plain_with p (put_now p c.args.key c.args.value c.args.lifespan)) c.self.view_is)
    c.put_entry.ensures.put
