use Rattle.std.proofs.Common.{◌∙◌, ap}
use Rattle.std.specs.BTreeMap.Range.{entries_between}
use Rattle.std.specs.declared.ops.Bound.TheVariants.{Unbounded}
use Rattle.std.specs.Prelude.{Option}
use Rattle.store_trait.specs.declared.entries.HashedKey.{HashedKey}
use Rattle.store_trait.specs.Places.{place_cmp, first_shown, start_after}
use Rattle.store_trait.proofs.Walking.{walks}
use Rattle.store_trait.proofs.entries.Entries.next.Goals as goal

pub returns-clause-next : goal.returns-clause-next
returns-clause-next c = rw (← c.self.view_is)
    (walks c.self.inside c.args.moment c.args.after c.in_ok-after.after c.first_shown.result c.copy_key.result c.self.invariant c.in_ok-after.ensures.hashed
    (c.first_shown.ensures ∙ ap (λ (p : Option HashedKey). first_shown c.args.moment (entries_between place_cmp (start_after p) Unbounded c.self.inside.rooms.entries)) c.as_ref.ensures.value)
    c.copy_key.ensures.equal)
