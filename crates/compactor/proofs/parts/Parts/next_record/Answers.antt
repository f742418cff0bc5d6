use Rattle.std.proofs.Common.{Option, Some, ◌∙◌, ap, subst}
use Rattle.std.specs.Prelude.{Ok, option_map}
use Rattle.cache_model.specs.Images.{log_name}
use Rattle.compactor.specs.declared.walking.Known.{Known}
use Rattle.compactor.specs.declared.walking.Known.TheVariants.{Placed}
use Rattle.compactor.specs.Counting.{counts_in}
use Rattle.compactor.specs.Walking.{IsNextKnown}
use Rattle.compactor.proofs.RowsSame.{there_alike}
use Rattle.compactor.proofs.Walked.{are_hashed, walks_none, walks_read, walks_placed, walks_fail, indexed_looks}
use Rattle.compactor.proofs.parts.Parts.next_record.Goals as goal

pub returns-in-Ok-Some-Placed-clause-walks : goal.returns-in-Ok-Some-Placed-clause-walks
returns-in-Ok-Some-Placed-clause-walks g c told kept indexed there =
    let old = c.args.self.now in
    let mid = c.next_known.new.self in
    let files = (g.H.Host.state c.args.host.now).files in
    let after = option_map (λ key. key.now) c.args.after in
    let ensures = c.in-Ok-Some-Placed.ensures in
    let hashed = are_hashed (counts_in kept) files old.table old.tree old.requests.waiting indexed there c.requires.usable.ordered in
    let next : IsNextKnown files old.tree.bits old.table old.tree.entries after (Some (Placed c.in-Ok-Some-Placed.key)) =
    subst (λ (known : Option Known). IsNextKnown files old.tree.bits old.table old.tree.entries after known) (c.in-Ok-Some-Placed.field-0-is ∙ ap Some c.in-Ok-Some-Placed.field-0-0-is) (ensures.knows told hashed).given
    in
    walks_placed (counts_in kept) files old.table old.tree old.requests.waiting indexed there c.requires.usable.ordered after c.in-Ok-Some-Placed.key c.record_with.result next
    (c.record_with.ensures.finds told kept (indexed_looks (counts_in kept) old mid (Ok c.in-Ok-Some-Placed.field-0) ensures.looks indexed)
    (there_alike (counts_in kept) files (g.H.Host.state c.next_known.new.host).files (λ n. (ensures.stands told).files (log_name n)) there))

pub returns-in-Ok-Some-Read-clause-walks : goal.returns-in-Ok-Some-Read-clause-walks
returns-in-Ok-Some-Read-clause-walks g c told kept indexed there =
    let old = c.args.self.now in
    let files = (g.H.Host.state c.args.host.now).files in
    let after = option_map (λ key. key.now) c.args.after in
    let hashed = are_hashed (counts_in kept) files old.table old.tree old.requests.waiting indexed there c.requires.usable.ordered in
    walks_read (counts_in kept) files old.table old.tree old.requests.waiting indexed there c.requires.usable.ordered after c.in-Ok-Some-Read.key c.in-Ok-Some-Read.item
    (subst (λ (known : Option Known). IsNextKnown files old.tree.bits old.table old.tree.entries after known) (c.in-Ok-Some-Read.field-0-is ∙ ap Some c.in-Ok-Some-Read.field-0-0-is) (c.in-Ok-Some-Read.ensures.knows told hashed).given)

pub returns-in-Ok-None-clause-walks : goal.returns-in-Ok-None-clause-walks
returns-in-Ok-None-clause-walks g c told kept indexed there =
    let old = c.args.self.now in
    let files = (g.H.Host.state c.args.host.now).files in
    let after = option_map (λ key. key.now) c.args.after in
    let hashed = are_hashed (counts_in kept) files old.table old.tree old.requests.waiting indexed there c.requires.usable.ordered in
    walks_none (counts_in kept) files old.table old.tree old.requests.waiting indexed there c.requires.usable.ordered after
    (subst (λ (known : Option Known). IsNextKnown files old.tree.bits old.table old.tree.entries after known) c.in-Ok-None.field-0-is (c.in-Ok-None.ensures.knows told hashed).given)

pub returns-in-Err-clause-walks : goal.returns-in-Err-clause-walks
returns-in-Err-clause-walks g c told kept indexed there =
    let old = c.args.self.now in
    let files = (g.H.Host.state c.args.host.now).files in
    let after = option_map (λ key. key.now) c.args.after in
    let hashed = are_hashed (counts_in kept) files old.table old.tree old.requests.waiting indexed there c.requires.usable.ordered in
    walks_fail (counts_in kept) files old.table old.tree old.requests.waiting indexed there c.requires.usable.ordered after c.in-Err.fault (c.in-Err.ensures.knows told hashed)
