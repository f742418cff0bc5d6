use Rattle.std.proofs.Common.{◌≡◌, ℕ, ◌+◌, ◌/◌, ◌^◌, List, length, drop, set, ap, sym, ◌∙◌, subst, arith}
use Rattle.std.proofs.lemmas.List.{with_items_is}
use Rattle.std.proofs.lemmas.Nat.{pow-add}
use Rattle.file_stats.specs.Classes.{SameLeaves}
use Rattle.file_stats.proofs.Descents.{leaves-set}
use Rattle.file_stats.proofs.classes.Classes.set.Goals as goal

pub returns : goal.returns
returns c =
    let twice = pow-add 2 c.self.inside.height 1 in
    let leaf : c.len.result / 2 + c.args.place ≡ 2 ^ c.self.inside.height + c.args.place = omega (arith, c.len.ensures, c.self.inside.nodes.ok.0, c.self.invariant.count, twice) in
    let same = subst (λ (ns : List ℕ). SameLeaves (set ns (c.len.result / 2 + c.args.place) c.args.class) c.put.new.nodes) c.deref_mut.ensures.value c.put.ensures.leaves in
    let count = c.put.auto.nodes ∙ ap length c.deref_mut.ensures.value in
    ap (drop (2 ^ c.self.inside.height)) (with_items_is c.self.inside.nodes c.put.new.nodes (count ∙ sym c.self.inside.nodes.ok.0))
    ∙ leaves-set c.self.inside.height c.self.inside.nodes.items c.put.new.nodes (c.len.result / 2 + c.args.place) c.args.place c.args.class c.self.invariant leaf count same
    ∙ ap (λ (ns : List ℕ). set ns c.args.place c.args.class) c.self.view_is
