use Rattle.std.proofs.Common.{◌^◌, refl, arith, length-drop}
use Rattle.std.proofs.lemmas.Nat.{pow-add}
use Rattle.file_stats.proofs.Descents.{tree-of}
use Rattle.file_stats.proofs.classes.Classes.of_height.Goals as goal

pub invariant_of-result : goal.invariant_of-result
invariant_of-result c = tree-of c.args.height _ 101 c.in_ok-nodes.nodes.items c.requires refl (c.in_ok-nodes.ensures.items_if_clones_equal (λ y same. same))

pub returns : goal.returns
returns c =
    let tree = tree-of c.args.height _ 101 c.in_ok-nodes.nodes.items c.requires refl (c.in_ok-nodes.ensures.items_if_clones_equal (λ y same. same)) in
    let twice = pow-add 2 c.args.height 1 in
    omega (arith, length-drop (2 ^ c.args.height) c.in_ok-nodes.nodes.items, tree.count, twice)
