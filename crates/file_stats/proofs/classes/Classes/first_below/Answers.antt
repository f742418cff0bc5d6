use Rattle.std.proofs.Common.{◌^◌, arith}
use Rattle.std.proofs.lemmas.Nat.{pow-add, pow_pos}
use Rattle.file_stats.proofs.Descents.{leaves-none, root-none}
use Rattle.file_stats.proofs.classes.Classes.first_below.Goals as goal

pub index-requires : goal.index-requires
index-requires c =
    let twice = pow-add 2 c.self.inside.height 1 in
    let some = pow_pos c.self.inside.height in
    omega (arith, c.self.inside.nodes.ok.0, c.self.invariant.count, twice, some)

pub returns-then-index-limit : goal.returns-then-index-limit
returns-then-index-limit c =
    rw (← c.self.view_is) (leaves-none c.self.inside.nodes.items (2 ^ c.self.inside.height) 0 c.args.limit
    (root-none c.self.inside.height c.self.inside.nodes.items c.args.limit c.index.result.now c.self.invariant c.index.ensures c.if-index-limit.true))
