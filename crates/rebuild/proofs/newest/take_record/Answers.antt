use Rattle.std.proofs.Common.{sym, subst}
use Rattle.std.proofs.lemmas.Result.{on_ok_weaker}
use Rattle.tree_index.specs.Index.{Index}
use Rattle.rebuild.specs.Rebuilt.{IsInOrder}
use Rattle.rebuild.specs.Reading.{IsEntry}
use Rattle.rebuild.proofs.InOrder.{keeps-in-order, keeps-numbers}
use Rattle.rebuild.proofs.newest.take_record.Goals as goal

pub returns-clause-in_order : goal.returns-clause-in_order
returns-clause-in_order g c =
    let held = c.in_ok-held.held in
    let entry = subst (λ (t : Index). IsEntry t.entries held) (sym c.in_ok-held.ensures.same) c.in_ok-held.ensures.entry in
    let order = subst (λ (t : Index). IsInOrder c.args.bits t) (sym c.in_ok-held.ensures.same) c.requires.in_order in
    on_ok_weaker c.keep.result (keeps-in-order c.args.bits c.hash-hash.result held c.args.one.now c.held_of.new.tree c.keep.new.tree c.args.rows.now c.keep.new.rows c.requires.number entry order) c.keep.ensures.keeps

pub returns-clause-numbers : goal.returns-clause-numbers
returns-clause-numbers g c = on_ok_weaker c.keep.result (keeps-numbers c.hash-hash.result c.in_ok-held.held c.args.one.now c.held_of.new.tree c.keep.new.tree c.args.rows.now c.keep.new.rows) c.keep.ensures.keeps
