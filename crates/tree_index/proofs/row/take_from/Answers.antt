use Rattle.std.proofs.Common.{◌∙◌, sym, ap, length}
use Rattle.std.specs.BTreeMap.{BTreeMap}
use Rattle.cache_model.specs.declared.index.IndexKey.{IndexKey}
use Rattle.cache_model.specs.declared.index.IndexValue.{IndexValue}
use Rattle.tree_index.proofs.Rewriting.{left_one, left_several}
use Rattle.tree_index.proofs.row.take_from.Goals as goal

pub returns-in-Some-clause-taken : goal.returns-in-Some-clause-taken
returns-in-Some-clause-taken c =
    left_one c.args.key c.args.row.now c.in-Several.several c.deref_mut.result.now c.remove-before.new.self c.in-Several.is c.deref_mut.ensures.value c.requires.kept (c.in-Some.left, c.in-Some.holds) c.row_of.result
    c.remove-before.ensures.updates (ap (λ (m : BTreeMap IndexKey IndexValue). m.entries) (sym c.deref.ensures) ∙ c.in-Some.ensures.one) c.row_of.ensures.one c.row_of.ensures.kept

pub returns-in_default-clause-taken : goal.returns-in_default-clause-taken
returns-in_default-clause-taken c =
    left_several c.args.key c.args.row.now c.in-Several.several c.deref_mut.result.now c.remove-before.new.self c.in-Several.is c.deref_mut.ensures.value c.requires.kept c.remove-before.result
    c.remove-before.ensures.updates c.remove-before.ensures.ordered c.remove-before.ensures.len (λ one. c.in_default.ensures.more (ap (λ (m : BTreeMap IndexKey IndexValue). length m.entries) c.deref.ensures ∙ one))
