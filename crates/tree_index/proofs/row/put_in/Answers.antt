use Rattle.tree_index.proofs.Rewriting.{put_several}
use Rattle.tree_index.proofs.row.put_in.Goals as goal

pub returns-in-Several-clause-put : goal.returns-in-Several-clause-put
returns-in-Several-clause-put c = put_several c.args.key c.args.row.now c.in-Several.several c.deref_mut.result.now c.put_among.new.several c.in-Several.is c.deref_mut.ensures.value c.requires.kept c.args.value c.put_among.result
    c.put_among.ensures.updates c.put_among.ensures.len c.put_among.ensures.ordered
