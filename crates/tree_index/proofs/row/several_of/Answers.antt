use Rattle.tree_index.proofs.Rewriting.{two}
use Rattle.tree_index.proofs.row.several_of.Goals as goal

pub returns-in-Ok-clause-both : goal.returns-in-Ok-clause-both
returns-in-Ok-clause-both c =
    two c.args.one c.args.other c.requires.hash c.requires.apart c.new-several.result c.put_among.new.several c.put_among-2.new.several c.new-several.ensures.empty c.in_default.ensures.updates
    c.in-Ok.several c.in_default.field-0 c.in_default-put_among.field-0 c.in-Ok.ensures.ok c.in_default-put_among.ensures.updates c.put_among-2.ensures.ordered
    c.in_default.ensures.before c.in_default.ensures.len c.in_default-put_among.ensures.before c.in_default-put_among.ensures.len
