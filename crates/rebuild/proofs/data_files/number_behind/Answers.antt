use Rattle.rebuild.proofs.Numbers.{behind-last}
use Rattle.rebuild.proofs.data_files.number_behind.Goals as goal

pub returns-in-Some-clause-behind : goal.returns-in-Some-clause-behind
returns-in-Some-clause-behind c = behind-last c.args.numbers.now c.in-Some.last.now c.requires.ascend c.in-Some.ensures.item.3.0 (c.in-Some.ensures.item.3.1 0)
