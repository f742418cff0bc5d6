use Rattle.rebuild.proofs.Numbers.{numbers-sorted}
use Rattle.std.proofs.Common.{eqb}
use Rattle.std.proofs.lemmas.List.Filters.{dedup_is}
use Rattle.rebuild.proofs.data_files.numbers_of.Goals as goal

pub returns-clause-each : goal.returns-clause-each
returns-clause-each c = (numbers-sorted c.args.names.now c.in_ok-numbers.numbers.items c.sort_unstable.new.self.items c.dedup.new.self.items c.requires c.in_ok-numbers.ensures.numbers c.sort_unstable.ensures.permutation c.sort_unstable.ensures.sorted (dedup_is eqb _ _ c.dedup.ensures.filtered)).each

pub returns-clause-ascend : goal.returns-clause-ascend
returns-clause-ascend c = (numbers-sorted c.args.names.now c.in_ok-numbers.numbers.items c.sort_unstable.new.self.items c.dedup.new.self.items c.requires c.in_ok-numbers.ensures.numbers c.sort_unstable.ensures.permutation c.sort_unstable.ensures.sorted (dedup_is eqb _ _ c.dedup.ensures.filtered)).ascend

pub returns-clause-within : goal.returns-clause-within
returns-clause-within c = (numbers-sorted c.args.names.now c.in_ok-numbers.numbers.items c.sort_unstable.new.self.items c.dedup.new.self.items c.requires c.in_ok-numbers.ensures.numbers c.sort_unstable.ensures.permutation c.sort_unstable.ensures.sorted (dedup_is eqb _ _ c.dedup.ensures.filtered)).within
