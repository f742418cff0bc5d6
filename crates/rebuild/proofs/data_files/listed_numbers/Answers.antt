use Rattle.rebuild.proofs.Numbers.{listed-more}
use Rattle.rebuild.proofs.data_files.listed_numbers.Goals as goal

pub loop-name-preserved : goal.loop-name-preserved
loop-name-preserved c =
    listed-more c.args.names.now c.loop-name.name-index _ c.number_in.result c.loop-name.numbers.items c.keep.new.numbers.items c.loop-name-test.true c.loop-name.invariant c.number_in.ensures c.in_ok-keep.ensures.kept
