use Rattle.std.proofs.Common.{List, subst}
use Rattle.std.proofs.lemmas.Result.{on_ok_weaker}
use Rattle.cache_model.specs.declared.files.FileCount.{FileCount}
use Rattle.rebuild.specs.Reading.{Takes}
use Rattle.rebuild.proofs.Taken.{takes-record}
use Rattle.rebuild.proofs.scanning.take_numbered.Goals as goal

pub returns-clause-taken : goal.returns-clause-taken
returns-clause-taken g c told counted item is stands next =
    let files = (g.H.Host.state c.args.host.now).files in
    let noted = c.number.ensures in
    on_ok_weaker c.take_record.result
    (λ (takes : Takes files c.args.bits c.args.one.now c.args.tree.now c.take_record.new.tree c.number.new.self.rows c.take_record.new.rows).
    takes-record files c.args.bits c.args.tree.now c.take_record.new.tree c.args.figures.now _ counted stands c.args.one.now item is next noted.next noted.mark
    (subst (λ (rs : List FileCount). Takes files c.args.bits c.args.one.now c.args.tree.now c.take_record.new.tree rs c.take_record.new.rows) noted.rows takes))
    (c.take_record.ensures.takes told)
