use Rattle.std.proofs.Common.{Err, Ok, subst}
use Rattle.cache_model.specs.declared.files.FileName.{FileName}
use Rattle.soft_index.specs.Taken.{TakesAway}
use Rattle.soft_index.proofs.Taken.{taken_told, untaken_told}
use Rattle.soft_index.proofs.taking.take_away.Goals as goal

pub returns-in-Err-clause-told : goal.returns-in-Err-clause-told
returns-in-Err-clause-told g c told frames records stands may =
    let old = c.args.store.now in
    let a = g.H.Host.state c.args.host.now in
    let b = g.H.Host.state c.delete_file.new.host in
    untaken_told old a b frames records c.args.file c.args.moment stands may c.requires.ready.unspoilt c.requires.ready.late c.in-Err.fault c.in-Err.ensures.faults
    (subst (λ (name : FileName). TakesAway {R = Unit {0}} name a b (Err c.in-Err.fault)) c.log_name.ensures (c.in-Err.ensures.told told))

pub returns-clause-told : goal.returns-clause-told
returns-clause-told g c told frames records stands may =
    let old = c.args.store.now in
    let a = g.H.Host.state c.args.host.now in
    let b = g.H.Host.state c.delete_file.new.host in
    taken_told old a b frames records c.args.file c.args.moment stands may c.requires.ready.unspoilt c.requires.ready.late c.forget_file.new.self c.requires.empty c.forget_file.ensures.rows
    (subst (λ (name : FileName). TakesAway {R = Unit {0}} name a b (Ok tt)) c.log_name.ensures (c.in_default.ensures.told told))
