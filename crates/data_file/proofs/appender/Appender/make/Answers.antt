use Rattle.data_file.proofs.Steps.{made_created, made_begun}
use Rattle.data_file.proofs.appender.Appender.make.Goals as goal

pub returns-clause-images : goal.returns-clause-images
returns-clause-images g c told =
    let old = g.H.Host.state c.args.host.now in
    let made = g.H.Host.state c.create.new.self in
    let begun = g.H.Host.state c.begin.new.host in
    let absent = c.requires.absent told in
    made_begun c.args.name old absent made begun (made_created c.args.name old absent made c.create.result (c.create.ensures.told told)) (c.begin.ensures.images told)
