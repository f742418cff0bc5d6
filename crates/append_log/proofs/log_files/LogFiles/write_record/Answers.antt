use Rattle.std.proofs.Common.{Option, subst}
use Rattle.data_file.specs.declared.appender.Appender.{Appender}
use Rattle.append_log.specs.Current.{IsLogStanding}
use Rattle.append_log.proofs.log_files.LogFiles.write_record.Goals as goal

pub returns-in-Ok-clause-stands : goal.returns-in-Ok-clause-stands
returns-in-Ok-clause-stands g c told frames records one stands is spelled =
    let a = g.H.Host.state c.args.host.now in
    let first = subst (λ (l : Option Appender). IsLogStanding l a frames records) c.in-Some.is stands in
    c.in-Ok.ensures.stands told frames records one first is spelled
