use Rattle.std.proofs.Common.{sym, ◌∙◌, ap}
use Rattle.cache_model.specs.DataFiles.{CountsFrames}
use Rattle.append_log.specs.Current.{data_name}
use Rattle.append_log.specs.declared.log_files.LogFiles.{LogFiles}
use Rattle.append_log.proofs.Steps.{log_made, then_file}
use Rattle.append_log.proofs.log_files.LogFiles.log_record.Goals as goal

pub returns-then-is_some-clause-images : goal.returns-then-is_some-clause-images
returns-then-is_some-clause-images g c told frames records is =
    let old = c.args.self.now in
    c.write_record.ensures.images told frames records (log_made old.store old.log old.file (g.H.Host.state c.args.host.now) frames records (sym c.is_some.ensures ∙ c.if-is_some.true) is)

pub returns-in-Err-write_record-clause-images : goal.returns-in-Err-write_record-clause-images
returns-in-Err-write_record-clause-images g c told frames records is =
    let old = c.args.self.now in
    then_file (g.H.Host.state c.args.host.now) (g.H.Host.state c.make_log.new.host) (g.H.Host.state c.write_record-2.new.host) (data_name old.store old.file) (data_name c.make_log.new.self.store c.make_log.new.self.file) (CountsFrames frames) (CountsFrames frames)
    (ap (λ (x : LogFiles). data_name x.store x.file) c.make_log.ensures.rest)
    (c.make_log.ensures.images told frames records is)
    (c.write_record-2.ensures.images told frames records (c.in_default.ensures.stands told frames records is))
    (λ bytes counts. counts)

pub returns-in-Ok-clause-images : goal.returns-in-Ok-clause-images
returns-in-Ok-clause-images g c told frames records is =
    let old = c.args.self.now in
    then_file (g.H.Host.state c.args.host.now) (g.H.Host.state c.make_log.new.host) (g.H.Host.state c.write_record-2.new.host) (data_name old.store old.file) (data_name c.make_log.new.self.store c.make_log.new.self.file) (CountsFrames frames) (CountsFrames frames)
    (ap (λ (x : LogFiles). data_name x.store x.file) c.make_log.ensures.rest)
    (c.make_log.ensures.images told frames records is)
    (c.write_record-2.ensures.images told frames records (c.in_default.ensures.stands told frames records is))
    (λ bytes counts. counts)
