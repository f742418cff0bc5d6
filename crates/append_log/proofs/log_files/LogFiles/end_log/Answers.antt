use Rattle.std.proofs.Common.{sym, ◌∙◌, ap, inl}
use Rattle.cache_model.specs.DataFiles.{CountsFrames}
use Rattle.data_file.specs.Appending.{CountsOneOf, sealed}
use Rattle.append_log.specs.Current.{data_name}
use Rattle.append_log.specs.declared.log_files.LogFiles.{LogFiles}
use Rattle.append_log.proofs.Ending.{fits_room, new_room, tail_new, tail_same}
use Rattle.append_log.proofs.Steps.{file_standing, then_file}
use Rattle.append_log.proofs.log_files.LogFiles.end_log.Goals as goal

pub returns-in-Ok-clause-images : goal.returns-in-Ok-clause-images
returns-in-Ok-clause-images g c told frames records is =
    let old = c.args.self.now in
    let mid = c.make_log.new.self in
    let b = g.H.Host.state c.make_log.new.host in
    let more = sealed frames records c.args.moment in
    then_file (g.H.Host.state c.args.host.now) b (g.H.Host.state c.seal_log-2.new.host) (data_name old.store old.file) (data_name mid.store mid.file) (CountsFrames frames) (CountsOneOf frames more)
    (ap (λ (x : LogFiles). data_name x.store x.file) c.make_log.ensures.rest)
    (c.make_log.ensures.images told frames records is)
    (c.seal_log-2.ensures.images told frames records (file_standing mid.store mid.log mid.file b frames records (c.in_default.ensures.stands told frames records is)))
    (λ bytes counts. inl counts)

pub returns-in-Err-seal_log-clause-images : goal.returns-in-Err-seal_log-clause-images
returns-in-Err-seal_log-clause-images g c told frames records is =
    let old = c.args.self.now in
    let mid = c.make_log.new.self in
    let b = g.H.Host.state c.make_log.new.host in
    let more = sealed frames records c.args.moment in
    then_file (g.H.Host.state c.args.host.now) b (g.H.Host.state c.seal_log-2.new.host) (data_name old.store old.file) (data_name mid.store mid.file) (CountsFrames frames) (CountsOneOf frames more)
    (ap (λ (x : LogFiles). data_name x.store x.file) c.make_log.ensures.rest)
    (c.make_log.ensures.images told frames records is)
    (c.seal_log-2.ensures.images told frames records (file_standing mid.store mid.log mid.file b frames records (c.in_default.ensures.stands told frames records is)))
    (λ bytes counts. inl counts)
