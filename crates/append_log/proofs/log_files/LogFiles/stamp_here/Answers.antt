use Rattle.std.proofs.Common.{◌≡◌, ◌∙◌, ◌+◌, ℕ, [], Some, ap, sym, subst}
use Rattle.cache_model.specs.declared.files.FileName.{FileName}
use Rattle.cache_model.specs.Files.{file_in}
use Rattle.cache_disk.specs.Calls.{AllLeft, HasFile}
use Rattle.data_file.specs.Appending.{CountsOneOf, sealed, written}
use Rattle.append_log.specs.declared.log_files.LogFiles.{LogFiles}
use Rattle.append_log.specs.Current.{data_name}
use Rattle.append_log.specs.Standing.{Stands}
use Rattle.append_log.specs.Calls.{CountsEnd}
use Rattle.append_log.proofs.Ending.{next_here}
use Rattle.append_log.proofs.Holding.{holds_on, last-sealed, sealed_reads}
use Rattle.append_log.proofs.Stamped.{ends_now}
use Rattle.append_log.proofs.Steps.{file_standing, is_named}
use Rattle.append_log.proofs.log_files.LogFiles.stamp_here.Goals as goal

pub returns-clause-stamped : goal.returns-clause-stamped
returns-clause-stamped g c =
    let old = c.args.self.now in
    let file = ap (λ (x : LogFiles). x.file) c.end_log.ensures.rest in
    record {
      file = file;
      tail = c.in_default.ensures.tail;
      next_file = c.in_default.ensures.current ∙ ap (λ (n : ℕ). n + 1) file ∙ next_here old.log old.file;
      last = c.in_default.ensures.last;
      mark = c.in_default.ensures.mark;
    }

pub returns-clause-told : goal.returns-clause-told
returns-clause-told g c told held stands =
    let old = c.args.self.now in
    let new = c.end_log.new.self in
    let a = g.H.Host.state c.args.host.now in
    let b = g.H.Host.state c.end_log.new.host in
    let ens = c.in_default.ensures in
    let more = sealed held.frames held.records c.args.moment in
    let moves = c.end_log.ensures.images told held.frames held.records stands.current in
    let last = last-sealed held.frames held.records c.args.moment in
    let standing = file_standing new.store new.log new.file b more [] (ens.stands told held.frames held.records stands.current) in
    let named = is_named new.store new.log new.file new.unsealed (ens.usable ens.sound) in
    let name = ap (λ (x : LogFiles). data_name x.store x.file) c.end_log.ensures.rest in
    record {
      stands = subst (λ (x : LogFiles). Stands x b (record { closed = held.closed; frames = more; records = [] })) (sym c.end_log.ensures.rest)
          (holds_on old new.log new.unsealed new.spoilt new.last new.mark a b held more [] (CountsOneOf held.frames more) stands moves (ens.others told)
          (ens.stands told held.frames held.records stands.current) ens.unsealed (ens.last ∙ sym last) (λ is. ens.settled told));
      images = moves;
      files = ens.others told;
      reads = subst (λ (n : FileName). file_in b.files n ≡ Some (written more [])) name (sealed_reads new.store new.log new.file b more named ens.there standing);
      settled = ens.settled told;
      ends = subst (λ (n : FileName). AllLeft b (HasFile n (CountsEnd c.args.moment))) name (ends_now new.store new.log new.file b more [] c.args.moment ens.there named last standing);
      silent = ens.silent told;
      spent = λ s err. cc;
      refused = tt;
      still = λ idle. cc;
    }
