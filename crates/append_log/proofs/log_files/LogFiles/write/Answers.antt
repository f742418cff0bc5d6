use Rattle.std.proofs.Common.{◌≡◌, ◌∙◌, ◌∷◌, ◌++◌, [], sym, subst, true, false}
use Rattle.cache_model.specs.DataFiles.{CountsFrames}
use Rattle.append_log.specs.declared.log_files.LogFiles.{LogFiles}
use Rattle.append_log.specs.Current.{closed_frames}
use Rattle.append_log.specs.Standing.{Stands, more_held}
use Rattle.append_log.proofs.Holding.{holds_on, waits-push}
use Rattle.append_log.proofs.Steps.{beside_current, on_current}
use Rattle.append_log.proofs.log_files.LogFiles.write.Goals as goal

pub returns-in-Ok-clause-told : goal.returns-in-Ok-clause-told
returns-in-Ok-clause-told g c told held one moment stands is spelled =
    let old = c.args.self.now in
    let mid = c.log_record.new.self in
    let a = g.H.Host.state c.args.host.now in
    let b = g.H.Host.state c.log_record.new.host in
    let ens = c.in-Ok.ensures in
    let more = held.records ++ one ∷ [] in
    let moves = ens.images told held.frames held.records stands.current in
    record {
      stands = subst (λ (x : LogFiles). Stands x b (more_held held one)) (sym ens.rest)
          (holds_on old mid.log mid.unsealed mid.spoilt old.last old.mark a b held held.frames more (CountsFrames held.frames) stands moves (ens.others told)
          (ens.stands told held.frames held.records one stands.current is spelled) (ens.unsealed ∙ sym (waits-push held.records one))
          stands.last
          (λ rests. let no : true ≡ false = sym ens.unsealed ∙ rests in cc));
      at = ens.at told held.frames held.records stands.current;
      images = on_current old a b held.frames (closed_frames old.unsealed held.frames held.records moment) moves;
      files = beside_current old false a.files b.files (ens.others told);
      closed = λ over. let no : false ≡ true = over in cc;
      silent = ens.silent told;
      spent = λ s err. cc;
      refused = tt;
    }
