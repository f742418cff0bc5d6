use Rattle.std.proofs.Common.{◌∙◌, ℕ, Option, sym, subst}
use Rattle.data_file.specs.declared.appender.Appender.{Appender}
use Rattle.append_log.specs.declared.log_files.LogFiles.{LogFiles}
use Rattle.append_log.specs.Current.{IsLogOf, closed_frames}
use Rattle.append_log.specs.Standing.{Stands, closed_held}
use Rattle.append_log.proofs.Holding.{holds_closed, log_of}
use Rattle.append_log.proofs.log_files.LogFiles.rotate.Goals as goal

pub returns-clause-told : goal.returns-clause-told
returns-clause-told g c told held stands =
    let old = c.args.self.now in
    let mid = c.seal.new.self in
    let new = c.close.new.self in
    let b = g.H.Host.state c.seal.new.host in
    let first = c.in_default.ensures.told told held stands in
    let log = log_of mid.log (c.seal.ensures.there ∙ sym c.is_some.ensures ∙ c.if-not-is_some.false) in
    let usable = c.in_default.ensures.goes.usable c.in_default.ensures.goes.ok in
    let named = (subst (λ (l : Option Appender). IsLogOf mid.store l mid.file mid.unsealed) log.1 usable.log).0 in
    record {
      stands = subst (λ (n : ℕ). Stands new b (closed_held old.unsealed n c.args.moment held)) c.seal.ensures.file
          (subst (λ (x : LogFiles). Stands x b (closed_held old.unsealed mid.file c.args.moment held)) (sym c.close.ensures.rest)
          (holds_closed mid log.0 b held.closed (closed_frames old.unsealed held.frames held.records c.args.moment) log.1 named c.in_default.ensures.unsealed usable.some first.stands));
      images = first.images;
      files = first.files;
      reads = first.reads;
      settled = first.settled;
      silent = first.silent;
      refused = tt;
      still = first.still;
    }
