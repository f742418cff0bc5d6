use Rattle.std.proofs.Common.{◌≡◌, Ok, Err, List, ℕ, ap, length, refl, sym, subst}
use Rattle.std.specs.Prelude.{Result}
use Rattle.cache_model.specs.declared.files.Place.{Place}
use Rattle.cache_model.specs.declared.faults.StoreFault.{StoreFault}
use Rattle.cache_model.specs.declared.faults.StoreFault.TheVariants as fault
use Rattle.append_log.specs.declared.log_calls.Log.{Log}
use Rattle.append_log.specs.declared.log_files.LogFiles.{LogFiles}
use Rattle.append_log.specs.Current.{IsUsable, closes_before, files_of, size_limit, store_of, tail_of}
use Rattle.append_log.specs.Calls.{Goes, IsCopied, PutsBy}
use Rattle.append_log.specs.Standing.{Stands}
use Rattle.file_stats.specs.Figures.{Figures}
use Rattle.compactor.specs.Sizing.{CountsWritten}
use Rattle.compactor.specs.Stepping.{Seats}
use Rattle.compactor.proofs.parts.Parts.copy_seated.Goals as goal

pub returns-in-Ok-copy_item-clause-copied : goal.returns-in-Ok-copy_item-clause-copied
returns-in-Ok-copy_item-clause-copied g c =
    let old = c.args.self.now in
    let place = c.in-Ok-copy_item.place in
    let size = length c.args.item.now in
    let seats = c.seat.ensures.seats in
    let log = c.copy_item.new.self in
    let figures : Figures = c.count_written.new.stats in
    let result : Result Place StoreFault = Ok place in
    record {
      reserved = c.reserve.new.self;
      rows = c.reserve.ensures.rows;
      room = c.in-Ok-reserve.ensures.room;
      seated = c.seat.new.self;
      log = log;
      figures = figures;
      seats = subst (λ (k : List ℕ). Seats k (record old { stats = c.reserve.new.self }) c.seat.new.self) c.in-Ok.ensures.equal seats;
      goes = subst (λ (l : Log). Goes (files_of l) (files_of log) result) seats.log c.in-Ok-copy_item.ensures.goes;
      written = subst (λ (l : Log). IsCopied size c.args.moment (files_of l) (files_of log) place) seats.log c.in-Ok-copy_item.ensures.copied;
      counts = subst (λ (f : Figures). CountsWritten (tail_of (files_of old.log)) (tail_of (files_of log)) f figures) seats.stats
          (subst (λ (l : Log). CountsWritten (tail_of (files_of l)) (tail_of (files_of log)) c.seat.new.self.stats figures) seats.log
          (subst (λ t. CountsWritten t (tail_of (files_of log)) c.seat.new.self.stats figures) c.tail-before.ensures
          (subst (λ t. CountsWritten c.tail-before.result t c.seat.new.self.stats figures) c.tail.ensures c.count_written.ensures)));
      notes = c.swap.ensures.notes;
    }

pub returns-in-Ok-copy_item-clause-told : goal.returns-in-Ok-copy_item-clause-told
returns-in-Ok-copy_item-clause-told g c told held one stands record_is spelled =
    let a = g.H.Host.state c.args.host.now in
    let b = g.H.Host.state c.copy_item.new.host in
    let size = length c.args.item.now in
    let result : Result Place StoreFault = Ok c.in-Ok-copy_item.place in
    subst (λ (l : Log). PutsBy (closes_before (files_of c.args.self.now.log) size) one c.args.moment held (files_of c.args.self.now.log) (files_of l) a b result) (sym c.swap.ensures.notes.queues.log)
    (subst (λ (l : Log). Stands (files_of l) a held → PutsBy (closes_before (files_of l) size) one c.args.moment held (files_of l) (files_of c.copy_item.new.self) a b result) c.seat.ensures.seats.log
    (λ s. c.in-Ok-copy_item.ensures.told told held one s record_is spelled) stands)

pub returns-in-Err-copy_item-clause-told : goal.returns-in-Err-copy_item-clause-told
returns-in-Err-copy_item-clause-told g c told held one stands record_is spelled =
    let a = g.H.Host.state c.args.host.now in
    let b = g.H.Host.state c.copy_item.new.host in
    let size = length c.args.item.now in
    let result : Result Place StoreFault = Err c.in-Err-copy_item.fault in
    subst (λ (l : Log). Stands (files_of l) a held → PutsBy (closes_before (files_of l) size) one c.args.moment held (files_of l) (files_of c.copy_item.new.self) a b result) c.seat.ensures.seats.log
    (λ s. c.in-Err-copy_item.ensures.told told held one s record_is spelled) stands

-- where nothing was written the log is as it was
refused : (old new : LogFiles) → new ≡ old → IsUsable old → Goes {R = Place} old new (Err fault.Memory)
refused old new same usable = record {
  store = ap store_of same;
  limit = ap size_limit same;
  usable = λ sound. subst IsUsable (sym same) usable;
  ok = tt;
  refused = λ sound. (refl, same);
  spent = λ s err. cc;
  damaged = λ d err. cc;
}

pub returns-in_default-clause-goes : goal.returns-in_default-clause-goes
returns-in_default-clause-goes g c = refused (files_of c.args.self.now.log) (files_of c.args.self.now.log) refl c.requires.usable.log

pub returns-in_default-reserve-clause-goes : goal.returns-in_default-reserve-clause-goes
returns-in_default-reserve-clause-goes g c = refused (files_of c.args.self.now.log) (files_of c.args.self.now.log) refl c.requires.usable.log

pub returns-in-Err-clause-goes : goal.returns-in-Err-clause-goes
returns-in-Err-clause-goes g c =
    let old = c.args.self.now.log in
    subst (λ (f : StoreFault). Goes {R = Place} (files_of old) (files_of c.seat.new.self.log) (Err f)) (sym c.in-Err.ensures.memory) (refused (files_of old) (files_of c.seat.new.self.log) (ap files_of c.seat.ensures.seats.log) c.requires.usable.log)

pub returns-in-Ok-copy_item-clause-goes : goal.returns-in-Ok-copy_item-clause-goes
returns-in-Ok-copy_item-clause-goes g c =
    let result : Result Place StoreFault = Ok c.in-Ok-copy_item.place in
    subst (λ (l : Log). Goes (files_of c.args.self.now.log) (files_of l) result) (sym c.swap.ensures.notes.queues.log)
    (subst (λ (l : Log). Goes (files_of l) (files_of c.copy_item.new.self) result) c.seat.ensures.seats.log c.in-Ok-copy_item.ensures.goes)

pub returns-in-Err-copy_item-clause-goes : goal.returns-in-Err-copy_item-clause-goes
returns-in-Err-copy_item-clause-goes g c =
    let result : Result Place StoreFault = Err c.in-Err-copy_item.fault in
    subst (λ (l : Log). Goes (files_of l) (files_of c.copy_item.new.self) result) c.seat.ensures.seats.log c.in-Err-copy_item.ensures.goes
