use Rattle.std.proofs.Common.{◌≡◌, ◌∙◌, ◌+◌, ℕ, Bool, Option, [], sym, subst, ap, true, false}
use Rattle.std.specs.Prelude.{if◌then◌else◌}
use Rattle.cache_model.specs.declared.files.FileName.{FileName}
use Rattle.cache_model.specs.declared.replies.Turned.{Turned}
use Rattle.cache_model.specs.DataFiles.{CountsFrames}
use Rattle.cache_disk.specs.State.{Moves, SameBut}
use Rattle.cache_disk.specs.Calls.{OnFile}
use Rattle.cache_disk.proofs.Runs.{Silent-trans}
use Rattle.data_file.specs.declared.appender.Appender.{Appender}
use Rattle.append_log.specs.Current.{closed_frames, data_name, file_of, file_behind, makes_file, next_file_of}
use Rattle.append_log.specs.Standing.{Stands, closed_held, turned_held}
use Rattle.append_log.proofs.Holding.{turned_done, turned_mark, makes_over, next_most, some_next}
use Rattle.append_log.proofs.Steps.{before_name, beside_both, counts_now, current_alone, is_named, on_both, on_closed, same_alone}
use Rattle.append_log.proofs.log_files.LogFiles.write_behind.Goals as goal

pub write-requires-clause-stands : goal.write-requires-clause-stands
write-requires-clause-stands g c told =
    let stands = c.requires.stands told in
    let first = c.in_default.ensures.told told stands.0 stands.1 in
    (turned_held c.in_default.field-0 c.args.self.now.unsealed c.args.self.now.file c.args.moment stands.0, first.stands)

pub returns-in-Ok-clause-written : goal.returns-in-Ok-clause-written
returns-in-Ok-clause-written g c =
    let old = c.args.self.now in
    let mid = c.rotate.new.self in
    let last = c.write.new.self in
    let written = c.in-Ok.ensures.written c.args.moment in
    let takes = c.rotate.ensures.takes in
    let turned = c.in_default.ensures.turned in
    let done = turned_done c.in_default.field-0 c.args.moment old mid c.requires.there turned in
    record {
      next_seq = written.next_seq ∙ takes.0;
      next_file =
          written.next_file
          ∙ ap (λ (l : Option Appender). if makes_file l false then next_file_of mid + 1 else next_file_of mid) c.in_default.ensures.closed
          ∙ ap (λ (n : ℕ). n + 1) takes.1
          ∙ ap (λ (b : Bool). if b then next_file_of old + 1 else next_file_of old) (sym (makes_over old.log c.requires.there));
      file = written.file;
      length_is = written.length_is;
      tail = written.tail;
      mark = written.mark ∙ turned_mark c.in_default.field-0 c.args.moment old mid done turned;
    }

pub returns-in-Err-clause-told : goal.returns-in-Err-clause-told
returns-in-Err-clause-told g c told held one stands is spelled =
    let old = c.args.self.now in
    let a = g.H.Host.state c.args.host.now in
    let b = g.H.Host.state c.rotate.new.host in
    let first = c.in-Err.ensures.told told held stands in
    let more = closed_frames old.unsealed held.frames held.records c.args.moment in
    record {
      stands = tt;
      at = tt;
      images = on_closed old a held.frames more
          (stands.absent (old.file + 1) (next_most old.log old.file))
          (counts_now old.store old.log old.file a held.frames held.records (is_named old.store old.log old.file old.unsealed c.requires.usable.log) stands.current)
          b first.images;
      files = λ name apart behind. first.files name apart;
      closed = tt;
      silent = first.silent;
      spent = λ s err. absurd (c.rotate.ensures.unspent s cc);
      refused = first.refused;
    }

pub returns-in-Ok-clause-told : goal.returns-in-Ok-clause-told
returns-in-Ok-clause-told g c told held one stands is spelled =
    let old = c.args.self.now in
    let mid = c.rotate.new.self in
    let last = c.write.new.self in
    let a = g.H.Host.state c.args.host.now in
    let b = g.H.Host.state c.rotate.new.host in
    let d = g.H.Host.state c.write.new.host in
    let first = c.in_default.ensures.told told held stands in
    let more = closed_frames old.unsealed held.frames held.records c.args.moment in
    let after = closed_held old.unsealed old.file c.args.moment held in
    let done = turned_done c.in_default.field-0 c.args.moment old mid c.requires.there c.in_default.ensures.turned in
    let mid_stands : Stands mid b after = subst (λ (t : Turned). Stands mid b (turned_held t old.unsealed old.file c.args.moment held)) done first.stands in
    let second = c.in-Ok.ensures.told told after one c.args.moment mid_stands is spelled in
    let name : file_of mid ≡ file_behind old = ap (λ (s : ℕ). data_name s mid.file) c.rotate.ensures.goes.store ∙ ap (λ (n : ℕ). data_name old.store n) (c.in_default.ensures.number ∙ some_next old.log old.file c.requires.there) in
    record {
      stands = second.stands;
      at = second.at;
      images = on_both old a held.frames more
          (stands.absent (old.file + 1) (next_most old.log old.file))
          (counts_now old.store old.log old.file a held.frames held.records (is_named old.store old.log old.file old.unsealed c.requires.usable.log) stands.current)
          b d first.images
          (subst (λ (n : FileName). Moves b d (OnFile n (CountsFrames []))) name (current_alone mid b d [] (closed_frames mid.unsealed [] [] c.args.moment) second.images));
      files = beside_both old a.files b.files d.files first.files (subst (λ (n : FileName). SameBut n b.files d.files) name (same_alone mid b.files d.files second.files));
      closed = λ over.
          subst (λ (n : FileName). SameBut n b.files d.files) name (same_alone mid b.files d.files second.files) (file_of old) (before_name old)
          ∙ first.reads c.requires.there;
      silent = Silent-trans a b d first.images.later second.images.later first.silent second.silent;
      spent = λ s err. cc;
      refused = tt;
    }

pub returns-in-Err-write-clause-told : goal.returns-in-Err-write-clause-told
returns-in-Err-write-clause-told g c told held one stands is spelled =
    let old = c.args.self.now in
    let mid = c.rotate.new.self in
    let last = c.write.new.self in
    let a = g.H.Host.state c.args.host.now in
    let b = g.H.Host.state c.rotate.new.host in
    let d = g.H.Host.state c.write.new.host in
    let first = c.in_default.ensures.told told held stands in
    let more = closed_frames old.unsealed held.frames held.records c.args.moment in
    let after = closed_held old.unsealed old.file c.args.moment held in
    let done = turned_done c.in_default.field-0 c.args.moment old mid c.requires.there c.in_default.ensures.turned in
    let mid_stands : Stands mid b after = subst (λ (t : Turned). Stands mid b (turned_held t old.unsealed old.file c.args.moment held)) done first.stands in
    let second = c.in-Err-write.ensures.told told after one c.args.moment mid_stands is spelled in
    let name : file_of mid ≡ file_behind old = ap (λ (s : ℕ). data_name s mid.file) c.rotate.ensures.goes.store ∙ ap (λ (n : ℕ). data_name old.store n) (c.in_default.ensures.number ∙ some_next old.log old.file c.requires.there) in
    record {
      stands = tt;
      at = tt;
      images = on_both old a held.frames more
          (stands.absent (old.file + 1) (next_most old.log old.file))
          (counts_now old.store old.log old.file a held.frames held.records (is_named old.store old.log old.file old.unsealed c.requires.usable.log) stands.current)
          b d first.images
          (subst (λ (n : FileName). Moves b d (OnFile n (CountsFrames []))) name (current_alone mid b d [] (closed_frames mid.unsealed [] [] c.args.moment) second.images));
      files = beside_both old a.files b.files d.files first.files (subst (λ (n : FileName). SameBut n b.files d.files) name (same_alone mid b.files d.files second.files));
      closed = tt;
      silent = Silent-trans a b d first.images.later second.images.later first.silent second.silent;
      spent = λ s err. absurd (c.write.ensures.unspent s cc);
      refused = λ sound. let no : true ≡ false = sound in cc;
    }
