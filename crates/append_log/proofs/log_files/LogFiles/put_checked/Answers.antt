use Rattle.std.proofs.Common.{◌+◌, ℕ, ap, length}
use Rattle.append_log.specs.Standing.{put_held}
use Rattle.append_log.specs.Current.{is_over}
use Rattle.append_log.proofs.Holding.{holds_next}
use Rattle.append_log.proofs.log_files.LogFiles.put_checked.Goals as goal

pub returns-in-Ok-clause-put : goal.returns-in-Ok-clause-put
returns-in-Ok-clause-put g c =
    let written = c.in-Ok.ensures.written in
    record {
      next_seq = ap (λ (n : ℕ). n + 1) written.next_seq;
      next_file = written.next_file;
      file = written.file;
      length_is = written.length_is;
      tail = written.tail;
      mark = written.mark;
    }

pub returns-in-Ok-clause-told : goal.returns-in-Ok-clause-told
returns-in-Ok-clause-told g c told held one stands is spelled =
    let old = c.args.self.now in
    let mid = c.write_checked.new.self in
    let over = is_over old.log old.file_size (length c.args.spelled.now) in
    let first = c.in-Ok.ensures.told told held one stands is spelled in
    record {
      stands = holds_next mid (mid.next + 1) (g.H.Host.state c.write_checked.new.host) (put_held over old.unsealed old.file c.args.moment held one) first.stands;
      at = first.at;
      images = first.images;
      files = first.files;
      closed = first.closed;
      silent = first.silent;
      spent = λ s err. cc;
      refused = tt;
    }
