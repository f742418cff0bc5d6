use Rattle.std.proofs.Common.{◌∙◌, ◌<◌, sym, subst, ℕ}
use Rattle.append_log.specs.Current.{files_of, is_unsealed}
use Rattle.cache_disk.proofs.Runs.{Stands-same}
use Rattle.compactor.specs.Recounting.{IsClosedFile}
use Rattle.soft_index.specs.Store.{current_of, number, writer}
use Rattle.soft_index.proofs.Acting.{current_by_files, next_by_files}
use Rattle.soft_index.proofs.Beginning.{candidate_closed, candidate_named, named_other, named_same, over_begun, over_failed, over_none, over_refused}
use Rattle.soft_index.proofs.Turning.{current_tail}
use Rattle.soft_index.proofs.compacting.begin_over.Goals as goal

pub returns-in-Err-clause-told : goal.returns-in-Err-clause-told
returns-in-Err-clause-told g c told =
    let held = c.requires.stands told in
    over_refused c.args.file c.args.store.now c.empty.new.store (g.H.Host.state c.args.host.now) (g.H.Host.state c.empty.new.host) c.args.moment c.in-Err.fault held.frames held.records (c.empty.ensures.still told) (c.in-Err.ensures.told told held.frames held.records held.log)

pub returns-then-eq-clause-told : goal.returns-then-eq-clause-told
returns-then-eq-clause-told g c told =
    let old = c.args.store.now in
    let mid = c.empty.new.store in
    let b = g.H.Host.state c.empty.new.host in
    let held = c.requires.stands told in
    let log = c.in_default.ensures.log in
    let current = c.current.ensures ∙ sym (current_tail (writer mid) (number mid) (is_unsealed (files_of mid.parts.log))) ∙ current_by_files old mid log in
    over_none old mid (g.H.Host.state c.args.host.now) b b c.args.moment held c.in_default.ensures.plain.same (c.empty.ensures.still told) (Stands-same b)
    c.in_default.ensures.plain.unspoilt c.empty.ensures.latest log (c.in_default.ensures.told told held.frames held.records held.log) c.in_default.ensures.emptied
    c.args.file (λ is. is.1 (sym current ∙ named_same c.current.result c.args.file c.if-eq.ensures))

pub returns-in_default-data_file_name-clause-told : goal.returns-in_default-data_file_name-clause-told
returns-in_default-data_file_name-clause-told g c told =
    let old = c.args.store.now in
    let mid = c.empty.new.store in
    let a = g.H.Host.state c.args.host.now in
    let b = g.H.Host.state c.empty.new.host in
    let held = c.requires.stands told in
    let log = c.in_default.ensures.log in
    over_none old mid a b b c.args.moment held c.in_default.ensures.plain.same (c.empty.ensures.still told) (Stands-same b)
    c.in_default.ensures.plain.unspoilt c.empty.ensures.latest log (c.in_default.ensures.told told held.frames held.records held.log) c.in_default.ensures.emptied
    c.args.file (λ (is : IsClosedFile a.files (current_of (writer old) (number old)) c.args.file).
    let named = candidate_named old a held.frames held.records c.args.file held.log held.zero is.0 (candidate_closed old a held.frames held.records c.args.file held.log is.0 is.1) in
    c.in_default-data_file_name.ensures (named.0, subst (λ (n : ℕ). c.args.file < n) (next_by_files mid old (sym log) ∙ sym c.next_file.ensures) named.1))

pub returns-in-Ok-clause-told : goal.returns-in-Ok-clause-told
returns-in-Ok-clause-told g c told =
    let old = c.args.store.now in
    let mid = c.empty.new.store in
    let held = c.requires.stands told in
    let log = c.in_default.ensures.log in
    let current = c.current.ensures ∙ sym (current_tail (writer mid) (number mid) (is_unsealed (files_of mid.parts.log))) ∙ current_by_files old mid log in
    over_begun old mid (g.H.Host.state c.args.host.now) (g.H.Host.state c.empty.new.host) (g.H.Host.state c.begin.new.host) c.args.moment held c.in_default.ensures.plain.same (c.empty.ensures.still told) (c.begin.ensures.still told)
    c.in_default.ensures.plain.unspoilt c.empty.ensures.latest log (c.in_default.ensures.told told held.frames held.records held.log) c.in_default.ensures.emptied
    c.args.file c.in-Ok.begun (λ is. named_other c.current.result c.args.file c.if-eq.ensures (current ∙ is)) c.in-Ok.ensures.begun (c.in-Ok.ensures.scans told)

pub returns-in-Err-begin-clause-told : goal.returns-in-Err-begin-clause-told
returns-in-Err-begin-clause-told g c told =
    let old = c.args.store.now in
    let mid = c.empty.new.store in
    let held = c.requires.stands told in
    over_failed old mid (g.H.Host.state c.args.host.now) (g.H.Host.state c.empty.new.host) (g.H.Host.state c.begin.new.host) c.args.moment held c.in_default.ensures.plain.same (c.empty.ensures.still told) (c.begin.ensures.still told)
    c.in_default.ensures.plain.unspoilt c.empty.ensures.latest c.in_default.ensures.log (c.in_default.ensures.told told held.frames held.records held.log)
    c.args.file c.in-Err-begin.fault (λ d err. c.in-Err-begin.ensures.undamaged d cc) (λ s err. c.in-Err-begin.ensures.unspent s cc)
