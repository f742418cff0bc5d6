use Rattle.std.proofs.Common.{◌∙◌, ◌<◌, None, Option, Some, sym, subst, ℕ}
use Rattle.append_log.specs.Current.{files_of, is_unsealed}
use Rattle.file_stats.specs.Figures.{IsLeastCandidate}
use Rattle.soft_index.specs.Store.{current_of, number, writer}
use Rattle.soft_index.proofs.Acting.{current_by_files, next_by_files}
use Rattle.soft_index.proofs.Beginning.{begun_failed, begun_none, begun_next, begun_refused, candidate_closed, candidate_named, candidate_other, candidate_there}
use Rattle.soft_index.proofs.Turning.{current_tail}
use Rattle.soft_index.proofs.compacting.begin_next.Goals as goal

pub returns-in-Err-clause-told : goal.returns-in-Err-clause-told
returns-in-Err-clause-told g c told =
    let old = c.args.store.now in
    let held = c.requires.stands told in
    begun_refused c.args.threshold old c.empty.new.store (g.H.Host.state c.args.host.now) (g.H.Host.state c.empty.new.host) c.args.moment c.in-Err.fault held.frames held.records (c.empty.ensures.still told) (c.in-Err.ensures.told told held.frames held.records held.log)

pub returns-in_default-candidate-clause-told : goal.returns-in_default-candidate-clause-told
returns-in_default-candidate-clause-told g c told =
    let old = c.args.store.now in
    let mid = c.empty.new.store in
    let held = c.requires.stands told in
    let log = c.in_default.ensures.log in
    let current = c.current-current.ensures ∙ sym (current_tail (writer mid) (number mid) (is_unsealed (files_of mid.parts.log))) ∙ current_by_files old mid log in
    begun_none c.args.threshold old mid (g.H.Host.state c.args.host.now) (g.H.Host.state c.empty.new.host) c.args.moment held (c.empty.ensures.still told) log c.in_default.ensures.emptied
    (c.in_default.ensures.told told held.frames held.records held.log) (c.in_default.ensures.rows told held.frames held.records held.log)
    (subst (λ (n : Option ℕ). IsLeastCandidate c.args.threshold n mid.parts.stats.rows None) current c.in_default-candidate.ensures)

pub returns-in_default-data_file_name-clause-told : goal.returns-in_default-data_file_name-clause-told
returns-in_default-data_file_name-clause-told g c told =
    let old = c.args.store.now in
    let mid = c.empty.new.store in
    let a = g.H.Host.state c.args.host.now in
    let held = c.requires.stands told in
    let log = c.in_default.ensures.log in
    let current = c.current-current.ensures ∙ sym (current_tail (writer mid) (number mid) (is_unsealed (files_of mid.parts.log))) ∙ current_by_files old mid log in
    let least = subst (λ (n : Option ℕ). IsLeastCandidate c.args.threshold n mid.parts.stats.rows (Some c.in-Some.file)) current c.in-Some.ensures in
    let there = candidate_there a.files (current_of (writer old) (number old)) c.args.threshold mid.parts.stats.rows c.in-Some.file (c.in_default.ensures.rows told held.frames held.records held.log) least in
    let closed = candidate_closed old a held.frames held.records c.in-Some.file held.log there (candidate_other (current_of (writer old) (number old)) c.args.threshold mid.parts.stats.rows c.in-Some.file least) in
    let named = candidate_named old a held.frames held.records c.in-Some.file held.log held.zero there closed in
    absurd (c.in_default-data_file_name.ensures (named.0, subst (λ (n : ℕ). c.in-Some.file < n) (next_by_files mid old (sym log) ∙ sym c.next_file.ensures) named.1))

pub returns-in-Ok-clause-told : goal.returns-in-Ok-clause-told
returns-in-Ok-clause-told g c told =
    let old = c.args.store.now in
    let mid = c.empty.new.store in
    let a = g.H.Host.state c.args.host.now in
    let b = g.H.Host.state c.empty.new.host in
    let held = c.requires.stands told in
    let log = c.in_default.ensures.log in
    let current = c.current-current.ensures ∙ sym (current_tail (writer mid) (number mid) (is_unsealed (files_of mid.parts.log))) ∙ current_by_files old mid log in
    let least = subst (λ (n : Option ℕ). IsLeastCandidate c.args.threshold n mid.parts.stats.rows (Some c.in-Some.file)) current c.in-Some.ensures in
    begun_next old mid a b (g.H.Host.state c.begin.new.host) c.args.moment held c.in_default.ensures.plain.same (c.empty.ensures.still told) (c.begin.ensures.still told)
    c.in_default.ensures.plain.unspoilt c.empty.ensures.latest log (c.in_default.ensures.told told held.frames held.records held.log) c.in_default.ensures.emptied
    c.args.threshold c.in-Some.file c.in-Ok.begun (c.in_default.ensures.rows told held.frames held.records held.log) least c.in-Ok.ensures.begun (c.in-Ok.ensures.scans told)

pub returns-in-Err-begin-clause-told : goal.returns-in-Err-begin-clause-told
returns-in-Err-begin-clause-told g c told =
    let old = c.args.store.now in
    let mid = c.empty.new.store in
    let held = c.requires.stands told in
    begun_failed old mid (g.H.Host.state c.args.host.now) (g.H.Host.state c.empty.new.host) (g.H.Host.state c.begin.new.host) c.args.moment held c.in_default.ensures.plain.same (c.empty.ensures.still told) (c.begin.ensures.still told)
    c.in_default.ensures.plain.unspoilt c.empty.ensures.latest c.in_default.ensures.log (c.in_default.ensures.told told held.frames held.records held.log)
    c.args.threshold c.in-Err-begin.fault (λ d err. c.in-Err-begin.ensures.undamaged d cc) (λ s err. c.in-Err-begin.ensures.unspent s cc)
