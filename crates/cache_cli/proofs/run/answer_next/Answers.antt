use Rattle.std.proofs.Common.{true, Ok, Err, refl, sym, ap, subst, List, ℕ}
use Rattle.cache_model.specs.Lines.{lines_of}
use Rattle.cache_script.specs.declared.line_reader.Taken.{Taken}
use Rattle.cache_script.specs.LineReader.{unread, units_taken, HasContent, Takes}
use Rattle.cache_cli.specs.Talk.{asked_in}
use Rattle.cache_cli.specs.Run.{view_by, IsTalking}
use Rattle.cache_cli.proofs.Ending.{ends_early}
use Rattle.cache_cli.proofs.Later.{later_same}
use Rattle.cache_cli.proofs.Stepping.{has_line, answered_line, long_goes, long_ends, answered_end, ends_taken}
use Rattle.cache_cli.proofs.run.answer_next.Goals as goal

pub returns-in-Ok-Line-clause-answered : goal.returns-in-Ok-Line-clause-answered
returns-in-Ok-Line-clause-answered g c = λ tells told from course ordered talk on.
    let start = g.H.Host.state from in
    let old = view_by g.S.Keyed.facts g.S.Keyed.means c.args.session.now (g.H.Host.state c.args.host.now) in
    let new = view_by g.S.Keyed.facts g.S.Keyed.means c.answer_line.new.session (g.H.Host.state c.answer_line.new.host) in
    let rest_old = g.I.Source.rest c.args.script.now in
    let rest_new = g.I.Source.rest c.next.new.source in
    let before = c.args.reader.now in
    let after = c.next.new.self in
    let took = subst (λ (t : Taken). Takes t (unread before rest_old) (unread after rest_new) (units_taken before) after) c.in-Ok-Line.field-0-is (c.in-Ok-Line.ensures.told told) in
    let line = took.0 in
    let means = subst (λ (text : List ℕ). HasContent line text) (sym c.line.ensures) took.2 in
    let talking = has_line start course ordered talk old new before after rest_old rest_new line on took.1 in
    answered_line start course ordered talk old new before after rest_old rest_new line on took.1 c.answer_line.result
    (c.answer_line.ensures.answered tells from course ordered line (lines_of (unread after rest_new)) talk talking means.means)

pub returns-in-Ok-clause-answered : goal.returns-in-Ok-clause-answered
returns-in-Ok-clause-answered g c = λ tells told from course ordered talk on.
    let start = g.H.Host.state from in
    let old = view_by g.S.Keyed.facts g.S.Keyed.means c.args.session.now (g.H.Host.state c.args.host.now) in
    let new = view_by g.S.Keyed.facts g.S.Keyed.means c.args.session.now (g.H.Host.state c.refuse_long.new.host) in
    let rest_old = g.I.Source.rest c.args.script.now in
    let rest_new = g.I.Source.rest c.next.new.source in
    let before = c.args.reader.now in
    let after = c.next.new.self in
    let took = subst (λ (t : Taken). Takes t (unread before rest_old) (unread after rest_new) (units_taken before) after) c.in-Ok-Long.field-0-is (c.in-Ok-Long.ensures.told told) in
    let line = took.0 in
    let left = lines_of (unread after rest_new) in
    let talking = has_line start course ordered talk old new before after rest_old rest_new line on took.1 in
    let answered = c.in-Ok.ensures.answered tells from course ordered line left talk talking took.2.means in
    answered_line start course ordered talk old new before after rest_old rest_new line on took.1 (Ok true) (long_goes start course ordered left _ _ new answered)

pub returns-in-Err-clause-answered : goal.returns-in-Err-clause-answered
returns-in-Err-clause-answered g c = λ tells told from course ordered talk on.
    let start = g.H.Host.state from in
    let old = view_by g.S.Keyed.facts g.S.Keyed.means c.args.session.now (g.H.Host.state c.args.host.now) in
    let new = view_by g.S.Keyed.facts g.S.Keyed.means c.args.session.now (g.H.Host.state c.refuse_long.new.host) in
    let rest_old = g.I.Source.rest c.args.script.now in
    let rest_new = g.I.Source.rest c.next.new.source in
    let before = c.args.reader.now in
    let after = c.next.new.self in
    let took = subst (λ (t : Taken). Takes t (unread before rest_old) (unread after rest_new) (units_taken before) after) c.in-Ok-Long.field-0-is (c.in-Ok-Long.ensures.told told) in
    let line = took.0 in
    let left = lines_of (unread after rest_new) in
    let talking = has_line start course ordered talk old new before after rest_old rest_new line on took.1 in
    let answered = c.in-Err.ensures.answered tells from course ordered line left talk talking took.2.means in
    answered_line start course ordered talk old new before after rest_old rest_new line on took.1 (Err c.in-Err.status) (long_ends start course ordered left _ _ new c.in-Err.status answered)

pub returns-in-Ok-answer_end-clause-answered : goal.returns-in-Ok-answer_end-clause-answered
returns-in-Ok-answer_end-clause-answered g c = λ tells told from course ordered talk on.
    let start = g.H.Host.state from in
    let old = view_by g.S.Keyed.facts g.S.Keyed.means c.args.session.now (g.H.Host.state c.args.host.now) in
    let new = view_by g.S.Keyed.facts g.S.Keyed.means c.answer_end.new.session (g.H.Host.state c.answer_end.new.host) in
    let rest_old = g.I.Source.rest c.args.script.now in
    let rest_new = g.I.Source.rest c.next.new.source in
    let before = c.args.reader.now in
    let after = c.next.new.self in
    let took = subst (λ (t : Taken). Takes t (unread before rest_old) (unread after rest_new) (units_taken before) after) c.in-Ok-End.field-0-is (c.in-Ok-End.ensures.told told) in
    let talking = subst (λ (left : List (List ℕ)). IsTalking start course ordered left talk old) (ap lines_of took.0) on.talking in
    answered_end start course ordered talk old new before after rest_old rest_new on took.3 (c.in-Ok-answer_end.ensures.ended tells from course ordered talk talking)

pub returns-in-Err-answer_end-clause-answered : goal.returns-in-Err-answer_end-clause-answered
returns-in-Err-answer_end-clause-answered g c = λ tells told from course ordered talk on.
    let start = g.H.Host.state from in
    let old = view_by g.S.Keyed.facts g.S.Keyed.means c.args.session.now (g.H.Host.state c.args.host.now) in
    let rest_old = g.I.Source.rest c.args.script.now in
    let rest_new = g.I.Source.rest c.next.new.source in
    let before = c.args.reader.now in
    let after = c.next.new.self in
    let took = subst (λ (t : Taken). Takes t (unread before rest_old) (unread after rest_new) (units_taken before) after) c.in-Ok-End.field-0-is (c.in-Ok-End.ensures.told told) in
    let talking = subst (λ (left : List (List ℕ)). IsTalking start course ordered left talk old) (ap lines_of took.0) on.talking in
    let closed = c.in-Err-answer_end.ensures.ended tells from course ordered talk talking in
    record { goes = tt; ends = closed.ends; holds = closed.holds }

pub returns-in-Ok-Spent-clause-answered : goal.returns-in-Ok-Spent-clause-answered
returns-in-Ok-Spent-clause-answered g c = λ tells told from course ordered talk on.
    let old = view_by g.S.Keyed.facts g.S.Keyed.means c.args.session.now (g.H.Host.state c.args.host.now) in
    let rest_old = g.I.Source.rest c.args.script.now in
    let rest_new = g.I.Source.rest c.next.new.source in
    let before = c.args.reader.now in
    let after = c.next.new.self in
    let took = subst (λ (t : Taken). Takes t (unread before rest_old) (unread after rest_new) (units_taken before) after) c.in-Ok-Spent.field-0-is (c.in-Ok-Spent.ensures.told told) in
    record { goes = tt; ends = ends_taken (g.H.Host.state from) course ordered talk old before rest_old on took; holds = on.talking.0.holds }

pub returns-in-Err-Failed-clause-answered : goal.returns-in-Err-Failed-clause-answered
returns-in-Err-Failed-clause-answered g c = λ tells told from course ordered talk on.
    let old = view_by g.S.Keyed.facts g.S.Keyed.means c.args.session.now (g.H.Host.state c.args.host.now) in
    record { goes = tt; ends = ends_early (g.H.Host.state from) course ordered _ talk (asked_in course talk) old old.host on.talking refl (later_same old.host); holds = on.talking.0.holds }

pub returns-in-Err-Memory-clause-answered : goal.returns-in-Err-Memory-clause-answered
returns-in-Err-Memory-clause-answered g c = λ tells told from course ordered talk on.
    let old = view_by g.S.Keyed.facts g.S.Keyed.means c.args.session.now (g.H.Host.state c.args.host.now) in
    record { goes = tt; ends = ends_early (g.H.Host.state from) course ordered _ talk (asked_in course talk) old old.host on.talking refl (later_same old.host); holds = on.talking.0.holds }
