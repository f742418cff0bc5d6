use Rattle.std.proofs.Common.{refl, inr, sym, subst}
use Rattle.cache_model.specs.declared.settings.Settings.{Settings}
use Rattle.cache_model.specs.Lines.{lines_of}
use Rattle.cache_cli.specs.Serving.{course_by, Serves}
use Rattle.cache_cli.proofs.Same.{same_back, sound_same}
use Rattle.cache_cli.proofs.Unset.{foreign_same, unset_by, unset_cause, unread, unread_foreign, unread_refused, unread_serves, still_others, others_behind, cause_behind, never_settings}
use Rattle.cache_cli.proofs.serve.serve.Goals as goal

pub returns-in-Ok-clause-serves : goal.returns-in-Ok-clause-serves
returns-in-Ok-clause-serves g c = λ tells told given words settings has.
    let old = g.H.Host.state c.args.host.now in
    let new = g.H.Host.state c.serve_with.new.host in
    let lines = lines_of (g.I.Source.rest c.args.script.now) in
    subst (λ (s : Settings). Serves c.serve_with.result old new (course_by s old given lines)) (sym (c.in-Ok.ensures.sole tells settings has))
    (c.serve_with.ensures.serves tells told given words c.args.host.now (c.settings_in.ensures.stands tells))

pub returns-in-Ok-clause-others : goal.returns-in-Ok-clause-others
returns-in-Ok-clause-others g c = λ tells told.
    others_behind (g.H.Host.state c.args.host.now) (g.H.Host.state c.settings_in.new.host) (g.H.Host.state c.serve_with.new.host) (c.settings_in.ensures.stands tells) (c.serve_with.ensures.others tells told)

pub returns-in-Ok-clause-cause : goal.returns-in-Ok-clause-cause
returns-in-Ok-clause-cause g c =
    inr (cause_behind c.serve_with.result (g.H.Host.state c.args.host.now) (g.H.Host.state c.settings_in.new.host) (g.H.Host.state c.serve_with.new.host) _ _ c.in-Ok.ensures.cause c.serve_with.ensures.cause)

pub returns-in-Err-clause-cause : goal.returns-in-Err-clause-cause
returns-in-Err-clause-cause g c = unset_cause c.in-Err.status (g.H.Host.state c.args.host.now) (g.H.Host.state c.settings_in.new.host) (g.I.Source.faults c.args.script.now) c.in-Err.ensures.cause

pub returns-in-Err-clause-others : goal.returns-in-Err-clause-others
returns-in-Err-clause-others g c = λ tells told. still_others (g.H.Host.state c.args.host.now) (g.H.Host.state c.settings_in.new.host) (c.settings_in.ensures.stands tells)

pub returns-in-Ok-clause-foreign : goal.returns-in-Ok-clause-foreign
returns-in-Ok-clause-foreign g c = λ tells foreign given words settings has.
    c.serve_with.ensures.foreign tells (foreign_same (g.H.Host.state c.settings_in.new.host).files (g.H.Host.state c.args.host.now).files (same_back (g.H.Host.state c.args.host.now).files (g.H.Host.state c.settings_in.new.host).files (c.settings_in.ensures.stands tells).files) foreign) given words

pub returns-in-Ok-clause-refused : goal.returns-in-Ok-clause-refused
returns-in-Ok-clause-refused g c = λ tells known damaged given words settings has.
    let old = (g.H.Host.state c.args.host.now).files in
    let mid = (g.H.Host.state c.settings_in.new.host).files in
    let same = (c.settings_in.ensures.stands tells).files in
    c.serve_with.ensures.refused tells (λ foreign. known (foreign_same old mid same foreign)) (λ sound. damaged (sound_same mid old (same_back old mid same) sound)) given words

pub returns-in-Ok-clause-settings : goal.returns-in-Ok-clause-settings
returns-in-Ok-clause-settings g c = λ tells given words. record {
  without = λ none. absurd (none c.in-Ok.settings (c.in-Ok.ensures.says tells));
  only = λ is. absurd (never_settings c.serve_with.result (g.H.Host.state c.settings_in.new.host) (g.H.Host.state c.serve_with.new.host) _ _ c.serve_with.ensures.cause is);
}

pub returns-in-Err-clause-settings : goal.returns-in-Err-clause-settings
returns-in-Err-clause-settings g c = λ tells given words. record {
  without = λ none. (unset_by c.in-Err.status (g.H.Host.state c.args.host.now) (g.H.Host.state c.settings_in.new.host) c.in-Err.ensures.cause, c.settings_in.ensures.stands tells);
  only = c.in-Err.ensures.wrong tells;
}

pub returns-in-Err-clause-foreign : goal.returns-in-Err-clause-foreign
returns-in-Err-clause-foreign g c = λ tells foreign given words settings has.
    unread_foreign c.in-Err.status (unread c.in-Err.status (g.H.Host.state c.args.host.now) (g.H.Host.state c.settings_in.new.host) c.in-Err.ensures.cause (λ is. c.in-Err.ensures.wrong tells is settings has))

pub returns-in-Err-clause-refused : goal.returns-in-Err-clause-refused
returns-in-Err-clause-refused g c = λ tells known damaged given words settings has.
    unread_refused c.in-Err.status (unread c.in-Err.status (g.H.Host.state c.args.host.now) (g.H.Host.state c.settings_in.new.host) c.in-Err.ensures.cause (λ is. c.in-Err.ensures.wrong tells is settings has))

pub returns-in-Err-clause-serves : goal.returns-in-Err-clause-serves
returns-in-Err-clause-serves g c = λ tells told given words settings has.
    let old = g.H.Host.state c.args.host.now in
    let mid = g.H.Host.state c.settings_in.new.host in
    unread_serves old mid (course_by settings old given (lines_of (g.I.Source.rest c.args.script.now))) c.in-Err.status refl (c.settings_in.ensures.stands tells)
    (unread c.in-Err.status old mid c.in-Err.ensures.cause (λ is. c.in-Err.ensures.wrong tells is settings has))
