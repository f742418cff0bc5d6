use Rattle.std.proofs.Common.{◌∙◌, sym, ap, refl, ℕ}
use Rattle.cache_model.specs.Replies.{opened_line}
use Rattle.cache_session.specs.Turns.{store_of}
use Rattle.cache_cli.specs.Run.{view_by}
use Rattle.cache_cli.specs.Opening.{first_talk}
use Rattle.cache_cli.proofs.Beginning.{in_hand_opened, finished_unopened, finished_unsaid, finished_untaken, talks_new, ran_finished}
use Rattle.cache_cli.proofs.serve.answer_from_opening.Goals as goal

pub returns-in_default-clause-finished : goal.returns-in_default-clause-finished
returns-in_default-clause-finished g c = λ tells told course ordered lines pump begins.
    let session = c.args.session.now in
    let now = view_by g.S.Keyed.facts g.S.Keyed.means session (g.H.Host.state c.args.host.now) in
    let holds = g.met.S.ReadStore.holds_now (store_of session) c.args.host.now tells c.requires.fit.ready.unspoilt (c.requires.stands tells) in
    finished_unopened course ordered now begins holds

pub returns-in-Err-clause-finished : goal.returns-in-Err-clause-finished
returns-in-Err-clause-finished g c = λ tells told course ordered lines pump begins.
    let session = c.args.session.now in
    let old = view_by g.S.Keyed.facts g.S.Keyed.means session (g.H.Host.state c.args.host.now) in
    let now = view_by g.S.Keyed.facts g.S.Keyed.means session (g.H.Host.state c.say_answer.new.host) in
    let holds = g.met.S.ReadStore.holds_now (store_of session) c.args.host.now tells c.requires.fit.ready.unspoilt (c.requires.stands tells) in
    let talk = first_talk begins.opening begins.first in
    let hand = in_hand_opened course ordered old begins holds c.as_bytes.result.now (c.as_bytes.ensures.value ∙ c.in-Ok.ensures ∙ ap (λ (m : ℕ). opened_line m) c.moment.ensures) in
    finished_unsaid course ordered talk old now c.in-Err.status (c.in-Err.ensures.told tells c.args.host.now course ordered course.lines talk 0 hand)

pub returns-in_default-new-clause-finished : goal.returns-in_default-new-clause-finished
returns-in_default-new-clause-finished g c = λ tells told course ordered lines pump begins.
    let session = c.args.session.now in
    let old = view_by g.S.Keyed.facts g.S.Keyed.means session (g.H.Host.state c.args.host.now) in
    let now = view_by g.S.Keyed.facts g.S.Keyed.means session (g.H.Host.state c.say_answer.new.host) in
    let holds = g.met.S.ReadStore.holds_now (store_of session) c.args.host.now tells c.requires.fit.ready.unspoilt (c.requires.stands tells) in
    let talk = first_talk begins.opening begins.first in
    let hand = in_hand_opened course ordered old begins holds c.as_bytes.result.now (c.as_bytes.ensures.value ∙ c.in-Ok.ensures ∙ ap (λ (m : ℕ). opened_line m) c.moment.ensures) in
    finished_untaken old.host course ordered talk old now refl refl (c.in_default-say_answer.ensures.told tells c.args.host.now course ordered course.lines talk 0 hand)

pub returns-clause-finished : goal.returns-clause-finished
returns-clause-finished g c = λ tells told course ordered lines pump begins.
    let session = c.args.session.now in
    let old = view_by g.S.Keyed.facts g.S.Keyed.means session (g.H.Host.state c.args.host.now) in
    let mid = view_by g.S.Keyed.facts g.S.Keyed.means session (g.H.Host.state c.say_answer.new.host) in
    let now = view_by g.S.Keyed.facts g.S.Keyed.means c.answer_script.new.session (g.H.Host.state c.answer_script.new.host) in
    let holds = g.met.S.ReadStore.holds_now (store_of session) c.args.host.now tells c.requires.fit.ready.unspoilt (c.requires.stands tells) in
    let talk = first_talk begins.opening begins.first in
    let hand = in_hand_opened course ordered old begins holds c.as_bytes.result.now (c.as_bytes.ensures.value ∙ c.in-Ok.ensures ∙ ap (λ (m : ℕ). opened_line m) c.moment.ensures) in
    let said = c.in_default-say_answer.ensures.told tells c.args.host.now course ordered course.lines talk 0 hand in
    let on = talks_new old.host course ordered talk mid c.in-Ok-new.reader (g.I.Source.rest c.args.script.now) lines said.goes refl refl refl c.in-Ok-new.ensures.new in
    ran_finished old.host course ordered now c.answer_script.result (c.answer_script.ensures.ran tells told c.args.host.now course ordered talk on (record { next = c.new-pump.ensures.next; count = pump ∙ sym c.new-pump.ensures.count }))
