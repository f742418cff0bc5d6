use Rattle.std.proofs.Common.{Ok, Option, subst}
use Rattle.cache_model.specs.declared.replies.Turned.{Turned}
use Rattle.soft_index.specs.declared.running.Run.{Run}
use Rattle.soft_index.specs.Running.{HasBegun}
use Rattle.soft_index.specs.Store.{log_facts}
use Rattle.soft_index.proofs.Turned.{turned_failed, turned_first, turned_idle}
use Rattle.soft_index.proofs.Turning.{plainly_then}
use Rattle.soft_index.proofs.compacting.first_turn.Goals as goal

pub returns-in-Ok-Some-clause-plain : goal.returns-in-Ok-Some-clause-plain
returns-in-Ok-Some-clause-plain g c =
    plainly_then {T = Option Run} {U = Turned} (log_facts c.args.store.now.log) (log_facts c.begin_next.new.store) (log_facts c.go_on.new.store.log) c.args.moment (Ok c.in-Ok-Some.field-0) c.go_on.result c.in-Ok-Some.ensures.plain c.go_on.ensures.plain

pub returns-in-Ok-Some-clause-told : goal.returns-in-Ok-Some-clause-told
returns-in-Ok-Some-clause-told g c told =
    let old = c.args.store.now in
    let mid = c.begin_next.new.store in
    let a = g.H.Host.state c.args.host.now in
    let b = g.H.Host.state c.begin_next.new.host in
    turned_first old mid c.go_on.new.store a b (g.H.Host.state c.go_on.new.host) c.args.moment c.in-Ok-Some.run' c.go_on.result c.requires.none c.in-Ok-Some.ensures.plain.same
    (subst (λ (found : Option Run). HasBegun old.threshold old.log mid a b c.args.moment (Ok found)) c.in-Ok-Some.field-0-is (c.in-Ok-Some.ensures.told told)) c.go_on.ensures.done (c.go_on.ensures.told told)

pub returns-in-Ok-None-clause-told : goal.returns-in-Ok-None-clause-told
returns-in-Ok-None-clause-told g c told =
    let old = c.args.store.now in
    let mid = c.begin_next.new.store in
    let a = g.H.Host.state c.args.host.now in
    let b = g.H.Host.state c.begin_next.new.host in
    turned_idle old mid a b c.args.moment c.requires.none (subst (λ (found : Option Run). HasBegun old.threshold old.log mid a b c.args.moment (Ok found)) c.in-Ok-None.field-0-is (c.in-Ok-None.ensures.told told))

pub returns-in-Err-clause-told : goal.returns-in-Err-clause-told
returns-in-Err-clause-told g c told =
    let old = c.args.store.now in
    turned_failed old (record old { log = c.begin_next.new.store }) (g.H.Host.state c.args.host.now) (g.H.Host.state c.begin_next.new.host) c.args.moment c.in-Err.fault (c.in-Err.ensures.told told)
