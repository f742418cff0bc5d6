use Rattle.std.proofs.Common.{◌≡◌, ◌∙◌, List, ℕ, length, sym, subst}
use Rattle.cache_model.specs.Items.{spelling}
use Rattle.record_format.specs.Changing.{item_by}
use Rattle.append_log.specs.declared.log_files.LogFiles.{LogFiles}
use Rattle.append_log.specs.Current.{closes, is_over}
use Rattle.append_log.specs.Standing.{Stands, put_held}
use Rattle.append_log.specs.Calls.{Goes, PutsBy}
use Rattle.append_log.proofs.Holding.{standing_as, stands_on}
use Rattle.append_log.proofs.log_calls.Log.put_change.Goals as goal

pub returns-clause-told : goal.returns-clause-told
returns-clause-told g c told held stands =
    let old = c.args.self.now.files in
    let mid = c.spell.new.self.files in
    let new = c.put_checked.new.self in
    let a = g.H.Host.state c.args.host.now in
    let b = g.H.Host.state c.put_checked.new.host in
    let bytes = c.deref.result.now in
    let one = item_by old.next c.args.change.now in
    let same : mid ≡ old = c.spell.ensures.files in
    let spelled : bytes ≡ spelling one = c.deref.ensures.value ∙ c.in_default.ensures.spelled in
    subst (λ (l : List ℕ). PutsBy (is_over old.log old.file_size (length l)) one c.args.moment held old new a b c.put_checked.result) spelled
    (subst (λ (f : LogFiles). PutsBy (is_over f.log f.file_size (length bytes)) one c.args.moment held f new a b c.put_checked.result) same
    (c.put_checked.ensures.told told held one (subst (λ (f : LogFiles). Stands f a held) (sym same) stands) c.spell.ensures.record spelled))

pub returns-clause-stands : goal.returns-clause-stands
returns-clause-stands g c told sound =
    let old = c.args.self.now.files in
    let stands = c.requires.stands told in
    let told_by = returns-clause-told g c told stands.0 stands.1 in
    stands_on old c.put_checked.new.self (g.H.Host.state c.args.host.now) (g.H.Host.state c.put_checked.new.host) stands.0 c.put_checked.result stands.1
    (standing_as c.put_checked.new.self (g.H.Host.state c.put_checked.new.host) (put_held (closes old c.args.change.now) old.unsealed old.file c.args.moment stands.0 (item_by old.next c.args.change.now)) c.put_checked.result told_by.stands)
    told_by.refused (subst (λ (f : LogFiles). Goes f c.put_checked.new.self c.put_checked.result) c.spell.ensures.files c.put_checked.ensures.goes).refused sound
