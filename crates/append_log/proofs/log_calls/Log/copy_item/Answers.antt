use Rattle.std.proofs.Common.{◌≤◌, List, ℕ, length, subst, sym}
use Rattle.cache_model.specs.Items.{spelling}
use Rattle.cache_model.proofs.Spelling.{spelling-most}
use Rattle.append_log.specs.Current.{is_over}
use Rattle.append_log.specs.Standing.{put_held}
use Rattle.append_log.proofs.Fetched.{is_item}
use Rattle.append_log.proofs.Holding.{standing_as, stands_on}
use Rattle.append_log.proofs.log_calls.Log.copy_item.Goals as goal

pub write_checked-requires-clause-short : goal.write_checked-requires-clause-short
write_checked-requires-clause-short g c =
    let one = c.requires.item in
    subst (λ (l : List ℕ). length l ≤ 66583) (sym one.2) (spelling-most one.0 (is_item one.0 one.1))

pub returns-clause-stands : goal.returns-clause-stands
returns-clause-stands g c told sound =
    let old = c.args.self.now.files in
    let new = c.write_checked.new.self in
    let b = g.H.Host.state c.write_checked.new.host in
    let one = c.requires.item in
    let stands = c.requires.stands told in
    let told_by = c.write_checked.ensures.told told stands.0 one.0 stands.1 one.1 one.2 in
    stands_on old new (g.H.Host.state c.args.host.now) b stands.0 c.write_checked.result stands.1
    (standing_as new b (put_held (is_over old.log old.file_size (length c.args.item.now)) old.unsealed old.file c.args.moment stands.0 one.0) c.write_checked.result told_by.stands)
    told_by.refused c.write_checked.ensures.goes.refused sound
