use Rattle.std.proofs.Common.{false, sym, subst, refl}
use Rattle.append_log.specs.declared.log_files.LogFiles.{LogFiles}
use Rattle.append_log.specs.Standing.{Stands, closed_held}
use Rattle.append_log.proofs.Stamped.{closed_now, stamped_next, stamps_failed, stamps_next}
use Rattle.append_log.proofs.log_files.LogFiles.stamp_behind.Goals as goal

pub stamp_here-requires-clause-stands : goal.stamp_here-requires-clause-stands
stamp_here-requires-clause-stands g c told =
    let old = c.args.self.now in
    let a = g.H.Host.state c.args.host.now in
    let stands = c.requires.stands told in
    let held = closed_held false old.file c.args.moment stands.0 in
    (held, subst (λ (x : LogFiles). Stands x a held) (sym c.close.ensures.rest) (closed_now old a c.args.moment stands.0 c.requires.usable c.requires.there c.requires.sealed stands.1))

pub returns-in-Ok-clause-stamped : goal.returns-in-Ok-clause-stamped
returns-in-Ok-clause-stamped g c =
    stamped_next c.args.self.now c.close.new.self c.stamp_here.new.self c.args.moment c.close.ensures.rest c.requires.there c.in-Ok.ensures.stamped

pub returns-in-Ok-clause-told : goal.returns-in-Ok-clause-told
returns-in-Ok-clause-told g c told held stands =
    let old = c.args.self.now in
    let a = g.H.Host.state c.args.host.now in
    let d = g.H.Host.state c.stamp_here.new.host in
    let after = closed_held false old.file c.args.moment held in
    let mid = subst (λ (x : LogFiles). Stands x a after) (sym c.close.ensures.rest) (closed_now old a c.args.moment held c.requires.usable c.requires.there c.requires.sealed stands) in
    stamps_next old c.close.new.self a d c.args.moment held c.close.ensures.rest c.stamp_here.new.self (c.in-Ok.ensures.told told after mid)

pub returns-in-Err-clause-told : goal.returns-in-Err-clause-told
returns-in-Err-clause-told g c told held stands =
    let old = c.args.self.now in
    let a = g.H.Host.state c.args.host.now in
    let d = g.H.Host.state c.stamp_here.new.host in
    let after = closed_held false old.file c.args.moment held in
    let mid = subst (λ (x : LogFiles). Stands x a after) (sym c.close.ensures.rest) (closed_now old a c.args.moment held c.requires.usable c.requires.there c.requires.sealed stands) in
    stamps_failed old c.close.new.self a d c.args.moment held c.close.ensures.rest c.stamp_here.new.self _ _ refl (c.in-Err.ensures.told told after mid)
