use Rattle.std.proofs.Common.{◌∙◌, ℕ, Ok, Some, ap, sym, true, false}
use Rattle.cache_model.specs.declared.faults.Spent.TheVariants.{Files}
use Rattle.append_log.proofs.Stamped.{closes_full, closes_idle, full_rests, full_there, idle_unspent, spent_at, spent_so, stamped_as, stamped_idle, stamps_as, stamps_idle, unspent_by, unspent_ok}
use Rattle.append_log.proofs.log_files.LogFiles.stamp.Goals as goal

pub returns-then-idle-clause-stamped : goal.returns-then-idle-clause-stamped
returns-then-idle-clause-stamped g c =
    let old = c.args.self.now in
    let is = sym c.is_stamped-idle.ensures ∙ c.if-idle.true in
    stamped_as true false c.args.moment old old (Ok tt) is (closes_idle old c.args.moment is) (stamped_idle old c.args.moment c.requires.usable is)

pub returns-then-idle-clause-told : goal.returns-then-idle-clause-told
returns-then-idle-clause-told g c told held stands =
    let old = c.args.self.now in
    let a = g.H.Host.state c.args.host.now in
    let is = sym c.is_stamped-idle.ensures ∙ c.if-idle.true in
    stamps_as true false c.args.moment held old old a a (Ok tt) is (closes_idle old c.args.moment is) (stamps_idle old a c.args.moment held c.requires.usable is stands)

pub returns-then-idle-clause-spent : goal.returns-then-idle-clause-spent
returns-then-idle-clause-spent g c =
    let old = c.args.self.now in
    let is = sym c.is_stamped-idle.ensures ∙ c.if-idle.true in
    unspent_ok _ tt (idle_unspent old c.args.moment c.requires.usable is)

pub returns-then-is_at_end-clause-spent : goal.returns-then-is_at_end-clause-spent
returns-then-is_at_end-clause-spent g c =
    let old = c.args.self.now in
    let closes = closes_full old c.args.moment c.is_full-full.result (sym c.is_stamped-idle.ensures ∙ c.if-idle.false) c.is_full-full.ensures.full in
    spent_so _ (Files c.from.result) (spent_at old c.args.moment c.is_full-full.result true closes (sym c.if-is_at_end.true ∙ c.is_at_end.ensures.at_end) ∙ ap (λ (n : ℕ). Some (Files n)) (sym c.from.ensures))

pub stamp_behind-requires-clause-sealed : goal.stamp_behind-requires-clause-sealed
stamp_behind-requires-clause-sealed g c =
    let old = c.args.self.now in
    full_rests old.log old.unsealed old.file_size (sym c.is_full-full.ensures.full ∙ c.if-full.true)

pub stamp_behind-requires-clause-there : goal.stamp_behind-requires-clause-there
stamp_behind-requires-clause-there g c =
    let old = c.args.self.now in
    full_there old.log old.unsealed old.file_size (sym c.is_full-full.ensures.full ∙ c.if-full.true)

pub returns-then-full-clause-stamped : goal.returns-then-full-clause-stamped
returns-then-full-clause-stamped g c =
    let old = c.args.self.now in
    let is = sym c.is_stamped-idle.ensures ∙ c.if-idle.false in
    let closes = closes_full old c.args.moment c.is_full-full.result is c.is_full-full.ensures.full ∙ c.if-full.true in
    stamped_as false true c.args.moment old c.stamp_behind.new.self c.stamp_behind.result is closes c.stamp_behind.ensures.stamped

pub returns-then-full-clause-told : goal.returns-then-full-clause-told
returns-then-full-clause-told g c told held stands =
    let old = c.args.self.now in
    let is = sym c.is_stamped-idle.ensures ∙ c.if-idle.false in
    let closes = closes_full old c.args.moment c.is_full-full.result is c.is_full-full.ensures.full ∙ c.if-full.true in
    stamps_as false true c.args.moment held old c.stamp_behind.new.self (g.H.Host.state c.args.host.now) (g.H.Host.state c.stamp_behind.new.host) c.stamp_behind.result is closes (c.stamp_behind.ensures.told told held stands)

pub returns-then-full-clause-spent : goal.returns-then-full-clause-spent
returns-then-full-clause-spent g c =
    let old = c.args.self.now in
    let closes = closes_full old c.args.moment c.is_full-full.result (sym c.is_stamped-idle.ensures ∙ c.if-idle.false) c.is_full-full.ensures.full in
    unspent_by _ c.stamp_behind.result (spent_at old c.args.moment c.is_full-full.result false closes (sym c.if-is_at_end.false ∙ c.is_at_end.ensures.at_end)) c.stamp_behind.ensures.unspent

pub returns-clause-stamped : goal.returns-clause-stamped
returns-clause-stamped g c =
    let old = c.args.self.now in
    let is = sym c.is_stamped-idle.ensures ∙ c.if-idle.false in
    let closes = closes_full old c.args.moment c.is_full-full.result is c.is_full-full.ensures.full ∙ c.if-full.false in
    stamped_as false false c.args.moment old c.stamp_here.new.self c.stamp_here.result is closes c.stamp_here.ensures.stamped

pub returns-clause-told : goal.returns-clause-told
returns-clause-told g c told held stands =
    let old = c.args.self.now in
    let is = sym c.is_stamped-idle.ensures ∙ c.if-idle.false in
    let closes = closes_full old c.args.moment c.is_full-full.result is c.is_full-full.ensures.full ∙ c.if-full.false in
    stamps_as false false c.args.moment held old c.stamp_here.new.self (g.H.Host.state c.args.host.now) (g.H.Host.state c.stamp_here.new.host) c.stamp_here.result is closes (c.stamp_here.ensures.told told held stands)

pub returns-clause-spent : goal.returns-clause-spent
returns-clause-spent g c =
    let old = c.args.self.now in
    let closes = closes_full old c.args.moment c.is_full-full.result (sym c.is_stamped-idle.ensures ∙ c.if-idle.false) c.is_full-full.ensures.full in
    unspent_by _ c.stamp_here.result (spent_at old c.args.moment c.is_full-full.result false closes (sym c.if-is_at_end.false ∙ c.is_at_end.ensures.at_end)) c.stamp_here.ensures.unspent
