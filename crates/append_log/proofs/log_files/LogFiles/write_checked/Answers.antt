use Rattle.std.proofs.Common.{◌∙◌, Bool, sym, subst}
use Rattle.append_log.specs.Calls.{PutsBy}
use Rattle.append_log.proofs.log_files.LogFiles.write_checked.Goals as goal

pub returns-then-over-clause-told : goal.returns-then-over-clause-told
returns-then-over-clause-told g c told held one stands is spelled =
    subst (λ (over : Bool). PutsBy over one c.args.moment held c.args.self.now c.write_behind.new.self (g.H.Host.state c.args.host.now) (g.H.Host.state c.write_behind.new.host) c.write_behind.result) (sym c.if-over.true ∙ c.is_over-over.ensures.over)
    (c.write_behind.ensures.told told held one stands is spelled)

pub returns-clause-told : goal.returns-clause-told
returns-clause-told g c told held one stands is spelled =
    subst (λ (over : Bool). PutsBy over one c.args.moment held c.args.self.now c.write.new.self (g.H.Host.state c.args.host.now) (g.H.Host.state c.write.new.host) c.write.result) (sym c.if-over.false ∙ c.is_over-over.ensures.over)
    (c.write.ensures.told told held one c.args.moment stands is spelled)
