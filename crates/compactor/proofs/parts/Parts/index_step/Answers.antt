use Rattle.std.proofs.Common.{◌∙◌, ap}
use Rattle.cache_model.specs.Hash.{hash}
use Rattle.temporary_table.specs.Queue.{key_of}
use Rattle.tree_index.specs.Index.{Index}
use Rattle.compactor.specs.Counting.{counts_in}
use Rattle.compactor.proofs.Reindexed.{bits_put}
use Rattle.compactor.proofs.Searching.{same_fault}
use Rattle.compactor.proofs.StepEnds.{Ended, ended, figured_still, keeps_refused, raises_idle, steps_idle, steps_refused, steps_spoilt}
use Rattle.compactor.proofs.parts.Parts.index_step.Given.{Over}
use Rattle.compactor.proofs.parts.Parts.index_step.Goals as goal

pub returns-in_default-clause-steps : goal.returns-in_default-clause-steps
returns-in_default-clause-steps g c = steps_idle c.args.self.now c.requires.usable c.in_default.ensures.first

pub returns-in_default-clause-raises : goal.returns-in_default-clause-raises
returns-in_default-clause-raises g c told kept is there = raises_idle (counts_in kept) c.args.self.now c.in_default.ensures.first

pub returns-in-Err-clause-steps : goal.returns-in-Err-clause-steps
returns-in-Err-clause-steps g c = steps_refused c.args.self.now c.requires.usable c.enter.new.log c.enter.new.tree c.is_spoilt-self.result c.in-Err.fault c.in-Err.ensures.log c.is_spoilt-self.ensures c.in-Err.ensures.same

pub returns-in-Err-clause-keeps : goal.returns-in-Err-clause-keeps
returns-in-Err-clause-keeps g c told kept is there =
    keeps_refused c.args.self.now c.enter.new.log c.enter.new.tree c.is_spoilt-self.result c.in-Err.fault (counts_in kept) (g.H.Host.state c.args.host.now).files (hash c.args.self.now.tree.bits (key_of c.in-Some.request.now)) c.requires.usable c.in-Err.ensures.same is there
    (λ d err. c.in-Err.ensures.damaged told d (same_fault c.in-Err.fault _ err))

pub returns-in-Err-clause-figures : goal.returns-in-Err-clause-figures
returns-in-Err-clause-figures g c told kept is there figured unspoilt = figured_still kept c.args.self.now c.enter.new.log c.enter.new.tree c.is_spoilt-self.result c.in-Err.ensures.same figured

pub returns-in-Err-drop_entry-clause-steps : goal.returns-in-Err-drop_entry-clause-steps
returns-in-Err-drop_entry-clause-steps g c =
    steps_spoilt c.args.self.now c.enter.new.log c.drop_entry.new.tree c.in-Err-drop_entry.fault c.in-Ok.ensures.log (ap (λ (i : Index). i.bits) c.in-Err-drop_entry.ensures.same ∙ bits_put _ c.args.self.now.tree c.enter.new.tree c.in-Ok.ensures.enters.1.puts)

-- the oldest request was applied
applied : (g : Over) (c : goal.Joined-pop g) → Ended c.args.self.now (record c.args.self.now { log = c.enter.new.log; tree = c.drop_entry.new.tree; stats = c.refigure.new.stats; table = c.settle.new.table; requests = c.pop.new.self; spoilt = c.args.self.now.spoilt }) c.in-Some.request.now c.in-Ok.ensures.enters.0
applied g c =
    let entered = c.in-Ok.ensures.enters in
    ended c.args.self.now c.requires.usable c.in-Some.request.now c.in-Some.ensures.first entered.0 c.in-Ok.entered c.enter.new.log c.enter.new.tree c.drop_entry.new.tree c.refigure.new.stats c.settle.new.table c.pop.new.self
    c.in-Ok.ensures.log entered.1 c.in_default-drop_entry.ensures.drops c.refigure.ensures.rows c.refigure.ensures.spare c.settle.ensures c.pop.result c.pop.ensures.limit c.pop.ensures.oldest c.pop.ensures.none

pub returns-clause-steps : goal.returns-clause-steps
returns-clause-steps g c = (applied g c).steps

pub returns-clause-keeps : goal.returns-clause-keeps
returns-clause-keeps g c told kept is there = (applied g c).keeps (counts_in kept) (g.H.Host.state c.args.host.now).files is there (c.in-Ok.ensures.enters.2 told)

pub returns-clause-raises : goal.returns-clause-raises
returns-clause-raises g c told kept is there = (applied g c).raises (counts_in kept) (g.H.Host.state c.args.host.now).files is there (c.in-Ok.ensures.enters.2 told)

pub returns-clause-figures : goal.returns-clause-figures
returns-clause-figures g c told kept is there figured unspoilt = (applied g c).figures kept (g.H.Host.state c.args.host.now).files is there (c.in-Ok.ensures.enters.2 told) figured
