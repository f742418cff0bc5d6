use Rattle.host_memory.proofs.Chances.{steps_are_left}
use Rattle.host_memory.proofs.facts.steps_are_left.Goals as goal

pub returns : goal.returns
returns c = steps_are_left
