use Rattle.cache_model.proofs.Spelling.{spelling-prefix}
use Rattle.record_format.proofs.laws.spelling_is_unambiguous.Goals as goal

pub returns : goal.returns
returns c = λ one other rest is_one is_other begins. spelling-prefix one other rest is_one is_other begins
