use Rattle.cache_model.proofs.Spelling.{whole-item, whole-spelled}
use Rattle.record_format.proofs.laws.whole_is_spelled.Goals as goal

pub returns : goal.returns
returns c = λ bytes item size small is. (whole-item bytes item size is, whole-spelled bytes item size small is)
