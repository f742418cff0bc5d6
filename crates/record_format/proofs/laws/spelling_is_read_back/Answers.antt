use Rattle.cache_model.proofs.Spelled.{front-spelling}
use Rattle.record_format.proofs.laws.spelling_is_read_back.Goals as goal

pub returns : goal.returns
returns c = λ item rest fits. front-spelling item fits rest
