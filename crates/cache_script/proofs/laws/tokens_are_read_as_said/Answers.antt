use Rattle.cache_script.proofs.RoundTrip.{read_as_said}
use Rattle.cache_script.proofs.laws.tokens_are_read_as_said.Goals as goal

pub returns : goal.returns
returns c = read_as_said
