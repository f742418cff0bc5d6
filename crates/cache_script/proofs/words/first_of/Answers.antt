use Rattle.cache_script.proofs.WordLemmas.{found-first}
use Rattle.cache_script.proofs.words.first_of.Goals as goal

pub returns : goal.returns
returns c = found-first c.args.separator c.args.bytes.now c.memchr.result c.memchr.ensures
