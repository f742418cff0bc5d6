use Rattle.cache_script.proofs.WordLemmas.{none-left}
use Rattle.cache_script.proofs.words.Words.is_done.Goals as goal

pub returns : goal.returns
returns c = none-left c.self.inside.rest c.args.self.now c.is_none.result c.self.view_is c.is_none.ensures
