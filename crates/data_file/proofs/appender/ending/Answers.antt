use Rattle.std.proofs.Common.{List, ℕ, ◌∷◌, [], ◌++◌, ap}
use Rattle.cache_model.specs.Items.{spelling}
use Rattle.data_file.proofs.appender.ending.Goals as goal

pub returns : goal.returns
unfolding spelling
returns c = ap (λ (l : List ℕ). 1 ∷ 0 ∷ (l ++ 0 ∷ [])) c.write_u64.ensures
