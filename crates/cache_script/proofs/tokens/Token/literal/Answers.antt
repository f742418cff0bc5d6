use Rattle.cache_script.proofs.TokenLemmas.{literal}
use Rattle.std.proofs.Common.{◌∙◌}
use Rattle.cache_script.proofs.tokens.Token.literal.Goals as goal

pub returns-then-self : goal.returns-then-self
returns-then-self c = literal c.self.inside.word.now c.self.inside.count c.self.invariant c.if-self.true ∙ c.self.view_is
