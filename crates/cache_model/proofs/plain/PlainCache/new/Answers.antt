use Rattle.std.proofs.Common.{◌∙◌, ap}
use Rattle.cache_model.proofs.PlainEntries.{plain_of, map_of-none}
use Rattle.cache_model.proofs.plain.PlainCache.new.Goals as goal

pub returns : goal.returns
returns c = ap (λ es. plain_of es c.args.moment) c.new.ensures.items ∙ ap (λ m. record { entries = m; moment = c.args.moment }) map_of-none
