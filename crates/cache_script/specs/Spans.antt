-- Lifespans as they are read.
use Rattle.cache_model.specs.declared.entries.Lifespan.{Lifespan}
use Rattle.cache_model.specs.declared.entries.Lifespan.TheVariants.{Endless, Of}
use Rattle.cache_model.specs.Plain.{capped}

-- a lifespan with the greatest number of units that is told, where it has more
abbrev pub capped_span : Lifespan → Lifespan
capped_span Endless = Endless
capped_span (Of units) = Of (capped units)
