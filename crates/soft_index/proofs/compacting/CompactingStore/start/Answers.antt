use Rattle.std.proofs.Common.{[]}
use Rattle.soft_index.proofs.compacting.CompactingStore.start.Goals as goal

pub returns-in-Ok-clause-stands : goal.returns-in-Ok-clause-stands
returns-in-Ok-clause-stands g c told = record { frames = []; records = []; log = (c.in-Ok.ensures.opened told).stands; runs = tt; zero = c.in-Ok.ensures.zero told }

pub returns-in-Ok-clause-settled : goal.returns-in-Ok-clause-settled
returns-in-Ok-clause-settled g c told = let settled = c.in-Ok.ensures.settled told in record { each = settled.each; whole = settled.whole }

pub returns-in-Err-clause-damaged : goal.returns-in-Err-clause-damaged
returns-in-Err-clause-damaged g c told damage err = c.in-Err.ensures.damaged told damage cc
