use Rattle.std.specs.Prelude.{◌≡◌, None, option_map}
use Rattle.temporary_table.specs.Buckets.{seats_in}
use Rattle.temporary_table.specs.Scanning.{nearest}
use Rattle.temporary_table.proofs.scanning.nearest.Given as goal

-- the best of all is the best of those that are left and the best so far
abbrev pub invariant-loop-hash : goal.invariant-loop-hash
invariant-loop-hash l = nearest l.fn.bits (option_map (λ after. after.now) l.fn.after) None (seats_in l.fn.buckets.entries) ≡ nearest l.fn.bits (option_map (λ after. after.now) l.fn.after) (option_map (λ best. best.now) l.best) (seats_in l._hash-iterator)
