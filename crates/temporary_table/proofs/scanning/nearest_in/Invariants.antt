use Rattle.std.specs.Prelude.{◌≡◌, option_map}
use Rattle.temporary_table.specs.Scanning.{nearest}
use Rattle.temporary_table.proofs.scanning.nearest_in.Given as goal

-- the best of all is the best of those that are left and the best so far
abbrev pub invariant-loop-key : goal.invariant-loop-key
invariant-loop-key l = nearest l.fn.bits (option_map (λ after. after.now) l.fn.after) (option_map (λ first. first.now) l.fn.first) l.fn.bucket.entries ≡ nearest l.fn.bits (option_map (λ after. after.now) l.fn.after) (option_map (λ best. best.now) l.best) l.key-iterator
