-- The first key that has a place behind another, of all seats in any order.
use Rattle.std.specs.Prelude.{ℕ, Bool, true, ◌&&◌, cond, List, [], ◌∷◌, Option, Some, None, is_some}
use Rattle.cache_model.specs.Hash.{precedes, follows}
use Rattle.temporary_table.specs.Places.{Seat}

-- whether a key stands before the best so far, where there is one
abbrev pub stands_before : ℕ → Option (List ℕ) → List ℕ → Bool
stands_before bits None key = true
stands_before bits (Some best) key = precedes bits key best

-- the better of the best so far and a key that has a seat
abbrev pub nearer : ℕ → Option (List ℕ) → Option (List ℕ) → List ℕ × Seat → Option (List ℕ)
nearer bits after best e = cond ((is_some e.1 && follows bits after e.0) && stands_before bits best e.0) (Some e.0) best

-- the best of all and the best so far
abbrev pub nearest : ℕ → Option (List ℕ) → Option (List ℕ) → List (List ℕ × Seat) → Option (List ℕ)
nearest bits after best [] = best
nearest bits after best (e ∷ seats) = nearest bits after (nearer bits after best e) seats
