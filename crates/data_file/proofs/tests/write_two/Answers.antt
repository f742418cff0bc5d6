use Rattle.std.proofs.Common.{◌≡◌, [], ◌∷◌, refl, arith}
use Rattle.cache_model.specs.declared.entries.Until.TheVariants.{Never}
use Rattle.cache_model.specs.Items.{Item, put, removal, IsRecord, spelling}
use Rattle.data_file.specs.Appending.{sealed}
use Rattle.data_file.proofs.tests.write_two.Goals as goal

removed : Item
removed = removal 7 (97 ∷ [])

stored : Item
stored = put 8 Never (97 ∷ []) (98 ∷ [])

removed-is : IsRecord removed
unfolding removed
removed-is = (omega arith, (omega arith, omega arith))

stored-is : IsRecord stored
unfolding stored
stored-is = (omega arith, tt, (omega arith, omega arith), omega arith)

removed-spelled : 2 ∷ 0 ∷ 0 ∷ 0 ∷ 0 ∷ 0 ∷ 0 ∷ 0 ∷ 7 ∷ 0 ∷ 1 ∷ 97 ∷ [] ≡ spelling removed
unfolding removed spelling
removed-spelled = refl

stored-spelled : 1 ∷ 0 ∷ 0 ∷ 0 ∷ 0 ∷ 0 ∷ 0 ∷ 0 ∷ 8 ∷ 255 ∷ 255 ∷ 255 ∷ 255 ∷ 255 ∷ 255 ∷ 255 ∷ 255 ∷ 0 ∷ 1 ∷ 0 ∷ 0 ∷ 0 ∷ 1 ∷ 97 ∷ 98 ∷ [] ≡ spelling stored
unfolding stored spelling
stored-spelled = refl

pub append-requires-clause-item : goal.append-requires-clause-item
append-requires-clause-item g c = (removed, removed-is, removed-spelled)

pub append-requires-2-clause-item : goal.append-requires-2-clause-item
append-requires-2-clause-item g c = (stored, stored-is, stored-spelled)

pub seal-requires-clause-stands : goal.seal-requires-clause-stands
seal-requires-clause-stands g c told =
    let first = c.in_ok-first.ensures.stands told [] [] removed (c.in_ok-appender.ensures.stands told) removed-is removed-spelled in
    ([], removed ∷ [], first)

pub append-requires-2-clause-stands : goal.append-requires-2-clause-stands
append-requires-2-clause-stands g c told =
    let first = c.in_ok-first.ensures.stands told [] [] removed (c.in_ok-appender.ensures.stands told) removed-is removed-spelled in
    let ended = c.in_ok-seal.ensures.stands told [] (removed ∷ []) first in
    (sealed [] (removed ∷ []) 5, [], ended)

pub seal-requires-2-clause-stands : goal.seal-requires-2-clause-stands
seal-requires-2-clause-stands g c told =
    let first = c.in_ok-first.ensures.stands told [] [] removed (c.in_ok-appender.ensures.stands told) removed-is removed-spelled in
    let ended = c.in_ok-seal.ensures.stands told [] (removed ∷ []) first in
    let second = c.in_ok-second.ensures.stands told (sealed [] (removed ∷ []) 5) [] stored ended stored-is stored-spelled in
    (sealed [] (removed ∷ []) 5, stored ∷ [], second)
