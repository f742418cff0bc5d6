-- Words of the plain program: how its value is stored for proofs, and what its parts do.
use Rattle.std.specs.Prelude.{ℕ, suc, List, [], ◌∷◌, refl, if◌then◌else◌}
use Rattle.std.specs.Coded.{Coded, code_by, coded×, coded_list, coded_ℕ}
use Rattle.std.specs.FinMap.{code}
use Rattle.std.specs.Ordering.{nat_cmp, is_gt}
use Rattle.std.specs.Cmp.Lexicographic.{slice_cmp}
use Rattle.cache_model.specs.declared.entries.Entry.{Entry}
use Rattle.cache_model.specs.contracts.entries.Entry as entry
use Rattle.cache_model.specs.Plain.{Plain, PlainMap, Effect, map_after}

-- a plain map is stored as its entries, beside the moment
abbrev pub plain_code : Coded Plain
plain_code =
    code_by (PlainMap × ℕ) (coded× (code (coded_list coded_ℕ) entry.the_row.coded) coded_ℕ) (λ p. (p.entries, p.moment)) (λ q. record { entries = q.0; moment = q.1 }) (λ _. refl)

-- the plain map after an effect, at the same moment
abbrev pub plain_with : Plain → Effect → Plain
plain_with plain effect = record { entries = map_after plain.entries effect; moment = plain.moment }

-- how many entries stand before the place of a key: those in front whose keys are below it
abbrev pub count_below : List ℕ → List (List ℕ × Entry) → ℕ
count_below key [] = 0
count_below key (e ∷ es) = if is_gt (slice_cmp nat_cmp key e.0) then suc (count_below key es) else 0
