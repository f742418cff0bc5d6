use Rattle.std.proofs.Common.{◌≡◌, ap, length, refl, ℕ, List, [], Option, Some, None, IsSome}
use Rattle.std.specs.Prelude.{option_map, unwrap_or}

-- the size of a file that is there
size_is : (size : ℕ) (found : Option (List ℕ)) → Some size ≡ option_map length found → IsSome found × (size ≡ length (unwrap_or found []))
size_is size None is = cc
size_is size (Some bytes) is = (refl, ap (λ (s : Option ℕ). unwrap_or s 0) is)

none_is : (found : Option (List ℕ)) → None ≡ option_map length found → found ≡ None
none_is None is = refl
none_is (Some bytes) is = cc
