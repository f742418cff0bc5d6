-- The first entry whose key passes a test, by its place.
use Rattle.std.proofs.Common.{◌≡◌, ℕ, ◌<◌, Bool, false, not, List, [], ◌∷◌, length, get_or, set, Some, None, refl, arith, nat_lt}
use Rattle.std.specs.List.{prefix_len, position}
use Rattle.std.specs.Map.{lookup, set_value}
use Rattle.std.proofs.lemmas.Grind.{common_steps}

-- how many entries stand before it
abbrev pub before : {K X : Type 0} → (K → Bool) → List (K × X) → ℕ
before {K} {X} test es = prefix_len (λ (e : K × X). not (test e.0)) es

pub found : {K X : Type 0} (test : K → Bool) (es : List (K × X)) (d : K × X) → before test es < length es → lookup test es ≡ Some (get_or es (before test es) d).1
found test [] d h = absurd (omega arith)
found test (e ∷ es) d h = grind (arith, common_steps, found test es d)

pub not_found : {K X : Type 0} (test : K → Bool) (es : List (K × X)) → nat_lt (before test es) (length es) ≡ false → lookup test es ≡ None
not_found test [] h = refl
not_found test (e ∷ es) h = grind (arith, common_steps, not_found test es)

pub put_there : {K X : Type 0} (test : K → Bool) (es : List (K × X)) (d : K × X) (w : X) → before test es < length es → set_value test es w ≡ set es (before test es) ((get_or es (before test es) d).0, w)
put_there test [] d w h = absurd (omega arith)
put_there test (e ∷ es) d w h = grind (arith, common_steps, put_there test es d w)

pub put_nowhere : {K X : Type 0} (test : K → Bool) (es : List (K × X)) (w : X) → lookup test es ≡ None → set_value test es w ≡ es
put_nowhere test [] w h = refl
put_nowhere test (e ∷ es) w h = grind (arith, common_steps, put_nowhere test es w)

is_before : {K X : Type 0} (test : K → Bool) (es : List (K × X)) (i : ℕ) → position (λ (e : K × X). test e.0) es ≡ Some i → (before test es ≡ i) × (before test es < length es)
is_before test es i h = grind arith

isnt_before : {K X : Type 0} (test : K → Bool) (es : List (K × X)) → position (λ (e : K × X). test e.0) es ≡ None → nat_lt (before test es) (length es) ≡ false
isnt_before test es h = grind arith

-- at its place stands the value that a look-up finds
pub place_gives : {K X : Type 0} (test : K → Bool) (es : List (K × X)) (i : ℕ) (d : K × X) → position (λ (e : K × X). test e.0) es ≡ Some i → lookup test es ≡ Some (get_or es i d).1
place_gives test es i d h = let p = is_before test es i h in rw (← p.0) (found test es d p.1)

-- another value is put at its place
pub place_puts : {K X : Type 0} (test : K → Bool) (es : List (K × X)) (i : ℕ) (d : K × X) (w : X) → position (λ (e : K × X). test e.0) es ≡ Some i → set_value test es w ≡ set es i ((get_or es i d).0, w)
place_puts test es i d w h = let p = is_before test es i h in rw (← p.0) (put_there test es d w p.1)

-- without a place nothing is found, and nothing is put
pub no_place : {K X : Type 0} (test : K → Bool) (es : List (K × X)) → position (λ (e : K × X). test e.0) es ≡ None → lookup test es ≡ None
no_place test es h = not_found test es (isnt_before test es h)
