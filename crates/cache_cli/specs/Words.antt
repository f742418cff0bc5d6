-- The words that a run is started with.
use Rattle.std.specs.Prelude.{ℕ, ◌+◌, ◌-◌, ◌*◌, ◌^◌, ◌&&◌, Bool, List, [], ◌∷◌, length, Option, Some, None, if◌then◌else◌, nat_le, nat_lt, codes}
use Rattle.std.specs.Str.{bytes_eq}
use Rattle.std.specs.List.{list_all}
use Rattle.std.specs.Char.{is_ascii_digit}

-- a number, and decimal digits behind it
abbrev pub read_on : ℕ → List ℕ → ℕ
read_on n [] = n
read_on n (digit ∷ digits) = read_on (10 * n + (digit - 48)) digits

-- the number of some decimal digits
abbrev pub number_of : List ℕ → ℕ
number_of digits = read_on 0 digits

-- one to nineteen decimal digits of a number below 2^61
abbrev pub is_moment : List ℕ → Bool
is_moment digits =
    nat_le 1 (length digits) && nat_le (length digits) 19 && list_all is_ascii_digit digits && nat_lt (number_of digits) (2 ^ 61)

-- the moment that the words give, where they are just `--at` and a moment
abbrev pub words_moment : List (List ℕ) → Option ℕ
words_moment [] = None
words_moment (name ∷ []) = None
words_moment (name ∷ digits ∷ []) = if bytes_eq name (codes "--at") && is_moment digits then Some (number_of digits) else None
words_moment (name ∷ digits ∷ more ∷ words) = None
