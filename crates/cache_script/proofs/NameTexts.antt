-- What is read of the texts of files' names.
use Rattle.std.proofs.Common.{◌≡◌, ◌≢◌, ℕ, zero, suc, ◌+◌, ◌-◌, ◌<◌, ◌^◌, List, ◌++◌, ◌∷◌, length, replicate, get_or, codes, true, refl, rules, arith, sym, append-nil, append_assoc, length-append, get_or-append-add, ◌∙◌, ap, Option, Some, None, MatchOption, IsSomeAnd, Bor, Result, Ok}
use Rattle.std.specs.Fmt.{decimal, padded_integral, char_count}
use Rattle.std.specs.Str.{all_ascii_digits}
use Rattle.std.specs.Str.Parse.{digits_value, ParsesUnsigned}
use Rattle.std.proofs.lemmas.Fmt.{digits_decimal, digits_value-decimal, decimal_nonempty}
use Rattle.std.proofs.lemmas.Str.Parse.{IsNumeralModel, numerals_by_value, tells_all_ascii_digits, not_in_digits, parse_gives}
use Rattle.std.proofs.lemmas.Str.Pattern.{IsSplitOnceResult, split_after}
use Rattle.cache_model.specs.declared.files.FileKind.{FileKind}
use Rattle.cache_model.specs.declared.files.FileKind.TheVariants.{Rules, Log, Tree, Base}
use Rattle.cache_script.specs.FileNames.{in_ten_digits, after_s, text_by_kind}

-- what digits are, and their number, in std's words
own : IsNumeralModel (λ ds. all_ascii_digits ds ≡ true) (digits_value 10)
own = numerals_by_value _ tells_all_ascii_digits

-- a number in ten digits is its digits after zeros
leading_zeros : (n : ℕ) → in_ten_digits n ≡ replicate (10 - length (decimal n)) 48 ++ decimal n
unfolding padded_integral char_count
leading_zeros n =
    let fewer : 10 - length (decimal n) - 0 - 0 ≡ 10 - length (decimal n) = omega arith in
    rw (fewer, append-nil (decimal n)) refl

-- zeros before digits are digits, and change no number
zeros_digits : (k : ℕ) (digits : List ℕ) → all_ascii_digits digits ≡ true → all_ascii_digits (replicate k 48 ++ digits) ≡ true
zeros_digits zero digits are = are
zeros_digits (suc k) digits are = zeros_digits k digits are

zeros_value : (k : ℕ) (digits : List ℕ) → digits_value 10 (replicate k 48 ++ digits) ≡ digits_value 10 digits
zeros_value zero digits = refl
zeros_value (suc k) digits = zeros_value k digits

-- a number in ten digits is read as that number
pub ten_digits_read : {E : Type 0} (n : ℕ) (bs : List ℕ) (r : Result ℕ E) → n < 2 ^ 32 → bs ≡ in_ten_digits n → ParsesUnsigned 32 10 bs r → r ≡ Ok n
ten_digits_read n bs r small is h =
    let k = 10 - length (decimal n) in
    let long : n < 2 ^ 64 = omega arith in
    let digits = zeros_digits k (decimal n) (digits_decimal own n long) in
    let value : digits_value 10 (replicate k 48 ++ decimal n) ≡ n = zeros_value k (decimal n) ∙ digits_value-decimal own n long in
    let whole : ParsesUnsigned 32 10 (replicate k 48 ++ decimal n) r = rw (is, leading_zeros n) at h in
    let some : 0 < length (replicate k 48 ++ decimal n) = omega (arith, length-append (replicate k 48) (decimal n), decimal_nonempty n long) in
    let read : r ≡ Ok (digits_value 10 (replicate k 48 ++ decimal n)) = parse_gives own 32 (replicate k 48 ++ decimal n) r whole digits some (omega (arith, value)) in
    rw value at read

-- what follows the letter `s` ends as the text of a data file does
pub after_s-ends : (store : ℕ) (digits : List ℕ) → after_s store digits ≡ (decimal store ++ (45 ∷ digits)) ++ codes ".log"
after_s-ends store digits = sym (append_assoc (decimal store) (45 ∷ digits) (codes ".log"))

-- no text ends both as a data file's and as a tree's
not_log_and_tree : (front back : List ℕ) → front ++ codes ".log" ≢ back ++ codes ".tree"
not_log_and_tree front back same =
    let log_last : get_or (front ++ codes ".log") (length front + 3) 0 ≡ 103 = get_or-append-add front (codes ".log") 3 0 in
    let tree_last : get_or (back ++ codes ".tree") (length back + 4) 0 ≡ 101 = get_or-append-add back (codes ".tree") 4 0 in
    let long : length front + 4 ≡ length back + 5 = sym (length-append front (codes ".log")) ∙ ap (λ (text : List ℕ). length text) same ∙ length-append back (codes ".tree") in
    let place : length front + 3 ≡ length back + 4 = omega (arith, long) in
    let same_last = rw (same, place) at log_last in
    omega (arith, same_last, tree_last)

-- the rest of a data file's text doesn't end as that of a tree
pub not_tree : (store : ℕ) (digits text front : List ℕ) → text ≡ after_s store digits → text ≢ front ++ codes ".tree"
not_tree store digits text front is tree = not_log_and_tree _ front (sym (is ∙ after_s-ends store digits) ∙ tree)

-- where None can't be, there is something
present : {X : Type 0} (P : X → Type 0) (r : Option X) → MatchOption r ⊥ P → IsSomeAnd r P
present P None h = h
present P (Some x) h = h

-- cut at its first dash, the rest of a data file's text gives the digits of the store and of the id
pub cut_at_dash : (store : ℕ) (digits text : List ℕ) (r : Option (Bor (List ℕ) × Bor (List ℕ))) → store < 256 → text ≡ decimal store ++ (45 ∷ digits) → IsSplitOnceResult 45 text r
    → IsSomeAnd r (λ parts. (parts.0.now ≡ decimal store) × (parts.1.now ≡ digits))
cut_at_dash store digits text r small is h =
    let long : store < 2 ^ 64 = omega arith in
    let lacks = not_in_digits own (decimal store) 45 (digits_decimal own store long) (λ range. omega (arith, range.0)) in
    present _ r (split_after 45 text (decimal store) digits r h (search rules) is lacks)

-- the text of a file's name begins in one of three ways
pub begins : (kind : FileKind) (store id : ℕ) (text : List ℕ) → text ≡ text_by_kind kind store id
    → text ≢ codes "cache.toml" → ((rest : List ℕ) → text ≢ codes "base" ++ rest) → ((rest : List ℕ) → text ≢ codes "s" ++ rest) → ⊥
begins Rules store id text is rules base other = rules is
begins Log store id text is rules base other = other _ is
begins Tree store id text is rules base other = other _ is
begins Base store id text is rules base other = base _ is
