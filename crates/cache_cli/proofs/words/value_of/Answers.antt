use Rattle.std.proofs.Common.{◌≡◌, ◌<◌, ◌^◌, refl, rules, arith, true, Ok}
use Rattle.std.specs.List.{list_all}
use Rattle.std.specs.Char.{is_ascii_digit}
use Rattle.std.proofs.lemmas.Str.Parse.{IsNumeralModel, numerals_by_fold, parse_gives, digits_value_short}
use Rattle.cache_cli.specs.Words.{read_on, number_of}
use Rattle.cache_cli.proofs.words.value_of.Goals as goal

own : IsNumeralModel (λ ds. list_all is_ascii_digit ds ≡ true) (read_on 0)
own = numerals_by_fold _ (search rules) read_on (search rules)

pub returns : goal.returns
returns c =
    let digits = c.args.digits.now in
    let below : number_of digits < 10 ^ 19 = digits_value_short own digits 19 c.requires.digits c.requires.short in
    let is : c.parse.result ≡ Ok (number_of digits) = parse_gives own 64 digits c.parse.result c.parse.ensures.value.0 c.requires.digits (omega (arith, c.requires.some)) (omega (arith, below)) in
    rw (c.unwrap_or.ensures, is) refl
