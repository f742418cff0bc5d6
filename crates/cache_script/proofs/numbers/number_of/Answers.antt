use Rattle.std.proofs.Common.{◌≡◌, ◌+◌, ◌*◌, ℕ, get_or, take, sym, ◌∙◌, ap, arith}
use Rattle.std.specs.Char.{digit_value, is_digit}
use Rattle.std.proofs.lemmas.Bool.{and_from}
use Rattle.std.proofs.lemmas.Int.Digits.{digits_value_more}
use Rattle.std.proofs.lemmas.List.Folds.{list_all_more}
use Rattle.std.specs.List.{list_all}
use Rattle.std.specs.Str.Parse.{digits_value}
use Rattle.std.proofs.lemmas.Option.{cond_some}
use Rattle.cache_model.specs.Plain.{capped}
use Rattle.cache_script.proofs.numbers.number_of.Goals as goal

-- a number that was cut to the greatest goes on as itself
capped-more : (n digit : ℕ) → capped (capped n * 10 + digit) ≡ capped (n * 10 + digit)
capped-more n digit = omega arith

pub loop-byte-preserved : goal.loop-byte-preserved
loop-byte-preserved c =
    let word = c.args.word.now in
    let at = c.loop-byte.byte-index in
    let inside = c.loop-byte-test.true in
    let added = cond_some (is_digit (get_or word at 0) 10) (capped (c.loop-byte.number * 10 + digit_value (get_or word at 0))) c.in_ok-number.number (sym c.add_digit.ensures ∙ c.in_ok-number.was) in
    record {
      digits = list_all_more (λ byte. is_digit byte 10) word at 0 inside ∙ and_from (list_all (λ byte. is_digit byte 10) (take at word)) (is_digit (get_or word at 0) 10) c.loop-byte.invariant.digits added.0;
      value =
          sym added.1
          ∙ ap (λ n. capped (n * 10 + digit_value (get_or word at 0))) c.loop-byte.invariant.value
          ∙ capped-more (digits_value 10 (take at word)) (digit_value (get_or word at 0))
          ∙ ap capped (sym (digits_value_more 10 word at inside));
    }
