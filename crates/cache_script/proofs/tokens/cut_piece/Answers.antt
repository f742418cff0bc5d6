use Rattle.std.proofs.Common.{◌≡◌, ◌*◌, sym, ◌∙◌, subst, arith}
use Rattle.std.specs.List.{prefix_len}
use Rattle.std.proofs.lemmas.List.{take_rest}
use Rattle.cache_model.specs.Tokens.{is_plain_byte}
use Rattle.cache_script.specs.Pieces.{front, Cuts}
use Rattle.cache_script.proofs.PieceLemmas.{cuts-none, cuts-front-run, cuts-front-escapes}
use Rattle.cache_script.proofs.tokens.cut_piece.Goals as goal

pub returns-then-plain-gt0 : goal.returns-then-plain-gt0
returns-then-plain-gt0 c =
    let plain = c.plain_count-plain in
    let bytes = c.args.bytes.now in
    subst (λ rest. Cuts bytes (front bytes) plain.result rest) (sym (take_rest bytes plain.result))
    (cuts-front-run bytes plain.result plain.ensures.count c.if-plain-gt0.true plain.ensures.within)

pub returns-then-escapes-eq0 : goal.returns-then-escapes-eq0
returns-then-escapes-eq0 c =
    let none : prefix_len is_plain_byte c.args.bytes.now ≡ 0 = sym c.plain_count-plain.ensures.count ∙ omega arith in
    λ some. cuts-none c.args.bytes.now some none (sym c.escapes_count-escapes.ensures.count ∙ c.if-escapes-eq0.true)

pub returns : goal.returns
returns c =
    let escapes = c.escapes_count-escapes in
    let bytes = c.args.bytes.now in
    let none : prefix_len is_plain_byte bytes ≡ 0 = sym c.plain_count-plain.ensures.count ∙ omega arith in
    subst (λ rest. Cuts bytes (front bytes) escapes.result rest) (sym (take_rest bytes (3 * escapes.result)))
    (cuts-front-escapes bytes escapes.result none escapes.ensures.count escapes.ensures.within (omega (arith, c.if-escapes-eq0.false)))
