use Rattle.std.proofs.Common.{◌≡◌, ◌*◌, ◌++◌, length, sym, ◌∙◌, ap, subst, arith, append-nil}
use Rattle.std.specs.List.{prefix_len}
use Rattle.std.proofs.lemmas.List.{take_rest, nil_from_length}
use Rattle.cache_model.specs.Tokens.{is_plain_byte}
use Rattle.cache_script.specs.Pieces.{escaped, AddsFront}
use Rattle.cache_script.proofs.PieceLemmas.{cuts-none, adds-run, adds-escapes}
use Rattle.cache_script.proofs.tokens.push_piece.Goals as goal

pub returns-then-plain-gt0 : goal.returns-then-plain-gt0
returns-then-plain-gt0 c =
    let plain = c.plain_count-plain in
    let bytes = c.args.bytes.now in
    let old = c.args.out.now.items in
    let new = c.extend_from_slice.new.self.items in
    subst (λ rest. AddsFront bytes old new rest) (sym (take_rest bytes plain.result))
    (adds-run bytes old new plain.result plain.ensures.count c.if-plain-gt0.true plain.ensures.within c.in_ok-extend_from_slice.ensures.items)

pub returns-then-escapes-eq0 : goal.returns-then-escapes-eq0
returns-then-escapes-eq0 c =
    let none : prefix_len is_plain_byte c.args.bytes.now ≡ 0 = sym c.plain_count-plain.ensures.count ∙ omega arith in
    let empty : length (escaped c.args.bytes.now) ≡ 0 = sym c.in_ok-escapes.ensures.count ∙ c.if-escapes-eq0.true in (
      λ some. cuts-none c.args.bytes.now some none empty,
      c.in_ok-escapes.ensures.added ∙ ap (λ l. c.args.out.now.items ++ l) (nil_from_length (escaped c.args.bytes.now) empty) ∙ append-nil c.args.out.now.items,
    )

pub returns : goal.returns
returns c =
    let bytes = c.args.bytes.now in
    let old = c.args.out.now.items in
    let new = c.push_escapes.new.out.items in
    let escapes = c.in_ok-escapes in
    let none : prefix_len is_plain_byte bytes ≡ 0 = sym c.plain_count-plain.ensures.count ∙ omega arith in
    subst (λ rest. AddsFront bytes old new rest) (sym (take_rest bytes (3 * escapes.escapes)))
    (adds-escapes bytes old new escapes.escapes none escapes.ensures.count escapes.ensures.within (omega (arith, c.if-escapes-eq0.false)) escapes.ensures.added)
