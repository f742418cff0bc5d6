use Rattle.std.proofs.Common.{◌≡◌, ◌++◌, ap, sym, ◌∙◌, arith, take, flat_map, subst}
use Rattle.cache_model.specs.Tokens.{byte_text}
use Rattle.cache_script.proofs.PushingLemmas.{run-text, escapes-piece}
use Rattle.cache_script.proofs.pushing.push_piece.Goals as goal

pub returns : goal.returns
returns c =
    let count = c.plain_count-count in
    let bytes = c.args.bytes.now in
    let said : flat_map byte_text (take count.result bytes) ≡ take count.result bytes = subst (λ n. flat_map byte_text (take n bytes) ≡ take n bytes) (sym count.ensures.count) (run-text bytes) in
    record {
      some = omega arith;
      within = count.ensures.within;
      added = c.in_ok-push_bytes.ensures ∙ ap (λ l. c.args.out.now.items ++ l) (sym said);
    }

pub returns-then-count-eq0 : goal.returns-then-count-eq0
returns-then-count-eq0 c =
    let count = c.plain_count-count in
    escapes-piece c.args.bytes.now c.args.out.now.items c.push_escapes.new.out.items c.push_escapes.result c.requires (sym count.ensures.count ∙ c.if-count-eq0.true) c.push_escapes.ensures
