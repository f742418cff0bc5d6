use Rattle.std.proofs.Common.{◌≡◌, Some, drop, sym, ◌∙◌, ap, subst}
use Rattle.std.specs.Prelude.{option_map}
use Rattle.cache_model.specs.Lines.{ttl_of}
use Rattle.cache_script.specs.Reading.{Reads}
use Rattle.cache_script.specs.Spans.{capped_span}
use Rattle.cache_script.specs.Tokens.{first_token}
use Rattle.cache_script.proofs.ReadingLemmas.{exchange-read}
use Rattle.cache_script.proofs.line.read_exchange.Goals as goal

pub returns-in-Some-ttl_of-clause-read : goal.returns-in-Some-ttl_of-clause-read
returns-in-Some-ttl_of-clause-read c =
    let words = c.args.words.now in
    let key = c.in-Some.ensures in
    let old = c.in-Some-token.ensures in
    let value = c.in-Some-token-2.ensures in
    let second : Some c.in-Some-token.old ≡ first_token (drop 1 words) = old.token ∙ ap first_token key.left in
    let two : c.token-2.new.self ≡ drop 1 (drop 1 words) = old.left ∙ ap (drop 1) key.left in
    let third : Some c.in-Some-token-2.value ≡ first_token (drop 1 (drop 1 words)) = value.token ∙ ap first_token two in
    let behind : c.token-3.new.self ≡ drop 1 (drop 1 (drop 1 words)) = value.left ∙ ap (drop 1) two in
    let lifespan : Some c.in-Some-ttl_of.lifespan ≡ option_map capped_span (ttl_of (drop 1 (drop 1 (drop 1 words)))) = c.in-Some-ttl_of.ensures ∙ ap (λ w. option_map capped_span (ttl_of w)) behind in
    subst (λ meaning. Reads meaning c.make_exchange.result)
    (sym (exchange-read words c.in-Some.key c.in-Some-token.old c.in-Some-token-2.value c.in-Some-ttl_of.lifespan key.token second third lifespan))
    c.make_exchange.ensures.read
