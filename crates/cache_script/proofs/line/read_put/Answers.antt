use Rattle.std.proofs.Common.{◌≡◌, Some, drop, sym, ◌∙◌, ap, subst}
use Rattle.std.specs.Prelude.{option_map}
use Rattle.cache_model.specs.Lines.{ttl_of}
use Rattle.cache_script.specs.Reading.{Reads}
use Rattle.cache_script.specs.Spans.{capped_span}
use Rattle.cache_script.specs.Tokens.{first_token}
use Rattle.cache_script.proofs.ReadingLemmas.{put-read}
use Rattle.cache_script.proofs.line.read_put.Goals as goal

pub returns-in-Some-ttl_of-clause-read : goal.returns-in-Some-ttl_of-clause-read
returns-in-Some-ttl_of-clause-read c =
    let words = c.args.words.now in
    let key = c.in-Some.ensures in
    let value = c.in-Some-token.ensures in
    let second : Some c.in-Some-token.value ≡ first_token (drop 1 words) = value.token ∙ ap first_token key.left in
    let behind : c.token-2.new.self ≡ drop 1 (drop 1 words) = value.left ∙ ap (drop 1) key.left in
    let lifespan : Some c.in-Some-ttl_of.lifespan ≡ option_map capped_span (ttl_of (drop 1 (drop 1 words))) = c.in-Some-ttl_of.ensures ∙ ap (λ w. option_map capped_span (ttl_of w)) behind in
    subst (λ meaning. Reads meaning c.make_put.result) (sym (put-read c.args.kind words c.in-Some.key c.in-Some-token.value c.in-Some-ttl_of.lifespan key.token second lifespan)) c.make_put.ensures.read
