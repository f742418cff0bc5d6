use Rattle.std.proofs.Common.{sym, subst}
use Rattle.std.proofs.lemmas.Result.{MatchResult-from_err}
use Rattle.cache_script.specs.Pushing.{Extends}
use Rattle.cache_script.proofs.PushingLemmas.{extends-twice, extends-more}
use Rattle.cache_script.proofs.replies.push_key_words.Goals as goal

pub returns-in_err-push_key_word : goal.returns-in_err-push_key_word
returns-in_err-push_key_word c =
    let old = c.args.out.now.items in
    let front : Extends old c.loop-key.out.items = subst (λ l. Extends old l) (sym c.loop-key.invariant) (extends-more old _) in
    MatchResult-from_err c.from_residual.result _ _ c.from_residual.ensures.0 (λ fault. extends-twice old c.loop-key.out.items c.push_key_word.new.out.items front c.in_err-push_key_word.ensures)
