use Rattle.std.proofs.Common.{sym, subst}
use Rattle.std.proofs.lemmas.Result.{MatchResult-from_err}
use Rattle.cache_script.specs.Pushing.{Extends}
use Rattle.cache_script.proofs.PushingLemmas.{extends-twice, extends-more}
use Rattle.cache_script.proofs.pushing.push_escapes.Goals as goal

pub returns-in_err-push_escape : goal.returns-in_err-push_escape
returns-in_err-push_escape c =
    let old = c.args.out.now.items in
    let front : Extends old c.loop-at.out.items = subst (λ l. Extends old l) (sym c.loop-at.invariant.added) (extends-more old _) in
    MatchResult-from_err c.from_residual.result _ _ c.from_residual.ensures.0 (λ fault. extends-twice old c.loop-at.out.items c.push_escape.new.out.items front c.in_err-push_escape.ensures)
