use Rattle.std.proofs.Common.{◌<◌, length, sym, subst, arith}
use Rattle.cache_script.specs.Pushing.{Pushes}
use Rattle.cache_script.proofs.PushingLemmas.{plain-token}
use Rattle.cache_script.proofs.pushing.push_token.Goals as goal

pub returns-in-len1-up : goal.returns-in-len1-up
returns-in-len1-up c =
    let some : 0 < length c.args.bytes.now = omega (arith, c.in-len1-up.len_at_least) in
    subst (λ text. Pushes text c.args.out.now.items c.push_bytes-in-len1-up.new.out.items c.push_bytes-in-len1-up.result)
    (sym (plain-token c.args.bytes.now some (sym c.if-are_plain.ensures)))
    c.push_bytes-in-len1-up.ensures
