use Rattle.std.proofs.Common.{refl, arith}
use Rattle.std.proofs.lemmas.Fmt.{parse-decimal}
use Rattle.cache_script.proofs.file_names.read_store.Goals as goal

pub returns : goal.returns
returns c = λ store small is.
    rw (c.ok.ensures.value, parse-decimal 8 store c.args.digits.now c.parse.result small (omega arith) is c.parse.ensures.value.0) refl
