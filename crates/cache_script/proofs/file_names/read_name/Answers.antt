use Rattle.std.proofs.Common.{sym, true≢false}
use Rattle.cache_script.proofs.NameTexts.{begins}
use Rattle.cache_script.proofs.file_names.read_name.Goals as goal

pub returns-in_err-strip_prefix-clause-found : goal.returns-in_err-strip_prefix-clause-found
unfolding lib.Utf8.encode
returns-in_err-strip_prefix-clause-found c = λ name fits small is.
    let differs = c.if-eq.ensures in
    absurd (begins name.kind name.store name.id c.args.text.now is (λ same. true≢false (sym (rw same at differs))) c.in_default.ensures.cases c.in_err-strip_prefix.ensures.cases)
