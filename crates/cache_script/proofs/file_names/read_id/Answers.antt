use Rattle.std.proofs.Common.{refl}
use Rattle.cache_script.proofs.NameTexts.{ten_digits_read}
use Rattle.cache_script.proofs.file_names.read_id.Goals as goal

pub returns : goal.returns
returns c = λ id small is. rw (c.ok.ensures.value, ten_digits_read id c.args.digits.now c.parse.result small is c.parse.ensures.value.0) refl
