use Rattle.cache_script.specs.FileNames.{in_ten_digits}
use Rattle.cache_script.proofs.NameTexts.{not_tree}
use Rattle.cache_script.proofs.file_names.read_store_name.Goals as goal

pub returns-in_err-read_store-in-Some-clause-log : goal.returns-in_err-read_store-in-Some-clause-log
returns-in_err-read_store-in-Some-clause-log c = λ store id small low high is. absurd (not_tree store (in_ten_digits id) c.args.rest.now _ is c.in-Some.ensures.cases.1.1)

pub returns-in_ok-read_store-in-Some-clause-log : goal.returns-in_ok-read_store-in-Some-clause-log
returns-in_ok-read_store-in-Some-clause-log c = λ store id small low high is. absurd (not_tree store (in_ten_digits id) c.args.rest.now _ is c.in-Some.ensures.cases.1.1)
