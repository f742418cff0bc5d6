use Rattle.cache_cli.proofs.directory_settings.settings_of_bytes.Goals as goal

pub returns-in-Err-Wrong-clause-wrong : goal.returns-in-Err-Wrong-clause-wrong
returns-in-Err-Wrong-clause-wrong c = λ _. c.in-Err-Wrong.ensures.wrong c.in-Err-Wrong.field-0-is
