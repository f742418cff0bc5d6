use Rattle.std.proofs.Common.{◌≡◌, List, ℕ, Some, sym, ◌∙◌, subst}
use Rattle.std.proofs.lemmas.Option.{same_Some}
use Rattle.std.proofs.lemmas.Result.{IfErr-weaker}
use Rattle.cache_model.specs.declared.settings.Settings.{Settings}
use Rattle.cache_model.specs.Settings.{default_settings}
use Rattle.toml.specs.Data.{Members}
use Rattle.toml.specs.Parse.{parse_document}
use Rattle.cache_cli.specs.SettingsFile.{GivesSettings, IsSettingsFile}
use Rattle.cache_cli.proofs.settings_file.read_settings.Goals as goal

-- what a file's table gives
given : (bytes : List ℕ) (standard settings : Settings) (table : Members) → standard ≡ default_settings → parse_document bytes ≡ Some table → IsSettingsFile bytes settings → GivesSettings standard table settings
given bytes standard settings table defaults document file =
    let same : file.table ≡ table = same_Some _ _ (sym file.document ∙ document) in
    rw defaults (subst (λ (t : Members). GivesSettings default_settings t settings) same file.gives)

pub returns-in-Ok-table_from_slice-clause-wrong : goal.returns-in-Ok-table_from_slice-clause-wrong
returns-in-Ok-table_from_slice-clause-wrong c =
    IfErr-weaker c.read_table.result _ _
    (λ f none is settings file. none is settings (given _ _ _ _ c.in-Ok.ensures.defaults c.in-Ok-table_from_slice.ensures.ok.1 file)) c.read_table.ensures.wrong
