use Rattle.std.proofs.Common.{◌≡◌, ℕ, List, [], Option, length, take, ap, sym, ◌∙◌, subst, IfErr}
use Rattle.std.specs.Prelude.{unwrap_or}
use Rattle.std.proofs.lemmas.List.{with_items_is}
use Rattle.cache_model.specs.declared.settings.Settings.{Settings}
use Rattle.cache_model.specs.declared.replies.Status.TheVariants as status
use Rattle.cache_model.specs.Files.{bytes_in}
use Rattle.cache_cli.specs.SettingsFile.{IsSettingsFile}
use Rattle.cache_cli.specs.DirectorySettings.{settings_name}
use Rattle.cache_cli.proofs.directory_settings.settings_of_file.Goals as goal

pub returns-in-Ok-fill-clause-wrong : goal.returns-in-Ok-fill-clause-wrong
returns-in-Ok-fill-clause-wrong g c = λ tells bytes there size.
    let is : bytes_in (g.H.Host.state c.args.host.now).files settings_name ≡ bytes = ap (λ (o : Option (List ℕ)). unwrap_or o []) there in
    let long : length c.deref_mut.result.now ≡ c.args.size = c.deref_mut.ensures.len ∙ c.in-Ok.ensures.len in
    let whole : take c.in-Ok-fill.count c.fill.new.buffer ≡ bytes = c.in-Ok-fill.ensures.whole tells (ap length is ∙ size ∙ sym long) ∙ is in
    let given : c.deref.result.now ≡ c.fill.new.buffer = c.deref.ensures.value ∙ with_items_is c.in-Ok.buffer c.fill.new.buffer (c.fill.auto.buffer ∙ c.deref_mut.ensures.len) in
    subst (λ (b : List ℕ). IfErr c.settings_of_bytes.result (λ ended. ended ≡ status.Settings → (settings : Settings) → IsSettingsFile b settings → ⊥))
    (ap (take c.in-Ok-fill.count) given ∙ whole) c.settings_of_bytes.ensures.wrong
