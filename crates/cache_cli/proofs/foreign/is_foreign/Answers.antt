use Rattle.std.proofs.Common.{◌≡◌, List, sym, ◌∙◌, ap}
use Rattle.cache_model.specs.declared.files.FileName.{FileName}
use Rattle.cache_cli.specs.Foreign.{has_foreign}
use Rattle.cache_cli.proofs.Listing.{foreign_seen}
use Rattle.cache_cli.proofs.foreign.is_foreign.Goals as goal

pub returns-in-Ok-clause-foreign : goal.returns-in-Ok-clause-foreign
returns-in-Ok-clause-foreign g c = λ tells.
    let seen = foreign_seen (g.H.Host.state c.args.host.now).files c.in-Ok.names.items (c.in-Ok.ensures.told tells).each in
    let is : c.has_foreign.result ≡ has_foreign c.in-Ok.names.items = c.has_foreign.ensures ∙ ap (λ (names : List FileName). has_foreign names) c.deref.ensures.value in
    (λ found. seen.0 (sym is ∙ found), λ foreign. is ∙ seen.1 foreign)
