use Rattle.std.proofs.Common.{IfSome, subst}
use Rattle.std.proofs.lemmas.List.Elements.{All-push}
use Rattle.cache_model.specs.Files.{IsFileName}
use Rattle.cache_cli.proofs.folder_host.listed.Goals as goal

-- one more name that a file may have
pub loop-entry-preserved-in_ok-push : goal.loop-entry-preserved-in_ok-push
loop-entry-preserved-in_ok-push g c =
    let range = subst (λ found. IfSome found IsFileName) c.in-Some-found.is c.in_ok-found.ensures.range in
    rw c.in_ok-push.ensures.items (All-push IsFileName c.loop-entry.names.items c.in-Some-found.name c.loop-entry.invariant range)
