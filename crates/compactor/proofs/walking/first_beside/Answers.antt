use Rattle.std.proofs.Common.{◌≡◌, All, sym, ◌∙◌, ap, subst}
use Rattle.std.specs.Prelude.{option_map}
use Rattle.cache_model.specs.Files.{Image}
use Rattle.tree_index.specs.Index.{Entries}
use Rattle.compactor.specs.Counting.{IsFileNumber}
use Rattle.compactor.specs.Walking.{IsFirstKey, Seeks, is_above, is_lower}
use Rattle.compactor.proofs.Entries.{numbered}
use Rattle.compactor.proofs.walking.first_beside.Goals as goal

pub first_behind-requires-clause-numbers : goal.first_behind-requires-clause-numbers
first_behind-requires-clause-numbers g c =
    subst (λ (l : Entries). All (λ e. IsFileNumber e.0.file) l) (sym (c.deref.ensures.value ∙ c.in-Ok.ensures.found))
    (numbered c.args.tree.now.entries c.in-Ok.ensures.ordered c.args.hash c.requires.numbers)

pub returns-in-Ok-clause-seeks : goal.returns-in-Ok-clause-seeks
returns-in-Ok-clause-seeks g c told =
    let key = option_map (λ key. key.now) c.args.after in
    let same : (g.H.Host.state c.find.new._host).files ≡ (g.H.Host.state c.args.host.now).files = ap (λ host. (g.H.Host.state host).files) c.in-Ok.ensures.untouched in
    subst (λ (found : Entries). Seeks (IsFirstKey (g.H.Host.state c.args.host.now).files (is_above key) is_lower found) found (g.H.Host.state c.args.host.now).files c.first_behind.result) (c.deref.ensures.value ∙ c.in-Ok.ensures.found)
    (subst (λ (files : Image). Seeks (IsFirstKey files (is_above key) is_lower c.deref.result.now) c.deref.result.now files c.first_behind.result) same (c.first_behind.ensures.seeks told))
