use Rattle.std.proofs.Common.{◌≡◌, Option, Some, None, ap, subst}
use Rattle.std.specs.Prelude.{option_map}
use Rattle.cache_model.specs.declared.index.IndexKey.{IndexKey}
use Rattle.cache_model.specs.declared.index.IndexValue.{IndexValue}
use Rattle.cache_model.specs.Files.{Image}
use Rattle.tree_index.specs.Index.{Index, entries_of, IsNext}
use Rattle.compactor.specs.Walking.{IsFirstKey, Seeks, end_of, is_above, is_lower}
use Rattle.compactor.proofs.NextHash.{none_beyond, seeks_beyond}
use Rattle.compactor.proofs.walking.first_beyond.Goals as goal

pub returns-in-Ok-Some-clause-seeks : goal.returns-in-Ok-Some-clause-seeks
returns-in-Ok-Some-clause-seeks g c told hashed =
    let entries = c.args.tree.now.entries in
    let files : Image = (g.H.Host.state c.args.host.now).files in
    let next : IndexKey × IndexValue = (c.in-Ok-Some.next, c.in-Ok-Some.field-0-0-1) in
    let same : (g.H.Host.state c.next.new._host).files ≡ files = ap (λ host. (g.H.Host.state host).files) c.in-Ok-Some.ensures.untouched in
    let above : IsNext entries (option_map end_of c.args.least) (Some next) =
    subst (λ (o : Option (IndexKey × IndexValue)). IsNext entries (option_map end_of c.args.least) o) c.in-Ok-Some.field-0-is
    (subst (λ (start : Option IndexKey). IsNext entries start c.in-Ok-Some.field-0) c.end_of.ensures c.in-Ok-Some.ensures.next)
    in
    seeks_beyond c.args.tree.now.bits entries files c.first_beside.result c.requires.ordered hashed c.requires.numbers c.args.least next above
    (subst (λ (i : Index). Seeks (IsFirstKey files (is_above None) is_lower (entries_of next.0.hash i.entries)) (entries_of next.0.hash i.entries) files c.first_beside.result) c.in-Ok-Some.ensures.same
    (subst (λ (f : Image). Seeks (IsFirstKey f (is_above None) is_lower (entries_of next.0.hash c.next.new.self.entries)) (entries_of next.0.hash c.next.new.self.entries) f c.first_beside.result) same (c.first_beside.ensures.seeks told)))

pub returns-in-Ok-None-clause-seeks : goal.returns-in-Ok-None-clause-seeks
returns-in-Ok-None-clause-seeks g c told hashed =
    let entries = c.args.tree.now.entries in
    let none : IsNext entries (option_map end_of c.args.least) None =
    subst (λ (o : Option (IndexKey × IndexValue)). IsNext entries (option_map end_of c.args.least) o) c.in-Ok-None.field-0-is
    (subst (λ (start : Option IndexKey). IsNext entries start c.in-Ok-None.field-0) c.end_of.ensures c.in-Ok-None.ensures.next)
    in
    record {
      given = none_beyond (g.H.Host.state c.args.host.now).files c.args.tree.now.bits entries c.requires.ordered hashed c.requires.numbers c.args.least none;
      damaged = λ d err. cc;
    }
