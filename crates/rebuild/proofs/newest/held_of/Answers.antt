use Rattle.std.proofs.Common.{List, All, ap, subst, sym, ◌∙◌}
use Rattle.std.proofs.lemmas.Result.{IfOk-weaker}
use Rattle.cache_model.specs.Files.{Image}
use Rattle.cache_model.specs.Items.{Item}
use Rattle.tree_index.specs.Index.{entries_of}
use Rattle.rebuild.specs.Listing.{IsNumber}
use Rattle.rebuild.specs.Reading.{IsAmongThese, IsEntry, IsHeldAmong, IsHeldOf, StandsAt}
use Rattle.rebuild.proofs.ReadRecords.{Row, among-index, hash-numbers, hash-records, held-of}
use Rattle.rebuild.proofs.newest.held_of.Goals as goal

pub held_among-requires-clause-numbers : goal.held_among-requires-clause-numbers
held_among-requires-clause-numbers g c =
    let entries = c.args.tree.now.entries in
    subst (λ (l : List Row). All (λ (row : Row). IsNumber row.0.file) l) (sym (c.deref.ensures.value ∙ c.in_ok-found.ensures.found)) (hash-numbers c.args.hash entries c.in_ok-found.ensures.ordered c.requires.numbered)

pub held_among-requires-clause-records : goal.held_among-requires-clause-records
held_among-requires-clause-records g c told =
    let entries = c.args.tree.now.entries in
    let files = (g.H.Host.state c.args.host.now).files in
    subst (λ (f : Image). All (λ (row : Row). (item : Item) × StandsAt f row.0 row.1.length item) c.deref.result.now) (sym (ap (λ h. (g.H.Host.state h).files) c.in_ok-found.ensures.untouched))
    (subst (λ (l : List Row). All (λ (row : Row). (item : Item) × StandsAt files row.0 row.1.length item) l) (sym (c.deref.ensures.value ∙ c.in_ok-found.ensures.found)) (hash-records files c.args.hash entries c.in_ok-found.ensures.ordered (c.requires.records told)))

pub returns-clause-entry : goal.returns-clause-entry
returns-clause-entry g c =
    let entries = c.args.tree.now.entries in
    let is = c.deref.ensures.value ∙ c.in_ok-found.ensures.found in
    IfOk-weaker c.held_among.result (IsAmongThese c.deref.result.now) (IsEntry entries) (λ held among. among-index c.args.hash entries held c.in_ok-found.ensures.ordered (subst (λ (l : List Row). IsAmongThese l held) is among)) c.held_among.ensures.among

pub returns-clause-held : goal.returns-clause-held
returns-clause-held g c told =
    let entries = c.args.tree.now.entries in
    let files = (g.H.Host.state c.args.host.now).files in
    let now = (g.H.Host.state c.find.new._host).files in
    let is = c.deref.ensures.value ∙ c.in_ok-found.ensures.found in
    IfOk-weaker c.held_among.result (IsHeldAmong now c.deref.result.now c.args.key.now) (IsHeldOf files entries c.args.hash c.args.key.now)
    (λ held of_key. held-of files c.args.hash entries c.args.key.now held
    (subst (λ (f : Image). IsHeldAmong f (entries_of c.args.hash entries) c.args.key.now held) (ap (λ h. (g.H.Host.state h).files) c.in_ok-found.ensures.untouched) (subst (λ (l : List Row). IsHeldAmong now l c.args.key.now held) is of_key)))
    (c.held_among.ensures.held told)
