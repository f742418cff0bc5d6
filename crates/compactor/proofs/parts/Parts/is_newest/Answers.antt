use Rattle.std.proofs.Common.{◌≡◌, ℕ, Bool, true, IsTrue, sym, ◌∙◌, ap, subst}
use Rattle.std.specs.Prelude.{◌↔◌, Any}
use Rattle.cache_model.specs.Hash.{hash}
use Rattle.tree_index.specs.Index.{Entries, entries_of}
use Rattle.compactor.specs.Counting.{counts_in}
use Rattle.compactor.specs.Entering.{Row, stands_at}
use Rattle.compactor.specs.Looking.{TellsNewest}
use Rattle.compactor.proofs.Told.{told_among, told_placed}
use Rattle.compactor.proofs.parts.Parts.is_newest.Goals as goal

pub returns-in-Some-clause-newest : goal.returns-in-Some-clause-newest
returns-in-Some-clause-newest g c told kept is there =
    let p = c.args.self.now in
    subst (λ (b : Bool). TellsNewest (counts_in kept) c.args.key.now c.args.place b) (sym c.stands_at.ensures)
    (told_placed (counts_in kept) (g.H.Host.state c.args.host.now).files p.table p.tree p.requests.waiting is there c.args.key.now c.args.place c.in-Some.placed c.in-Some.field-0-1 (sym c.in-Some.ensures.place))

pub returns-in-Ok-clause-newest : goal.returns-in-Ok-clause-newest
returns-in-Ok-clause-newest g c told kept is there =
    let p = c.args.self.now in
    let found : c.deref.result.now ≡ entries_of (hash p.tree.bits c.args.key.now) p.tree.entries = c.deref.ensures.value ∙ c.in-Ok.ensures.found ∙ ap (λ (h : ℕ). entries_of h p.tree.entries) (c.hash-hash.ensures.hash ∙ ap (λ (b : ℕ). hash b c.args.key.now) c.hash_bits.ensures) in
    told_among (counts_in kept) (g.H.Host.state c.args.host.now).files p.table p.tree p.requests.waiting is there c.args.key.now c.args.place c.requires.usable.ordered
    (sym c.in-None.ensures.place) c.stands_among.result
    (subst (λ (l : Entries). IsTrue c.stands_among.result ↔ Any (λ (e : Row). stands_at e.0.file e.0.at c.args.place ≡ true) l) found c.stands_among.ensures)
