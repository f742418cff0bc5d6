use Rattle.std.proofs.Common.{◌≡◌, ℕ, ◌+◌, min, List, length, Option, Some, None, ap, sym, subst, ◌∙◌}
use Rattle.cache_model.specs.declared.files.FileCount.{FileCount}
use Rattle.file_stats.specs.Classes.{IsFirst, IsFirstBelow}
use Rattle.file_stats.specs.Figures.{Figures, IsLeastCandidate}
use Rattle.file_stats.proofs.Candidates.{first-other, named-other, named-same, none-first, none-second, second-other}
use Rattle.file_stats.proofs.figures.Stats.candidate.Goals as goal

pub returns-in_err-first : goal.returns-in_err-first
returns-in_err-first c =
    let limit : c.min-limit.result ≡ min c.args.threshold 101 = c.min-limit.ensures ∙ ap (min c.args.threshold) c.from.ensures in
    let none = subst (λ (l : ℕ). IsFirstBelow l 0 (length c.self.inside.classes) c.self.inside.classes None) limit c.in_err-first.ensures in
    subst (λ (r : Option ℕ). IsLeastCandidate c.args.threshold c.args.current c.args.self.now.rows r) (sym c.from_residual.ensures)
    (subst (λ (rs : List FileCount). IsLeastCandidate c.args.threshold c.args.current rs None) (ap (λ (f : Figures). f.rows) c.self.view_is)
    (none-first c.self.inside.rows.items c.self.inside.classes c.args.threshold c.self.invariant.counts c.self.invariant.within c.self.invariant.each c.args.current none))

pub returns-then-ne : goal.returns-then-ne
returns-then-ne c =
    let limit : c.min-limit.result ≡ min c.args.threshold 101 = c.min-limit.ensures ∙ ap (min c.args.threshold) c.from.ensures in
    let first = subst (λ (l : ℕ). IsFirst l 0 (length c.self.inside.classes) c.self.inside.classes c.in_ok-first.first) limit c.in_ok-first.ensures in
    subst (λ (rs : List FileCount). IsLeastCandidate c.args.threshold c.args.current rs (Some c.index.result.now.number)) (ap (λ (f : Figures). f.rows) c.self.view_is)
    (first-other c.self.inside.rows.items c.self.inside.classes c.args.threshold c.self.invariant.counts c.self.invariant.within c.self.invariant.each c.args.current c.in_ok-first.first c.index.result.now first c.index.ensures
    (named-other c.args.current c.index.result.now.number c.if-ne.ensures))

pub returns-in_err-second : goal.returns-in_err-second
returns-in_err-second c =
    let limit : c.min-limit.result ≡ min c.args.threshold 101 = c.min-limit.ensures ∙ ap (min c.args.threshold) c.from.ensures in
    let first = subst (λ (l : ℕ). IsFirst l 0 (length c.self.inside.classes) c.self.inside.classes c.in_ok-first.first) limit c.in_ok-first.ensures in
    let none = subst (λ (l : ℕ). IsFirstBelow l (c.in_ok-first.first + 1) (length c.self.inside.classes) c.self.inside.classes None) limit c.in_err-second.ensures in
    subst (λ (r : Option ℕ). IsLeastCandidate c.args.threshold c.args.current c.args.self.now.rows r) (sym c.from_residual-in_err-second.ensures)
    (subst (λ (rs : List FileCount). IsLeastCandidate c.args.threshold c.args.current rs None) (ap (λ (f : Figures). f.rows) c.self.view_is)
    (none-second c.self.inside.rows.items c.self.inside.classes c.args.threshold c.self.invariant.counts c.self.invariant.within c.self.invariant.each c.args.current c.in_ok-first.first c.index.result.now first c.index.ensures
    (named-same c.args.current c.index.result.now.number c.if-ne.ensures) none))

pub returns : goal.returns
returns c =
    let limit : c.min-limit.result ≡ min c.args.threshold 101 = c.min-limit.ensures ∙ ap (min c.args.threshold) c.from.ensures in
    let first = subst (λ (l : ℕ). IsFirst l 0 (length c.self.inside.classes) c.self.inside.classes c.in_ok-first.first) limit c.in_ok-first.ensures in
    let second = subst (λ (l : ℕ). IsFirst l (c.in_ok-first.first + 1) (length c.self.inside.classes) c.self.inside.classes c.in_ok-second.second) limit c.in_ok-second.ensures in
    subst (λ (rs : List FileCount). IsLeastCandidate c.args.threshold c.args.current rs (Some c.index-2.result.now.number)) (ap (λ (f : Figures). f.rows) c.self.view_is)
    (second-other c.self.inside.rows.items c.self.inside.classes c.args.threshold c.self.invariant.counts c.self.invariant.within c.self.invariant.each c.args.current c.in_ok-first.first c.index.result.now c.in_ok-second.second c.index-2.result.now first c.index.ensures
    (named-same c.args.current c.index.result.now.number c.if-ne.ensures) second c.index-2.ensures)
