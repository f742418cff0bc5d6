use Rattle.std.proofs.Common.{◌≡◌, ◌<◌, List, length, ap, sym, subst, arith}
use Rattle.std.specs.Prelude.{HoldsAt}
use Rattle.cache_model.specs.declared.files.FileCount.{FileCount}
use Rattle.file_stats.specs.Figures.{Figures}
use Rattle.file_stats.proofs.Kept.{bytes-fit, kept-replaced, live-fit}
use Rattle.file_stats.proofs.figures.Stats.replace.Goals as goal

pub overflow_add-self : goal.overflow_add-self
overflow_add-self c =
    let most = bytes-fit c.self.inside.rows.items c.self.invariant.fit in
    omega (arith, most, c.self.invariant.bytes, c.self.inside.rows.ok.0, c.from-2.ensures)

pub overflow_add-self-2 : goal.overflow_add-self-2
overflow_add-self-2 c =
    let most = live-fit c.self.inside.rows.items c.self.invariant.counts c.self.invariant.fit in
    omega (arith, most, c.self.invariant.live, c.self.inside.rows.ok.0, c.from-4.ensures)

pub invariant_of-self : goal.invariant_of-self
invariant_of-self c =
    let rows : c.args.self.now.rows ≡ c.self.inside.rows.items = sym (ap (λ (f : Figures). f.rows) c.self.view_is) in
    let within = subst (λ (rs : List FileCount). c.args.place < length rs) rows c.requires.place.0 in
    let same = subst (λ (rs : List FileCount). HoldsAt (λ old. old.number ≡ c.args.row.number) rs c.args.place) rows c.requires.place.1 in
    kept-replaced c.self.inside.rows.items c.self.inside.rows.cap c.self.inside.classes c.self.inside.bytes c.self.inside.live c.self.invariant c.args.place c.index-old.result.now c.args.row c.set.new.self c.class_of.result c.from.result c.from-2.result c.from-3.result c.from-4.result
    within c.index-old.ensures same c.requires.live (omega (arith, c.from-2.ensures)) c.class_of.ensures c.set.ensures c.from.ensures c.from-2.ensures c.from-3.ensures c.from-4.ensures
