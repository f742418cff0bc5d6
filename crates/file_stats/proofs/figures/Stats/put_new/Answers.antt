use Rattle.std.proofs.Common.{◌≡◌, ◌-◌, ◌≤◌, List, length, ap, sym, subst, ◌∙◌, arith}
use Rattle.std.specs.Prelude.{insert}
use Rattle.cache_model.specs.declared.files.FileCount.{FileCount}
use Rattle.file_stats.specs.Classes.{AreClassesOf}
use Rattle.file_stats.specs.Counts.{AreCounts}
use Rattle.file_stats.specs.Figures.{Figures}
use Rattle.file_stats.proofs.Kept.{bytes-fit, kept-insert, live-fit}
use Rattle.file_stats.proofs.figures.Stats.put_new.Goals as goal

pub overflow_add-self : goal.overflow_add-self
overflow_add-self c =
    let most = bytes-fit c.self.inside.rows.items c.self.invariant.fit in
    omega (arith, most, c.self.invariant.bytes, c.self.inside.rows.ok.0, c.from.ensures)

pub overflow_add-self-2 : goal.overflow_add-self-2
overflow_add-self-2 c =
    let most = live-fit c.self.inside.rows.items c.self.invariant.counts c.self.invariant.fit in
    omega (arith, most, c.self.invariant.live, c.self.inside.rows.ok.0, c.from-2.ensures)

pub invariant_of-self : goal.invariant_of-self
invariant_of-self c =
    let rows : c.args.self.now.rows ≡ c.self.inside.rows.items = sym (ap (λ (f : Figures). f.rows) c.self.view_is) in
    let spare : length c.self.inside.classes - length c.self.inside.rows.items ≡ c.args.self.now.spare = ap (λ (f : Figures). f.spare) c.self.view_is in
    let items : c.insert.new.self.items ≡ insert c.self.inside.rows.items c.args.place c.args.row = rw c.unwrap.ensures at c.insert.ensures.items in
    let within = subst (λ (rs : List FileCount). c.args.place ≤ length rs) rows c.requires.place in
    let counts = subst (λ (rs : List FileCount). AreCounts (insert rs c.args.place c.args.row)) rows c.requires.counts in
    let classes = subst (λ (rs : List FileCount). AreClassesOf rs c.class_new.new.classes) (c.deref.ensures.value ∙ items) c.class_new.ensures.classes in
    rw (items, c.from.ensures, c.from-2.ensures)
    (kept-insert c.self.inside.rows.items c.self.inside.rows.cap c.self.inside.classes c.self.inside.bytes c.self.inside.live c.self.invariant c.args.place _ c.class_new.new.classes c.args.row
    within (omega (arith, spare, c.requires.room)) c.insert.ensures.capacity counts (omega (arith, c.from.ensures)) c.class_new.ensures.places classes)
