use Rattle.std.proofs.Common.{◌≡◌, All, List, ℕ, subst, sym, ◌∙◌}
use Rattle.std.specs.List.Sorted.{IsStrictlyIncreasing}
use Rattle.std.proofs.lemmas.Result.{IfOk-weaker}
use Rattle.cache_model.specs.Images.{IsSound}
use Rattle.file_stats.specs.declared.file_list.Found.{Found}
use Rattle.rebuild.specs.Listing.{IsBehind, IsNumber}
use Rattle.rebuild.specs.Rebuilt.{IsBounded, IsRebuilt}
use Rattle.rebuild.proofs.ReadRecords.{same-err}
use Rattle.rebuild.proofs.Rebuilds.{all-numbers, all-numbers-same, damage-before, found-bounded, found-rebuilt, if-ok-four, sound-before, taken-before}
use Rattle.rebuild.proofs.WholeFiles.{first-damage, is-sound}
use Rattle.rebuild.proofs.rebuilding.rebuild.Goals as goal

pub settle_all-requires-clause-each : goal.settle_all-requires-clause-each
settle_all-requires-clause-each g c told =
    let a = g.H.Host.state c.args.host.now in
    let b = g.H.Host.state c.names.new.self in
    let listed = c.in_ok-names.ensures.told told in
    let numbers = c.deref-2.result.now in
    all-numbers-same a.files b.files numbers listed.stands.files
    (all-numbers a.files c.in_ok-names.names.items c.deref.result.now c.in_ok-numbers.numbers.items numbers c.deref.ensures.value c.deref-2.ensures.value listed.each c.in_ok-numbers.ensures.each)

pub returns-in-Ok-clause-rebuilt : goal.returns-in-Ok-clause-rebuilt
returns-in-Ok-clause-rebuilt g c told =
    let a = g.H.Host.state c.args.host.now in
    let b = g.H.Host.state c.names.new.self in
    let listed = c.in_ok-names.ensures.told told in
    let numbers = c.deref-2.result.now in
    let figures = c.in-Ok.figures in
    let next = c.number_behind.result in
    let entries = c.settle_all.new.tree.entries in
    let value = c.deref-2.ensures.value in
    let each = all-numbers a.files c.in_ok-names.names.items c.deref.result.now c.in_ok-numbers.numbers.items numbers c.deref.ensures.value value listed.each c.in_ok-numbers.ensures.each in
    let ascend = subst (λ (l : List ℕ). IsStrictlyIncreasing l) (sym value) c.in_ok-numbers.ensures.ascend in
    let behind = subst (λ (l : List ℕ). IsBehind l next) (c.deref-in-Ok.ensures.value ∙ sym value) c.number_behind.ensures.behind in
    let stands = taken-before a.files b.files c.args.bits entries figures numbers listed.stands.files (c.in-Ok.ensures.taken told) in
    if-ok-four c.found.result (λ (found : Found). found.files ≡ figures.rows) (λ found. found.next_file ≡ next) (λ found. found.next_seq ≡ figures.next_seq) (λ found. found.mark ≡ figures.mark) (IsRebuilt a.files c.args.bits entries)
    c.found.ensures.rows c.found.ensures.file c.found.ensures.next c.found.ensures.mark
    (λ found rows file seq mark. found-rebuilt a.files numbers c.args.bits entries figures next found each ascend c.in-Ok.ensures.numbers stands behind rows file seq mark)

pub returns-in-Ok-clause-bounded : goal.returns-in-Ok-clause-bounded
returns-in-Ok-clause-bounded g c =
    let numbers = c.deref-2.result.now in
    let figures = c.in-Ok.figures in
    let next = c.number_behind.result in
    let tree = c.settle_all.new.tree in
    let within = subst (λ (l : List ℕ). All IsNumber l) (sym c.deref-2.ensures.value) c.in_ok-numbers.ensures.within in
    if-ok-four c.found.result (λ (found : Found). found.files ≡ figures.rows) (λ found. found.next_file ≡ next) (λ found. found.next_seq ≡ figures.next_seq) (λ found. found.mark ≡ figures.mark) (IsBounded c.args.bits tree)
    c.found.ensures.rows c.found.ensures.file c.found.ensures.next c.found.ensures.mark
    (λ found rows file seq mark. found-bounded c.args.bits tree numbers figures next found c.in-Ok.ensures.in_order within c.in-Ok.ensures.numbers c.number_behind.ensures.range rows file seq mark)

pub returns-in-Ok-clause-undamaged : goal.returns-in-Ok-clause-undamaged
returns-in-Ok-clause-undamaged g c told =
    let a = g.H.Host.state c.args.host.now in
    let b = g.H.Host.state c.names.new.self in
    let listed = c.in_ok-names.ensures.told told in
    let numbers = c.deref-2.result.now in
    let each = all-numbers a.files c.in_ok-names.names.items c.deref.result.now c.in_ok-numbers.numbers.items numbers c.deref.ensures.value c.deref-2.ensures.value listed.each c.in_ok-numbers.ensures.each in
    let sound = sound-before a.files b.files listed.stands.files (is-sound b.files numbers (all-numbers-same a.files b.files numbers listed.stands.files each) (c.in-Ok.ensures.sound told)) in
    IfOk-weaker c.found.result (λ (found : Found). found.files ≡ c.in-Ok.figures.rows) (λ found. IsSound a.files) (λ found rows. sound) c.found.ensures.rows

pub returns-clause-damaged : goal.returns-clause-damaged
returns-clause-damaged g c told damage err =
    let a = g.H.Host.state c.args.host.now in
    let b = g.H.Host.state c.names.new.self in
    let listed = c.in_ok-names.ensures.told told in
    let numbers = c.deref-2.result.now in
    let each = all-numbers a.files c.in_ok-names.names.items c.deref.result.now c.in_ok-numbers.numbers.items numbers c.deref.ensures.value c.deref-2.ensures.value listed.each c.in_ok-numbers.ensures.each in
    let ascend = subst (λ (l : List ℕ). IsStrictlyIncreasing l) (sym c.deref-2.ensures.value) c.in_ok-numbers.ensures.ascend in
    damage-before a.files b.files damage listed.stands.files
    (first-damage b.files numbers (all-numbers-same a.files b.files numbers listed.stands.files each) damage ascend (c.in-Err.ensures.damaged told damage (same-err c.in-Err.fault _ err)))
