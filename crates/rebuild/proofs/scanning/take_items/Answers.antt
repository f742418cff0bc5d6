use Rattle.std.proofs.Common.{◌≡◌, List, ℕ, Option, Some, Ok, ap, subst, ◌∙◌}
use Rattle.std.specs.Option.{IfSome}
use Rattle.cache_model.specs.declared.files.FileName.{FileName}
use Rattle.cache_model.specs.Files.{bytes_in}
use Rattle.cache_model.specs.Images.{log_name}
use Rattle.cache_disk.proofs.Runs.{Stands-trans}
use Rattle.data_file.specs.declared.scan.Scanned.{Scanned}
use Rattle.data_file.specs.Scanning.{scanned_name, HasGiven, IsGiven}
use Rattle.rebuild.proofs.ReadRecords.{bytes-same}
use Rattle.rebuild.proofs.Scans.{records-same, taking-more, taking-records}
use Rattle.rebuild.proofs.scanning.take_items.Goals as goal

pub take_one-requires-clause-records : goal.take_one-requires-clause-records
take_one-requires-clause-records g c told =
    let a = g.H.Host.state c.args.host.now in
    let b = g.H.Host.state c.loop-one.host in
    let d = g.H.Host.state c.next.new.host in
    let before = c.loop-one.invariant in
    let some = c.requires.taken told in
    let same = Stands-trans a b d (before.stands told) (c.next.ensures.told told).stands in
    records-same a.files d.files c.loop-one.tree.entries same.files
    (taking-records a.files c.args.bits c.args.number c.loop-one.scan c.args.tree.now c.loop-one.tree c.args.figures.now c.loop-one.figures some.0 (before.taking told) some.1 some.2)

pub loop-one-preserved : goal.loop-one-preserved
loop-one-preserved g c =
    let a = g.H.Host.state c.args.host.now in
    let b = g.H.Host.state c.loop-one.host in
    let d = g.H.Host.state c.next.new.host in
    let e = g.H.Host.state c.take_one.new.host in
    let before = c.loop-one.invariant in
    let name = log_name c.args.number in
    record {
      sound = c.in_ok-one.ensures.sound;
      name = c.next.ensures.named ∙ before.name;
      in_order = c.in_ok-take_one.ensures.in_order;
      numbers = c.in_ok-take_one.ensures.numbers ∙ before.numbers;
      faults = c.in_ok-take_one.ensures.cause.ok ∙ c.in_ok-one.ensures.cause.ok ∙ before.faults;
      says = c.take_one.ensures.cause.says ∙ c.next.ensures.cause.says ∙ before.says;
      stands = λ told. Stands-trans a d e (Stands-trans a b d (before.stands told) (c.next.ensures.told told).stands) (c.take_one.ensures.stands told);
      taking = λ told.
          let there = bytes_in b.files (scanned_name c.loop-one.scan) in
          let is : there ≡ bytes_in a.files name = ap (λ (n : FileName). bytes_in b.files n) before.name ∙ bytes-same a.files b.files name (before.stands told).files in
          let given = subst (λ (f : List ℕ). HasGiven c.loop-one.scan c.next.new.self f (Ok (Some c.in-Some.one))) is (subst (λ (o : Option Scanned). HasGiven c.loop-one.scan c.next.new.self there (Ok o)) c.in-Some.is (c.in_ok-one.ensures.told told).given) in
          let limits = subst (λ (o : Option Scanned). IfSome o (IsGiven (scanned_name c.loop-one.scan))) c.in-Some.is c.in_ok-one.ensures.limits in
          let same = Stands-trans a b d (before.stands told) (c.next.ensures.told told).stands in
          taking-more a.files d.files c.args.bits c.args.number c.loop-one.scan c.next.new.self c.args.tree.now c.loop-one.tree c.take_one.new.tree c.args.figures.now c.loop-one.figures c.take_one.new.figures c.in-Some.one
          same.files (limits.file ∙ ap (λ (n : FileName). n.id) before.name) (before.taking told) given (c.in_ok-take_one.ensures.taken told);
    }
