use Rattle.std.proofs.Common.{◌<◌, List, Ok, ℕ, [], ◌∷◌, ◌++◌, All, take, get_or, ap, refl, subst, sym, ◌∙◌}
use Rattle.std.proofs.lemmas.List.{take_more}
use Rattle.cache_model.specs.declared.files.FileName.{FileName}
use Rattle.cache_model.specs.Images.{log_name}
use Rattle.cache_disk.specs.Calls.{Synced}
use Rattle.cache_disk.proofs.Runs.{Stands-left}
use Rattle.rebuild.specs.Listing.{IsSettledAll}
use Rattle.rebuild.specs.Rows.{numbers_of}
use Rattle.rebuild.proofs.InOrder.{none-in-order}
use Rattle.rebuild.proofs.Readings.{all-below, read-more, read-next, read-none}
use Rattle.rebuild.proofs.Settling.{settled-more, settled-none, syncing-more, syncing-none, syncing-stands}
use Rattle.rebuild.proofs.scanning.read_all.Goals as goal

pub loop-number-init : goal.loop-number-init
loop-number-init g c =
    let a = g.H.Host.state c.args.host.now in
    let new = c.new-figures.ensures in
    record {
      in_order = none-in-order c.args.bits c.args.tree.now c.requires.fits c.requires.empty;
      rows = ap numbers_of new.rows;
      faults = refl;
      says = refl;
      read = λ told. syncing-none a;
      settled = λ told. settled-none a;
      taken = λ told. read-none a.files c.args.bits c.args.tree.now c.new-figures.result c.requires.empty new.rows new.next new.mark;
    }

pub read_file-requires-clause-above : goal.read_file-requires-clause-above
read_file-requires-clause-above g c =
    let numbers = c.args.numbers.now in
    let index = c.loop-number.number-index in
    subst (λ (l : List ℕ). All (λ n. n < get_or numbers index 0) l) (sym c.loop-number.invariant.rows) (all-below numbers index 0 c.requires.ascend c.loop-number-test.true)

pub read_file-requires-clause-taken : goal.read_file-requires-clause-taken
read_file-requires-clause-taken g c told =
    let a = g.H.Host.state c.args.host.now in
    let b = g.H.Host.state c.loop-number.host in
    let m = g.H.Host.state c.sync.new.self in
    let numbers = c.args.numbers.now in
    let index = c.loop-number.number-index in
    let before = c.loop-number.invariant in
    let synced = c.in_ok-sync.ensures.told told in
    read-next a.files m.files c.args.bits (take index numbers) (get_or numbers index 0) c.loop-number.tree c.loop-number.figures
    (syncing-more a b m (Ok c.in_ok-sync.field-0) (before.read told) synced.turn synced.files).files (all-below numbers index 0 c.requires.ascend c.loop-number-test.true) (before.taken told)

pub loop-number-preserved : goal.loop-number-preserved
loop-number-preserved g c =
    let a = g.H.Host.state c.args.host.now in
    let b = g.H.Host.state c.loop-number.host in
    let m = g.H.Host.state c.sync.new.self in
    let d = g.H.Host.state c.read_file.new.host in
    let numbers = c.args.numbers.now in
    let index = c.loop-number.number-index in
    let before = c.loop-number.invariant in
    record {
      in_order = c.in_ok-read_file.ensures.in_order;
      rows = c.in_ok-read_file.ensures.numbers ∙ ap (λ (l : List ℕ). l ++ get_or numbers index 0 ∷ []) before.rows ∙ sym (take_more numbers index 0 c.loop-number-test.true);
      faults = c.in_ok-read_file.ensures.cause.ok ∙ c.in_ok-sync.ensures.cause.ok ∙ before.faults;
      says = c.read_file.ensures.cause.says ∙ c.in_ok-sync.ensures.cause.other ∙ before.says;
      read = λ told. let synced = c.in_ok-sync.ensures.told told in syncing-stands a m d (syncing-more a b m (Ok c.in_ok-sync.field-0) (before.read told) synced.turn synced.files) (c.read_file.ensures.stands told);
      settled = λ told.
          let synced : Synced (log_name (get_or numbers index 0)) b m (Ok c.in_ok-sync.field-0) = subst (λ (name : FileName). Synced name b m (Ok c.in_ok-sync.field-0)) c.log_name-in-loop-number.ensures (c.in_ok-sync.ensures.told told) in
          rw (take_more numbers index 0 c.loop-number-test.true)
          (Stands-left m d (IsSettledAll (take index numbers ++ get_or numbers index 0 ∷ []) a.files) (c.read_file.ensures.stands told)
          (settled-more a b m (take index numbers) (get_or numbers index 0) c.in_ok-sync.field-0 (before.read told).files (before.settled told) synced));
      taken = λ told.
          let synced = c.in_ok-sync.ensures.told told in
          rw (take_more numbers index 0 c.loop-number-test.true)
          (read-more a.files m.files c.args.bits (take index numbers) (get_or numbers index 0) c.loop-number.tree c.read_file.new.tree c.loop-number.figures c.read_file.new.figures
          (syncing-more a b m (Ok c.in_ok-sync.field-0) (before.read told) synced.turn synced.files).files (all-below numbers index 0 c.requires.ascend c.loop-number-test.true) (before.taken told)
          (c.in_ok-read_file.ensures.read told) (c.in_ok-read_file.ensures.sound told));
    }
