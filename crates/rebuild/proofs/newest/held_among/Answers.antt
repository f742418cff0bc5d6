use Rattle.std.proofs.Common.{List, subst, sym, ◌∙◌, false, None}
use Rattle.std.proofs.lemmas.List.{take_all}
use Rattle.std.proofs.lemmas.List.Elements.{All-get_or}
use Rattle.cache_model.specs.Items.{Item}
use Rattle.cache_disk.proofs.Runs.{Stands-trans}
use Rattle.rebuild.specs.Reading.{IsHeldAmong, StandsAt}
use Rattle.rebuild.proofs.ReadRecords.{Row, none-more, same-err, stands-there}
use Rattle.rebuild.proofs.newest.held_among.Goals as goal

-- a row, where none stands
past : Row
past = (record { hash = 0; file = 0; at = 0 }, record { length = 0; count = 0; gone = false })

pub returns-in-Err-clause-undamaged : goal.returns-in-Err-clause-undamaged
unfolding past
returns-in-Err-clause-undamaged g c told d err =
    let a = g.H.Host.state c.args.host.now in
    let b = g.H.Host.state c.loop-place.host in
    let there = All-get_or (λ (row : Row). (item : Item) × StandsAt a.files row.0 row.1.length item) c.args.found.now c.loop-place.place-index past c.loop-place-test.true (c.requires.records told) in
    c.in-Err.ensures.undamaged told there.0 (stands-there a.files b.files _ _ there.0 (c.loop-place.invariant.stands told).files there.1) d (same-err c.in-Err.fault _ err)

pub loop-place-preserved : goal.loop-place-preserved
unfolding past
loop-place-preserved g c =
    let a = g.H.Host.state c.args.host.now in
    let b = g.H.Host.state c.loop-place.host in
    let d = g.H.Host.state c.sequence_at.new.host in
    let before = c.loop-place.invariant in
    record {
      faults = c.in-Ok-None.ensures.cause.ok ∙ before.faults;
      says = c.in-Ok-None.ensures.cause.says ∙ before.says;
      stands = λ told. Stands-trans a b d (before.stands told) (c.in-Ok-None.ensures.stands told);
      none = λ told. none-more a.files c.args.found.now c.loop-place.place-index past c.args.key.now c.loop-place-test.true
          (λ item stands. sym c.in-Ok-None.field-0-is ∙ c.in-Ok-None.ensures.read told item (stands-there a.files b.files _ _ item (before.stands told).files stands))
          (before.none told);
    }

pub returns-clause-held : goal.returns-clause-held
returns-clause-held g c told =
    let a = g.H.Host.state c.args.host.now in
    subst (λ (l : List Row). IsHeldAmong a.files l c.args.key.now None) (take_all c.loop-place.place-index c.args.found.now c.loop-place-test.false) (c.loop-place.invariant.none told)
