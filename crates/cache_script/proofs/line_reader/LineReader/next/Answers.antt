use Rattle.std.proofs.Common.{◌∙◌}
use Rattle.cache_script.specs.LineReader.{HasUnits}
use Rattle.cache_script.proofs.Taking.{fetched, taken_so_far, goes_on, first_line, ends, takes_ended, takes_last, exhausts}
use Rattle.cache_script.proofs.line_reader.LineReader.next.Goals as goal

pub returns-then-not-branch-clause-told : goal.returns-then-not-branch-clause-told
returns-then-not-branch-clause-told g c = λ tells.
    let some = c.in_ok-fetch.ensures.told tells in
    let line = c.in_ok-fetch.ensures.line in
    let before = c.loop-self.invariant.taking tells in
    let now = fetched _ _ (g.S.Source.rest c.fetch.new.source) _ c.fetch.new.self before line.0 line.1 some.same in
    let room = c.is_spent.ensures.more c.loop-self-test.true in
    let more : HasUnits c.fetch.new.self = rw (line.1, line.2) room in
    takes_last c.end_input.result _ _ _ c.fetch.new.self c.end_input.new.self now (some.same ∙ some.none c.if-not-branch.true) (line.2 ∙ c.loop-self.invariant.units) more c.end_input.ensures

pub returns-then-branch-clause-told : goal.returns-then-branch-clause-told
returns-then-branch-clause-told g c = λ tells.
    let some = c.in_ok-fetch.ensures.told tells in
    let line = c.in_ok-fetch.ensures.line in
    let before = c.loop-self.invariant.taking tells in
    let now = fetched _ _ (g.S.Source.rest c.fetch.new.source) _ c.fetch.new.self before line.0 line.1 some.same in
    let piece = c.in_ok-take_piece.ensures.taken in
    let taken = ends _ _ c.fetch.new.self c.take_piece.new.self _ now piece in
    let first = first_line _ _ c.fetch.new.self c.take_piece.new.self _ now piece c.if-branch.true in
    takes_ended c.end_line.result _ _ _ c.take_piece.new.self c.end_line.new.self taken first (c.take_piece.ensures.units ∙ line.2 ∙ c.loop-self.invariant.units) c.end_line.ensures.kept

pub loop-self-preserved : goal.loop-self-preserved
loop-self-preserved g c = record {
  units = c.take_piece.ensures.units ∙ c.in_ok-fetch.ensures.line.2 ∙ c.loop-self.invariant.units;
  faults = c.in_ok-fetch.ensures.cause.ok ∙ c.loop-self.invariant.faults;
  taking = λ tells.
      let some = c.in_ok-fetch.ensures.told tells in
      let line = c.in_ok-fetch.ensures.line in
      let before = c.loop-self.invariant.taking tells in
      let now = fetched _ _ (g.S.Source.rest c.fetch.new.source) _ c.fetch.new.self before line.0 line.1 some.same in
      goes_on _ _ c.fetch.new.self c.take_piece.new.self _ now c.in_ok-take_piece.ensures.taken c.if-branch.false;
}

pub returns-clause-told : goal.returns-clause-told
returns-clause-told g c = λ tells. exhausts _ _ c.loop-self.self (taken_so_far _ _ c.loop-self.self (c.loop-self.invariant.taking tells)) c.loop-self.invariant.units (c.is_spent.ensures.spent c.loop-self-test.false)
