use Rattle.std.proofs.Common.{rules, ◌≡◌, ◌∙◌, ℕ, true, false, List, Option, Some, None, sym}
use Rattle.std.specs.Prelude.{Err, option_map}
use Rattle.std.specs.Option.{option_or}
use Rattle.std.specs.Borrow.{Bor}
use Rattle.cache_disk.proofs.Runs.{Stands-same, Stands-trans}
use Rattle.compactor.specs.Counting.{counts_in}
use Rattle.soft_index.proofs.Looks.{looks_err, looks_first, looks_ok, looks_on, looks_stop, next_told, walks_told}
use Rattle.soft_index.proofs.Shown.{passed_none, passed_one, shown_none, shown_one}
use Rattle.soft_index.proofs.walking.next_shown.Goals as goal

pub loop-init : goal.loop-init
loop-init g c = record {
  looks = looks_first c.args.parts.now c.requires.usable;
  cause = search rules;
  stands = λ told. Stands-same (g.H.Host.state c.args.host.now);
  passed = λ told kept indexed there. passed_none _ _ _ _;
}

pub next_record-requires : goal.next_record-requires
next_record-requires g c = record { usable = c.loop.invariant.looks.usable }

pub returns-then-is_shown-clause-looks : goal.returns-then-is_shown-clause-looks
returns-then-is_shown-clause-looks g c = looks_ok c.args.parts.now c.loop.parts c.loop.invariant.looks c.next_record.new.self c.in-Ok-Some.field-0 (Some c.in-Ok-Some.key) c.in-Ok-Some.ensures.looks

pub returns-then-is_shown-clause-stands : goal.returns-then-is_shown-clause-stands
returns-then-is_shown-clause-stands g c told = Stands-trans (g.H.Host.state c.args.host.now) (g.H.Host.state c.loop.host) (g.H.Host.state c.next_record.new.host) (c.loop.invariant.stands told) (c.in-Ok-Some.ensures.stands told)

pub returns-in-Ok-None-clause-looks : goal.returns-in-Ok-None-clause-looks
returns-in-Ok-None-clause-looks g c = looks_ok c.args.parts.now c.loop.parts c.loop.invariant.looks c.next_record.new.self c.in-Ok-None.field-0 None c.in-Ok-None.ensures.looks

pub returns-in-Ok-None-clause-stands : goal.returns-in-Ok-None-clause-stands
returns-in-Ok-None-clause-stands g c told = Stands-trans (g.H.Host.state c.args.host.now) (g.H.Host.state c.loop.host) (g.H.Host.state c.next_record.new.host) (c.loop.invariant.stands told) (c.in-Ok-None.ensures.stands told)

pub returns-in-Err-clause-looks : goal.returns-in-Err-clause-looks
returns-in-Err-clause-looks g c = looks_err c.args.parts.now c.loop.parts c.loop.invariant.looks c.next_record.new.self c.in-Err.fault c.in-Err.ensures.looks

pub returns-in-Err-clause-stands : goal.returns-in-Err-clause-stands
returns-in-Err-clause-stands g c told = Stands-trans (g.H.Host.state c.args.host.now) (g.H.Host.state c.loop.host) (g.H.Host.state c.next_record.new.host) (c.loop.invariant.stands told) (c.in-Err.ensures.stands told)

pub returns-clause-looks : goal.returns-clause-looks
returns-clause-looks g c = looks_stop c.args.parts.now c.loop.parts c.loop.invariant.looks

pub returns-then-is_shown-clause-shows : goal.returns-then-is_shown-clause-shows
returns-then-is_shown-clause-shows g c told kept indexed there =
    let a = g.H.Host.state c.args.host.now in
    let old = c.args.parts.now in
    let after : Option (List ℕ) = option_map (λ (key : Bor (List ℕ)). key.now) c.args.after in
    let next = next_told old c.loop.parts a (g.H.Host.state c.loop.host) (counts_in kept) c.or.result c.as_ref.result c.args.after c.loop.last c.loop.invariant.looks (c.loop.invariant.stands told) indexed there c.or.ensures c.as_ref.ensures.value
    c.in-Ok-Some.field-0 (Some (c.in-Ok-Some.key, c.in-Ok-Some.item)) c.in-Ok-Some.field-0-is (c.in-Ok-Some.ensures.walks told kept) in
    record {
      next = shown_one (counts_in kept) a.files there old.tree.bits c.args.moment after (option_or c.loop.last after) (c.loop.invariant.passed told kept indexed there) c.in-Ok-Some.key c.in-Ok-Some.item next (c.is_shown.ensures.0 c.if-is_shown.true);
      undamaged = λ d err. cc;
    }

pub returns-in-Ok-None-clause-shows : goal.returns-in-Ok-None-clause-shows
returns-in-Ok-None-clause-shows g c told kept indexed there =
    let a = g.H.Host.state c.args.host.now in
    let old = c.args.parts.now in
    let after : Option (List ℕ) = option_map (λ (key : Bor (List ℕ)). key.now) c.args.after in
    let next = next_told old c.loop.parts a (g.H.Host.state c.loop.host) (counts_in kept) c.or.result c.as_ref.result c.args.after c.loop.last c.loop.invariant.looks (c.loop.invariant.stands told) indexed there c.or.ensures c.as_ref.ensures.value
    c.in-Ok-None.field-0 None c.in-Ok-None.field-0-is (c.in-Ok-None.ensures.walks told kept) in
    record { next = shown_none (counts_in kept) a.files there old.tree.bits c.args.moment after (option_or c.loop.last after) (c.loop.invariant.passed told kept indexed there) next; undamaged = λ d err. cc }

pub returns-in-Err-clause-shows : goal.returns-in-Err-clause-shows
returns-in-Err-clause-shows g c told kept indexed there =
    let walks = walks_told c.args.parts.now c.loop.parts (g.H.Host.state c.args.host.now) (g.H.Host.state c.loop.host) (counts_in kept) c.or.result c.as_ref.result c.args.after c.loop.last c.loop.invariant.looks (c.loop.invariant.stands told) indexed there c.or.ensures c.as_ref.ensures.value
    (Err c.in-Err.fault) (c.in-Err.ensures.walks told kept) in
    record { next = tt; undamaged = λ d err. walks.undamaged d cc }

pub loop-preserved : goal.loop-preserved
loop-preserved g c = record {
  looks = looks_on c.args.parts.now c.loop.parts c.loop.invariant.looks c.next_record.new.self c.in-Ok-Some.field-0 c.in-Ok-Some.ensures.looks;
  cause = search rules;
  stands = λ told. Stands-trans (g.H.Host.state c.args.host.now) (g.H.Host.state c.loop.host) (g.H.Host.state c.next_record.new.host) (c.loop.invariant.stands told) (c.in-Ok-Some.ensures.stands told);
  passed = λ told kept indexed there.
      let a = g.H.Host.state c.args.host.now in
      let old = c.args.parts.now in
      let after : Option (List ℕ) = option_map (λ (key : Bor (List ℕ)). key.now) c.args.after in
      let next = next_told old c.loop.parts a (g.H.Host.state c.loop.host) (counts_in kept) c.or.result c.as_ref.result c.args.after c.loop.last c.loop.invariant.looks (c.loop.invariant.stands told) indexed there c.or.ensures c.as_ref.ensures.value
      c.in-Ok-Some.field-0 (Some (c.in-Ok-Some.key, c.in-Ok-Some.item)) c.in-Ok-Some.field-0-is (c.in-Ok-Some.ensures.walks told kept) in
      passed_one (counts_in kept) a.files there old.tree.bits c.args.moment after (option_or c.loop.last after) (c.loop.invariant.passed told kept indexed there) c.in-Ok-Some.key c.in-Ok-Some.item next
      (λ visible. let no : true ≡ false = sym (c.is_shown.ensures.1 visible) ∙ c.if-is_shown.false in cc);
}
