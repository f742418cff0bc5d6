use Rattle.std.proofs.Common.{◌≡◌, ◌<◌, ◌-◌, arith, length, ap, ◌∙◌, subst, ℕ}
use Rattle.std.specs.Option.{SomeIff}
use Rattle.std.specs.Int.{from_bool}
use Rattle.std.proofs.lemmas.List.{get_or_read}
use Rattle.temporary_table.specs.Queue.{raises, lowers}
use Rattle.temporary_table.specs.Chains.{since, requests_of}
use Rattle.temporary_table.proofs.Counting.{left_less, counted_first, counted_more, counted_there, counted_within, counted_all}
use Rattle.temporary_table.proofs.requests.Requests.waiting.Goals as goal

pub loop-next-init : goal.loop-next-init
loop-next-init c =
    let within : c.bucket_of-bucket.result < length c.self.inside.newest.items = omega arith in
    let count : c.len.result ≡ length c.self.inside.newest.items = omega arith in
    let long : c.len-2.result ≡ length c.self.inside.queue.items = omega arith in
    counted_first (length c.self.inside.newest.items) c.args.key.now c.self.inside.pushed c.bucket_of-bucket.result (since c.self.inside.pushed c.index.result.now) c.self.inside.newest.items c.self.inside.queue.items c.position_below-next.result
    (cc) within (ap (since c.self.inside.pushed) (get_or_read c.self.inside.newest.items c.bucket_of-bucket.result c.index.result.now within c.index.ensures 0))
    (subst (λ (n : ℕ). SomeIff c.position_below-next.result (since c.self.inside.pushed c.index.result.now < n) (n - 1 - since c.self.inside.pushed c.index.result.now)) long c.position_below-next.ensures)
    c.self.invariant.chained

pub index-queued-requires : goal.index-queued-requires
index-queued-requires c = omega (arith, counted_there (length c.self.inside.newest.items) c.args.key.now c.self.inside.queue.items c.loop-next.next c.in-Some.position c.loop-next.raising c.loop-next.lowering c.in-Some.is c.loop-next.invariant)

pub overflow_add-raising : goal.overflow_add-raising
overflow_add-raising c =
    let within = counted_within (length c.self.inside.newest.items) c.args.key.now c.self.inside.queue.items c.loop-next.next c.in-Some.position c.index-queued.result.now c.loop-next.raising c.loop-next.lowering c.in-Some.is c.index-queued.ensures c.loop-next.invariant in
    let one : c.from-raising.result ≡ from_bool (raises c.args.key.now c.index-queued.result.now.request) = c.from-raising.ensures ∙ ap from_bool c.raises.ensures in
    omega (arith, within.0)

pub overflow_add-lowering : goal.overflow_add-lowering
overflow_add-lowering c =
    let within = counted_within (length c.self.inside.newest.items) c.args.key.now c.self.inside.queue.items c.loop-next.next c.in-Some.position c.index-queued.result.now c.loop-next.raising c.loop-next.lowering c.in-Some.is c.index-queued.ensures c.loop-next.invariant in
    let one : c.from-lowering.result ≡ from_bool (lowers c.args.key.now c.index-queued.result.now.request) = c.from-lowering.ensures ∙ ap from_bool c.lowers.ensures in
    omega (arith, within.1)

pub loop-next-smaller : goal.loop-next-smaller
loop-next-smaller c = rw c.in-Some.is (left_less c.position_below-next-in-Some.result c.in-Some.position c.index-queued.result.now.between c.position_below-next-in-Some.ensures)

pub loop-next-preserved : goal.loop-next-preserved
loop-next-preserved c =
    rw (c.from-raising.ensures, c.raises.ensures, c.from-lowering.ensures, c.lowers.ensures)
    (counted_more (length c.self.inside.newest.items) c.args.key.now c.self.inside.queue.items c.loop-next.next c.in-Some.position c.index-queued.result.now c.position_below-next-in-Some.result c.loop-next.raising c.loop-next.lowering
    c.in-Some.is c.index-queued.ensures c.position_below-next-in-Some.ensures c.self.invariant.chained.linked c.loop-next.invariant)

pub returns-clause-raising : goal.returns-clause-raising
returns-clause-raising c = rw (← c.self.view_is) (counted_all (length c.self.inside.newest.items) c.args.key.now (requests_of c.self.inside.queue.items) c.loop-next.next c.loop-next.raising c.loop-next.lowering c.in_default.not-Some c.loop-next.invariant).0

pub returns-clause-lowering : goal.returns-clause-lowering
returns-clause-lowering c = rw (← c.self.view_is) (counted_all (length c.self.inside.newest.items) c.args.key.now (requests_of c.self.inside.queue.items) c.loop-next.next c.loop-next.raising c.loop-next.lowering c.in_default.not-Some c.loop-next.invariant).1
