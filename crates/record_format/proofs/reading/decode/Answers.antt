use Rattle.std.proofs.Common.{◌≢◌, ℕ, get_or, refl, arith}
use Rattle.record_format.proofs.Fronts.{no-tag, end-tag, put-tag, removal-tag, bad-tag, found-limits}
use Rattle.record_format.proofs.reading.decode.Goals as goal

pub returns-then-at-bytes-clause-found : goal.returns-then-at-bytes-clause-found
returns-then-at-bytes-clause-found c = no-tag c.args.bytes.now c.args.at c.if-at-bytes.true

pub returns-in-0-clause-found : goal.returns-in-0-clause-found
returns-in-0-clause-found c = end-tag c.args.bytes.now c.args.at _ (omega arith) c.in-0.is c.decode_end.ensures.found

pub returns-in-1-clause-found : goal.returns-in-1-clause-found
returns-in-1-clause-found c = put-tag c.args.bytes.now c.args.at _ (omega arith) c.in-1.is c.decode_put.ensures.found

pub returns-in-2-clause-found : goal.returns-in-2-clause-found
returns-in-2-clause-found c = removal-tag c.args.bytes.now c.args.at _ (omega arith) c.in-2.is c.decode_removal.ensures.found

pub returns-in_default-clause-found : goal.returns-in_default-clause-found
returns-in_default-clause-found c =
    let tag : ℕ = get_or c.args.bytes.now c.args.at 0 in
    let n0 : tag ≢ 0 = omega arith in
    bad-tag c.args.bytes.now c.args.at tag (omega arith) refl n0 (omega arith) (omega arith)

pub returns-in-0-clause-limits : goal.returns-in-0-clause-limits
returns-in-0-clause-limits c =
    found-limits c.args.bytes.now c.args.at c.decode_end.result (end-tag c.args.bytes.now c.args.at _ (omega arith) c.in-0.is c.decode_end.ensures.found)

pub returns-in-1-clause-limits : goal.returns-in-1-clause-limits
returns-in-1-clause-limits c =
    found-limits c.args.bytes.now c.args.at c.decode_put.result (put-tag c.args.bytes.now c.args.at _ (omega arith) c.in-1.is c.decode_put.ensures.found)

pub returns-in-2-clause-limits : goal.returns-in-2-clause-limits
returns-in-2-clause-limits c =
    found-limits c.args.bytes.now c.args.at c.decode_removal.result (removal-tag c.args.bytes.now c.args.at _ (omega arith) c.in-2.is c.decode_removal.ensures.found)
