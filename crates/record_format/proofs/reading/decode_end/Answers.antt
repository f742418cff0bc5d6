use Rattle.record_format.proofs.Fronts.{end-short, end-moment, end-whole}
use Rattle.record_format.proofs.reading.decode_end.Goals as goal

pub returns-then-bytes-at-lt-END_SIZE-clause-found : goal.returns-then-bytes-at-lt-END_SIZE-clause-found
returns-then-bytes-at-lt-END_SIZE-clause-found c = end-short c.args.bytes.now c.args.at c.if-bytes-at-lt-END_SIZE.true

pub returns-then-moment-ge-MOMENT_LIMIT-clause-found : goal.returns-then-moment-ge-MOMENT_LIMIT-clause-found
returns-then-moment-ge-MOMENT_LIMIT-clause-found c =
    end-moment c.args.bytes.now c.args.at c.u64_at-moment.result c.if-bytes-at-lt-END_SIZE.false c.u64_at-moment.ensures c.if-moment-ge-MOMENT_LIMIT.true

pub returns-clause-found : goal.returns-clause-found
returns-clause-found c =
    end-whole c.args.bytes.now c.args.at c.u64_at-moment.result c.if-bytes-at-lt-END_SIZE.false c.u64_at-moment.ensures c.if-moment-ge-MOMENT_LIMIT.false
