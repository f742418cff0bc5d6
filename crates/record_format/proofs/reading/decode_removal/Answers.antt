use Rattle.record_format.proofs.Fronts.{RemovalNumbers, removal-short, removal-sequence, removal-key, removal-cut, removal-whole}
use Rattle.record_format.proofs.reading.decode_removal.Goals as goal

pub returns-then-left-lt-REMOVAL_HEAD-clause-found : goal.returns-then-left-lt-REMOVAL_HEAD-clause-found
returns-then-left-lt-REMOVAL_HEAD-clause-found c = removal-short c.args.bytes.now c.args.at c.if-left-lt-REMOVAL_HEAD.true

pub returns-then-seq-ge-NUMBER_LIMIT-clause-found : goal.returns-then-seq-ge-NUMBER_LIMIT-clause-found
returns-then-seq-ge-NUMBER_LIMIT-clause-found c =
    let numbers : RemovalNumbers c.args.bytes.now c.args.at c.u64_at-seq.result c.u16_at-key_length.result =
    record { long = c.if-left-lt-REMOVAL_HEAD.false; seq_is = c.u64_at-seq.ensures; key_is = c.u16_at-key_length.ensures } in
    removal-sequence _ _ _ _ numbers c.if-seq-ge-NUMBER_LIMIT.true

pub returns-then-not-is_key_length-clause-found : goal.returns-then-not-is_key_length-clause-found
returns-then-not-is_key_length-clause-found c =
    let numbers : RemovalNumbers c.args.bytes.now c.args.at c.u64_at-seq.result c.u16_at-key_length.result =
    record { long = c.if-left-lt-REMOVAL_HEAD.false; seq_is = c.u64_at-seq.ensures; key_is = c.u16_at-key_length.ensures } in
    removal-key _ _ _ _ numbers c.if-seq-ge-NUMBER_LIMIT.false c.is_key_length.result c.is_key_length.ensures c.if-not-is_key_length.true

pub returns-then-left-size-clause-found : goal.returns-then-left-size-clause-found
returns-then-left-size-clause-found c =
    let numbers : RemovalNumbers c.args.bytes.now c.args.at c.u64_at-seq.result c.u16_at-key_length.result =
    record { long = c.if-left-lt-REMOVAL_HEAD.false; seq_is = c.u64_at-seq.ensures; key_is = c.u16_at-key_length.ensures } in
    removal-cut _ _ _ _ numbers c.if-seq-ge-NUMBER_LIMIT.false c.is_key_length.result c.is_key_length.ensures c.if-not-is_key_length.false c.if-left-size.true

pub returns-clause-found : goal.returns-clause-found
returns-clause-found c =
    let numbers : RemovalNumbers c.args.bytes.now c.args.at c.u64_at-seq.result c.u16_at-key_length.result =
    record { long = c.if-left-lt-REMOVAL_HEAD.false; seq_is = c.u64_at-seq.ensures; key_is = c.u16_at-key_length.ensures } in
    removal-whole _ _ _ _ numbers c.if-seq-ge-NUMBER_LIMIT.false c.is_key_length.result c.is_key_length.ensures c.if-not-is_key_length.false c.if-left-size.false
