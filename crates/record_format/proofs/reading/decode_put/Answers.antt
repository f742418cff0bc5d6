use Rattle.std.proofs.Common.{drop, ◌+◌, ◌-◌, take, ap, ◌∙◌}
use Rattle.cache_model.specs.Items.{put, whole}
use Rattle.record_format.proofs.Fronts.{PutNumbers, put-in_range, put-short, put-sequence, put-until, put-key, put-value, put-cut, put-whole}
use Rattle.record_format.proofs.reading.decode_put.Goals as goal

pub returns-then-left-lt-PUT_HEAD-clause-found : goal.returns-then-left-lt-PUT_HEAD-clause-found
returns-then-left-lt-PUT_HEAD-clause-found c = put-short c.args.bytes.now c.args.at c.if-left-lt-PUT_HEAD.true

pub returns-then-seq-ge-NUMBER_LIMIT-clause-found : goal.returns-then-seq-ge-NUMBER_LIMIT-clause-found
returns-then-seq-ge-NUMBER_LIMIT-clause-found c =
    let numbers : PutNumbers c.args.bytes.now c.args.at c.u64_at-seq.result c.u64_at-until.result c.u16_at-key_length.result c.u32_at-value_length.result =
    record { long = c.if-left-lt-PUT_HEAD.false; seq_is = c.u64_at-seq.ensures; until_is = c.u64_at-until.ensures; key_is = c.u16_at-key_length.ensures; value_is = c.u32_at-value_length.ensures } in
    put-sequence _ _ _ _ _ _ numbers c.if-seq-ge-NUMBER_LIMIT.true

pub returns-then-not-is_until-clause-found : goal.returns-then-not-is_until-clause-found
returns-then-not-is_until-clause-found c =
    let numbers : PutNumbers c.args.bytes.now c.args.at c.u64_at-seq.result c.u64_at-until.result c.u16_at-key_length.result c.u32_at-value_length.result =
    record { long = c.if-left-lt-PUT_HEAD.false; seq_is = c.u64_at-seq.ensures; until_is = c.u64_at-until.ensures; key_is = c.u16_at-key_length.ensures; value_is = c.u32_at-value_length.ensures } in
    put-until _ _ _ _ _ _ numbers c.if-seq-ge-NUMBER_LIMIT.false c.is_until.result c.is_until.ensures c.if-not-is_until.true

pub returns-then-not-is_key_length-clause-found : goal.returns-then-not-is_key_length-clause-found
returns-then-not-is_key_length-clause-found c =
    let numbers : PutNumbers c.args.bytes.now c.args.at c.u64_at-seq.result c.u64_at-until.result c.u16_at-key_length.result c.u32_at-value_length.result =
    record { long = c.if-left-lt-PUT_HEAD.false; seq_is = c.u64_at-seq.ensures; until_is = c.u64_at-until.ensures; key_is = c.u16_at-key_length.ensures; value_is = c.u32_at-value_length.ensures } in
    put-key _ _ _ _ _ _ numbers c.if-seq-ge-NUMBER_LIMIT.false c.is_until.result c.is_until.ensures c.if-not-is_until.false
    c.is_key_length.result c.is_key_length.ensures c.if-not-is_key_length.true

pub returns-then-not-is_value_length-clause-found : goal.returns-then-not-is_value_length-clause-found
returns-then-not-is_value_length-clause-found c =
    let numbers : PutNumbers c.args.bytes.now c.args.at c.u64_at-seq.result c.u64_at-until.result c.u16_at-key_length.result c.u32_at-value_length.result =
    record { long = c.if-left-lt-PUT_HEAD.false; seq_is = c.u64_at-seq.ensures; until_is = c.u64_at-until.ensures; key_is = c.u16_at-key_length.ensures; value_is = c.u32_at-value_length.ensures } in
    let good = put-in_range c.u64_at-seq.result c.u64_at-until.result c.u16_at-key_length.result c.if-seq-ge-NUMBER_LIMIT.false
    c.is_until.result c.is_until.ensures c.if-not-is_until.false c.is_key_length.result c.is_key_length.ensures c.if-not-is_key_length.false in
    put-value _ _ _ _ _ _ numbers good c.is_value_length.result c.is_value_length.ensures c.if-not-is_value_length.true

pub returns-then-left-size-clause-found : goal.returns-then-left-size-clause-found
returns-then-left-size-clause-found c =
    let numbers : PutNumbers c.args.bytes.now c.args.at c.u64_at-seq.result c.u64_at-until.result c.u16_at-key_length.result c.u32_at-value_length.result =
    record { long = c.if-left-lt-PUT_HEAD.false; seq_is = c.u64_at-seq.ensures; until_is = c.u64_at-until.ensures; key_is = c.u16_at-key_length.ensures; value_is = c.u32_at-value_length.ensures } in
    let good = put-in_range c.u64_at-seq.result c.u64_at-until.result c.u16_at-key_length.result c.if-seq-ge-NUMBER_LIMIT.false
    c.is_until.result c.is_until.ensures c.if-not-is_until.false c.is_key_length.result c.is_key_length.ensures c.if-not-is_key_length.false in
    put-cut _ _ _ _ _ _ numbers good c.is_value_length.result c.is_value_length.ensures c.if-not-is_value_length.false c.if-left-size.true

pub returns-clause-found : goal.returns-clause-found
returns-clause-found c =
    let numbers : PutNumbers c.args.bytes.now c.args.at c.u64_at-seq.result c.u64_at-until.result c.u16_at-key_length.result c.u32_at-value_length.result =
    record { long = c.if-left-lt-PUT_HEAD.false; seq_is = c.u64_at-seq.ensures; until_is = c.u64_at-until.ensures; key_is = c.u16_at-key_length.ensures; value_is = c.u32_at-value_length.ensures } in
    let good = put-in_range c.u64_at-seq.result c.u64_at-until.result c.u16_at-key_length.result c.if-seq-ge-NUMBER_LIMIT.false
    c.is_until.result c.is_until.ensures c.if-not-is_until.false c.is_key_length.result c.is_key_length.ensures c.if-not-is_key_length.false in
    ap (λ until. whole (put c.u64_at-seq.result until (take c.u16_at-key_length.result (drop (c.args.at + 23) c.args.bytes.now)) (take c.u32_at-value_length.result (drop (c.args.at + 23 + c.u16_at-key_length.result) c.args.bytes.now)))
    (c.args.at + (23 + c.u16_at-key_length.result + c.u32_at-value_length.result) - c.args.at)) c.until_of-until.ensures
    ∙ put-whole _ _ _ _ _ _ numbers good c.is_value_length.result c.is_value_length.ensures c.if-not-is_value_length.false c.if-left-size.false
