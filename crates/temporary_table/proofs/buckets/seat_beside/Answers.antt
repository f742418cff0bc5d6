use Rattle.std.proofs.Common.{◌∙◌, refl, sym}
use Rattle.std.specs.BTreeMap.{get}
use Rattle.temporary_table.specs.Places.{seated}
use Rattle.temporary_table.specs.Buckets.{key_cmp}
use Rattle.temporary_table.proofs.Refilling.{refills_same, seated_there, put_or_same, kept_none}
use Rattle.temporary_table.proofs.buckets.seat_beside.Goals as goal

pub returns-then-contains_key-clause-seated : goal.returns-then-contains_key-clause-seated
returns-then-contains_key-clause-seated c = refills_same c.args.bucket.now c.args.bucket.now c.args.key (seated (get key_cmp c.args.bucket.now c.args.key))
    (seated_there (get key_cmp c.args.bucket.now c.args.key) (sym c.contains_key.ensures ∙ c.if-contains_key.true)) refl c.requires.ordered

pub returns-clause-seated : goal.returns-clause-seated
returns-clause-seated c = put_or_same c.args.bucket.now c.put_seat.new.bucket c.args.key c.put_seat.result (sym c.contains_key.ensures ∙ c.if-contains_key.false) c.put_seat.ensures.put c.put_seat.ensures.ordered

pub returns-clause-same : goal.returns-clause-same
returns-clause-same c = kept_none c.args.bucket.now c.put_seat.new.bucket c.args.key c.put_seat.result c.put_seat.ensures.same c.put_seat.ensures.ordered
