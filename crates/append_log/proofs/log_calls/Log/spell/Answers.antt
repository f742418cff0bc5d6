use Rattle.cache_model.specs.Items.{Item, IsRecord, IsItem, put, removal, end}
use Rattle.cache_model.proofs.Spelling.{spelling-most}
use Rattle.record_format.specs.Changing.{item_by}
use Rattle.append_log.proofs.log_calls.Log.spell.Goals as goal

is_item : (item : Item) → IsRecord item → IsItem item
is_item (put seq until key value) is = is
is_item (removal seq key) is = is
is_item (end moment) is = absurd is

pub returns-clause-short : goal.returns-clause-short
returns-clause-short c =
    let item = item_by c.args.self.now.files.next c.args.change.now in
    spelling-most item (is_item item c.encode_change.ensures.record)

pub returns-then-is_err-clause-short : goal.returns-then-is_err-clause-short
returns-then-is_err-clause-short c =
    let item = item_by c.args.self.now.files.next c.args.change.now in
    spelling-most item (is_item item c.encode_change.ensures.record)
