use Rattle.std.proofs.Common.{refl}
use Rattle.record_format.specs.declared.items.OwnItem.TheVariants.{Put}
use Rattle.record_format.proofs.Heads.{put-appended}
use Rattle.record_format.proofs.changing.append_put.Goals as goal

pub returns-clause-spelled : goal.returns-clause-spelled
returns-clause-spelled c =
    put-appended c.append_parts.result c.args.out.now.items c.append_parts.new.out.items c.args.seq c.args.until c.args.key.now c.args.value.now _ _ _ c.put_head-head.ensures c.bytes-key.ensures.bytes c.bytes-value.ensures.bytes c.append_parts.ensures.appended (Put c.args.seq c.args.until c.args.key.now c.args.value.now) refl
