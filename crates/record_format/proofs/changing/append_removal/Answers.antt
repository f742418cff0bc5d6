use Rattle.std.proofs.Common.{refl}
use Rattle.record_format.specs.declared.items.OwnItem.TheVariants.{Removal}
use Rattle.record_format.proofs.Heads.{removal-appended}
use Rattle.record_format.proofs.changing.append_removal.Goals as goal

pub returns-clause-spelled : goal.returns-clause-spelled
returns-clause-spelled c =
    removal-appended c.append_parts.result c.args.out.now.items c.append_parts.new.out.items c.args.seq c.args.key.now _ _ c.removal_head.ensures c.bytes-key.ensures.bytes c.append_parts.ensures.appended (Removal c.args.seq c.args.key.now) refl
