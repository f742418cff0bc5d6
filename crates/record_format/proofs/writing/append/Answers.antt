use Rattle.record_format.proofs.writing.append.Goals as goal
use Rattle.record_format.proofs.Heads.{put-appended, removal-appended, end-appended}

pub returns-in-Put-clause-spelled : goal.returns-in-Put-clause-spelled
returns-in-Put-clause-spelled c =
    put-appended c.append_parts.result c.args.out.now.items c.append_parts.new.out.items c.in-Put.seq c.in-Put.until c.in-Put.key c.in-Put.value _ _ _ c.put_head-head.ensures c.bytes-key.ensures.bytes c.bytes-value.ensures.bytes c.append_parts.ensures.appended _ c.in-Put.is

pub returns-in-Removal-clause-spelled : goal.returns-in-Removal-clause-spelled
returns-in-Removal-clause-spelled c =
    removal-appended c.append_parts-in-Removal.result c.args.out.now.items c.append_parts-in-Removal.new.out.items c.in-Removal.seq c.in-Removal.key _ _ c.removal_head.ensures c.bytes-key-in-Removal.ensures.bytes c.append_parts-in-Removal.ensures.appended _ c.in-Removal.is

pub returns-in-End-clause-spelled : goal.returns-in-End-clause-spelled
returns-in-End-clause-spelled c =
    end-appended c.append_parts-in-End.result c.args.out.now.items c.append_parts-in-End.new.out.items c.in-End.moment _ c.end_bytes.ensures c.append_parts-in-End.ensures.appended _ c.in-End.is
