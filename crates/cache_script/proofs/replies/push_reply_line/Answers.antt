use Rattle.std.proofs.Common.{codes}
use Rattle.cache_model.specs.Replies.{reply_text}
use Rattle.cache_script.proofs.PushingLemmas.{pushes-then}
use Rattle.cache_script.proofs.replies.push_reply_line.Goals as goal

pub returns : goal.returns
returns c = pushes-then (reply_text c.args.reply.now) (codes "\n") c.args.out.now.items c.push_reply.new.out.items c.push_bytes.new.out.items c.push_bytes.result c.in_ok-push_reply.ensures c.push_bytes.ensures
