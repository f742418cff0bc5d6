use Rattle.std.proofs.Common.{codes}
use Rattle.cache_model.specs.Tokens.{token_text}
use Rattle.cache_script.proofs.PushingLemmas.{pushes-then}
use Rattle.cache_script.proofs.replies.push_value.Goals as goal

pub returns : goal.returns
returns c = pushes-then (codes "value ") (token_text c.args.value.now) c.args.out.now.items c.push_bytes.new.out.items c.push_token.new.out.items c.push_token.result c.in_ok-push_bytes.ensures c.push_token.ensures
