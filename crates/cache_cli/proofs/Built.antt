-- The commands that lines ask for are built, and how they may be answered.
use Rattle.std.proofs.Common.{[], ap, refl}
use Rattle.cache_model.specs.declared.commands.Command.{Command}
use Rattle.cache_model.specs.declared.commands.Command.TheVariants.{Step, CompactFile, Stats, Export}
use Rattle.cache_model.specs.declared.replies.Reply.{Reply}
use Rattle.cache_model.specs.Commands.{HasLine}
use Rattle.cache_model.specs.Plain.{Plain, plain_reply}
use Rattle.cache_model.specs.Replies.{replies}
use Rattle.cache_model.specs.Transcript.{IsReply}
use Rattle.cache_disk.specs.State.{HostState}
use Rattle.store_trait.specs.Meaning.{StoreFacts}
use Rattle.cache_session.specs.Turns.{IsBuilt, IsReplyOf, IsStoreReply, figures_of}

pub line_built : (command : Command) → HasLine command → IsBuilt command
line_built Export h = absurd h
line_built command h = tt

-- the reply of a turn is one that a talk may have
pub reply_is : (command : Command) (plain : Plain) (reply : Reply) (f g : StoreFacts) (a b : HostState)
    → IsBuilt command → IsReplyOf (plain_reply [] plain command) reply → IsStoreReply command f g a b reply → IsReply command (plain_reply [] plain command) (replies reply)
reply_is (Step kind) plain reply f g a b built is store = (reply, (store.0, store.1), refl)
reply_is (CompactFile file) plain reply f g a b built is store = (reply, (store.0, store.1), refl)
reply_is Stats plain reply f g a b built is store = (reply, (figures_of store.0, store.1), refl)
reply_is command plain reply f g a b built is store = ap replies is
