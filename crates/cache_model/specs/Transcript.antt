-- A talk: the lines of a script, and how one plain map may answer them.
use Rattle.std.specs.Prelude.{◌≡◌, ◌⊎◌, ℕ, Bool, true, false, IsTrue, List, [], ◌∷◌, ◌++◌, Option, Some, None}
use Rattle.cache_model.specs.declared.commands.Command.{Command}
use Rattle.cache_model.specs.declared.commands.Command.TheVariants.{Size, Keys, Clear, Sync, CompactAll, Stats, Export, Stop}
use Rattle.cache_model.specs.declared.replies.Reply.{Reply}
use Rattle.cache_model.specs.declared.replies.Figures.{Figures}
use Rattle.cache_model.specs.declared.replies.Turned.{Turned}
use Rattle.cache_model.specs.declared.replies.Reply.TheVariants.{Stopped, Halted}
use Rattle.cache_model.specs.declared.replies.Reply.TheVariants as reply
use Rattle.cache_model.specs.Plain.{Plain, plain_after, plain_reply}
use Rattle.cache_model.specs.Lines.{LineMeaning, asks, refuses, meaning_of}
use Rattle.cache_model.specs.Replies.{Response, replies, refused, memory}

-- whether a command may be refused for want of memory: those that speak of the whole store never are
abbrev pub may_be_refused : Command → Bool
may_be_refused Size = false
may_be_refused Keys = false
may_be_refused Clear = false
may_be_refused Sync = false
may_be_refused CompactAll = false
may_be_refused Stats = false
may_be_refused Export = false
may_be_refused Stop = false
may_be_refused command = true

-- The replies to commands of which the plain map says none: figures to `Stats`, and else whether something was done.
abbrev pub MayReply : Command → Reply → Type 0
MayReply Stats given = (figures : Figures) × (given ≡ reply.Stats figures)
MayReply command given = (turned : Turned) × (given ≡ reply.Turned turned)

-- the reply that the plain map gives, or one that the command may have where the plain map doesn't say
abbrev pub IsReply : Command → Option Reply → Response → Type 0
IsReply command None response = (reply : Reply) × MayReply command reply × (response ≡ replies reply)
IsReply command (Some reply) response = response ≡ replies reply

-- A line that is refused has that answer. A command has the plain map's reply, or is refused for want of memory where
-- it may be.
abbrev pub Answers : List ℕ → Plain → LineMeaning → Response → Type 0
Answers publish plain (refuses refusal) response = response ≡ refused refusal
Answers publish plain (asks command) response =
    IsReply command (plain_reply publish plain command) response ⊎ ((response ≡ refused memory) × IsTrue (may_be_refused command))

-- the map after an answer; a line that is refused changes nothing
abbrev pub after_answer : Plain → LineMeaning → Response → Plain
after_answer plain (refuses refusal) response = plain
after_answer plain (asks command) (replies reply) = plain_after plain command
after_answer plain (asks command) (refused refusal) = plain

-- whether an answer ends the talk
abbrev pub ends_talk : Response → Bool
ends_talk (replies Stopped) = true
ends_talk (replies Halted) = true
ends_talk response = false

-- nothing is answered behind an answer that ends the talk
abbrev pub IsLastWhereItEnds : Response → List Response → Type 0
IsLastWhereItEnds response responses = IsTrue (ends_talk response) → responses ≡ []

-- The answers to these lines, in order, are those of one plain map, and the talk goes on up to the last.
abbrev pub IsTranscript : List ℕ → Plain → List (List ℕ) → List Response → Type 0
IsTranscript publish plain [] [] = Unit {0}
IsTranscript publish plain [] (response ∷ responses) = ⊥
IsTranscript publish plain (line ∷ lines) [] = ⊥
IsTranscript publish plain (line ∷ lines) (response ∷ responses) =
    Answers publish plain (meaning_of line) response
    × IsLastWhereItEnds response responses
    × IsTranscript publish (after_answer plain (meaning_of line) response) lines responses

-- the command of one answered line, none where it was refused
abbrev pub command_done : LineMeaning → Response → List Command
command_done (refuses refusal) response = []
command_done (asks command) (replies reply) = command ∷ []
command_done (asks command) (refused refusal) = []

-- the commands that were done, in order
abbrev pub commands_done : List (List ℕ) → List Response → List Command
commands_done [] responses = []
commands_done (line ∷ lines) [] = []
commands_done (line ∷ lines) (response ∷ responses) = command_done (meaning_of line) response ++ commands_done lines responses
