-- What is said: the text of each reply and of each refusal.
use Rattle.std.specs.Prelude.{ℕ, List, [], ◌∷◌, ◌++◌, flat_map, decimal, codes}
use Rattle.cache_model.specs.declared.replies.Turned.{Turned}
use Rattle.cache_model.specs.declared.replies.Turned.TheVariants as turned
use Rattle.cache_model.specs.declared.replies.Figures.{Figures}
use Rattle.cache_model.specs.declared.replies.Reply.{Reply}
use Rattle.cache_model.specs.declared.replies.Reply.TheVariants.{Done, Kept, Nothing, Differs, Found, Yes, No, Size, Keys, Cleared, Turned as TurnedTo, Compacted, Stats, Exported, Past, Stopped, Halted}
use Rattle.cache_model.specs.Tokens.{token_text}

-- Why a line changes nothing. A key and a value carry the length of theirs that is out of its limits.
pub data Refusal : Type 0 where
  long : Refusal
  syntax : Refusal
  key_length : (n : ℕ) → Refusal
  value_length : (n : ℕ) → Refusal
  ttl : Refusal
  memory : Refusal

-- A line is answered by the reply to its command, or refused.
pub data Response : Type 0 where
  replies : (reply : Reply) → Response
  refused : (refusal : Refusal) → Response

abbrev pub turned_text : Turned → List ℕ
turned_text turned.Done = codes "done"
turned_text turned.Idle = codes "idle"

-- a name and its figure
abbrev pub figure_text : List ℕ → ℕ → List ℕ
figure_text name n = codes " " ++ name ++ codes " " ++ decimal n

abbrev pub figures_text : Figures → List ℕ
figures_text f =
    figure_text (codes "files") f.files ++ figure_text (codes "bytes") f.bytes ++ figure_text (codes "live") f.live
    ++ figure_text (codes "pending") f.pending ++ figure_text (codes "held") f.held

-- the text of each reply
abbrev pub reply_text : Reply → List ℕ
reply_text Done = codes "ok"
reply_text Kept = codes "kept"
reply_text Nothing = codes "none"
reply_text Differs = codes "differs"
reply_text (Found value) = codes "value " ++ token_text value
reply_text Yes = codes "yes"
reply_text No = codes "no"
reply_text (Size n) = codes "size " ++ decimal n
reply_text (Keys keys) = codes "keys" ++ flat_map (λ key. codes " " ++ token_text key) keys
reply_text (Cleared n) = codes "cleared " ++ decimal n
reply_text (TurnedTo did) = turned_text did
reply_text Compacted = codes "compacted"
reply_text (Stats figures) = codes "stats" ++ figures_text figures
reply_text (Exported n) = codes "exported " ++ decimal n
reply_text (Past moment) = codes "refused past " ++ decimal moment
reply_text Stopped = codes "stopped"
reply_text Halted = codes "halted"

-- the text of each refusal
abbrev pub refusal_text : Refusal → List ℕ
refusal_text long = codes "refused long"
refusal_text syntax = codes "refused syntax"
refusal_text (key_length n) = codes "refused key " ++ decimal n
refusal_text (value_length n) = codes "refused value " ++ decimal n
refusal_text ttl = codes "refused ttl"
refusal_text memory = codes "refused memory"

-- the text of an answer
abbrev pub response_text : Response → List ℕ
response_text (replies reply) = reply_text reply
response_text (refused refusal) = refusal_text refusal

-- a line that is said ends with a line feed
abbrev pub line_of : List ℕ → List ℕ
line_of text = text ++ (10 ∷ [])

-- the lines of some answers
abbrev pub response_lines : List Response → List ℕ
response_lines responses = flat_map (λ response. line_of (response_text response)) responses

-- the line that a session begins with
abbrev pub opened_line : ℕ → List ℕ
opened_line moment = line_of (codes "opened " ++ decimal moment)

-- the line that the end of the input is answered by
abbrev pub stopped_line : List ℕ
stopped_line = line_of (reply_text Stopped)
