-- Lines that ask for a command, and answers that refuse one.
use Rattle.std.proofs.Common.{◌≡◌, ℕ, ◌&&◌, List, [], length, Option, Some, None, refl, sym, ◌∙◌, ap, leb, ltb}
use Rattle.std.specs.Option.{option_or}
use Rattle.std.proofs.lemmas.Bool.{and_parts, leb-true, cond_both}
use Rattle.cache_model.specs.Limits.{IsKeyLength, IsValueLength}
use Rattle.cache_model.specs.Plain.{Plain}
use Rattle.cache_model.specs.declared.commands.Command.{Command}
use Rattle.cache_model.specs.Lines.{LineMeaning, asks, refuses, unless_refused, within_limits, limit_refusal, key_refusal, value_refusal, content_of, content_meaning, meaning_of, words_of, words_command}
use Rattle.cache_model.specs.Replies.{Refusal, refused, long, key_length, value_length}
use Rattle.cache_model.specs.Transcript.{after_answer, command_done}

-- an answer that refuses leaves the map
pub after_answer-refused : (plain : Plain) (meaning : LineMeaning) (refusal : Refusal) → after_answer plain meaning (refused refusal) ≡ plain
after_answer-refused plain (asks command) refusal = refl
after_answer-refused plain (refuses other) refusal = refl

-- and no command was done
pub command_done-refused : (meaning : LineMeaning) (refusal : Refusal) → command_done meaning (refused refusal) ≡ []
command_done-refused (asks command) refusal = refl
command_done-refused (refuses other) refusal = refl

-- a command that isn't refused is the one that is asked for
unless_refused-asks : (one command : Command) (refusal : Option Refusal) → unless_refused one refusal ≡ asks command → (one ≡ command) × (refusal ≡ None)
unless_refused-asks one command None is = (cc, refl)
unless_refused-asks one command (Some refusal) is = absurd (cc)

within_limits-asks : (read : Option Command) (command : Command) → within_limits read ≡ asks command → limit_refusal command ≡ None
within_limits-asks None command is = absurd (cc)
within_limits-asks (Some one) command is =
    let both = unless_refused-asks one command (limit_refusal one) is in
    sym (ap limit_refusal both.0) ∙ both.1

content-asks : (content : List ℕ) (command : Command) → content_meaning content ≡ asks command → limit_refusal command ≡ None
unfolding content_meaning
content-asks content command is = within_limits-asks (words_command (words_of content)) command is

-- a command that a line asks for is within its limits
pub asks-within : (line : List ℕ) (command : Command) → meaning_of line ≡ asks command → limit_refusal command ≡ None
unfolding meaning_of
asks-within line command is =
    cond_both (ltb 1048576 (length (content_of line))) (refuses long) (content_meaning (content_of line)) (λ meaning. meaning ≡ asks command → limit_refusal command ≡ None)
    (λ above same. absurd (cc))
    (λ short same. content-asks (content_of line) command same)
    is

-- neither of two refusals
pub option_or-none : (one other : Option Refusal) → option_or one other ≡ None → (one ≡ None) × (other ≡ None)
option_or-none None other is = (refl, is)
option_or-none (Some refusal) other is = absurd (cc)

-- a key that isn't refused
pub key_refusal-none : (key : List ℕ) → key_refusal key ≡ None → IsKeyLength (length key)
key_refusal-none key is =
    cond_both (leb 1 (length key) && leb (length key) 1024) None (Some (key_length (length key))) (λ refusal. refusal ≡ None → IsKeyLength (length key))
    (λ within none.
    let both = and_parts (leb 1 (length key)) (leb (length key) 1024) within in
    (leb-true 1 (length key) both.0, leb-true (length key) 1024 both.1))
    (λ out some. absurd (cc))
    is

-- a value that isn't refused
pub value_refusal-none : (value : List ℕ) → value_refusal value ≡ None → IsValueLength (length value)
value_refusal-none value is =
    cond_both (leb (length value) 65536) None (Some (value_length (length value))) (λ refusal. refusal ≡ None → IsValueLength (length value))
    (λ within none. leb-true (length value) 65536 within)
    (λ out some. absurd (cc))
    is
