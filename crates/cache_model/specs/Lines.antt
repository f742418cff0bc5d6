-- The lines of a script, and what each of them means: a command, or why it is refused.
use Rattle.std.specs.Prelude.{◌++◌, ◌≡◌, ℕ, ◌+◌, ◌-◌, ◌/◌, ◌^◌, ◌==◌, ◌&&◌, false, ◌<◌, take, drop, List, [], ◌∷◌, length, Option, Some, None, option_map, option_and_then, if◌then◌else◌, nat_eq, nat_lt, nat_le, codes, sum_by}
use Rattle.std.specs.List.{list_all, list_any, ends_with}
use Rattle.std.specs.Map.{lookup}
use Rattle.std.specs.Option.{option_or}
use Rattle.std.specs.Char.{is_digit}
use Rattle.std.specs.Str.{bytes_eq}
use Rattle.std.specs.Str.Parse.{digits_value}
use Rattle.cache_model.specs.declared.entries.Lifespan.{Lifespan}
use Rattle.cache_model.specs.declared.entries.Lifespan.TheVariants.{Endless, Of}
use Rattle.cache_model.specs.declared.commands.Command.{Command}
use Rattle.cache_model.specs.declared.commands.Command.TheVariants.{At, Put, PutAbsent, Replace, ReplaceIf, Get, Has, Remove, RemoveIf, Size, Keys, Clear, Step, Evict, Sync, CompactAll, CompactFile, Stats, Stop, Halt}
use Rattle.cache_model.specs.declared.commands.StepKind.{StepKind}
use Rattle.cache_model.specs.declared.commands.StepKind.TheVariants.{Index, Compact, Rotate}
use Rattle.cache_model.specs.Replies.{Refusal, long, syntax, key_length, value_length, ttl}
use Rattle.cache_model.specs.Tokens.{token_value}

-- a byte in front of the first of these pieces
abbrev pub with_first : ℕ → List (List ℕ) → List (List ℕ)
with_first byte [] = (byte ∷ []) ∷ []
with_first byte (piece ∷ pieces) = (byte ∷ piece) ∷ pieces

-- Some bytes cut at each separator, which is no part of the pieces. Where no byte is left there are these pieces.
abbrev pub cut_at : ℕ → List (List ℕ) → List ℕ → List (List ℕ)
cut_at separator last [] = last
cut_at separator last (byte ∷ rest) =
    if byte == separator then [] ∷ cut_at separator last rest else with_first byte (cut_at separator last rest)

-- bytes without a separator
abbrev pub Lacks : ℕ → List ℕ → Type 0
Lacks separator bytes = list_any (λ byte. byte == separator) bytes ≡ false

-- The first separator in some bytes stands there.
pub record IsFirst (separator : ℕ) (bytes : List ℕ) (at : ℕ) : Type 0 where
  pub within : at < length bytes
  pub lacks : Lacks separator (take at bytes)
  pub split : bytes ≡ take at bytes ++ separator ∷ drop (at + 1) bytes

-- the lines of an input: it is cut at each line feed, and a last line without one counts where it has a byte
abbrev pub lines_of : List ℕ → List (List ℕ)
lines_of input = cut_at 10 [] input

-- the words of a line: it is cut at each space, so that two spaces have an empty word between them
abbrev pub words_of : List ℕ → List (List ℕ)
words_of line = cut_at 32 ([] ∷ []) line

-- a line without the carriage return at its end, where it has one
abbrev pub content_of : List ℕ → List ℕ
content_of line = if ends_with nat_eq line (13 ∷ []) then take (length line - 1) line else line

-- a number: one to twenty decimal digits
abbrev pub number_of : List ℕ → Option ℕ
number_of word =
    if nat_le 1 (length word) && nat_le (length word) 20 && list_all (λ byte. is_digit byte 10) word
    then Some (digits_value 10 word)
    else None

-- a lifespan: a number of units, or `-` and any number for one without end
abbrev pub lifespan_of : List ℕ → Option Lifespan
lifespan_of [] = None
lifespan_of (byte ∷ word) =
    if byte == 45 then option_map (λ n. Endless) (number_of word) else option_map Of (number_of (byte ∷ word))

-- the lifespan behind a value: `ttl L`, or nothing for one without end
abbrev pub ttl_of : List (List ℕ) → Option Lifespan
ttl_of [] = Some Endless
ttl_of (name ∷ []) = None
ttl_of (name ∷ units ∷ []) = if bytes_eq name (codes "ttl") then lifespan_of units else None
ttl_of (name ∷ units ∷ more ∷ words) = None

-- How the words behind a command's name are read.
abbrev pub Arguments : Type 0
Arguments = List (List ℕ) → Option Command

-- no words
abbrev pub takes_nothing : Command → Arguments
takes_nothing command [] = Some command
takes_nothing command (word ∷ words) = None

-- a number: `N`, below this one
abbrev pub takes_below : ℕ → (ℕ → Command) → Arguments
takes_below end make [] = None
takes_below end make (number ∷ []) = option_and_then (λ n. if nat_lt n end then Some (make n) else None) (number_of number)
takes_below end make (number ∷ more ∷ words) = None

-- a moment: below 2^61
abbrev pub takes_moment : (ℕ → Command) → Arguments
takes_moment make = takes_below (2 ^ 61) make

-- the number of a file: below 2^32
abbrev pub takes_file : (ℕ → Command) → Arguments
takes_file make = takes_below (2 ^ 32) make

-- no words, or such ones
abbrev pub takes_none_or : Command → Arguments → Arguments
takes_none_or command arguments [] = Some command
takes_none_or command arguments (word ∷ words) = arguments (word ∷ words)

-- a key: `K`
abbrev pub takes_key : (List ℕ → Command) → Arguments
takes_key make [] = None
takes_key make (key ∷ []) = option_map make (token_value key)
takes_key make (key ∷ more ∷ words) = None

-- a key and a value: `K O`
abbrev pub takes_key_value : (List ℕ → List ℕ → Command) → Arguments
takes_key_value make [] = None
takes_key_value make (key ∷ words) = option_and_then (λ k. takes_key (make k) words) (token_value key)

-- a key, a value and what lifespan it has: `K V` or `K V ttl L`
abbrev pub takes_entry : (List ℕ → List ℕ → Lifespan → Command) → Arguments
takes_entry make [] = None
takes_entry make (key ∷ []) = None
takes_entry make (key ∷ value ∷ words) =
    option_and_then (λ k. option_and_then (λ v. option_map (make k v) (ttl_of words)) (token_value value)) (token_value key)

-- a key, an old value, a new one and what lifespan it has: `K O V` or `K O V ttl L`
abbrev pub takes_exchange : (List ℕ → List ℕ → List ℕ → Lifespan → Command) → Arguments
takes_exchange make [] = None
takes_exchange make (key ∷ words) = option_and_then (λ k. takes_entry (make k) words) (token_value key)

-- the steps that a line can ask for: each one's name
abbrev pub step_rows : List (List ℕ × StepKind)
step_rows = (codes "index", Index) ∷ (codes "compact", Compact) ∷ (codes "rotate", Rotate) ∷ []

-- a step's name
abbrev pub takes_step : Arguments
takes_step [] = None
takes_step (name ∷ []) = option_map Step (lookup (bytes_eq name) step_rows)
takes_step (name ∷ more ∷ words) = None

-- The commands that a line can ask for: each one's name, and the words behind it.
abbrev pub command_rows : List (List ℕ × Arguments)
command_rows =
    (codes "at", takes_moment At)
    ∷ (codes "put", takes_entry Put)
    ∷ (codes "putabsent", takes_entry PutAbsent)
    ∷ (codes "replace", takes_entry Replace)
    ∷ (codes "replaceif", takes_exchange ReplaceIf)
    ∷ (codes "get", takes_key Get)
    ∷ (codes "has", takes_key Has)
    ∷ (codes "remove", takes_key Remove)
    ∷ (codes "removeif", takes_key_value RemoveIf)
    ∷ (codes "size", takes_nothing Size)
    ∷ (codes "keys", takes_nothing Keys)
    ∷ (codes "clear", takes_nothing Clear)
    ∷ (codes "step", takes_step)
    ∷ (codes "sync", takes_nothing Sync)
    ∷ (codes "compact", takes_none_or CompactAll (takes_file CompactFile))
    ∷ (codes "stats", takes_nothing Stats)
    ∷ (codes "stop", takes_nothing Stop)
    ∷ (codes "halt", takes_nothing Halt)
    ∷ []

-- the command of a name and the words behind it, where these rows have one
abbrev pub row_command : List (List ℕ × Arguments) → List ℕ → Arguments
row_command [] name words = None
row_command (row ∷ rows) name words = if bytes_eq name row.0 then row.1 words else row_command rows name words

-- the command of a line's words, where there is one
abbrev pub words_command : List (List ℕ) → Option Command
words_command [] = None
words_command (name ∷ words) = row_command command_rows name words

-- why a key is refused, where it is
abbrev pub key_refusal : List ℕ → Option Refusal
key_refusal key = if nat_le 1 (length key) && nat_le (length key) 1024 then None else Some (key_length (length key))

-- why a value is refused, where it is
abbrev pub value_refusal : List ℕ → Option Refusal
value_refusal value = if nat_le (length value) 65536 then None else Some (value_length (length value))

-- why a lifespan is refused, where it is
abbrev pub ttl_refusal : Lifespan → Option Refusal
ttl_refusal Endless = None
ttl_refusal (Of units) = if nat_lt units (2 ^ 61) then None else Some ttl

-- why a value or its lifespan is refused, where one is: for the value first
abbrev pub entry_refusal : List ℕ → Lifespan → Option Refusal
entry_refusal value lifespan = option_or (value_refusal value) (ttl_refusal lifespan)

-- why the command of a line is refused, where it is: for its key first, then for a value, the left one first, and then
-- for its lifespan
abbrev pub limit_refusal : Command → Option Refusal
limit_refusal (Put key value lifespan) = option_or (key_refusal key) (entry_refusal value lifespan)
limit_refusal (PutAbsent key value lifespan) = option_or (key_refusal key) (entry_refusal value lifespan)
limit_refusal (Replace key value lifespan) = option_or (key_refusal key) (entry_refusal value lifespan)
limit_refusal (ReplaceIf key old value lifespan) =
    option_or (key_refusal key) (option_or (value_refusal old) (entry_refusal value lifespan))
limit_refusal (Get key) = key_refusal key
limit_refusal (Has key) = key_refusal key
limit_refusal (Remove key) = key_refusal key
limit_refusal (RemoveIf key old) = option_or (key_refusal key) (value_refusal old)
limit_refusal (Evict key) = key_refusal key
limit_refusal command = None

-- A line asks for a command, or is refused.
pub data LineMeaning : Type 0 where
  asks : (command : Command) → LineMeaning
  refuses : (refusal : Refusal) → LineMeaning

-- a command, unless there is a refusal
abbrev pub unless_refused : Command → Option Refusal → LineMeaning
unless_refused command None = asks command
unless_refused command (Some refusal) = refuses refusal

-- what a line in the grammar means; one that isn't has no command
abbrev pub within_limits : Option Command → LineMeaning
within_limits None = refuses syntax
within_limits (Some command) = unless_refused command (limit_refusal command)

-- what a line means that isn't long, its end aside
unfoldable pub content_meaning : List ℕ → LineMeaning
content_meaning content = within_limits (words_command (words_of content))

-- What a line means, as it stands between line feeds. One of more than 1,048,576 bytes, its end aside, is long.
unfoldable pub meaning_of : List ℕ → LineMeaning
meaning_of line =
    if nat_lt 1048576 (length (content_of line)) then refuses long else content_meaning (content_of line)

-- How many units of input a line of so many bytes takes, its end aside: one for each 1,048,577 bytes.
abbrev pub units_of_length : ℕ → ℕ
units_of_length n = n / 1048577

-- how many units lines take, their ends included
abbrev pub units_of : List (List ℕ) → ℕ
units_of lines = sum_by (λ line. 1 + units_of_length (length line)) lines
