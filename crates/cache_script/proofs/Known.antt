-- Lines ask for no command but those that have one.
use Rattle.std.proofs.Common.{◌≡◌, ⊎_elim, ℕ, ◌^◌, Bool, true, false, List, [], ◌∷◌, Option, Some, None, Result, Ok, Err, refl, ap, subst}
use Rattle.std.specs.Prelude.{IfOk, if◌then◌else◌, option_map, option_and_then, nat_lt}
use Rattle.std.specs.Map.{lookup}
use Rattle.std.specs.Str.{bytes_eq}
use Rattle.cache_model.specs.declared.commands.Command.{Command}
use Rattle.cache_model.specs.declared.commands.Command.TheVariants.{At, Put, PutAbsent, Replace, ReplaceIf, Get, Has, Remove, RemoveIf, Size, Keys, Clear, Step, Sync, CompactAll, CompactFile, Stats, Stop, Halt}
use Rattle.cache_model.specs.declared.entries.Lifespan.{Lifespan}
use Rattle.cache_model.specs.Replies.{Refusal}
use Rattle.cache_model.specs.Tokens.{token_value}
use Rattle.cache_model.specs.Lines.{number_of, ttl_of, Arguments, takes_nothing, takes_below, takes_none_or, takes_key, takes_key_value, takes_entry, takes_exchange, takes_step, step_rows, command_rows, row_command, words_command, words_of, limit_refusal, LineMeaning, asks, refuses, unless_refused, within_limits, content_meaning}
use Rattle.cache_script.specs.declared.faults.LineFault.{LineFault}
use Rattle.cache_script.specs.declared.faults.LineFault.TheVariants.{Memory}
use Rattle.cache_script.specs.Reading.{Reads}
use Rattle.cache_model.specs.Commands.{HasLine}

same_some : {A : Type 0} (x y : A) → Some x ≡ Some y → x ≡ y
same_some x y h = cc

map_some : {A B : Type 0} (f : A → B) (o : Option A) (b : B) → option_map f o ≡ Some b → (a : A) × (f a ≡ b)
map_some f None b h = cc
map_some f (Some a) b h = (a, same_some (f a) b h)

then_some : {A B : Type 0} (f : A → Option B) (o : Option A) (b : B) → option_and_then f o ≡ Some b → (a : A) × (f a ≡ Some b)
then_some f None b h = cc
then_some f (Some a) b h = (a, h)

if_some : {A : Type 0} (t : Bool) (x y : A) → (if t then Some x else None) ≡ Some y → x ≡ y
if_some true x y h = same_some x y h
if_some false x y h = cc

-- all commands that some words give are ones that lines can ask for
abbrev pub GivesKnown : Arguments → Type 0
GivesKnown arguments = (words : List (List ℕ)) (command : Command) → arguments words ≡ Some command → HasLine command

known_as : (made command : Command) → made ≡ command → HasLine made → HasLine command
known_as made command same known = subst HasLine same known

nothing_known : (made : Command) → HasLine made → GivesKnown (takes_nothing made)
nothing_known made known [] command h = known_as made command (same_some made command h) known
nothing_known made known (word ∷ words) command h = cc

below_known : (end : ℕ) (make : ℕ → Command) → ((n : ℕ) → HasLine (make n)) → GivesKnown (takes_below end make)
below_known end make known [] command h = cc
below_known end make known (word ∷ []) command h =
    let some = then_some (λ n. if nat_lt n end then Some (make n) else None) (number_of word) command h in
    known_as (make some.0) command (if_some (nat_lt some.0 end) (make some.0) command some.1) (known some.0)
below_known end make known (word ∷ more ∷ words) command h = cc

none_or_known : (made : Command) (arguments : Arguments) → HasLine made → GivesKnown arguments → GivesKnown (takes_none_or made arguments)
none_or_known made arguments known others [] command h = known_as made command (same_some made command h) known
none_or_known made arguments known others (word ∷ words) command h = others (word ∷ words) command h

key_known : (make : List ℕ → Command) → ((k : List ℕ) → HasLine (make k)) → GivesKnown (takes_key make)
key_known make known [] command h = cc
key_known make known (word ∷ []) command h = let some = map_some make (token_value word) command h in known_as (make some.0) command some.1 (known some.0)
key_known make known (word ∷ more ∷ words) command h = cc

key_value_known : (make : List ℕ → List ℕ → Command) → ((k v : List ℕ) → HasLine (make k v)) → GivesKnown (takes_key_value make)
key_value_known make known [] command h = cc
key_value_known make known (word ∷ words) command h =
    let some = then_some (λ k. takes_key (make k) words) (token_value word) command h in
    key_known (make some.0) (known some.0) words command some.1

entry_known : (make : List ℕ → List ℕ → Lifespan → Command) → ((k v : List ℕ) (l : Lifespan) → HasLine (make k v l)) → GivesKnown (takes_entry make)
entry_known make known [] command h = cc
entry_known make known (key ∷ []) command h = cc
entry_known make known (key ∷ value ∷ words) command h =
    let one = then_some (λ k. option_and_then (λ v. option_map (make k v) (ttl_of words)) (token_value value)) (token_value key) command h in
    let two = then_some (λ v. option_map (make one.0 v) (ttl_of words)) (token_value value) command one.1 in
    let three = map_some (make one.0 two.0) (ttl_of words) command two.1 in
    known_as (make one.0 two.0 three.0) command three.1 (known one.0 two.0 three.0)

exchange_known : (make : List ℕ → List ℕ → List ℕ → Lifespan → Command) → ((k o v : List ℕ) (l : Lifespan) → HasLine (make k o v l)) → GivesKnown (takes_exchange make)
exchange_known make known [] command h = cc
exchange_known make known (key ∷ words) command h =
    let one = then_some (λ k. takes_entry (make k) words) (token_value key) command h in
    entry_known (make one.0) (known one.0) words command one.1

step_known : GivesKnown takes_step
step_known [] command h = cc
step_known (name ∷ []) command h = let some = map_some Step (lookup (bytes_eq name) step_rows) command h in known_as (Step some.0) command some.1 tt
step_known (name ∷ more ∷ words) command h = cc

-- the rows in turn
abbrev AllKnown : List (List ℕ × Arguments) → Type 0
AllKnown [] = Unit {0}
AllKnown (row ∷ rows) = GivesKnown row.1 × AllKnown rows

by_rows : (rows : List (List ℕ × Arguments)) → AllKnown rows → (name : List ℕ) → GivesKnown (row_command rows name)
by_rows [] known name words command h = cc
by_rows (row ∷ rows) known name words command h = by (bytes_eq name row.0) (by_rows rows known.1 name words command) h
  where
    by : (b : Bool) → (row_command rows name words ≡ Some command → HasLine command) → (if b then row.1 words else row_command rows name words) ≡ Some command → HasLine command
    by true later is = known.0 words command is
    by false later is = later is

rows_known : (name : List ℕ) → GivesKnown (row_command command_rows name)
rows_known name =
    by_rows command_rows
    (below_known (2 ^ 61) At (λ n. tt), (entry_known Put (λ k v l. tt), (entry_known PutAbsent (λ k v l. tt), (entry_known Replace (λ k v l. tt), (exchange_known ReplaceIf (λ k o v l. tt), (key_known Get (λ k. tt), (key_known Has (λ k. tt), (key_known Remove (λ k. tt), (key_value_known RemoveIf (λ k v. tt), (nothing_known Size tt, (nothing_known Keys tt, (nothing_known Clear tt, (step_known, (nothing_known Sync tt, (none_or_known CompactAll (takes_below (2 ^ 32) CompactFile) tt (below_known (2 ^ 32) CompactFile (λ n. tt)), (nothing_known Stats tt, (nothing_known Stop tt, (nothing_known Halt tt, tt))))))))))))))))))
    name

words_known : (words : List (List ℕ)) (command : Command) → words_command words ≡ Some command → HasLine command
words_known [] command h = cc
words_known (name ∷ words) command h = rows_known name words command h

limited : (made command : Command) (refusal : Option Refusal) → unless_refused made refusal ≡ asks command → made ≡ command
limited made command None h = cc
limited made command (Some refusal) h = cc

within : (asked : Option Command) (command : Command) → within_limits asked ≡ asks command → asked ≡ Some command
within None command h = cc
within (Some made) command h = ap (λ (c : Command). Some c) (limited made command (limit_refusal made) h)

meaning_known : (content : List ℕ) (command : Command) → content_meaning content ≡ asks command → HasLine command
unfolding content_meaning
meaning_known content command h = words_known (words_of content) command (within (words_command (words_of content)) command h)

same_ok : (x y : Command) (r : Result Command LineFault) → r ≡ Ok x → r ≡ Ok y → x ≡ y
same_ok x y r one two = cc

not_both : (x : Command) (y : LineFault) → Ok x ≡ Err y → ⊥
not_both x y h = cc

-- what was read is what is asked
pub asked_of : (meaning : LineMeaning) (command : Command) → Reads meaning (Ok command) → meaning ≡ asks command
asked_of (asks made) command read = ⊎_elim (λ is. ap (λ (c : Command). asks c) (same_ok made command (Ok command) is refl)) (λ wants. absurd (not_both command Memory wants.0)) read
asked_of (refuses refusal) command read = absurd read

-- what was read is known
pub read_known : (content : List ℕ) (result : Result Command LineFault) → Reads (content_meaning content) result → IfOk result HasLine
read_known content (Ok command) read = meaning_known content command (asked_of (content_meaning content) command read)
read_known content (Err fault) read = tt
