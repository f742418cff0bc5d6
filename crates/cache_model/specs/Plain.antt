-- One plain map with lifespans: what every command means, whatever the store does behind it.
use Rattle.std.specs.Prelude.{ℕ, ◌+◌, ◌-◌, ◌^◌, min, Bool, true, false, not, List, [], ◌∷◌, length, map, filter, Option, Some, None, is_some, if◌then◌else◌, nat_lt}
use Rattle.std.specs.List.{list_any, starts_with}
use Rattle.std.specs.Prelude.{nat_eq}
use Rattle.std.specs.Str.{bytes_eq}
use Rattle.std.specs.Ordering.{nat_cmp}
use Rattle.std.specs.Cmp.Lexicographic.{slice_cmp}
use Rattle.std.specs.FinMap.{FinMap, get, insert, retain_keys, entries}
use Rattle.cache_model.specs.declared.entries.Until.{Until}
use Rattle.cache_model.specs.declared.entries.Until.TheVariants.{Never, At as Till}
use Rattle.cache_model.specs.declared.entries.Lifespan.{Lifespan}
use Rattle.cache_model.specs.declared.entries.Lifespan.TheVariants.{Endless, Of}
use Rattle.cache_model.specs.declared.entries.Entry.{Entry}
use Rattle.cache_model.specs.declared.commands.Command.{Command}
use Rattle.cache_model.specs.declared.commands.Command.TheVariants.{At, Put, PutAbsent, Replace, ReplaceIf, Get, Has, Remove, RemoveIf, Size, Keys, Clear, Step, Evict, Sync, CompactAll, CompactFile, Stats, Export, Stop, Halt}
use Rattle.cache_model.specs.declared.replies.Reply.{Reply}
use Rattle.cache_model.specs.declared.replies.Reply.TheVariants as reply

-- entries under keys, the keys distinct and in the order of their bytes
abbrev pub PlainMap : Type 0
PlainMap = FinMap (slice_cmp nat_cmp) Entry

-- the plain map and the session's moment
pub record Plain : Type 0 where
  pub entries : PlainMap
  pub moment : ℕ

-- an entry is visible before the moment at which it expires
abbrev pub is_visible : Until → ℕ → Bool
is_visible Never moment = true
is_visible (Till end) moment = nat_lt moment end

-- an entry, where it is visible at a moment
abbrev pub visible_at : ℕ → Option Entry → Option Entry
visible_at moment None = None
visible_at moment (Some entry) = if is_visible entry.until moment then Some entry else None

-- the entry of a key, where it is visible
abbrev pub visible_entry : Plain → List ℕ → Option Entry
visible_entry plain key = visible_at plain.moment (get plain.entries key)

-- whether a key is visible
abbrev pub sees : Plain → List ℕ → Bool
sees plain key = is_some (visible_entry plain key)

-- whether an entry has this value
abbrev pub has_value : List ℕ → Option Entry → Bool
has_value value None = false
has_value value (Some entry) = bytes_eq entry.value value

-- whether a key is visible with this value
abbrev pub sees_value : Plain → List ℕ → List ℕ → Bool
sees_value plain key value = has_value value (visible_entry plain key)

-- the visible keys, in the order of their bytes
abbrev pub visible_keys : Plain → List (List ℕ)
visible_keys plain = map (λ e. e.0) (filter (λ e. is_visible e.1.until plain.moment) (entries plain.entries))

-- when an entry expires that is put at a moment
abbrev pub until_of : ℕ → Lifespan → Until
until_of moment Endless = Never
until_of moment (Of lifespan) = Till (moment + lifespan)

-- What a command does to the map: nothing, a put of one key, or the removal of some keys.
pub data Effect : Type 0 where
  nothing : Effect
  puts : (key : List ℕ) (entry : Entry) → Effect
  removes : (keys : List (List ℕ)) → Effect

-- a put with a lifespan that begins now
abbrev pub put_now : Plain → List ℕ → List ℕ → Lifespan → Effect
put_now plain key value lifespan = puts key (record { value = value; until = until_of plain.moment lifespan })

-- the effect of each command
abbrev pub effect_of : Plain → Command → Effect
effect_of plain (Put key value lifespan) = put_now plain key value lifespan
effect_of plain (PutAbsent key value lifespan) = if sees plain key then nothing else put_now plain key value lifespan
effect_of plain (Replace key value lifespan) = if sees plain key then put_now plain key value lifespan else nothing
effect_of plain (ReplaceIf key old value lifespan) = if sees_value plain key old then put_now plain key value lifespan else nothing
effect_of plain (Remove key) = if sees plain key then removes (key ∷ []) else nothing
effect_of plain (RemoveIf key old) = if sees_value plain key old then removes (key ∷ []) else nothing
effect_of plain Clear = removes (visible_keys plain)
effect_of plain (At moment) = nothing
effect_of plain (Get key) = nothing
effect_of plain (Has key) = nothing
effect_of plain Size = nothing
effect_of plain Keys = nothing
effect_of plain (Step kind) = nothing
effect_of plain (Evict key) = nothing
effect_of plain Sync = nothing
effect_of plain CompactAll = nothing
effect_of plain (CompactFile number) = nothing
effect_of plain Stats = nothing
effect_of plain Export = nothing
effect_of plain Stop = nothing
effect_of plain Halt = nothing

-- the map after an effect
abbrev pub map_after : PlainMap → Effect → PlainMap
map_after entries nothing = entries
map_after entries (puts key entry) = insert entries key entry
map_after entries (removes keys) = retain_keys entries (λ key. not (list_any (bytes_eq key) keys))

-- the moment after a command: it never falls
abbrev pub moment_after : ℕ → Command → ℕ
moment_after moment (At wanted) = if nat_lt wanted moment then moment else wanted
moment_after moment command = moment

-- the map and the moment after a command
abbrev pub plain_after : Plain → Command → Plain
plain_after plain command = record { entries = map_after plain.entries (effect_of plain command); moment = moment_after plain.moment command }

-- a number of keys as it is answered
abbrev pub capped : ℕ → ℕ
capped n = min n (2 ^ 64 - 1)

-- the reply to a read of an entry
abbrev pub found : Option Entry → Reply
found None = reply.Nothing
found (Some entry) = reply.Found entry.value

-- the reply to a change that wants a certain value
abbrev pub reply_if : Plain → List ℕ → List ℕ → Reply
reply_if plain key old = if sees_value plain key old then reply.Done else (if sees plain key then reply.Differs else reply.Nothing)

-- The reply to each command, where the plain map says it: what steps, files and figures are answered it doesn't know.
-- `publish` is what the keys begin with that an export admits.
abbrev pub plain_reply : List ℕ → Plain → Command → Option Reply
plain_reply publish plain (At moment) = Some (if nat_lt moment plain.moment then reply.Past plain.moment else reply.Done)
plain_reply publish plain (Put key value lifespan) = Some reply.Done
plain_reply publish plain (PutAbsent key value lifespan) = Some (if sees plain key then reply.Kept else reply.Done)
plain_reply publish plain (Replace key value lifespan) = Some (if sees plain key then reply.Done else reply.Nothing)
plain_reply publish plain (ReplaceIf key old value lifespan) = Some (reply_if plain key old)
plain_reply publish plain (Get key) = Some (found (visible_entry plain key))
plain_reply publish plain (Has key) = Some (if sees plain key then reply.Yes else reply.No)
plain_reply publish plain (Remove key) = Some (if sees plain key then reply.Done else reply.Nothing)
plain_reply publish plain (RemoveIf key old) = Some (reply_if plain key old)
plain_reply publish plain Size = Some (reply.Size (capped (length (visible_keys plain))))
plain_reply publish plain Keys = Some (reply.Keys (visible_keys plain))
plain_reply publish plain Clear = Some (reply.Cleared (capped (length (visible_keys plain))))
plain_reply publish plain (Step kind) = None
plain_reply publish plain (Evict key) = Some reply.Done
plain_reply publish plain Sync = Some reply.Done
plain_reply publish plain CompactAll = Some reply.Compacted
plain_reply publish plain (CompactFile number) = None
plain_reply publish plain Stats = None
plain_reply publish plain Export = Some (reply.Exported (capped (length (filter (λ key. starts_with nat_eq key publish) (visible_keys plain)))))
plain_reply publish plain Stop = Some reply.Stopped
plain_reply publish plain Halt = Some reply.Halted

-- the map and the moment after some commands in turn
abbrev pub plain_after_all : Plain → List Command → Plain
plain_after_all plain [] = plain
plain_after_all plain (command ∷ commands) = plain_after_all (plain_after plain command) commands
