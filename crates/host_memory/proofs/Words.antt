-- What was said, where it is told, is the words of all says that succeeded.
use Rattle.std.proofs.Common.{◌≡◌, refl, sym, subst, ℕ, true, false, List, [], ◌∷◌, ◌++◌, Option, Some, None, append-nil}
use Rattle.host_memory.specs.declared.turns.Call.{Call}
use Rattle.host_memory.specs.declared.turns.Call.TheVariants.{Create, Write, Sync, Delete, SyncNames, Say}
use Rattle.host_memory.specs.declared.turns.Turn.{Turn}
use Rattle.host_memory.specs.Turns.{said_after, said_since, words_of, words_since}

none_after : (call : Call) → said_after None call ≡ None
none_after (Create name) = refl
none_after (Write name at bytes) = refl
none_after (Sync name ok) = refl
none_after (Delete name) = refl
none_after (SyncNames ok) = refl
none_after (Say bytes true) = refl
none_after (Say bytes false) = refl

none_since : (turns : List Turn) (said : List ℕ) → said_since None turns ≡ Some said → ⊥
none_since [] said e = cc
none_since (turn ∷ turns) said e = let P : Option (List ℕ) → Type 0 = λ before. said_since before turns ≡ Some said in none_since turns said (subst P (none_after turn.call) e)

silent : (words : List ℕ) (turns : List Turn) (said : List ℕ) → words_since words turns ≡ said → words_since (words ++ []) turns ≡ said
silent words turns said e = let P : List ℕ → Type 0 = λ before. words_since before turns ≡ said in subst P (sym (append-nil words)) e

-- after one more call
words_by : (call : Call) (words : List ℕ) (turns : List Turn) (said : List ℕ) → ((before : List ℕ) → said_since (Some before) turns ≡ Some said → words_since before turns ≡ said)
    → said_since (said_after (Some words) call) turns ≡ Some said → words_since (words ++ words_of call) turns ≡ said
words_by (Create name) words turns said later e = silent words turns said (later words e)
words_by (Write name at bytes) words turns said later e = silent words turns said (later words e)
words_by (Sync name ok) words turns said later e = silent words turns said (later words e)
words_by (Delete name) words turns said later e = silent words turns said (later words e)
words_by (SyncNames ok) words turns said later e = silent words turns said (later words e)
words_by (Say bytes true) words turns said later e = later (words ++ bytes.items) e
words_by (Say bytes false) words turns said later e = absurd (none_since turns said e)

pub words_said : (words : List ℕ) (turns : List Turn) (said : List ℕ) → said_since (Some words) turns ≡ Some said → words_since words turns ≡ said
words_said words [] said e = cc
words_said words (turn ∷ turns) said e = words_by turn.call words turns said (λ before. words_said before turns said) e
