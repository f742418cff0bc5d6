-- Logs of commands, and what is promised of them.
use Rattle.std.proofs.Common.{◌≡◌, ℕ, ◌+◌, ◌≤◌, Bool, true, false, List, [], ◌∷◌, ◌++◌, length, Option, refl, sym, ◌∙◌, ap, subst, arith, append_assoc, length-append}
use Rattle.std.specs.Prelude.{if◌then◌else◌}
use Rattle.std.proofs.lemmas.List.{append-nil}
use Rattle.cache_model.specs.declared.entries.Entry.{Entry}
use Rattle.cache_model.specs.declared.entries.Change.{Change}
use Rattle.cache_model.specs.declared.commands.Command.{Command}
use Rattle.cache_model.specs.Plain.{Plain, effect_of, plain_after, plain_after_all}
use Rattle.cache_model.specs.Changes.{KeyChange, changes_by, changes_of, entry_after}
use Rattle.cache_session.specs.Changing.{of_key, IsOrder}
use Rattle.cache_session.specs.Turns.{promises}
use Rattle.cache_cli.specs.Fitting.{promised_from, promised_of, IsLog}
use Rattle.cache_session.proofs.Changing.{of_key-append}
use Rattle.cache_session.proofs.Visible.{any_order}

-- one command more
pub log_snoc : (plain : Plain) (commands : List Command) (command : Command) (log changes : List Change) → IsLog plain commands log → IsOrder (effect_of (plain_after_all plain commands) command) changes → IsLog plain (commands ++ command ∷ []) (log ++ changes)
log_snoc plain [] command log changes is order = (changes, [], ap (λ (l : List Change). l ++ changes) is ∙ sym (append-nil changes), order, refl)
log_snoc plain (first ∷ commands) command log changes is order =
    (is.0, is.1 ++ changes, ap (λ (l : List Change). l ++ changes) is.2 ∙ append_assoc is.0 is.1 changes, is.3, log_snoc (plain_after plain first) commands command is.1 changes is.4 order)

-- a key's changes in a log are those by the commands
pub log_of_key : (plain : Plain) (commands : List Command) (log : List Change) (key : List ℕ) → IsLog plain commands log → of_key key log ≡ changes_of plain commands key
log_of_key plain [] log key is = ap (of_key key) is
log_of_key plain (command ∷ commands) log key is =
    ap (of_key key) is.2 ∙ of_key-append key is.0 is.1 ∙ ap (λ (l : List KeyChange). l ++ of_key key is.1) (is.3 key)
    ∙ ap (λ (l : List KeyChange). changes_by (effect_of plain command) key ++ l) (log_of_key (plain_after plain command) commands is.1 key is.4)

-- a log goes on by more commands
pub log_on : (plain : Plain) (commands hand : List Command) (log : List Change) → IsLog plain commands log → (more : List Change) × IsLog plain (commands ++ hand) (log ++ more)
log_on plain commands [] log is = ([], subst (λ (l : List Change). IsLog plain (commands ++ []) l) (sym (append-nil log)) (subst (λ (l : List Command). IsLog plain l log) (sym (append-nil commands)) is))
log_on plain commands (command ∷ hand) log is =
    let order = any_order (effect_of (plain_after_all plain commands) command) in
    let later = log_on plain (commands ++ command ∷ []) hand (log ++ order.0) (log_snoc plain commands command log order.0 is order.1) in (
      order.0 ++ later.0,
      subst (λ (l : List Change). IsLog plain (commands ++ command ∷ hand) l) (append_assoc log order.0 later.0)
          (subst (λ (l : List Command). IsLog plain l ((log ++ order.0) ++ later.0)) (append_assoc commands (command ∷ []) hand) later.1),
    )

-- what is promised was made
promised_within : (synced : Bool) (plain : Plain) (made promised : ℕ) (commands : List Command) (key : List ℕ) → promised ≤ made → promised_from synced plain made promised commands key ≤ made + length (changes_of plain commands key)
promised_within synced plain made promised [] key le = omega (arith, le)
promised_within synced plain made promised (command ∷ commands) key le =
    let here = changes_by (effect_of plain command) key in
    let now = made + length here in
    omega (arith, promised_within synced (plain_after plain command) now (if promises synced plain command key then now else promised) commands key (by (promises synced plain command key)), length-append here (changes_of (plain_after plain command) commands key))
  where
    by : (b : Bool) → (if b then made + length (changes_by (effect_of plain command) key) else promised) ≤ made + length (changes_by (effect_of plain command) key)
    by true = omega arith
    by false = omega (arith, le)

pub promised_made : (synced : Bool) (plain : Plain) (commands : List Command) (key : List ℕ) → promised_of synced plain commands key ≤ length (changes_of plain commands key)
promised_made synced plain commands key = omega (arith, promised_within synced plain 0 0 commands key (omega arith))

-- one command more
promised_snoc : (synced : Bool) (plain : Plain) (made promised : ℕ) (commands : List Command) (command : Command) (key : List ℕ)
    → promised_from synced plain made promised (commands ++ command ∷ []) key ≡ (if promises synced (plain_after_all plain commands) command key then made + length (changes_of plain (commands ++ command ∷ []) key) else promised_from synced plain made promised commands key)
promised_snoc synced plain made promised [] command key = ap (λ (l : List KeyChange). if promises synced plain command key then made + length l else promised) (sym (append-nil (changes_by (effect_of plain command) key)))
promised_snoc synced plain made promised (first ∷ commands) command key =
    let here = changes_by (effect_of plain first) key in
    let now = made + length here in
    let later = changes_of (plain_after plain first) (commands ++ command ∷ []) key in
    let less = promised_from synced (plain_after plain first) now (if promises synced plain first key then now else promised) commands key in
    promised_snoc synced (plain_after plain first) now (if promises synced plain first key then now else promised) commands command key
    ∙ ap (λ (n : ℕ). if promises synced (plain_after_all (plain_after plain first) commands) command key then n else less) (omega (arith, length-append here later))

none_more : (n : ℕ) → 0 + n ≡ n
none_more n = omega arith

pub promised_more : (synced : Bool) (plain : Plain) (commands : List Command) (command : Command) (key : List ℕ) (b : Bool)
    → promises synced (plain_after_all plain commands) command key ≡ b
    → promised_of synced plain (commands ++ command ∷ []) key ≡ (if b then length (changes_of plain (commands ++ command ∷ []) key) else promised_of synced plain commands key)
promised_more synced plain commands command key b is =
    promised_snoc synced plain 0 0 commands command key
    ∙ ap (λ (n : ℕ). if promises synced (plain_after_all plain commands) command key then n else promised_of synced plain commands key) (none_more (length (changes_of plain (commands ++ command ∷ []) key)))
    ∙ ap (λ (x : Bool). if x then length (changes_of plain (commands ++ command ∷ []) key) else promised_of synced plain commands key) is

-- the first of some changes make what they make of all
pub entry_after-front : (first : Option Entry) (one two : List KeyChange) → entry_after first (one ++ two) (length one) ≡ entry_after first one (length one)
entry_after-front first [] two = refl
entry_after-front first (change ∷ one) two = entry_after-front change one two
