-- A key's changes by some commands make its entry.
use Rattle.std.proofs.Common.{◌≡◌, ℕ, Bool, true, false, List, [], ◌∷◌, ◌++◌, length, Option, Some, None, refl, sym, ◌∙◌, ap, append_assoc, cond}
use Rattle.std.specs.Prelude.{not}
use Rattle.std.proofs.lemmas.Cmp.{nat_list_cmp_total}
use Rattle.std.specs.Cmp.Lexicographic.{texts_ties}
use Rattle.std.specs.FinMap.{get, get-insert, get-retain_keys}
use Rattle.cache_model.proofs.PlainEntries.{order-IsAntisymmetric}
use Rattle.std.specs.List.{list_any}
use Rattle.std.specs.Str.{bytes_eq}
use Rattle.cache_model.specs.declared.entries.Entry.{Entry}
use Rattle.cache_model.specs.declared.commands.Command.{Command}
use Rattle.cache_model.specs.Plain.{Plain, PlainMap, Effect, nothing, puts, removes, map_after, effect_of, plain_after, plain_after_all}
use Rattle.cache_model.specs.Changes.{KeyChange, changes_by, changes_of, entry_after}

-- after all of some changes and all of some more
pub entry_after-append : (first : Option Entry) (one two : List KeyChange) → entry_after first (one ++ two) (length (one ++ two)) ≡ entry_after (entry_after first one (length one)) two (length two)
entry_after-append first [] two = refl
entry_after-append first (change ∷ one) two = entry_after-append change one two

-- one change or none, by a test
by_test : (b : Bool) (change first : Option Entry) → entry_after first (Rattle.std.specs.Bool.if◌then◌else◌ b (change ∷ []) []) (length (Rattle.std.specs.Bool.if◌then◌else◌ b (change ∷ []) [])) ≡ cond b change first
by_test true change first = refl
by_test false change first = refl

turned : (b : Bool) (x y : Option Entry) → cond b x y ≡ cond (not b) y x
turned true x y = refl
turned false x y = refl

-- what one effect makes of a key's entry
pub entry_after-effect : (entries : PlainMap) (effect : Effect) (key : List ℕ) → entry_after (get entries key) (changes_by effect key) (length (changes_by effect key)) ≡ get (map_after entries effect) key
entry_after-effect entries nothing key = refl
entry_after-effect entries (puts changed entry) key =
    by_test (bytes_eq key changed) (Some entry) (get entries key)
    ∙ ap (λ (b : Bool). cond b (Some entry) (get entries key)) (texts_ties key changed)
    ∙ sym (get-insert nat_list_cmp_total entries changed entry key)
entry_after-effect entries (removes keys) key =
    let gone : List ℕ → Bool = λ k. list_any (bytes_eq k) keys in
    by_test (gone key) None (get entries key)
    ∙ turned (gone key) None (get entries key)
    ∙ sym (get-retain_keys entries (λ k. not (gone k)) key (λ other same. ap (λ (k : List ℕ). not (gone k)) (sym (order-IsAntisymmetric key other same))))

-- what some commands make of it
pub entry_after-commands : (plain : Plain) (commands : List Command) (key : List ℕ) → entry_after (get plain.entries key) (changes_of plain commands key) (length (changes_of plain commands key)) ≡ get (plain_after_all plain commands).entries key
entry_after-commands plain [] key = refl
entry_after-commands plain (command ∷ commands) key =
    let here = changes_by (effect_of plain command) key in
    let later = changes_of (plain_after plain command) commands key in
    entry_after-append (get plain.entries key) here later
    ∙ ap (λ (e : Option Entry). entry_after e later (length later)) (entry_after-effect plain.entries (effect_of plain command) key)
    ∙ entry_after-commands (plain_after plain command) commands key

-- the changes by some commands and some more
pub changes_of-append : (plain : Plain) (one two : List Command) (key : List ℕ) → changes_of plain (one ++ two) key ≡ changes_of plain one key ++ changes_of (plain_after_all plain one) two key
changes_of-append plain [] two key = refl
changes_of-append plain (command ∷ one) two key =
    let here = changes_by (effect_of plain command) key in
    ap (λ (l : List KeyChange). here ++ l) (changes_of-append (plain_after plain command) one two key)
    ∙ sym (append_assoc here (changes_of (plain_after plain command) one key) (changes_of (plain_after_all (plain_after plain command) one) two key))

pub plain_after_all-append : (plain : Plain) (one two : List Command) → plain_after_all plain (one ++ two) ≡ plain_after_all (plain_after_all plain one) two
plain_after_all-append plain [] two = refl
plain_after_all-append plain (command ∷ one) two = plain_after_all-append (plain_after plain command) one two
