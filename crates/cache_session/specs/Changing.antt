-- Lists of changes: what they make of a content, and which effect they are.
use Rattle.std.specs.Prelude.{◌≡◌, ℕ, Bool, true, false, List, [], ◌∷◌, if◌then◌else◌}
use Rattle.std.specs.Str.{bytes_eq}
use Rattle.cache_model.specs.declared.entries.Change.{Change}
use Rattle.cache_model.specs.declared.entries.Change.TheVariants.{Put}
use Rattle.cache_model.specs.declared.entries.Until.{Until}
use Rattle.cache_model.specs.Plain.{Plain, Effect, visible_entry}
use Rattle.cache_model.specs.Changes.{KeyChange, changes_by}
use Rattle.store_trait.specs.Meaning.{Content, read_in, seen, key_of, entry_of, changed}

-- the content after some changes
abbrev pub after_all : List Change → Content → Content
after_all [] content = content
after_all (change ∷ changes) content = after_all changes (changed change content)

-- the changes of one key among some, in order
abbrev pub of_key : List ℕ → List Change → List KeyChange
of_key key [] = []
of_key key (change ∷ changes) = if bytes_eq (key_of change) key then entry_of change ∷ of_key key changes else of_key key changes

-- some changes are those of an effect, in an order of their keys
abbrev pub IsOrder : Effect → List Change → Type 0
IsOrder effect changes = (key : List ℕ) → of_key key changes ≡ changes_by effect key

-- a content shows of each key what a plain map has visible at its moment
abbrev pub Shows : Plain → Content → Type 0
Shows plain content = (key : List ℕ) → seen plain.moment (read_in content key) ≡ visible_entry plain key

-- a key has a change
abbrev pub has_some : List KeyChange → Bool
has_some [] = false
has_some (change ∷ changes) = true

-- the change that puts a value
abbrev pub put_of : List ℕ → List ℕ → Until → Change
put_of key value until = Put key (record { value = value; until = until })
