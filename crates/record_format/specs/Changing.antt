-- The record of a change.
use Rattle.std.specs.Prelude.{ℕ}
use Rattle.cache_model.specs.declared.entries.Change.{Change}
use Rattle.cache_model.specs.declared.entries.Change.TheVariants.{Put, Remove}
use Rattle.cache_model.specs.Items.{Item, put, removal, IsUntil}

-- a change puts an entry under its key, or removes the key
abbrev pub item_by : ℕ → Change → Item
item_by seq (Put key entry) = put seq entry.until key entry.value
item_by seq (Remove key) = removal seq key

-- the expiry that a change sets, if any, can be spelled
abbrev pub HasUntil : Change → Type 0
HasUntil (Put key entry) = IsUntil entry.until
HasUntil (Remove key) = Unit {0}
