-- What holds of spellings.
use Rattle.std.specs.Prelude.{◌≡◌, ℕ, ◌<◌, List, ◌++◌, length, take, slice_index}
use Rattle.cache_model.specs.Items.{Item, IsItem, spelling, whole, front}

-- an item's spelling, with any bytes behind it, is found as that item with the size of the spelling
abbrev pub IsReadBack : Type 0
IsReadBack = (item : Item) (rest : List ℕ) → IsItem item → front (spelling item ++ rest) ≡ whole item (length (spelling item))

-- no spelling begins another: two items of which one spelling begins the other are the same
abbrev pub IsUnambiguous : Type 0
IsUnambiguous = (one other : Item) (rest : List ℕ) → IsItem one → IsItem other → spelling other ≡ spelling one ++ rest → one ≡ other

-- what is found as a whole item at the front of some bytes is within its limits, and they begin with its spelling
abbrev pub IsSpelled : Type 0
IsSpelled =
    (bytes : List ℕ) (item : Item) (size : ℕ) → ((k : ℕ) → slice_index bytes k < 256) → front bytes ≡ whole item size
    → IsItem item × (take size bytes ≡ spelling item)
